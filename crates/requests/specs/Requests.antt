-- The request that a line is.
use Rattle.std.specs.Prelude.{ℕ, cond, List, Some, None, codes, Option, nat_le}
use Rattle.std.specs.Str.{bytes_eq}
use Rattle.fields.specs.Options.{and_then}
use Rattle.fields.specs.Cuts.{cut_at}
use Rattle.fields.specs.Decimals.{number_of}
use Rattle.fields.specs.Hex.{read_hex}
use Rattle.requests.specs.declared.request.PressName.{PressName}
use Rattle.requests.specs.declared.request.PressName.TheVariants.{Jh, Drill}
use Rattle.requests.specs.declared.request.LineRequest.{LineRequest}
use Rattle.requests.specs.declared.request.LineRequest.TheVariants.{Open, Pass, Cancel, Ship, Close, Reopen, Total}

-- one word
abbrev pub alone_of : List ℕ → Option LineRequest
alone_of l =
    cond (bytes_eq l (codes "ship")) (Some Ship)
    (cond (bytes_eq l (codes "close")) (Some Close)
    (cond (bytes_eq l (codes "reopen")) (Some Reopen)
    (cond (bytes_eq l (codes "total")) (Some Total) None)))

-- the field of `pass`: 128 hexadecimal digits
abbrev pub pass_of : List ℕ → Option LineRequest
pass_of f = and_then (read_hex 64 f) (λ m. Some (Pass m))

-- the field of `cancel`: a decimal number of 32 bits
abbrev pub cancel_of : List ℕ → Option LineRequest
cancel_of f = and_then (number_of f) (λ n. cond (nat_le n 4294967295) (Some (Cancel n)) None)

abbrev pub press_of : List ℕ → Option PressName
press_of w = cond (bytes_eq w (codes "jh")) (Some Jh) (cond (bytes_eq w (codes "drill")) (Some Drill) None)

-- the fields of `open`: the press, and a decimal size
abbrev pub open_of : List ℕ → Option LineRequest
open_of t = and_then (cut_at 9 t) (λ p. and_then (press_of p.0) (λ name. and_then (number_of p.1) (λ bits. Some (Open name bits))))

-- a word, and what stands after its tab
abbrev pub word_of : List ℕ → List ℕ → Option LineRequest
word_of w t =
    cond (bytes_eq w (codes "open")) (open_of t)
    (cond (bytes_eq w (codes "pass")) (pass_of t)
    (cond (bytes_eq w (codes "cancel")) (cancel_of t) None))

abbrev pub of_cut : List ℕ → Option (List ℕ × List ℕ) → Option LineRequest
of_cut l None = alone_of l
of_cut l (Some p) = word_of p.0 p.1

-- a line, without its line feed: none if it cannot be read
abbrev pub request_of : List ℕ → Option LineRequest
request_of l = of_cut l (cut_at 9 l)
