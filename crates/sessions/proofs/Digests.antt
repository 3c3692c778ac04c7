-- The digest in the front of 64 bytes.
use Rattle.std.proofs.Common.{◌≡◌, ℕ, ◌≤◌, List, [], ◌++◌, length, take, drop, replicate, ap, ◌∙◌, arith, length-append, length-drop}
use lib.ListN.{length-replicate}
use Rattle.std.proofs.lemmas.List.{take_at}
use Rattle.replay.specs.declared.request.Reading.{Reading}
use Rattle.replay.specs.declared.request.Reading.TheVariants.{Sealed, Digested}

-- the digest that a closed roll tells
abbrev pub digest_in : Reading → List ℕ
digest_in (Sealed t c) = []
digest_in (Digested t d) = d

pub front : (n : ℕ) (block digest : List ℕ) → n ≤ 64 → length block ≡ 64 → block ≡ digest ++ drop n (replicate 64 0) → take n block ≡ digest
front n block digest h l e =
    let a = ap length e ∙ length-append digest (drop n (replicate 64 0)) in
    let d = length-drop {A = ℕ} n (replicate 64 0) in
    let z = length-replicate {A = ℕ} 64 0 in
    let m : length digest ≡ n = omega (arith, a, d, z, l, h) in
    ap (take n) e ∙ take_at digest (drop n (replicate 64 0)) n m
