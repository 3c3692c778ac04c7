-- The length of a saved text.
use Rattle.std.proofs.Common.{◌≡◌, ℕ, ◌+◌, ◌*◌, List, [], ◌∷◌, ◌++◌, length, codes, decimal, refl, arith, length-append}
use Rattle.std.specs.List.{flat_map, AllByRecursion}
use Rattle.byte_strings.specs.Bytes.{Bytes}
use Rattle.fields.specs.Hex.{hex_of}
use Rattle.text_laws.specs.Values.{Numbers}
use Rattle.text_laws.specs.Saved.{Saved}
use Rattle.text_laws.specs.Written.{hex_line, pass_text, numbers_text, numbers_told}
use Rattle.text_laws.specs.Valid.{Wide}
use Rattle.fields.proofs.Texts.{length_hex}

length_line : (w m : List ℕ) → length (hex_line w m) ≡ length w + (2 * length m + 2)
length_line w m =
    let a = length-append w (9 ∷ (hex_of m ++ (10 ∷ []))) in
    let b = length-append (hex_of m) (10 ∷ []) in
    let h = length_hex m in
    omega (arith, a, b, h)

length_passes : (ms : List (List ℕ)) → AllByRecursion (Bytes 64) ms → length (flat_map pass_text ms) ≡ 134 * length ms
length_passes [] h = refl
length_passes (m ∷ ms) h =
    let r = length_passes ms h.1 in
    let a = length-append (pass_text m) (flat_map pass_text ms) in
    let b = length_line (codes "pass") m in
    let l = h.0.len in
    omega (arith, r, a, b, l)

pub length_numbers : (n : Numbers) → length (numbers_text n)
    ≡ 10 + (length (decimal n.size) + (length (decimal n.shipped) + (length (decimal n.last) + (length (decimal n.cents) + length (decimal n.window)))))
length_numbers n = simp length-append (omega arith)

pub wide : (s : Saved) → Bytes 128 s.chain → AllByRecursion (Bytes 64) s.window → Wide s
wide s c bs =
    let n = length_numbers (numbers_told s) in
    let l = length_line (codes "chain") s.chain in
    let p = length_passes s.window bs in
    let k = c.len in
    let a = length-append (hex_line (codes "chain") s.chain) (flat_map pass_text s.window) in
    let t = length-append (numbers_text (numbers_told s)) (hex_line (codes "chain") s.chain ++ flat_map pass_text s.window) in
    record { chain = c; blocks = bs; long = omega (arith, n, l, p, k, a, t) }
