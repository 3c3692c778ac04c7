-- E8 and its inverse undo each other on every 128 bytes.
use Rattle.std.proofs.Common.{◌≡◌, ℕ, zero, suc, ◌*◌, ◌/◌, ◌^◌, false, List, [], ◌∷◌, length, refl, ap, ◌∙◌, mod-lt, arith, lit<}
use lib.ListN.{length-replicate}
use Rattle.jh.specs.Round.{round}
use Rattle.jh.specs.Constants.{C0, nibbles, zeros, constant}
use Rattle.jh.specs.Permutation.{bits, group, ungroup, after, e8}
use Rattle.jh.specs.Inverse.{unround, before, e8⁻¹}
use Rattle.byte_strings.proofs.Strings.{all_bytes, bytes_all}
use Rattle.jh.specs.Laws.{E8Undone}
use Rattle.jh.proofs.Places.{Fours, fours, length_fours}
use Rattle.jh.proofs.Rounds.{Small, round_undone, unround_undone, round_long, unround_long, round_small, unround_small}
use Rattle.jh.proofs.Grouping.{length_group, length_ungroup, group_small, ungroup_small, ungroup_group, group_ungroup}

-- ---- the constants

length_nibbles : (k n : ℕ) → length (nibbles k n) ≡ k
length_nibbles zero n = refl
length_nibbles (suc k) n = ap suc (length_nibbles k n)

nibbles_small : (k n : ℕ) → Small (nibbles k n)
nibbles_small zero n = tt
nibbles_small (suc k) n = (mod-lt (n / 16 ^ k) (lit< tt), nibbles_small k n)

zeros_fours : Fours zeros 16
zeros_fours = fours 16 zeros (length-replicate 64 false)

pub constant_fours : (r : ℕ) → Fours (constant r) 16 × Small (constant r)
constant_fours zero = (fours 16 (nibbles 64 C0) (length_nibbles 64 C0), nibbles_small 64 C0)
constant_fours (suc r) =
    let e = constant_fours r in
    (round_long zeros_fours e.0 e.1, round_small zeros_fours e.0 e.1)

-- the way back through the constants
pub constant_undone : (r : ℕ) → unround zeros (constant (suc r)) ≡ constant r
constant_undone r = let e = constant_fours r in round_undone zeros_fours e.0 e.1

pub length_bits : (cs : List ℕ) → length (bits cs) ≡ 4 * length cs
length_bits [] = refl
length_bits (a ∷ cs) = let e = length_bits cs in omega arith

pub bits_fours : (r : ℕ) → Fours (bits (constant r)) 64
bits_fours r =
    fours 64 (bits (constant r)) (let e = length_fours (constant_fours r).0 in omega (arith, length_bits (constant r)))

-- ---- many rounds

pub after_fours : (r : ℕ) {q : List ℕ} → Fours q 64 → Small q → Fours (after r q) 64 × Small (after r q)
unfolding after
after_fours zero f s = (f, s)
after_fours (suc r) f s =
    let e = after_fours r f s in
    (round_long (bits_fours r) e.0 e.1, round_small (bits_fours r) e.0 e.1)

pub before_fours : (r : ℕ) {q : List ℕ} → Fours q 64 → Small q → Fours (before r q) 64 × Small (before r q)
unfolding before
before_fours zero f s = (f, s)
before_fours (suc r) f s = before_fours r (unround_long (bits_fours r) f s) (unround_small (bits_fours r) f s)

pub after_undone : (r : ℕ) {q : List ℕ} → Fours q 64 → Small q → before r (after r q) ≡ q
unfolding after before
after_undone zero f s = refl
after_undone (suc r) f s =
    let e = after_fours r f s in
    ap (before r) (round_undone (bits_fours r) e.0 e.1) ∙ after_undone r f s

pub before_undone : (r : ℕ) {q : List ℕ} → Fours q 64 → Small q → after r (before r q) ≡ q
unfolding after before
before_undone zero f s = refl
before_undone (suc r) {q} f s =
    ap (round (bits (constant r))) (before_undone r (unround_long (bits_fours r) f s) (unround_small (bits_fours r) f s))
    ∙ unround_undone (bits_fours r) f s

-- ---- E8

pub group_fours : (x : List ℕ) → Fours (group x) 64
group_fours x = fours 64 (group x) (length_group x)

pub e8_undone : E8Undone
unfolding e8 e8⁻¹
e8_undone x b =
    let f = group_fours x in
    let s = group_small x in
    let a = after_fours 42 f s in
    let z = before_fours 42 f s in (
      ap (λ (q : List ℕ). ungroup (before 42 q)) (group_ungroup (after 42 (group x)) (length_fours a.0) a.1)
          ∙ ap ungroup (after_undone 42 f s) ∙ ungroup_group x b.len (all_bytes b),
      ap (λ (q : List ℕ). ungroup (after 42 q)) (group_ungroup (before 42 (group x)) (length_fours z.0) z.1)
          ∙ ap ungroup (before_undone 42 f s) ∙ ungroup_group x b.len (all_bytes b),
      bytes_all 128 (ungroup (after 42 (group x))) (length_ungroup (after 42 (group x))) (ungroup_small (after 42 (group x))),
      bytes_all 128 (ungroup (before 42 (group x))) (length_ungroup (before 42 (group x))) (ungroup_small (before 42 (group x))),
    )
