-- What a midstate stands for once it has taken in more bytes, at most up to the end of a block.
use Rattle.std.proofs.Common.{◌≡◌, ℕ, suc, ◌+◌, ◌-◌, ◌/◌, ◌%◌, ◌<◌, ◌≤◌, List, [], ◌++◌, length, get_or, drop, replicate, sym, ap, ◌∙◌, subst, ap₂, arith}
use borrow.Rule.Slice.PartMut.{put_mid}
use Rattle.std.proofs.lemmas.List.{length-append, take_at, drop_at, drop-replicate, append_assoc, append-nil}
use Rattle.byte_strings.proofs.Strings.{small_append}
use Rattle.jh.specs.Message.{block, rest, through}
use Rattle.jh.proofs.Blocks.{through_append, length_rest, rest_part, block_whole, rest_whole}
use Rattle.messages.specs.Holds.{Holds, Takes}
use Rattle.messages.specs.declared.midstate.Midstate.{Midstate}

-- bytes written behind the front of a block that ends in zeros
put_behind : (r x : List ℕ) (a e : ℕ) → length r ≡ a → a + length x ≡ e → e ≤ 64
    → put_mid a (e - a) (r ++ replicate (64 - length r) 0) x ≡ (r ++ x) ++ replicate (64 - length (r ++ x)) 0
put_behind r x a e p q h =
    let z : List ℕ = replicate (64 - length r) 0 in
    let n : 64 - length r - (e - a) ≡ 64 - length (r ++ x) = omega (arith, length-append r x) in
    ap₂ (λ (f g : List ℕ). f ++ (x ++ drop (e - a) g)) (take_at r z a p) (drop_at r z a p)
    ∙ ap (λ (g : List ℕ). r ++ (x ++ g)) (drop-replicate {X = ℕ} (e - a) (64 - length r) 0 ∙ ap (λ (k : ℕ). replicate k 0) n)
    ∙ sym (append_assoc r x (replicate (64 - length (r ++ x)) 0))

module _ (step : List ℕ → List ℕ → List ℕ) (x : List ℕ) (s t : Midstate) (counted : t.count ≡ s.count + length x)
    (small : (k : ℕ) → get_or x k 0 < 256) (e : ℕ) (end : s.count % 64 + length x ≡ e) (within : e ≤ 64) where
  abbrev with_front : List ℕ
  with_front = put_mid (s.count % 64) (e - s.count % 64) s.partial x

  written : (opening m : List ℕ) → Holds step opening m s → with_front ≡ (rest m ++ x) ++ replicate (64 - length (rest m ++ x)) 0
  written opening m h =
      ap (λ (p : List ℕ). put_mid (s.count % 64) (e - s.count % 64) p x) h.filled
      ∙ put_behind (rest m) x (s.count % 64) e (length_rest m x ∙ ap (λ (k : ℕ). k % 64) (sym h.counted)) end within

  -- within a block
  pub takes_part : e < 64 → t.partial ≡ with_front → t.chain ≡ s.chain → Takes step x s t
  takes_part lt put same =
      record {
        counted = counted;
        holds = λ opening m h.
            let l = length-append m x in
            let c = h.counted in
            let g : length m % 64 + length x < 64 = omega arith in
            let q : length (m ++ x) / 64 ≡ length m / 64 = omega arith in
            record {
              bytes = small_append m x h.bytes small;
              counted = omega arith;
              chained = same ∙ h.chained ∙ sym (through_append step opening m x (length m / 64) (omega arith)) ∙ ap (λ (k : ℕ). through step opening k (m ++ x)) (sym q);
              filled = put ∙ written opening m h ∙ ap (λ (r : List ℕ). r ++ replicate (64 - length r) 0) (sym (rest_part m x g));
            };
      }

  -- up to the end of a block
  pub takes_whole : e ≡ 64 → t.partial ≡ replicate 64 0 → t.chain ≡ step s.chain with_front → Takes step x s t
  takes_whole eq clear stepped =
      record {
        counted = counted;
        holds = λ opening m h.
            let l = length-append m x in
            let c = h.counted in
            let g : length m % 64 + length x ≡ 64 = omega arith in
            let q : length (m ++ x) / 64 ≡ suc (length m / 64) = omega arith in
            let full : 64 - length (rest m ++ x) ≡ 0 = omega (arith, length-append (rest m) x, length_rest m x) in
            let b : with_front ≡ block (m ++ x) (length m / 64) =
            written opening m h ∙ ap (λ (k : ℕ). (rest m ++ x) ++ replicate k 0) full ∙ append-nil (rest m ++ x) ∙ sym (block_whole m x g) in
            record {
              bytes = small_append m x h.bytes small;
              counted = omega arith;
              chained =
                  stepped
                  ∙ ap₂ step (h.chained ∙ sym (through_append step opening m x (length m / 64) (omega arith))) b
                  ∙ ap (λ (k : ℕ). through step opening k (m ++ x)) (sym q);
              filled = clear ∙ ap (λ (r : List ℕ). r ++ replicate (64 - length r) 0) (sym (rest_whole m x g));
            };
      }

-- one piece after the other
module _ (step : List ℕ → List ℕ → List ℕ) where
  pub takes_none : (s : Midstate) → Takes step [] s s
  takes_none s = record { counted = omega arith; holds = λ o m h. subst (λ (y : List ℕ). Holds step o y s) (sym (append-nil m)) h }

  pub takes_both : (x y : List ℕ) (s t u : Midstate) → Takes step x s t → Takes step y t u → Takes step (x ++ y) s u
  takes_both x y s t u p q =
      record {
        counted = omega (arith, p.counted, q.counted, length-append x y);
        holds = λ o m h. subst (λ (z : List ℕ). Holds step o z u) (append_assoc m x y) (q.holds o (m ++ x) (p.holds o m h));
      }
