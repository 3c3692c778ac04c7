use Rattle.std.proofs.Common.{ℕ, ◌-◌, ◌^◌, sym, ◌∙◌}
use Rattle.jh.proofs.Places.{fours, length_fours}
use Rattle.jh.proofs.Undone.{permute_undone, unpermute_undone}
use Rattle.jh.proofs.Rounds.{fours_of, round_undone, unround_undone, round_long, unround_long, round_small, unround_small}
use Rattle.jh.proofs.round_laws.Goals as goal

pub returns : goal.returns
returns c = record {
  permute = λ d h xs e.
      let m : ℕ = 2 ^ (d - 2) in
      let n = e ∙ fours_of d h in
      (permute_undone xs m (fours m xs n), unpermute_undone xs m n);
  round = λ d h cs k xs e.
      let m : ℕ = 2 ^ (d - 2) in
      let n = fours_of d h in
      let fc = fours m cs (k ∙ n) in
      let fx = fours m xs (e.long ∙ n) in (
        round_undone fc fx e.small,
        unround_undone fc fx e.small,
        record { long = length_fours (round_long fc fx e.small) ∙ sym n; small = round_small fc fx e.small },
        record { long = length_fours (unround_long fc fx e.small) ∙ sym n; small = unround_small fc fx e.small },
      );
}
