-- What a summary stands for.
use Rattle.std.specs.Prelude.{◌≡◌, ℕ, ◌^◌, ◌<◌, ◌≤◌, List, length, MatchOption}
use Rattle.refusals.specs.declared.size.DigestSize.{DigestSize}
use Rattle.refusals.specs.declared.size.DigestSize.TheVariants.{D224, D256, D384, D512}
use Rattle.jh_digest.specs.Stands.{Stands}
use Rattle.jh_digest.specs.declared.feeder.JhFeeder.{JhFeeder}
use Rattle.summary.specs.declared.feeders.Feeders.{Feeders}
use Rattle.summary.specs.declared.summary.Summary.{Summary}

-- the image of a value under a permutation
module _ {P : Type 0} (image : P → List ℕ → List ℕ) (p : P) (m : List ℕ) where
  -- a feeder over the permutation p, for digests of the size s, was fed the bytes m
  pub record Holds (s : DigestSize) (f : JhFeeder P) : Type 0 where
    pub permutation : f.feeder.press.permutation ≡ p
    pub size : f.feeder.size ≡ s
    pub stands : Stands image m f

  pub record Four (f : Feeders P) : Type 0 where
    pub d224 : Holds D224 f.d224
    pub d256 : Holds D256 f.d256
    pub d384 : Holds D384 f.d384
    pub d512 : Holds D512 f.d512

  -- s was fed the bytes m: where they pass 2^40, it has no feeders, and where they do not, all four feeders have them
  abbrev pub Fed : Summary P → Type 0
  Fed s = MatchOption s.feeders (2 ^ 40 < length m) (λ f. (length m ≤ 2 ^ 40) × Four f)
