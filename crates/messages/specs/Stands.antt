-- What a feeder stands for, and what becomes of it.
use Rattle.std.specs.Prelude.{◌≡◌, ℕ, ◌/◌, List, [], ◌++◌, drop}
use Rattle.jh.specs.Message.{bits_of, digest_of}
use Rattle.press.specs.Meaning.{Meaning}
use Rattle.refusals.specs.Sizes.{bits_in}
use Rattle.refusals.specs.declared.size.DigestSize.{DigestSize}
use Rattle.messages.specs.Holds.{Holds}
use Rattle.messages.specs.declared.feeder.Feeder.{Feeder}

-- what a press means
module _ {P : Type 0} (means : P → Meaning) where
  -- f was fed the bytes m since it was started or finished
  abbrev pub Stands : List ℕ → Feeder P → Type 0
  Stands m f = Holds (means f.press).steps ((means f.press).opens (bits_in f.size)) m f.state

  -- f is a feeder of the empty message, over the press p and for digests of the size s
  pub record Starts (p : P) (s : DigestSize) (f : Feeder P) : Type 0 where
    pub press : f.press ≡ p
    pub size : f.size ≡ s
    pub stands : Stands [] f

  -- the bytes x came to the end of the message of f, and it became h
  pub record Feeds (x : List ℕ) (f h : Feeder P) : Type 0 where
    pub press : h.press ≡ f.press
    pub size : h.size ≡ f.size
    pub stands : (m : List ℕ) → Stands m f → Stands (m ++ x) h

  -- the digest of the message of f came to the front of a buffer that held `before`, and the rest of the buffer stayed
  abbrev pub Writes : Feeder P → List ℕ → List ℕ → Type 0
  Writes f before after =
      let n = bits_in f.size in
      (m : List ℕ) → Stands m f → after ≡ digest_of (means f.press).steps ((means f.press).opens n) n (bits_of m) ++ drop (n / 8) before
