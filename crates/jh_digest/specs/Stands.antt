-- What a feeder over the JH press stands for, and what becomes of it.
use Rattle.std.specs.Prelude.{◌≡◌, ℕ, ◌/◌, Bool, List, ◌++◌, drop}
use Rattle.jh.specs.Message.{bits_of}
use Rattle.jh_press.specs.Meaning.{jh_means}
use Rattle.jh_press.specs.declared.JhPress.{JhPress}
use Rattle.refusals.specs.Sizes.{bits_in}
use Rattle.refusals.specs.declared.size.DigestSize.{DigestSize}
use Rattle.messages.specs.Stands as feeder
use Rattle.jh_digest.specs.declared.feeder.JhFeeder.{JhFeeder}

-- the image of a value under a permutation
module _ {P : Type 0} (image : P → List ℕ → List ℕ) where
  -- f was fed the bytes m since it was started or finished
  abbrev pub Stands : List ℕ → JhFeeder P → Type 0
  Stands m f = feeder.Stands (jh_means image) m f.feeder

  -- f is a feeder of the empty message, over the press p and for digests of the size s
  abbrev pub Starts : JhPress P → DigestSize → JhFeeder P → Type 0
  Starts p s f = feeder.Starts (jh_means image) p s f.feeder

  -- the bytes x came to the end of the message of f, and it became h
  abbrev pub Feeds : List ℕ → JhFeeder P → JhFeeder P → Type 0
  Feeds x f h = feeder.Feeds (jh_means image) x f.feeder h.feeder

  -- the digest of the message of f, which `digest` gives of a size and a message, came to the front of a buffer that held `before`,
  -- and the rest of the buffer stayed
  abbrev pub Writes : (digest : ℕ → List Bool → List ℕ) → JhFeeder P → (before after : List ℕ) → Type 0
  Writes digest f before after =
      let n = bits_in f.feeder.size in
      (m : List ℕ) → Stands m f → after ≡ digest n (bits_of m) ++ drop (n / 8) before
