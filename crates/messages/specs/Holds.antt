-- What a midstate stands for.
use Rattle.std.specs.Prelude.{◌≡◌, ℕ, ◌+◌, ◌-◌, ◌/◌, ◌<◌, List, ◌++◌, length, replicate, slice_index}
use Rattle.jh.specs.Message.{rest, through}
use Rattle.messages.specs.declared.midstate.Midstate.{Midstate}

-- the bytes behind the last whole block of m, and zeros up to 64
abbrev pub partial_block : List ℕ → List ℕ
partial_block m = rest m ++ replicate (64 - length (rest m)) 0

-- s is the midstate of the bytes m: their whole blocks are in the chain value, and the rest in the partial block
pub record Holds (step : List ℕ → List ℕ → List ℕ) (opening m : List ℕ) (s : Midstate) : Type 0 where
  pub bytes : (k : ℕ) → slice_index m k < 256
  pub counted : s.count ≡ length m
  pub chained : s.chain ≡ through step opening (length m / 64) m
  pub filled : s.partial ≡ partial_block m

-- t is what s became when it took in the bytes x
pub record Takes (step : List ℕ → List ℕ → List ℕ) (x : List ℕ) (s t : Midstate) : Type 0 where
  pub counted : t.count ≡ s.count + length x
  pub holds : (opening m : List ℕ) → Holds step opening m s → Holds step opening (m ++ x) t
