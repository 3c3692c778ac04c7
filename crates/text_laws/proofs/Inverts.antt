-- What a reader that succeeded had before it.
use Rattle.std.proofs.Common.{◌≡◌, ℕ, Bool, true, false, cond, ◌⊎◌, Some, None, Ok, Err, Option, refl, ap, inl, inr}
use Rattle.fields.specs.Faults.{Read, at_line}
use Rattle.fields.specs.Options.{and_then}
use Rattle.text_laws.specs.Values.{then_read}

pub some_inj : {X : Type 0} (x y : X) → Some x ≡ Some y → x ≡ y
some_inj x y h = cc

pub ok_inj : {X : Type 0} (x y : X) → ◌≡◌ {A = Read X} (Ok x) (Ok y) → x ≡ y
ok_inj x y h = cc

pub err_inj : {X : Type 0} (e f : ℕ × ℕ) → ◌≡◌ {A = Read X} (Err e) (Err f) → e ≡ f
err_inj e f h = cc

pub and_then_some : {X Y : Type 0} (o : Option X) (f : X → Option Y) (y : Y) → and_then o f ≡ Some y → (x : X) × (o ≡ Some x) × (f x ≡ Some y)
and_then_some (Some x) f y h = (x, refl, h)
and_then_some None f y h = absurd cc

pub then_ok : {X Y : Type 0} (r : Read X) (f : X → Read Y) (y : Y) → then_read r f ≡ Ok y → (x : X) × (r ≡ Ok x) × (f x ≡ Ok y)
then_ok (Ok x) f y h = (x, refl, h)
then_ok (Err e) f y h = absurd cc

pub then_err : {X Y : Type 0} (r : Read X) (f : X → Read Y) (e : ℕ × ℕ) → then_read r f ≡ Err e → (r ≡ Err e) ⊎ ((x : X) × (r ≡ Ok x) × (f x ≡ Err e))
then_err (Ok x) f e h = inr (x, refl, h)
then_err {X = X} (Err d) f e h = let F : ℕ × ℕ → Read X = λ g. Err g in inl (ap F (err_inj d e h))

pub cond_ok : {X : Type 0} (b : Bool) (x y : X) (e : ℕ × ℕ) → ◌≡◌ {A = Read X} (cond b (Ok x) (Err e)) (Ok y) → (b ≡ true) × (x ≡ y)
cond_ok true x y e h = (refl, ok_inj x y h)
cond_ok false x y e h = absurd cc

-- a test that a field is read by
pub read_ok : {X : Type 0} (k : ℕ) (b : Bool) (x y : X) → ◌≡◌ {A = Read X} (at_line k (cond b (Some x) None)) (Ok y) → (b ≡ true) × (x ≡ y)
read_ok k true x y h = (refl, ok_inj x y h)
read_ok k false x y h = absurd cc
