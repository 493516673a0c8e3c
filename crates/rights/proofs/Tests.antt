-- Tests, as facts.
use Rattle.std.proofs.Common.{◌≡◌, Bool, true, false, ◌⊎◌, inl, inr, refl}
use Rattle.std.specs.Prelude.{◌&&◌, ◌||◌, not, Result, Ok, Err, OnErr}

-- the parts of a test that passes
pub both_left : (a b : Bool) → (a && b) ≡ true → a ≡ true
both_left true b h = refl
both_left false b h = absurd cc

pub both_right : (a b : Bool) → (a && b) ≡ true → b ≡ true
both_right true b h = h
both_right false b h = absurd cc

pub either_one : (a b : Bool) → (a || b) ≡ true → (a ≡ true) ⊎ (b ≡ true)
either_one true b h = inl refl
either_one false b h = inr h

pub neither : (a b : Bool) → a ≡ false → b ≡ false → (a || b) ≡ false
neither true b none other = absurd cc
neither false b none other = other

pub not_true : (a : Bool) → not a ≡ true → a ≡ false
not_true true h = absurd cc
not_true false h = refl

pub not_false : (a : Bool) → not a ≡ false → a ≡ true
not_false true h = refl
not_false false h = absurd cc

-- a fact of each error
pub on_err : {A E P : Type 0} (r : Result A E) → P → OnErr r P
on_err (Ok x) fact = tt
on_err (Err e) fact = fact
