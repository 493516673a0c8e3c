-- Tests that a call passes or fails.
use Rattle.std.proofs.Common.{◌≡◌, ◌≢◌, ◌==◌, ◌≤◌, ◌<◌, ℕ, Bool, true, false, nat_lt, nat_le, refl, sym, ap, subst, ◌∙◌, arith}
use Rattle.std.proofs.lemmas.Bool.Decides.{nat_tests}
use Rattle.std.proofs.Math.Bool.{beq}
use Rattle.std.specs.Prelude.{not, Result, Ok, Err, IfOk, MatchResult}
use Rattle.std.specs.Result.{is_ok}
use Rattle.rights.specs.Errors.{Errno, Cause}
use Rattle.kernel.specs.Answers.{Answer, Fails, unless}

pub passes : (test : Bool) (errno : Errno) (cause : Cause) (rest : Answer) → test ≡ true → unless test errno cause rest ≡ rest
unfolding unless
passes true errno cause rest is = refl
passes false errno cause rest is = absurd cc

pub fails : (test : Bool) (errno : Errno) (cause : Cause) (rest : Answer) → test ≡ false → unless test errno cause rest ≡ Fails errno cause
unfolding unless
fails true errno cause rest is = absurd cc
fails false errno cause rest is = refl

pub below : (n m : ℕ) → n < m → nat_lt n m ≡ true
below n m is = grind (arith, nat_tests)

pub not_below : (n m : ℕ) → m ≤ n → nat_lt n m ≡ false
not_below n m is = grind (arith, nat_tests)

pub at_most : (n m : ℕ) → n ≤ m → nat_le n m ≡ true
at_most n m is = grind (arith, nat_tests)

pub above : (n m : ℕ) → m < n → nat_le n m ≡ false
above n m is = grind (arith, nat_tests)

-- booleans that don't differ
pub same_from : (a b : Bool) → not (beq a b) ≡ false → b ≡ a
same_from true true is = refl
same_from true false is = absurd cc
same_from false true is = absurd cc
same_from false false is = refl

pub kept : (b : Bool) → not b ≡ false → b ≡ true
kept true is = refl
kept false is = absurd cc

abbrev ok_or : {A F : Type 0} → A → Result A F → A
ok_or other (Ok x) = x
ok_or other (Err e) = other

-- what holds of a result that didn't fail, where its error is made another one
pub mapped : {A E F : Type 0} {x : A} (P : A → Type 0) (Q : E → Type 0) (r : Result A E) (s : Result A F) →
    MatchResult r (λ y. s ≡ Ok y) Q → is_ok s ≡ is_ok r → s ≡ Ok x → IfOk r P → P x
mapped P Q (Ok y) s cases same is holds = subst P (ap (ok_or y) (sym cases ∙ is)) holds
mapped P Q (Err e) s cases same is holds = absurd (let clash : true ≡ false = sym (ap is_ok is) ∙ same in cc)

pub equal : (n m : ℕ) → n ≡ m → (n == m) ≡ true
equal n m is = grind (arith, nat_tests)

pub unequal : (n m : ℕ) → n ≢ m → (n == m) ≡ false
unequal n m is = grind (arith, nat_tests)
