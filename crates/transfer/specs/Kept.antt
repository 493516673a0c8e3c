-- What a test of outcomes keeps that joins those of one point.
use Rattle.std.specs.Prelude.{◌≡◌, ℕ, Bool, true, List, [], ◌∷◌, Option, Some, None}
use Rattle.std.specs.List.{list_all}
use Rattle.certificate.specs.Bounds.{Bound}
use Rattle.rules.specs.Outcomes.{Outcome}
use Rattle.rules.specs.Carrying.{joined_with}

-- A test that joins no point's outcomes keeps what it has.
abbrev pub kept_with : Option ℕ → Option Bound → Outcome → Option Bound
kept_with None before o = before
kept_with (Some point) before o = joined_with point before o

abbrev pub kept_all : Option ℕ → Option Bound → List Outcome → Option Bound
kept_all joins before [] = before
kept_all joins before (o ∷ outs) = kept_all joins (kept_with joins before o) outs

-- Each outcome is tested, up to the first that doesn't pass; where all pass, the test keeps what it learns of them. What
-- passes, and the point whose outcomes it joins, stay the same.
abbrev pub TestsEach : {Test : Type 0} → (Test → Outcome → Bool) → (Test → Option ℕ) → (Test → Option Bound) → Test → Test → Bool → List Outcome → Type 0
TestsEach passes joins kept old new result outcomes =
    (result ≡ list_all (passes old) outcomes) × (passes new ≡ passes old) × (joins new ≡ joins old)
    × (result ≡ true → kept new ≡ kept_all (joins old) (kept old) outcomes)
