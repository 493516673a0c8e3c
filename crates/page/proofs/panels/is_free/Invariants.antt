use Rattle.std.proofs.Common.{◌≡◌, ◌<◌, ℕ}
use Rattle.std.specs.Prelude.{Some}
use Rattle.std.specs.List.{slice_get}
use Rattle.page.specs.WireViews.{LeadsTo}
use Rattle.page.proofs.panels.is_free.Given as goal

-- all so far
abbrev pub invariant-loop-at : goal.invariant-loop-at
invariant-loop-at l = (row : ℕ) → row < l.at → slice_get l.rows row ≡ Some l.height → LeadsTo l.nets row l.panel
