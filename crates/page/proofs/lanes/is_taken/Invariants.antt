use Rattle.std.proofs.Common.{◌≡◌, ◌<◌, ℕ}
use Rattle.std.specs.List.{slice_index_or}
use Rattle.page.specs.declared.lanes.ClassLane.{ClassLane}
use Rattle.page.proofs.lanes.is_taken.Given as goal

-- none so far
abbrev pub invariant-loop-class : goal.invariant-loop-class
invariant-loop-class l =
    (k : ℕ) (d : ClassLane) → k < l.class-index → (slice_index_or l.classes k d).lane ≡ l.lane → (slice_index_or l.classes k d).last < l.first
