use Rattle.std.proofs.Common.{◌≡◌, ◌-◌, drop, map}
use Rattle.task_reader.specs.ApartViews.{none_begins_so}
use Rattle.task_reader.proofs.placed_grants.none_begins_so.Given as goal

-- the places that are left, and the one before them, decide it
abbrev pub invariant-loop-at : goal.invariant-loop-at
invariant-loop-at l =
    none_begins_so (map (λ p. p.now) l.places) ≡ none_begins_so (map (λ p. p.now) (drop (l.at - 1) l.places))
