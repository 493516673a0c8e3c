use Rattle.std.proofs.Common.{◌-◌, ◌≤◌, ◌≡◌}
use Rattle.task_text.specs.Places.{place_at}
use Rattle.task_text.specs.PlaceViews.{place_seen}
use Rattle.task_text.proofs.places.Cursor.go_to.Given as goal

-- it stands at an offset that isn't past the one that it goes to
abbrev pub invariant-loop-self : goal.invariant-loop-self
invariant-loop-self l = (place_seen l.self.place ≡ place_at l.file l.self.offset) × (l.self.offset ≤ l.offset)

abbrev pub decreases-loop-self : goal.decreases-loop-self
decreases-loop-self l = l.offset - l.self.offset
