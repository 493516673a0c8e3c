use Rattle.std.proofs.Common.{◌+◌, ◌<◌, ◌≤◌, ℕ, get_or, length}
use Rattle.page.proofs.stops.Stops.push_all.Given as goal

-- each that is left may come next
abbrev pub invariant-loop-stop : goal.invariant-loop-stop
invariant-loop-stop l = record {
  left : (k : ℕ) → l.stop-index ≤ k → k < length l.others.items.items → l.self.next ≤ l.higher + get_or l.others.items.items k 0;
  end : l.self.next ≤ l.higher + l.height;
}
