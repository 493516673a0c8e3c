use Rattle.std.proofs.Common.{◌≡◌, ◌+◌, ◌≤◌, length}
use Rattle.page.specs.WireViews.{ArriveFree}
use Rattle.page.proofs.panels.add_panels.Given as goal

abbrev pub invariant-loop-place : goal.invariant-loop-place
invariant-loop-place l = record {
  strip_is : l.board.strip ≡ l.initial.board.strip;
  next : l.arrivals.next ≤ l.board.below + 18;
  many : length l.arrivals.items.items ≡ l.place-index;
  free : ArriveFree l.nets l.rows.items.items l.placed l.arrivals.items.items;
}
