use Rattle.std.proofs.Common.{◌≤◌, ◌-◌, length}
use Rattle.lookup.specs.NameViews.{AreSpansOf, all_spanned}
use Rattle.lookup.proofs.NameLaws.{AreRead}
use Rattle.lookup.proofs.names.put_names.Given as goal

-- the names of what was read come before those that were there
abbrev pub invariant-loop-start : goal.invariant-loop-start
invariant-loop-start l = record {
  low : l.from ≤ l.start;
  order : l.start ≤ l.end;
  high : l.end ≤ length l.text;
  names : AreRead l.text (all_spanned l.text l.fn.spans.items) l.start l.end (all_spanned l.text l.spans.items);
  within : AreSpansOf l.text l.fn.spans.items → AreSpansOf l.text l.spans.items;
}

abbrev pub decreases-loop-start : goal.decreases-loop-start
decreases-loop-start l = l.start - l.from
