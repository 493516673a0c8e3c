-- What a tally stands for.
use Rattle.follow.specs.declared.excused.Tally.{Tally as TallyCode}
use Rattle.follow.specs.Excused.{Tally}
use Rattle.follow.specs.Views.{entries_after, mappings_seen}

abbrev pub tally_of : TallyCode → Tally
tally_of t = record {
  left = entries_after t.left.items;
  numbers = mappings_seen t.numbers.items;
  shown = entries_after t.shown.items;
  skipped = entries_after t.skipped.items;
  past = entries_after t.past.items;
  behind = entries_after t.behind.items;
  others = entries_after t.others.items;
}
