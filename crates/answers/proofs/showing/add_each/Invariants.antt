use Rattle.std.proofs.Common.{◌≡◌, false, ◌++◌, drop}
use Rattle.std.specs.List.{flat_map}
use Rattle.answers.specs.Learnt.{placing_text}
use Rattle.follow.specs.Views.{placings_of}
use Rattle.answers.proofs.showing.add_each.Given as goal

-- with those that are left it is the whole text
abbrev pub invariant-loop-placing : goal.invariant-loop-placing
invariant-loop-placing l = record {
  keeps : l.page.is_short ≡ false → l.fn.page.is_short ≡ false;
  adds : l.page.is_short ≡ false → l.page.bytes.items ++ flat_map placing_text (placings_of (drop l.placing-index l.placings))
      ≡ l.fn.page.bytes.items ++ flat_map placing_text (placings_of l.placings);
}
