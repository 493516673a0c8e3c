-- What the tests of a bound's parts stand for. (own)
use Rattle.std.specs.Prelude.{ℕ, Bool}
use Rattle.certificate.specs.Bounds.{slot}
use Rattle.certificate.specs.Views.{bound_of}
use Rattle.checker.specs.AllowanceViews.{allowance_of}
use Rattle.rights.specs.Limits.{most_descriptors, register_count}
use Rattle.rules.specs.Authority.{may_have_slot}
use Rattle.task.specs.Views.{start_of}
use Rattle.explain.specs.Breaking.{register_arrives, register_begins, slot_arrives, slot_begins}
use Rattle.explain.specs.declared.breaking.PartTest.{PartTest}
use Rattle.explain.specs.declared.breaking.PartTest.TheVariants as test

-- whether the part of a number is as the rule asks
unfoldable pub part_holds : PartTest → ℕ → Bool
part_holds (test.RegisterBegins bound) = register_begins (bound_of bound.now)
part_holds (test.SlotBegins task bound start) = slot_begins task.now (start_of start.now) (bound_of bound.now)
part_holds (test.RegisterWithin arriving there) = register_arrives (bound_of arriving.now) (bound_of there.now)
part_holds (test.SlotWithin arriving there) = slot_arrives (bound_of arriving.now) (bound_of there.now)
part_holds (test.SlotAllowed allowed bound) = λ n. may_have_slot allowed.now.wide (allowance_of allowed.now) (slot (bound_of bound.now).slots n)

-- how many such parts a bound has
unfoldable pub part_count : PartTest → ℕ
part_count (test.RegisterBegins bound) = register_count
part_count (test.SlotBegins task bound start) = most_descriptors
part_count (test.RegisterWithin arriving there) = register_count
part_count (test.SlotWithin arriving there) = most_descriptors
part_count (test.SlotAllowed allowed bound) = most_descriptors
