use Rattle.std.proofs.Common.{◌≡◌, ◌+◌, map, drop}
use Rattle.std.specs.List.{list_all}
use Rattle.certificate.specs.Views.{interval_of, slot_of}
use Rattle.rules.specs.Slots.{slots_from}
use Rattle.transfer.proofs.asks.rest_pass.Given as goal

-- those that are left pass as all do
abbrev pub invariant-loop-slot : goal.invariant-loop-slot
invariant-loop-slot g l =
    let passes = g.T.SlotTest.passes l.test in
    let values = interval_of l.interval in
    (l.number ≡ l.number-2 + l.slot-index)
    × (list_all passes (slots_from l.number values (map slot_of (drop l.slot-index l.slots))) ≡ list_all passes (slots_from l.number-2 values (map slot_of l.slots)))
