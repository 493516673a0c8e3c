use Rattle.std.proofs.Common.{◌≡◌, ◌+◌, map, drop}
use Rattle.certificate.specs.Views.{slot_of}
use Rattle.rules.specs.Slots.{free_from}
use Rattle.transfer.proofs.slots.one_from.Given as goal

-- what is left has the lowest number that is free in all
abbrev pub invariant-loop-slot : goal.invariant-loop-slot
invariant-loop-slot l =
    (l.number ≡ l.number-2 + l.slot-index)
    × (free_from 1 l.number (map slot_of (drop l.slot-index l.slots)) ≡ free_from 1 l.number-2 (map slot_of l.slots))
