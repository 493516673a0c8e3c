-- What the slots of the code stand for that fail a test.
use Rattle.certificate.specs.Views.{held_of}
use Rattle.rules.specs.Slots.{OpenSlot}
use Rattle.transfer.specs.declared.failing.OpenSlot.{OpenSlot as OpenSlotCode}

abbrev pub open_slot_of : OpenSlotCode → OpenSlot
open_slot_of s = record { number = s.number; held = held_of s.held }
