-- What the values of the code stand for.
use Rattle.std.specs.Prelude.{Option, Some, None, option_map}
use Rattle.instruction_set.specs.Views.{instruction_of}
use Rattle.process.specs.declared.deeds.Deed.{Deed as DeedCode}
use Rattle.process.specs.declared.walking.Walking.{Walking as WalkingCode}
use Rattle.process.specs.declared.walking.Walking.TheVariants as walking
use Rattle.process.specs.State.{Deed, Walking, One, Two}

-- the lookups under way
abbrev pub walking_of : WalkingCode → Walking
walking_of (walking.One walk) = One walk
walking_of (walking.Two first second) = Two first second

abbrev pub walking_in : Option WalkingCode → Option Walking
walking_in None = None
walking_in (Some walking) = Some (walking_of walking)

abbrev pub deed_of : DeedCode → Deed
deed_of d = record { instruction = instruction_of d.instruction; registers = d.registers; point = d.point }

abbrev pub deed_in : Option DeedCode → Option Deed
deed_in o = option_map deed_of o
