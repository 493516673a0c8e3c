-- What the code's breaches stand for, and how it keeps a process.
use Rattle.rights.specs.Views.{operation_of}
use Rattle.process.specs.State.{ProcessState}
use Rattle.explore.specs.declared.breaches.ActorStatus.{ActorStatus}
use Rattle.explore.specs.declared.breaches.Breach.{Breach as BreachCode}
use Rattle.explore.specs.declared.breaches.Breach.TheVariants as code
use Rattle.explore.specs.Breaches.{Breach, Outside, Missing_right, Capability_mode}

abbrev pub breach_of : BreachCode → Breach
breach_of (code.Outside op place) = Outside (operation_of op) place.items
breach_of code.MissingRight = Missing_right
breach_of code.CapMode = Capability_mode

abbrev pub status_of : ProcessState → ActorStatus
status_of s = record { in_mode = s.mode; is_marked = s.marked }
