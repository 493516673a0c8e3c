-- What the values of the code stand for.
use Rattle.std.specs.Prelude.{◌≡◌, ◌<◌, ℕ, List, [], ◌∷◌, length, map, true}
use Rattle.rights.specs.Views.{operation_of}
use Rattle.process.specs.State.{ProcessState}
use Rattle.rights.specs.Operations.{Create, Remove}
use Rattle.file_tree.specs.Nodes.{Node, node}
use Rattle.fd_table.specs.OpenFiles.{OpenFiles}
use Rattle.fd_table.specs.Kept.{open_files}
use Rattle.kernel.specs.World.{World}
use Rattle.fd_table.specs.Descriptions.{Made_at}
use Rattle.kernel.specs.Answers.{Event, Change, New_pair, New_process, same}
use Rattle.syscalls.specs.declared.outcomes.Besides.{Besides}
use Rattle.syscalls.specs.declared.outcomes.Besides.TheVariants as besides
use Rattle.syscalls.specs.declared.effects.Effects.{Effects}
use Rattle.syscalls.specs.declared.effects.Effects.TheVariants as effects
use Rattle.syscalls.specs.declared.events.Event.{Event as EventCode}
use Rattle.syscalls.specs.declared.outcomes.Effect.{Effect as EffectCode}
use Rattle.syscalls.specs.declared.outcomes.Success.{Success}
use Rattle.syscalls.specs.declared.world.World.{World as WorldCode}
use Rattle.syscalls.specs.Shows.{Shown, shown_at}

abbrev pub event_of : EventCode → Event
event_of e = record { process = e.process; input = e.input; refuse = e.refuse }

abbrev pub effect_of : EffectCode → Shown
effect_of e = record { operation = operation_of e.op; place = e.place.items }

abbrev pub effects_of : List EffectCode → List Shown
effects_of effects = map effect_of effects

-- What a call did, where it left these nodes.
abbrev pub effects_in : List Node → Effects → List Shown
effects_in t effects.Nothing = []
effects_in t (effects.One op n) = shown_at (operation_of op) (node t n).place ∷ []
effects_in t (effects.Renamed n from) = record { operation = Remove; place = from.items } ∷ shown_at Create (node t n).place ∷ []
effects_in t (effects.Replaced n from) =
    shown_at Remove (node t n).place ∷ record { operation = Remove; place = from.items } ∷ shown_at Create (node t n).place ∷ []

-- The node that they name is one of these.
abbrev pub AreThere : List Node → Effects → Type 0
AreThere t effects.Nothing = Unit {0}
AreThere t (effects.One op n) = n < length t
AreThere t (effects.Renamed n from) = n < length t
AreThere t (effects.Replaced n from) = n < length t

-- A success with this value, which makes this of its process besides, and did this.
pub record IsSuccess (success : Success) (gives : ℕ) (makes : Besides) (does : Effects) : Type 0 where
  pub value : success.value ≡ gives
  pub besides : success.besides ≡ makes
  pub effects : success.effects ≡ does

-- The least change that makes this of the processes. (Of a pair only its second number counts there.)
abbrev pub change_of : Besides → Change
change_of besides.Nothing = same
change_of besides.Mode = record same { enters = true }
change_of (besides.Second second) = record same { table = New_pair 0 second (Made_at 0 0) }
change_of besides.Child = record same { table = New_process }

-- the world of these parts
abbrev pub world_with : List Node → OpenFiles → List ProcessState → World
world_with tree files processes = record { tree = tree; files = files; processes = processes }

-- and that of the code, whose tree has these nodes
abbrev pub world_of : {T : Type 0} → (T → List Node) → WorldCode T → World
world_of nodes w = world_with (nodes w.tree) (open_files w.files) w.processes.items
