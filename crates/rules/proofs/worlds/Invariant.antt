-- What holds of each world of each run of a task whose certificate meets the rules.
use Rattle.std.proofs.Common.{◌≡◌, ℕ, Bool, true, false}
use Rattle.std.specs.Prelude.{◌&&◌, Option, Some, None}
use Rattle.std.specs.List.{slice_get}
use Rattle.process.specs.State.{ProcessState}
use Rattle.file_tree.specs.WellFormed.{has_directory}
use Rattle.certificate.specs.Bounds.{Held, Bound, Certificate, bound_at}
use Rattle.certificate.specs.Describes.{Seen, Holds, describes, sends_describes}
use Rattle.rights.specs.Classes.{Class}
use Rattle.rights.specs.Classes as classes
use Rattle.fd_table.specs.Descriptions.{PairClass, Initial, Made_at, Made_by, Object, At_node, At_end, Descriptor, IfHeld, EachPassed}
use Rattle.kernel.specs.World.{World}
use Rattle.kernel.specs.WellFormed.{IsWellFormed}
use Rattle.kernel.proofs.Marks.{AreMarkedAs}
use Rattle.task.specs.Plans.{Grant, Plan, marked_in, program_name, programs_of_plan}
use Rattle.task.specs.Policies.{grant_holds}
use Rattle.rules.specs.Channels.{channel_at}
use Rattle.rules.specs.Seen.{seen_of, table_seen}
use Rattle.rules.specs.Within.{IsTableWithin, IsWithinAuthority}
use Rattle.rules.proofs.worlds.Walks.{IsWalkerIn}

-- What is asked of each living process, by its number, and of each descriptor that one side of a pair of a class has
-- sent.
pub record Asks : Type 1 where
  pub Lives : World → ℕ → ProcessState → Type 0
  pub Carries : World → PairClass → ℕ → Descriptor → Type 0

abbrev pub IfAlive : (ProcessState → Type 0) → Option ProcessState → Type 0
IfAlive Lives None = Unit {0}
IfAlive Lives (Some s) = s.alive ≡ true → Lives s

-- so it is, and what the process has under way stays in the grants that it began in
pub record IsLiving (plan : Plan) (asks : Asks) (w : World) (p : ℕ) (s : ProcessState) : Type 0 where
  pub asked : asks.Lives w p s
  pub walker : IsWalkerIn plan w.tree w.files.objects (w.files.table p) s

-- each end is of the class of its pair
abbrev pub IsOfClass : (ℕ → PairClass) → Object → Type 0
IsOfClass classes (At_node n access) = Unit {0}
IsOfClass classes (At_end pair side class) = classes pair ≡ class

abbrev pub HasClass : (ℕ → Object) → (ℕ → PairClass) → Descriptor → Type 0
HasClass objects classes d = IsOfClass classes (objects d.description)

-- a descriptor on its way
abbrev pub IsCarried : Asks → World → (ℕ → PairClass) → ℕ → ℕ → Descriptor → Type 0
IsCarried asks w classes pair side d = HasClass w.files.objects classes d × asks.Carries w (classes pair) side d

-- A linked directory stands at each grant's path.
abbrev pub AreClear : Plan → World → Type 0
AreClear plan w = (i : ℕ) (g : Grant) → slice_get plan.grants i ≡ Some g → has_directory w.tree g.path ≡ true

-- whether a program is marked, by its number
abbrev pub marks : Plan → ℕ → Bool
marks plan program = marked_in (slice_get plan.programs program)

-- The world is well formed, its processes are marked as their programs are, both ends of a pair are of one class, and what is
-- asked holds.
pub record Invariant (plan : Plan) (asks : Asks) (w : World) : Type 0 where
  pub formed : IsWellFormed (programs_of_plan plan) w
  pub marked : AreMarkedAs (marks plan) w
  pub classes : ℕ → PairClass
  pub living : (p : ℕ) → IfAlive (IsLiving plan asks w p) (slice_get w.processes p)
  pub ends : (p n : ℕ) → IfHeld (HasClass w.files.objects classes) (w.files.table p n)
  pub carried : (pair side : ℕ) → EachPassed (IsCarried asks w classes pair side) (w.files.queue pair side)
  pub clear : AreClear plan w

-- ## What a certificate asks
-- A process lies in the bound of its point.
pub record IsDescribed (plan : Plan) (certificate : Certificate) (w : World) (p : ℕ) (s : ProcessState) : Type 0 where
  pub bound : Bound
  pub at : bound_at certificate (program_name plan s.program) s.point ≡ Some bound
  pub is : describes (grant_holds plan.grants) bound s.mode s.registers (table_seen plan w p) ≡ true

-- One of a marked program that is in the mode doesn't follow it: what it holds is within the program's authority.
abbrev pub is_free : ProcessState → Bool
is_free s = s.marked && s.mode

abbrev pub LivesBy : Plan → Certificate → Bool → World → ℕ → ProcessState → Type 0
LivesBy plan certificate true w p s = IsTableWithin plan certificate w p s.program
LivesBy plan certificate false w p s = IsDescribed plan certificate w p s

-- A descriptor that is sent lies in its channel's line: without one, or with one of nothing, none is sent.
abbrev pub line_describes : Holds → Option (Option Held) → Seen → Bool
line_describes holds None d = false
line_describes holds (Some line) d = sends_describes holds line d

abbrev pub IsInLine : Plan → Certificate → World → Class → ℕ → Descriptor → Type 0
IsInLine plan certificate w class side d =
    line_describes (grant_holds plan.grants) (channel_at certificate class side) (seen_of plan w d) ≡ true

-- Through a pair that no certificate names goes what its program may have.
abbrev pub Carries : Plan → Certificate → World → PairClass → ℕ → Descriptor → Type 0
Carries plan certificate w (Initial pair) side d = IsInLine plan certificate w (classes.Initial pair) side d
Carries plan certificate w (Made_at program point) side d = IsInLine plan certificate w (classes.Made_at (program_name plan program) point) side d
Carries plan certificate w (Made_by program) side d = IsWithinAuthority plan certificate w program d

abbrev pub bounds : Plan → Certificate → Asks
bounds plan certificate = record { Lives = λ w p s. LivesBy plan certificate (is_free s) w p s; Carries = Carries plan certificate }
