-- Runs that break something, each in another way, and runs that don't; and what is tried of tasks.
use Rattle.std.specs.Prelude.{ℕ, false, [], ◌∷◌, codes, Some, None}
use Rattle.rights.specs.Operations.{Write, Create}
use Rattle.instruction_set.specs.Programs.{Fork, Invoke, Mkdirat, Number, Read, Register, Sendfd, Syscall}
use Rattle.kernel.specs.Answers.{Event}
use Rattle.kernel.specs.Hostile.{Own, Does}
use Rattle.task.specs.Breaches.{reading_plan, opening_plan, writing_plan, moving_plan}
use Rattle.task.specs.Escapes.{making_plan, trusting_plan}
use Rattle.explore.specs.Attacks.{AreTried, GoesBy, deed_by}
use Rattle.explore.specs.Breaches.{Outside, Missing_right, Capability_mode}
use Rattle.explore.specs.Broken.{Breaks, Move}

-- an event of a process
abbrev pub event_of_process : ℕ → Event
event_of_process process = record { process = process; input = 0; refuse = false }

-- the first process goes on with its program
abbrev pub first_moves : Move
first_moves = (event_of_process 0, Own)

-- the second process makes this call, whatever its program has
abbrev pub child_calls : Syscall → Move
child_calls call = (event_of_process 1, Does (deed_by (Invoke call 0)))

pub record SomeRunsBreak : Type 0 where
  pub right : Breaks reading_plan (first_moves ∷ first_moves ∷ []) (Some Missing_right)
  pub mode : Breaks opening_plan (first_moves ∷ first_moves ∷ []) (Some Capability_mode)
  pub effect : Breaks writing_plan (first_moves ∷ first_moves ∷ []) (Some (Outside Write (codes "/work/in")))
  pub second_effect : Breaks moving_plan (first_moves ∷ first_moves ∷ []) (Some (Outside Create (codes "/work/new")))
  pub too_early : Breaks reading_plan (first_moves ∷ []) None
  pub nothing_moves : Breaks reading_plan [] None
  -- of attackers: one makes what no grant allows, and one sends what a trusted process is refused for
  pub made : Breaks making_plan (child_calls (Mkdirat (Number 1) (codes "x")) ∷ []) (Some (Outside Create (codes "/work/x")))
  pub sent : Breaks trusting_plan (child_calls (Sendfd (Number 0) (Number 1) (Number 0)) ∷ first_moves ∷ first_moves ∷ []) (Some Missing_right)
  pub only_sent : Breaks trusting_plan (child_calls (Sendfd (Number 0) (Number 1) (Number 0)) ∷ first_moves ∷ []) None
  pub as_written : Breaks making_plan ((event_of_process 1, Own) ∷ []) None

pub record SomeAreTried : Type 0 where
  pub goes : GoesBy 1 (Invoke (Sendfd (Number 1) (Number 0) (Number 0)) 0)
  pub other_number : GoesBy 0 (Invoke (Sendfd (Number 1) (Number 0) (Number 0)) 0) → ⊥
  pub in_register : GoesBy 1 (Invoke (Read (Register 1)) 0) → ⊥
  pub without_descriptor : GoesBy 0 (Invoke Fork 0) → ⊥
  pub not_marked : AreTried reading_plan []
  pub none_where_marked : AreTried making_plan [] → ⊥
