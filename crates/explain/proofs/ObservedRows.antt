-- Rows of what is observed on programs and tasks, each beside one where nothing is.
use Rattle.std.proofs.Common.{◌≡◌, Bool, true, false, List, [], ◌∷◌, refl}
use Rattle.std.specs.Prelude.{codes, Option, Some}
use Rattle.certificate.specs.Bounds.{Bound, Certificate, One, On, In_grant, Open, Closed}
use Rattle.instruction_set.specs.Programs.{Instruction, Halt, Invoke, Read, Number}
use Rattle.remarks.specs.Listed.{Stray, Untrusted, on_code, on_points, on_program, on_whole, unreached_remarks}
use Rattle.remarks.specs.Warnings.{Warned, Way_out, Unlisted_look}
use Rattle.remarks.specs.Ways.{rounds}
use Rattle.rights.specs.Operations.{Read as Read_bytes, Write as Write_bytes}
use Rattle.rights.specs.Sets.{all_rights, read_right}
use Rattle.rights.specs.Values.{RightSet}
use Rattle.task.specs.Plans.{Grant, On_end, Plan, Start, plan_with, unmarked}
use Rattle.task.specs.Policies.{grant_named}
use Rattle.explain.specs.Observed.{beyond_by, headed_remark, program_observed, task_observed, unused_on}
use Rattle.explain.specs.Observed.{beyond_its_calls, difference_part, more_rights, warned_at_start, warned_from, warned_if_marked, warned_there}

-- ## Remarks on a program
at_points : headed_remark (record { remark = Stray 3; points = 2 ∷ 4 ∷ [] }) ≡ (codes "in-no-grant", 2 ∷ 4 ∷ [])
at_points = refl

of_the_whole : headed_remark (record { remark = Untrusted; points = 0 ∷ 1 ∷ [] }) ≡ (codes "untrusted", [])
of_the_whole = refl

-- A grant that lists reading and writing, and a number that may read, write and make files in it.
abbrev grant : Grant
grant = record { name = codes "work"; path = codes "srv" ∷ []; operations = Read_bytes ∷ Write_bytes ∷ [] }

abbrev reads : List Instruction
reads = Invoke (Read (Number 0)) 1 ∷ Halt ∷ []

abbrev holding : RightSet → Option Bound
holding rights = Some (record {
  mode = On;
  registers = [];
  slots = Open (record { target = In_grant (codes "work"); least = 0; greatest = rights; least_fcntls = 0; greatest_fcntls = 0 }) ∷ Closed ∷ [];
})

goes_beyond : beyond_by false (grant ∷ []) reads (holding all_rights ∷ holding all_rights ∷ []) 0 ≡ (codes "beyond-the-policy", 0 ∷ []) ∷ []
unfolding beyond_by grant_named
goes_beyond = refl

stays_within : beyond_by false (grant ∷ []) reads (holding read_right ∷ holding read_right ∷ []) 0 ≡ []
unfolding beyond_by grant_named
stays_within = refl

-- A process starts with one side of a pair; nothing leads to the second instruction of its program.
abbrev nobody : Certificate
nobody = record { version = One; points = []; channels = []; authorities = [] }

abbrev starts : Bool → Start
starts mode = record {
  program = 0;
  mode = mode;
  descriptors = record { number = 0; object = On_end 3 0; rights = all_rights; fcntls = 0 } ∷ [];
}

abbrev lonely : Plan
lonely = plan_with [] (grant ∷ []) (unmarked (codes "main") (Halt ∷ Halt ∷ []) ∷ []) (starts true ∷ [])

by_its_text : program_observed lonely nobody 0 false ≡ (codes "unreached", 1 ∷ []) ∷ []
unfolding on_program on_code on_whole on_points unreached_remarks rounds
by_its_text = refl

no_such_program : program_observed lonely nobody 1 false ≡ []
unfolding on_program
no_such_program = refl

-- ## Remarks on a task
abbrev alone : Plan
alone = plan_with [] (grant ∷ []) (unmarked (codes "main") [] ∷ []) (starts true ∷ [])

with_bounds : task_observed alone nobody true ≡ (codes "lone-end", []) ∷ (codes "operation-unused", []) ∷ (codes "operation-unused", []) ∷ []
unfolding unused_on
with_bounds = refl

without : task_observed alone nobody false ≡ (codes "lone-end", []) ∷ []
without = refl

of_nothing : task_observed (plan_with [] [] [] []) nobody true ≡ []
of_nothing = refl

-- ## Warnings
abbrev calm : Warned
calm = record { differences = []; failed_close = false; no_sandbox = false; numbers = []; directories = [] }

abbrev warned : Warned
warned = record { differences = Way_out ∷ Unlisted_look ∷ []; failed_close = true; no_sandbox = false; numbers = 3 ∷ []; directories = 5 ∷ [] }

at_the_second : warned_from 4 (calm ∷ warned ∷ [])
    ≡ (codes "ways-out-of-a-directory", 5 ∷ []) ∷ (codes "what-a-right-does-beyond-its-calls", 5 ∷ []) ∷ (codes "a-close-that-fails", 5 ∷ [])
    ∷ (codes "more-calls-and-rights", 5 ∷ []) ∷ (codes "what-a-right-does-beyond-its-calls", 5 ∷ []) ∷ []
unfolding warned_there difference_part more_rights beyond_its_calls
at_the_second = refl

at_neither : warned_from 4 (calm ∷ calm ∷ []) ≡ []
unfolding warned_there
at_neither = refl

starts_with_all : warned_if_marked lonely 0 true (starts true) ≡ (codes "more-calls-and-rights", 0 ∷ []) ∷ []
unfolding warned_at_start more_rights
starts_with_all = refl

is_trusted : warned_if_marked lonely 0 false (starts true) ≡ []
is_trusted = refl

is_outside : warned_if_marked lonely 0 true (starts false) ≡ []
is_outside = refl
