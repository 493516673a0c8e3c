-- What a recorded call and a call of a task come to. (own)
use Rattle.std.specs.Prelude.{◌==◌, ◌&&◌, ◌||◌, not, ℕ, zero, suc, Bool, true, false, List, [], ◌∷◌, Option, Some, None, is_none, option_map, if◌then◌else◌}
use Rattle.std.specs.Bool.{beq}
use Rattle.std.specs.List.{slice_get}
use Rattle.std.specs.Option.{option_and_then}
use Rattle.rights.specs.Calls.{Call}
use Rattle.call_facts.specs.Arguments.{first_operand}
use Rattle.call_facts.specs.Facts.{Answer, Byte, Process, TableChange, Unchanged, Opened, Inherited, Copied, Received, Pair, Child, Freed, Limited}
use Rattle.call_facts.specs.Facts.{Passed, None_passed, Byte_in, Byte_out, Descriptor_in, Descriptor_out, facts_of, is_of_mode}
use Rattle.rights.specs.Errors.{errno_number}
use Rattle.rights.specs.Values.{DescriptorNumber, ProcessNumber}
use Rattle.process.specs.State.{ProcessState}
use Rattle.instruction_set.specs.Programs.{Syscall, called}
use Rattle.kernel.specs.Answers.{operand_value}
use Rattle.kernel.specs.Steps.{LineResult, No_call, Halted, Value, Failed, Waiting, Walks_on, Ended, Programs, register}
use Rattle.kernel.specs.Walks.{call_in}
use Rattle.simulator.specs.Lines.{ShownStep}
use Rattle.records.specs.Calls.{RealOperand, Number, RecordedOutcome, Succeeds, Fails, Binding, Is_place, Is_end, MadeCall}
use Rattle.follow.specs.Numbers.{FdMapping, ProcessPair, child_mappings, is_number, model_of, named, mapping}

-- A process of the task before a step: its registers, and the call at its point.
pub record Before : Type 0 where
  pub registers : List ℕ
  pub call : Option Syscall

abbrev pub before_at : Programs → ProcessState → Before
before_at programs s = record { registers = s.registers; call = call_in (slice_get (programs s.program) s.point) }

-- What is seen of its step: that, what the step comes to, and what is in register 1 afterwards, which is the second number of a pair.
pub record Seen : Type 0 where
  pub registers : List ℕ
  pub call : Option Syscall
  pub outcome : LineResult
  pub second : ℕ

abbrev pub second_in : Option ProcessState → ℕ
second_in None = 0
second_in (Some s) = register s 1

abbrev pub seen_by : Option Before → Option ShownStep → ℕ → Option Seen
seen_by (Some before) (Some shown) second = Some (record { registers = before.registers; call = before.call; outcome = shown.outcome; second = second })
seen_by _ _ second = None

-- It is seen if the process was made.
abbrev pub seen_at : Programs → Option ProcessState → Option ShownStep → Option ProcessState → Option Seen
seen_at programs process shown after = seen_by (option_map (before_at programs) process) shown (second_in after)

-- ## Outcomes
-- Both reads are at an end, or neither; a child stands for the other; of other numbers nothing is asked.
abbrev pub same_answer : List ProcessPair → Answer → ℕ → ℕ → Bool
same_answer pairs Byte n m = beq (n == 0) (m == 256)
same_answer pairs Process n m = is_number (model_of pairs n) m
same_answer pairs _ n m = true

abbrev pub same_outcome : List ProcessPair → Call → RecordedOutcome → LineResult → Bool
same_outcome pairs call (Succeeds n) (Value m) = same_answer pairs (facts_of call).answer n m
same_outcome pairs call (Fails errno) (Failed other cause) = errno_number errno == errno_number other
same_outcome pairs call _ _ = false

-- ## Numbers that a success makes or frees
-- the number of the end b of a pair
abbrev pub second_end : List Binding → Option ℕ
second_end [] = None
second_end (Is_place descriptor place ∷ bindings) = second_end bindings
second_end (Is_end descriptor pair side ∷ bindings) = if side == 1 then Some descriptor else second_end bindings

abbrev pub if_there : ProcessNumber → Option ℕ → DescriptorNumber → List FdMapping
if_there p None model = []
if_there p (Some real) model = mapping p real (Some model) ∷ []

abbrev pub freed : ProcessNumber → List RealOperand → List FdMapping
freed p (Number real ∷ operands) = mapping p real None ∷ []
freed p _ = []

-- A success of process p, with these numbers in the record and in the task, where the second number of a pair is this one.
abbrev pub mappings_by : List FdMapping → ProcessNumber → MadeCall → TableChange → ℕ → ℕ → ℕ → List FdMapping
mappings_by mappings p made Opened n m second = mapping p n (Some m) ∷ []
mappings_by mappings p made Inherited n m second = mapping p n (Some m) ∷ []
mappings_by mappings p made Copied n m second = mapping p n (Some m) ∷ []
mappings_by mappings p made Received n m second = mapping p n (Some m) ∷ []
mappings_by mappings p made Pair n m second = mapping p n (Some m) ∷ if_there p (second_end made.bindings) second
mappings_by mappings p made Freed n m second = freed p made.operands
mappings_by mappings p made Child n m second = child_mappings mappings p m
mappings_by mappings p made Limited n m second = []
mappings_by mappings p made Unchanged n m second = []

abbrev pub mappings_of : List FdMapping → ProcessNumber → MadeCall → RecordedOutcome → LineResult → ℕ → List FdMapping
mappings_of mappings p made (Succeeds n) (Value m) second = mappings_by mappings p made (facts_of made.call).table n m second
mappings_of mappings p made _ _ second = []

-- ## Repeats
-- a read or a write through a descriptor
pub data Transfer : Type 0 where
  Reads : (descriptor : DescriptorNumber) → Transfer
  Writes : (descriptor : DescriptorNumber) → Transfer

abbrev pub transfer_through : Passed → DescriptorNumber → Option Transfer
transfer_through Byte_in n = Some (Reads n)
transfer_through Byte_out n = Some (Writes n)
transfer_through Descriptor_in n = None
transfer_through Descriptor_out n = None
transfer_through None_passed n = None

abbrev pub transfer_by : List ℕ → Syscall → Option Transfer
transfer_by registers call = option_and_then (λ x. transfer_through (facts_of (called call)).passed (operand_value registers x)) (first_operand call)

-- what was transferred in a step, if it succeeded
abbrev pub transfer_in : List ℕ → Option Syscall → LineResult → Option Transfer
transfer_in registers (Some call) (Value m) = transfer_by registers call
transfer_in registers _ _ = None

abbrev pub same_transfer : Transfer → Transfer → Bool
same_transfer (Reads n) (Reads m) = n == m
same_transfer (Writes n) (Writes m) = n == m
same_transfer _ _ = false

-- a call of the record that was shown by a process of the task
pub record Past : Type 0 where
  pub process : ProcessNumber
  pub transfer : Option Transfer

-- a call that is no transfer ends what may be repeated
abbrev pub repeatable : Transfer → Bool → Option Transfer → Bool
repeatable t before None = false
repeatable t before (Some shown) = before || same_transfer shown t

-- whether it was shown of this process since the last such call
abbrev pub repeats_from : Bool → List Past → ProcessNumber → Transfer → Bool
repeats_from before [] p t = before
repeats_from before (past ∷ history) p t = repeats_from (if past.process == p then repeatable t before past.transfer else before) history p t

abbrev pub is_repeat : List Past → ProcessNumber → Option Transfer → Bool
is_repeat history p None = false
is_repeat history p (Some t) = repeats_from false history p t

-- ## Steps that show nothing
abbrev pub is_call_of_mode : Option Syscall → Bool
is_call_of_mode None = false
is_call_of_mode (Some call) = is_of_mode (called call)

-- A call of capability mode, where the record has none, or a repeat.
abbrev pub is_silent_call : Bool → List Past → ProcessNumber → Seen → Bool
is_silent_call limited history p seen =
    not limited && is_call_of_mode seen.call || is_repeat history p (transfer_in seen.registers seen.call seen.outcome)

-- A call that waits, or has names left to look up, has not come back.
abbrev pub is_silent_by : LineResult → Bool → Bool
is_silent_by No_call rest = true
is_silent_by Waiting rest = true
is_silent_by Walks_on rest = true
is_silent_by Ended rest = true
is_silent_by Halted rest = false
is_silent_by _ rest = rest

abbrev pub is_silent : Bool → List Past → ProcessNumber → Seen → Bool
is_silent limited history p seen = is_silent_by seen.outcome (is_silent_call limited history p seen)

-- ## Calls that may be skipped
-- whether nothing stands for one of so many numbers
abbrev pub any_unnamed : List FdMapping → ProcessNumber → ℕ → List RealOperand → Bool
any_unnamed mappings p zero operands = false
any_unnamed mappings p (suc count) [] = false
any_unnamed mappings p (suc count) (Number n ∷ operands) = is_none (named mappings p n) || any_unnamed mappings p count operands
any_unnamed mappings p (suc count) (_ ∷ operands) = any_unnamed mappings p (suc count) operands

-- a number that a skipped call has made stands for nothing
abbrev pub lost_by : ProcessNumber → TableChange → ℕ → List FdMapping
lost_by p Opened n = mapping p n None ∷ []
lost_by p Inherited n = mapping p n None ∷ []
lost_by p Copied n = mapping p n None ∷ []
lost_by p Received n = mapping p n None ∷ []
lost_by p Pair n = []
lost_by p Freed n = []
lost_by p Child n = []
lost_by p Limited n = []
lost_by p Unchanged n = []

abbrev pub lost : ProcessNumber → MadeCall → RecordedOutcome → List FdMapping
lost p made (Succeeds n) = lost_by p (facts_of made.call).table n
lost p made (Fails errno) = []
