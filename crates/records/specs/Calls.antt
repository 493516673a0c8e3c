-- What is kept of a recorded run: an entry for each call, in the order in which the calls end. (own)
use Rattle.std.specs.Prelude.{◌==◌, ◌^◌, ◌&&◌, if◌then◌else◌, ℕ, Bool, true, false, map, nat_le, nat_lt, List, [], ◌∷◌, Option, Some, None}
use Rattle.std.specs.List.{list_all}
use Rattle.rights.specs.Calls.{Call}
use Rattle.call_facts.specs.Facts.{Role, Descriptor, Amount, Status, Choice, facts_of}
use Rattle.call_facts.specs.Facts as role
use Rattle.rights.specs.Errors.{Errno}
use Rattle.rights.specs.Opens.{OpenRequest, is_valid}
use Rattle.rights.specs.Values.{CommandSet, PathText, RightSet, SideNumber}
use Rattle.texts.specs.Bytes.{is_digit, is_lower, is_upper, underscore}
use Rattle.std.specs.Prelude.{◌||◌}

-- The lines of the record in which a call begins and ends, counted from 1.
pub record RecordSpan : Type 0 where
  pub first : ℕ
  pub last : ℕ

-- What a call was given: a number (a descriptor, a byte, a length), a path of any bytes, how a file is opened, the rights or the
-- commands that a limit leaves, or whether a directory is what is removed.
pub data RealOperand : Type 0 where
  Number : (number : ℕ) → RealOperand
  Path : (path : PathText) → RealOperand
  Flags : (flags : OpenRequest) → RealOperand
  Rights : (rights : RightSet) → RealOperand
  Commands : (commands : CommandSet) → RealOperand
  Directory : (asked : Bool) → RealOperand

-- the kind of an operand
pub data OperandKind : Type 0 where
  A_number : OperandKind
  A_path : OperandKind
  Open_flags : OperandKind
  A_right_set : OperandKind
  A_command_set : OperandKind
  A_choice : OperandKind

-- the kind of an operand that is for this
abbrev pub kind_of : Role → OperandKind
kind_of Descriptor = A_number
kind_of role.Path = A_path
kind_of role.Flags = Open_flags
kind_of role.Rights = A_right_set
kind_of role.Commands = A_command_set
kind_of Amount = A_number
kind_of Status = A_number
kind_of Choice = A_choice

-- what each call is given
abbrev pub operand_kinds : Call → List OperandKind
operand_kinds call = map kind_of (facts_of call).roles

-- what a call came to: success with a number, or an error
pub data RecordedOutcome : Type 0 where
  Succeeds : (answer : ℕ) → RecordedOutcome
  Fails : (error : Errno) → RecordedOutcome

-- What a descriptor is: of the node at a place, as the record's bytes tell it, or an end of a pair of sockets.
pub data Binding : Type 0 where
  Is_place : (descriptor : ℕ) (place : PathText) → Binding
  Is_end : (descriptor pair : ℕ) (side : SideNumber) → Binding

-- an end of a pair of sockets
pub record RecordedEnd : Type 0 where
  pub pair : ℕ
  pub side : SideNumber

-- the end that the descriptor of a number is of: what the first binding says that is of it and of an end
abbrev pub end_bound : ℕ → List Binding → Option RecordedEnd
end_bound n [] = None
end_bound n (Is_place descriptor place ∷ bindings) = end_bound n bindings
end_bound n (Is_end descriptor pair side ∷ bindings) = if descriptor == n then Some (record { pair = pair; side = side }) else end_bound n bindings

-- A call with its operands, what it came to, what the descriptors that it names or makes are, and how many bytes went through.
pub record MadeCall : Type 0 where
  pub call : Call
  pub operands : List RealOperand
  pub outcome : RecordedOutcome
  pub bindings : List Binding
  pub bytes : Option ℕ

-- Why a call is left out: it is the loader's; it has nothing to do with files or descriptors; it works on a global name
-- space, or by a right, that has no call here; what became of it has no counterpart here; or its name isn't known.
pub data Reason : Type 0 where
  Loader : Reason
  Quiet : Reason
  Global : Reason
  Right : Reason
  Unknown : Reason
  Name : Reason

-- a right that FreeBSD would want of a descriptor, by its name
pub record WantedRight : Type 0 where
  pub right : List ℕ
  pub descriptor : ℕ

-- a call that is left out, by its name in the record
pub record LeftOut : Type 0 where
  pub reason : Reason
  pub name : List ℕ
  pub wanted : Option WantedRight

-- what happened: a call, the end of a process, or what is left out
pub data RecordedEvent : Type 0 where
  Called : (made : MadeCall) → RecordedEvent
  Ended : RecordedEvent
  Omitted : (left_out : LeftOut) → RecordedEvent

-- an event is a call or an end, and isn't left out
abbrev pub is_counted : RecordedEvent → Bool
is_counted (Omitted left_out) = false
is_counted event = true

pub record RecordEntry : Type 0 where
  pub span : RecordSpan
  pub process : ℕ
  pub event : RecordedEvent

abbrev pub RecordedCalls : Type 0
RecordedCalls = List RecordEntry

-- LIMITS

-- numbers are below 2 ^ 32, and bytes below 256
abbrev pub is_real_number : ℕ → Bool
is_real_number n = nat_lt n (2 ^ 32)

abbrev pub is_text : List ℕ → Bool
is_text text = list_all (λ byte. nat_lt byte 256) text

-- a name has a byte at least, and has letters, digits and `_`
abbrev pub is_call_name_byte : ℕ → Bool
is_call_name_byte byte = is_lower byte || is_upper byte || is_digit byte || (byte == underscore)

abbrev pub is_call_name : List ℕ → Bool
is_call_name [] = false
is_call_name (b ∷ word) = is_call_name_byte b && list_all is_call_name_byte word

abbrev pub is_span : RecordSpan → Bool
is_span span = is_real_number span.first && is_real_number span.last && nat_le span.first span.last

abbrev pub is_real_operand : RealOperand → Bool
is_real_operand (Number number) = is_real_number number
is_real_operand (Path path) = is_text path
is_real_operand (Flags flags) = is_valid flags
is_real_operand (Rights rights) = nat_lt rights (2 ^ 46)
is_real_operand (Commands commands) = nat_lt commands (2 ^ 2)
is_real_operand (Directory asked) = true

abbrev pub is_outcome : RecordedOutcome → Bool
is_outcome (Succeeds answer) = is_real_number answer
is_outcome (Fails error) = true

abbrev pub is_binding : Binding → Bool
is_binding (Is_place descriptor place) = is_real_number descriptor && is_text place
is_binding (Is_end descriptor pair side) = is_real_number descriptor && is_real_number pair && nat_lt side 2

abbrev pub is_amount : Option ℕ → Bool
is_amount None = true
is_amount (Some n) = is_real_number n

-- operands are of the kinds that the call is given, one for one
abbrev pub is_of_kind : OperandKind → RealOperand → Bool
is_of_kind A_number (Number number) = true
is_of_kind A_path (Path path) = true
is_of_kind Open_flags (Flags flags) = true
is_of_kind A_right_set (Rights rights) = true
is_of_kind A_command_set (Commands commands) = true
is_of_kind A_choice (Directory asked) = true
is_of_kind _ _ = false

abbrev pub are_of_kinds : List OperandKind → List RealOperand → Bool
are_of_kinds [] [] = true
are_of_kinds [] (operand ∷ operands) = false
are_of_kinds (kind ∷ kinds) [] = false
are_of_kinds (kind ∷ kinds) (operand ∷ operands) = is_of_kind kind operand && is_real_operand operand && are_of_kinds kinds operands

abbrev pub is_made : MadeCall → Bool
is_made made =
    are_of_kinds (operand_kinds made.call) made.operands && is_outcome made.outcome && list_all is_binding made.bindings
    && is_amount made.bytes

abbrev pub is_wanted : Option WantedRight → Bool
is_wanted None = true
is_wanted (Some wanted) = is_call_name wanted.right && is_real_number wanted.descriptor

abbrev pub is_event : RecordedEvent → Bool
is_event (Called made) = is_made made
is_event Ended = true
is_event (Omitted left_out) = is_call_name left_out.name && is_wanted left_out.wanted

abbrev pub is_entry : RecordEntry → Bool
is_entry entry = is_span entry.span && is_real_number entry.process && is_event entry.event

abbrev pub are_calls : RecordedCalls → Bool
are_calls calls = list_all is_entry calls
