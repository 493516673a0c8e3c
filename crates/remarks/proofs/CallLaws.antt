-- What is known of calls agrees with what the rules ask of them.
use Rattle.std.proofs.Common.{◌≡◌, ◌∙◌, refl, ap, ◌++◌, Bool, true, false}
use Rattle.std.specs.Prelude.{List, Option, Some, None, option_map}
use Rattle.rights.specs.Opens.{OpenRequest}
use Rattle.rights.specs.Operations.{Operation, Create, Write}
use Rattle.rights.specs.Uses.{operation_of_use}
use Rattle.instruction_set.specs.CallNeeds.{flags_in, further_of}
use Rattle.instruction_set.specs.Programs.{Operand, Syscall, called}
use Rattle.instruction_set.specs.Programs as programs
use Rattle.call_facts.specs.Arguments.{first_operand, second_operand}
use Rattle.call_facts.specs.Facts.{facts_of}
use Rattle.call_facts.specs.Facts as facts
use Rattle.call_facts.specs.Operations.{first_operations, only_if, opening, operation_alone}
use Rattle.rules.specs.Needs.{Passed, Through, listed_operation, needs, open_operations, operation_if}
use Rattle.rules.specs.Needs as rules

-- the operand through which a call goes first
pub first_agrees : (call : Syscall) → option_map (λ (t : Through). t.operand) (needs call).first ≡ first_operand call
first_agrees (programs.Open path flags) = refl
first_agrees (programs.Openat x path flags) = refl
first_agrees (programs.Read x) = refl
first_agrees (programs.Write x v) = refl
first_agrees (programs.Sendfd x y v) = refl
first_agrees (programs.Recvfd x) = refl
first_agrees (programs.Lseek x v) = refl
first_agrees (programs.Ftruncate x v) = refl
first_agrees (programs.Fsync x) = refl
first_agrees (programs.Fstat x) = refl
first_agrees (programs.Fcntl_getfl x) = refl
first_agrees (programs.Fcntl_setfl x v) = refl
first_agrees (programs.Fstatat x path) = refl
first_agrees (programs.Stat path) = refl
first_agrees (programs.Mkdirat x path) = refl
first_agrees (programs.Mkdir path) = refl
first_agrees (programs.Unlinkat x path directory) = refl
first_agrees (programs.Unlink path directory) = refl
first_agrees (programs.Renameat x from y to) = refl
first_agrees (programs.Dup x) = refl
first_agrees (programs.Close x) = refl
first_agrees (programs.Cap_rights_limit x rights) = refl
first_agrees (programs.Cap_fcntls_limit x commands) = refl
first_agrees programs.Cap_enter = refl
first_agrees programs.Cap_getmode = refl
first_agrees programs.Socketpair = refl
first_agrees programs.Fork = refl
first_agrees (programs.Use x right) = refl

-- the operations that it may do there; of a call that goes through none those of the facts
abbrev operations_through : Option Through → List Operation → List Operation
operations_through None others = others
operations_through (Some t) others = t.need.operations

same_if : (is : Bool) (operation : Operation) → operation_if is operation ≡ only_if is operation
same_if true operation = refl
same_if false operation = refl

same_opening : (f : OpenRequest) → open_operations f ≡ opening f
same_opening f = ap (λ (os : List Operation). os ++ operation_if f.trunc Write) (same_if f.create Create) ∙ ap (λ (os : List Operation). only_if f.create Create ++ os) (same_if f.trunc Write)

same_alone : (operation : Option Operation) → listed_operation operation ≡ operation_alone operation
same_alone None = refl
same_alone (Some operation) = refl

pub operations_agree : (call : Syscall) →
    operations_through (needs call).first (first_operations (called call) (flags_in call) (further_of call))
    ≡ first_operations (called call) (flags_in call) (further_of call)
operations_agree (programs.Open path flags) = refl
operations_agree (programs.Openat x path flags) = same_opening flags
operations_agree (programs.Read x) = refl
operations_agree (programs.Write x v) = refl
operations_agree (programs.Sendfd x y v) = refl
operations_agree (programs.Recvfd x) = refl
operations_agree (programs.Lseek x v) = refl
operations_agree (programs.Ftruncate x v) = refl
operations_agree (programs.Fsync x) = refl
operations_agree (programs.Fstat x) = refl
operations_agree (programs.Fcntl_getfl x) = refl
operations_agree (programs.Fcntl_setfl x v) = refl
operations_agree (programs.Fstatat x path) = refl
operations_agree (programs.Stat path) = refl
operations_agree (programs.Mkdirat x path) = refl
operations_agree (programs.Mkdir path) = refl
operations_agree (programs.Unlinkat x path directory) = refl
operations_agree (programs.Unlink path directory) = refl
operations_agree (programs.Renameat x from y to) = refl
operations_agree (programs.Dup x) = refl
operations_agree (programs.Close x) = refl
operations_agree (programs.Cap_rights_limit x rights) = refl
operations_agree (programs.Cap_fcntls_limit x commands) = refl
operations_agree programs.Cap_enter = refl
operations_agree programs.Cap_getmode = refl
operations_agree programs.Socketpair = refl
operations_agree programs.Fork = refl
operations_agree (programs.Use x right) = same_alone (operation_of_use right)

-- the operand of the descriptor that it sends
abbrev sent_of : Passed → Option Operand
sent_of rules.Nothing = None
sent_of (rules.Sent y) = Some y
sent_of rules.Received = None

abbrev sent_through : Option Through → Option Operand
sent_through None = None
sent_through (Some t) = sent_of t.need.passed

abbrev if_sent : facts.Passed → Option Operand → Option Operand
if_sent facts.None_passed second = None
if_sent facts.Byte_in second = None
if_sent facts.Byte_out second = None
if_sent facts.Descriptor_in second = None
if_sent facts.Descriptor_out second = second

pub sent_agrees : (call : Syscall) → sent_through (needs call).first ≡ if_sent (facts_of (called call)).passed (second_operand call)
sent_agrees (programs.Open path flags) = refl
sent_agrees (programs.Openat x path flags) = refl
sent_agrees (programs.Read x) = refl
sent_agrees (programs.Write x v) = refl
sent_agrees (programs.Sendfd x y v) = refl
sent_agrees (programs.Recvfd x) = refl
sent_agrees (programs.Lseek x v) = refl
sent_agrees (programs.Ftruncate x v) = refl
sent_agrees (programs.Fsync x) = refl
sent_agrees (programs.Fstat x) = refl
sent_agrees (programs.Fcntl_getfl x) = refl
sent_agrees (programs.Fcntl_setfl x v) = refl
sent_agrees (programs.Fstatat x path) = refl
sent_agrees (programs.Stat path) = refl
sent_agrees (programs.Mkdirat x path) = refl
sent_agrees (programs.Mkdir path) = refl
sent_agrees (programs.Unlinkat x path directory) = refl
sent_agrees (programs.Unlink path directory) = refl
sent_agrees (programs.Renameat x from y to) = refl
sent_agrees (programs.Dup x) = refl
sent_agrees (programs.Close x) = refl
sent_agrees (programs.Cap_rights_limit x rights) = refl
sent_agrees (programs.Cap_fcntls_limit x commands) = refl
sent_agrees programs.Cap_enter = refl
sent_agrees programs.Cap_getmode = refl
sent_agrees programs.Socketpair = refl
sent_agrees programs.Fork = refl
sent_agrees (programs.Use x right) = refl
