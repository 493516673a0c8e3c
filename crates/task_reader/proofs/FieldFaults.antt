-- A field that isn't read makes its table one that isn't.
use Rattle.std.proofs.Common.{◌≡◌, List, ℕ, Option, Some, None, Err, ℤ, Bool, true, false, cond, string_bytes, codes, refl, ap, ◌∙◌}
use Rattle.rights.specs.Sets.{all_rights, all_commands, command_names}
use Rattle.toml.specs.Data.{Members, get_member}
use Rattle.task_reader.specs.Documents.{integer_at, only_keys, read_or}
use Rattle.task_reader.specs.Written.{access_in, asks_further, descriptor_in, descriptor_with, object_written, path_written}
use Rattle.task_reader.specs.Written.{path_keys, path_with, reading, rights_listed, set_in, WrittenObject, WrittenNode}
use Rattle.task_reader.specs.Written.{WrittenGrant, WrittenProgram, WrittenStart, task_in, task_keys, task_with, written_nodes, written_grants, written_programs, written_starts, written_task}
use Rattle.std.specs.Prelude.{option_and_then}
use Rattle.instruction_set.specs.Assembly.{Fault}
use Rattle.task_reader.specs.declared.faults.TaskFault.{TaskFault}
use Rattle.task_reader.specs.declared.faults.TaskFault.TheVariants as code
use Rattle.task_reader.specs.Reading.{Mistake, Wrong_field, or_mistake}
use Rattle.task_reader.specs.FaultViews.{FaultIs, IsProgramFault, text_fault}

none_from : {X : Type 0} (m : Mistake) (x : Option X) → or_mistake m x ≡ Err m → x ≡ None
none_from m None is = refl
none_from m (Some x) is = absurd cc

no_other : {X : Type 0} {Y : Type 0} (m n : Mistake) (x : Option X) (y : Option Y) → (m ≡ n → ⊥) → or_mistake m x ≡ Err n → or_mistake m y ≡ Err n
no_other m n None y differs is = absurd (differs cc)
no_other m n (Some x) y differs is = absurd cc

no_program : {X : Type 0} {Y : Type 0} (name : List ℕ) (w : Option Fault) (x : Option X) (y : Option Y) →
    IsProgramFault name w (or_mistake Wrong_field x) → IsProgramFault name w (or_mistake Wrong_field y)
no_program name None x y is = is
no_program name (Some w) x y is = no_other Wrong_field _ x y (λ same. absurd cc) is

pub field-fault : {X : Type 0} {Y : Type 0} (e : TaskFault) (x : Option X) (y : Option Y) → (x ≡ None → y ≡ None) → FaultIs e (or_mistake Wrong_field x) → FaultIs e (or_mistake Wrong_field y)
field-fault code.NotToml x y none is = no_other Wrong_field _ x y (λ same. absurd cc) is
field-fault code.Field x y none is = rw (none (none_from Wrong_field x is)) refl
field-fault code.Node x y none is = no_other Wrong_field _ x y (λ same. absurd cc) is
field-fault code.Grant x y none is = no_other Wrong_field _ x y (λ same. absurd cc) is
field-fault code.Descriptor x y none is = no_other Wrong_field _ x y (λ same. absurd cc) is
field-fault (code.Asm program why) x y none is = no_program (string_bytes program) (text_fault why) x y is
field-fault code.Limit x y none is = no_other Wrong_field _ x y (λ same. absurd cc) is
field-fault code.Memory x y none is = is

-- A node at a path needs its flags, and a descriptor its object, its rights and its commands.
no_access : (path : Option (List ℕ)) → path_with path None ≡ None
no_access None = refl
no_access (Some p) = refl

no_object : (number : Option ℤ) (rights fcntls : Option ℕ) → descriptor_with number None rights fcntls ≡ None
no_object None rights fcntls = refl
no_object (Some n) rights fcntls = refl

no_rights : (number : Option ℤ) (object : Option WrittenObject) (fcntls : Option ℕ) → descriptor_with number object None fcntls ≡ None
no_rights None object fcntls = refl
no_rights (Some n) None fcntls = refl
no_rights (Some n) (Some o) fcntls = refl

no_fcntls : (number : Option ℤ) (object : Option WrittenObject) (rights : Option ℕ) → descriptor_with number object rights None ≡ None
no_fcntls None object rights = refl
no_fcntls (Some n) None rights = refl
no_fcntls (Some n) (Some o) None = refl
no_fcntls (Some n) (Some o) (Some r) = refl

none_if : {A : Type 0} (b : Bool) (x : Option A) → x ≡ None → cond b x None ≡ None
none_if true x none = none
none_if false x none = refl

pub without-flags : (ms : Members) → read_or reading access_in (get_member (codes "flags") ms) ≡ None → path_written ms ≡ None
without-flags ms none = none_if (only_keys path_keys ms) _ (rw none (no_access _))

pub without-object : (wide : Bool) (ms : Members) → object_written ms ≡ None → descriptor_in wide ms ≡ None
without-object wide ms none = rw none (no_object _ _ _)

pub without-rights : (wide : Bool) (ms : Members) → read_or all_rights (rights_listed wide) (get_member (codes "rights") ms) ≡ None → descriptor_in wide ms ≡ None
without-rights wide ms none = rw none (no_rights _ _ _)

pub without-fcntls : (wide : Bool) (ms : Members) → read_or all_commands (set_in command_names) (get_member (codes "fcntls") ms) ≡ None → descriptor_in wide ms ≡ None
without-fcntls wide ms none = rw none (no_fcntls _ _ _)

pub all-fields : (wide : Bool) (ms : Members) (number : ℤ) (object : WrittenObject) (rights fcntls : ℕ) → integer_at (codes "number") ms ≡ Some number
    → object_written ms ≡ Some object → read_or all_rights (rights_listed wide) (get_member (codes "rights") ms) ≡ Some rights
    → read_or all_commands (set_in command_names) (get_member (codes "fcntls") ms) ≡ Some fcntls
    → descriptor_in wide ms ≡ Some (record { number = number; object = object; rights = rights; fcntls = fcntls })
all-fields wide ms number object rights fcntls n o r f = rw (n, o, r, f) refl

-- A task needs all its parts.
no_starts : (wide : Bool) (nodes : Option (List WrittenNode)) (grants : Option (List WrittenGrant)) (programs : Option (List WrittenProgram)) →
    task_with wide nodes grants programs None ≡ None
no_starts wide None grants programs = refl
no_starts wide (Some n) None programs = refl
no_starts wide (Some n) (Some g) None = refl
no_starts wide (Some n) (Some g) (Some p) = refl

pub without-starts : (ms : Members) (wide : Bool) (programs : List WrittenProgram) → asks_further ms ≡ Some wide → written_programs ms ≡ Some programs
    → written_starts wide ms programs ≡ None → written_task ms ≡ None
unfolding written_task
without-starts ms wide programs asks is none =
    let gone : option_and_then (written_starts wide ms) (written_programs ms) ≡ None = ap (option_and_then (written_starts wide ms)) is ∙ none in
    none_if (only_keys task_keys ms) _
    (ap (option_and_then (task_in ms)) asks
    ∙ ap (task_with wide (written_nodes ms) (written_grants ms) (written_programs ms)) gone ∙ no_starts wide (written_nodes ms) (written_grants ms) (written_programs ms))

pub all-parts :
    (ms : Members) (wide : Bool) (nodes : List WrittenNode) (grants : List WrittenGrant) (programs : List WrittenProgram) (starts : List WrittenStart)
    → only_keys task_keys ms ≡ true → asks_further ms ≡ Some wide → written_nodes ms ≡ Some nodes → written_grants ms ≡ Some grants
    → written_programs ms ≡ Some programs → written_starts wide ms programs ≡ Some starts
    → written_task ms ≡ Some (record { nodes = nodes; grants = grants; programs = programs; starts = starts; wide = wide })
unfolding written_task
all-parts ms wide nodes grants programs starts keys asks n g p s =
    let there : option_and_then (written_starts wide ms) (written_programs ms) ≡ Some starts = ap (option_and_then (written_starts wide ms)) p ∙ s in
    ap (λ b. cond b (option_and_then (task_in ms) (asks_further ms)) None) keys
    ∙ ap (option_and_then (task_in ms)) asks
    ∙ ap (λ x. task_with wide x (written_grants ms) (written_programs ms) (option_and_then (written_starts wide ms) (written_programs ms))) n
    ∙ ap (λ x. task_with wide (Some nodes) x (written_programs ms) (option_and_then (written_starts wide ms) (written_programs ms))) g
    ∙ ap (λ x. task_with wide (Some nodes) (Some grants) (written_programs ms) x) there
    ∙ ap (λ x. task_with wide (Some nodes) (Some grants) x (Some starts)) p
