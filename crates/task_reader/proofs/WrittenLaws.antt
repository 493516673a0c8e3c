-- What a written task keeps.
use Rattle.std.proofs.Common.{◌≡◌, ℕ, zero, suc, ◌+◌, ◌<◌, List, [], ◌∷◌, Option, Some, None, option_map, Bool, true, false, cond, length, refl, ap, sym, subst, ◌∙◌, arith, codes, bit_or, ℤ}
use Rattle.std.specs.Prelude.{◌==◌, ◌&&◌, ◌||◌, nat_le, nat_lt, option_and_then}
use Rattle.std.specs.List.{list_all}
use Rattle.std.specs.Str.{bytes_eq}
use Rattle.std.specs.Cmp.Derive.{both_true}
use Rattle.std.proofs.lemmas.List.{length-map}
use Rattle.std.proofs.lemmas.Bool.{lt-ltb, le-leb}
use Rattle.rights.specs.Sets.{is_within, all_rights, all_commands, plain_rights, right_names, command_names}
use Rattle.rights.specs.Operations.{Operation}
use Rattle.rights.proofs.Subsets.{is_within-or}
use Rattle.rights.proofs.Tests.{both_left, both_right}
use Rattle.fd_table.specs.Descriptions.{Access}
use Rattle.texts.specs.Names.{is_name}
use Rattle.instruction_set.specs.Fields.{rights_in, set_of_word}
use Rattle.toml.specs.Data.{Data, Items, no_items, item, Members, get_member, as_table}
use Rattle.task_reader.specs.Documents.{are_once, each_item, words_in, read_or, only_keys, text_at, integer_at, items_at}
use Rattle.task_reader.specs.Written.{WrittenNode, WrittenGrant, WrittenProgram, WrittenObject, By_path, By_pair, WrittenDescriptor, WrittenStart, WrittenTask, grant_in}
use Rattle.task_reader.specs.Written.{asks_further, grant_with, grants_once, descriptor_in, descriptor_with, listed_starts, name_at, names_of_grants, names_of_programs, object_by, pair_keys}
use Rattle.task_reader.specs.Written.{pair_with, path_keys, path_with, place_among, place_from, program_in, program_with, programs_once, rights_listed, set_from, set_in, set_named, side_at}
use Rattle.task_reader.specs.Written.{side_named, some_start, start_in, start_with, task_in, task_keys, task_with, word_if, written_descriptor, written_grant, written_program, written_programs}
use Rattle.task_reader.specs.Written.{written_start, written_starts, written_task}

pub some-equal : {A : Type 0} (x y : A) → Some x ≡ Some y → x ≡ y
some-equal x y is = cc

pub and_then-some : {A : Type 0} {B : Type 0} (f : A → Option B) (o : Option A) (y : B) → option_and_then f o ≡ Some y → (x : A) × (o ≡ Some x) × (f x ≡ Some y)
and_then-some f None y is = absurd cc
and_then-some f (Some x) y is = (x, refl, is)

pub map-some : {A : Type 0} {B : Type 0} (f : A → B) (o : Option A) (y : B) → option_map f o ≡ Some y → (x : A) × (o ≡ Some x) × (f x ≡ y)
map-some f None y is = absurd cc
map-some f (Some x) y is = (x, refl, cc)

pub if-some : {A : Type 0} (b : Bool) (o : Option A) (y : A) → cond b o None ≡ Some y → (b ≡ true) × (o ≡ Some y)
if-some true o y is = (refl, is)
if-some false o y is = absurd cc

-- What holds of each item that is read holds of the list.
pub each-passes : {A : Type 0} (read : Data → Option A) (test : A → Bool) → ((d : Data) (x : A) → read d ≡ Some x → test x ≡ true) →
    (items : Items) (xs : List A) → each_item read items ≡ Some xs → list_all test xs ≡ true
each-passes read test passes no_items xs is = let none : [] ≡ xs = cc in subst (λ ys. list_all test ys ≡ true) none refl
each-passes read test passes (item d ds) xs is =
    let p = and_then-some (λ x. option_map (λ rest. x ∷ rest) (each_item read ds)) (read d) xs is in
    let q = map-some (λ rest. p.0 ∷ rest) (each_item read ds) xs p.2 in
    subst (λ ys. list_all test ys ≡ true) q.2 (both_true (passes d p.0 p.1) (each-passes read test passes ds q.0 q.1))

-- names
word-is : (name word : List ℕ) → word_if name ≡ Some word → is_name word ≡ true
word-is name word is =
    let p = if-some (is_name name) (Some name) word is in
    let same : name ≡ word = cc in
    subst (λ w. is_name w ≡ true) same p.0

name-is : (key : List ℕ) (ms : Members) (word : List ℕ) → name_at key ms ≡ Some word → is_name word ≡ true
name-is key ms word is = let p = and_then-some word_if (text_at key ms) word is in word-is p.0 word p.2

abbrev pub is_named_grant : WrittenGrant → Bool
is_named_grant g = is_name g.name

abbrev pub is_named_program : WrittenProgram → Bool
is_named_program p = is_name p.name

grant-parts : (name path : Option (List ℕ)) (operations : Option (List Operation)) (g : WrittenGrant) → grant_with name path operations ≡ Some g → name ≡ Some g.name
grant-parts None path operations g is = absurd cc
grant-parts (Some n) None operations g is = absurd cc
grant-parts (Some n) (Some p) None g is = absurd cc
grant-parts (Some n) (Some p) (Some o) g is = let same : record { name = n; path = p; operations = o } ≡ g = cc in ap (λ (x : WrittenGrant). Some x.name) same

grant-named : (d : Data) (g : WrittenGrant) → written_grant d ≡ Some g → is_named_grant g ≡ true
grant-named d g is =
    let p = and_then-some grant_in (as_table d) g is in
    let q = if-some (only_keys (codes "name" ∷ codes "path" ∷ codes "ops" ∷ []) p.0) _ g p.2 in
    name-is (codes "name") p.0 g.name (grant-parts _ _ _ g q.1)

program-parts : (name text : Option (List ℕ)) (marked : Option Bool) (p : WrittenProgram) → program_with name text marked ≡ Some p → name ≡ Some p.name
program-parts None text marked p is = absurd cc
program-parts (Some n) None marked p is = absurd cc
program-parts (Some n) (Some t) None p is = absurd cc
program-parts (Some n) (Some t) (Some m) p is = let same : record { name = n; text = t; marked = m } ≡ p = cc in ap (λ (x : WrittenProgram). Some x.name) same

program-named : (d : Data) (p : WrittenProgram) → written_program d ≡ Some p → is_named_program p ≡ true
program-named d x is =
    let p = and_then-some program_in (as_table d) x is in
    let q = if-some (only_keys (codes "name" ∷ codes "code" ∷ codes "untrusted" ∷ []) p.0) _ x p.2 in
    name-is (codes "name") p.0 x.name (program-parts _ _ _ x q.1)

-- sets
abbrev holds_row : ℕ → (List ℕ × ℕ) → Bool
holds_row all row = is_within row.1 all

named-first : (all : ℕ) (row : List ℕ × ℕ) (other : Option ℕ) (set : ℕ) (b : Bool) → is_within row.1 all ≡ true →
    (other ≡ Some set → is_within set all ≡ true) → cond b (Some row.1) other ≡ Some set → is_within set all ≡ true
named-first all row other set true first behind is = subst (λ s. is_within s all ≡ true) (some-equal row.1 set is) first
named-first all row other set false first behind is = behind is

named-within : (all : ℕ) (rows : List (List ℕ × ℕ)) (word : List ℕ) (set : ℕ) → list_all (holds_row all) rows ≡ true → set_of_word rows word ≡ Some set → is_within set all ≡ true
named-within all [] word set rows is = absurd cc
named-within all (row ∷ rest) word set rows is =
    named-first all row (set_of_word rest word) set (bytes_eq word row.0) (both_left (holds_row all row) (list_all (holds_row all) rest) rows)
    (named-within all rest word set (both_right (holds_row all row) (list_all (holds_row all) rest) rows)) is

set-within : (all : ℕ) (rows : List (List ℕ × ℕ)) (words : List (List ℕ)) (so_far set : ℕ) → list_all (holds_row all) rows ≡ true →
    is_within so_far all ≡ true → set_from rows so_far words ≡ Some set → is_within set all ≡ true
set-within all rows [] so_far set held so is = let same : so_far ≡ set = cc in subst (λ s. is_within s all ≡ true) same so
set-within all rows (word ∷ words) so_far set held so is =
    let p = and_then-some (λ more. set_from rows (bit_or so_far more) words) (set_of_word rows word) set is in
    set-within all rows words (bit_or so_far p.0) set held (is_within-or so_far p.0 all so (named-within all rows word p.0 held p.1)) p.2

read-within : (all : ℕ) (rows : List (List ℕ × ℕ)) (d : Option Data) (set : ℕ) → list_all (holds_row all) rows ≡ true → is_within all all ≡ true →
    is_within 0 all ≡ true → read_or all (set_in rows) d ≡ Some set → is_within set all ≡ true
read-within all rows None set held whole none is = let same : all ≡ set = cc in subst (λ s. is_within s all ≡ true) same whole
read-within all rows (Some d) set held whole none is =
    let p = and_then-some (set_named rows) (words_in d) set is in
    set-within all rows p.0 0 set held none p.2

-- A list of rights names those that there are.
listed-is : (wide : Bool) (rights : Option ℕ) (set : ℕ) → rights_in wide rights ≡ Some set → rights ≡ Some set
listed-is wide None set is = absurd cc
listed-is wide (Some rights) set is = (if-some (wide || is_within rights plain_rights) (Some rights) set is).1

rights-within : (wide : Bool) (d : Option Data) (set : ℕ) → read_or all_rights (rights_listed wide) d ≡ Some set → is_within set all_rights ≡ true
rights-within wide None set is = read-within all_rights right_names None set refl refl refl is
rights-within wide (Some d) set is = read-within all_rights right_names (Some d) set refl refl refl (listed-is wide (set_in right_names d) set is)

-- descriptors
abbrev pub has_side : WrittenObject → Bool
has_side (By_path path access) = true
has_side (By_pair pair side) = nat_lt side 2

abbrev pub is_bounded : WrittenDescriptor → Bool
is_bounded d = has_side d.object && is_within d.rights all_rights && is_within d.fcntls all_commands

side-if : (a b : Bool) (side : ℕ) → cond a (Some 0) (cond b (Some 1) None) ≡ Some side → nat_lt side 2 ≡ true
side-if true b side is = subst (λ n. nat_lt n 2 ≡ true) (some-equal 0 side is) refl
side-if false true side is = subst (λ n. nat_lt n 2 ≡ true) (some-equal 1 side is) refl
side-if false false side is = absurd cc

paired : (pair : Option ℤ) (side : Option ℕ) (o : WrittenObject) → ((n : ℕ) → side ≡ Some n → nat_lt n 2 ≡ true) → pair_with pair side ≡ Some o → has_side o ≡ true
paired None side o small is = absurd cc
paired (Some p) None o small is = absurd cc
paired (Some p) (Some n) o small is = subst (λ x. has_side x ≡ true) (some-equal (By_pair p n) o is) (small n refl)

on-path : (path : Option (List ℕ)) (access : Option Access) (o : WrittenObject) → path_with path access ≡ Some o → has_side o ≡ true
on-path None access o is = absurd cc
on-path (Some p) None o is = absurd cc
on-path (Some p) (Some a) o is = subst (λ x. has_side x ≡ true) (some-equal (By_path p a) o is) refl

side-small : (ms : Members) (side : ℕ) → side_at ms ≡ Some side → nat_lt side 2 ≡ true
side-small ms side is =
    let p = and_then-some side_named (text_at (codes "side") ms) side is in
    side-if (bytes_eq p.0 (codes "a")) (bytes_eq p.0 (codes "b")) side p.2

object-sided : (pair : Option Data) (ms : Members) (o : WrittenObject) → object_by pair ms ≡ Some o → has_side o ≡ true
object-sided None ms o is = on-path _ _ o (if-some (only_keys path_keys ms) _ o is).1
object-sided (Some d) ms o is = paired (integer_at (codes "pair") ms) (side_at ms) o (side-small ms) (if-some (only_keys pair_keys ms) _ o is).1

record Given (d : WrittenDescriptor) (object : Option WrittenObject) (rights fcntls : Option ℕ) : Type 0 where
  object_is : object ≡ Some d.object
  rights_are : rights ≡ Some d.rights
  fcntls_are : fcntls ≡ Some d.fcntls

descriptor-parts : (number : Option ℤ) (object : Option WrittenObject) (rights fcntls : Option ℕ) (d : WrittenDescriptor) →
    descriptor_with number object rights fcntls ≡ Some d → Given d object rights fcntls
descriptor-parts None object rights fcntls d is = absurd cc
descriptor-parts (Some n) None rights fcntls d is = absurd cc
descriptor-parts (Some n) (Some o) None fcntls d is = absurd cc
descriptor-parts (Some n) (Some o) (Some r) None d is = absurd cc
descriptor-parts (Some n) (Some o) (Some r) (Some f) d is =
    let same : record { number = n; object = o; rights = r; fcntls = f } ≡ d = cc in
    record {
      object_is = ap (λ (x : WrittenDescriptor). Some x.object) same;
      rights_are = ap (λ (x : WrittenDescriptor). Some x.rights) same;
      fcntls_are = ap (λ (x : WrittenDescriptor). Some x.fcntls) same;
    }

descriptor-bounded : (wide : Bool) (d : Data) (x : WrittenDescriptor) → written_descriptor wide d ≡ Some x → is_bounded x ≡ true
descriptor-bounded wide d x is =
    let p = and_then-some (descriptor_in wide) (as_table d) x is in
    let given = descriptor-parts _ _ _ _ x p.2 in
    both_true
    (both_true (object-sided (get_member (codes "pair") p.0) p.0 x.object given.object_is)
    (rights-within wide (get_member (codes "rights") p.0) x.rights given.rights_are))
    (read-within all_commands command_names (get_member (codes "fcntls") p.0) x.fcntls refl refl refl given.fcntls_are)

-- processes
abbrev pub is_given : ℕ → WrittenStart → Bool
is_given programs s = nat_lt s.program programs && list_all is_bounded s.descriptors

place-first : (k : ℕ) (names : List (List ℕ)) (name : List ℕ) (other : Option ℕ) (n : ℕ) (b : Bool) → (other ≡ Some n → n < k + 1 + length names) →
    cond b (Some k) other ≡ Some n → n < k + length (name ∷ names)
place-first k names name other n true behind is = let same : k ≡ n = some-equal k n is in omega arith
place-first k names name other n false behind is = let below : n < k + 1 + length names = behind is in omega arith

place-below : (k : ℕ) (names : List (List ℕ)) (word : List ℕ) (n : ℕ) → place_from k names word ≡ Some n → n < k + length names
place-below k [] word n is = absurd cc
place-below k (name ∷ names) word n is =
    place-first k names name (place_from (k + 1) names word) n (bytes_eq name word) (place-below (k + 1) names word n) is

record Parts (s : WrittenStart) (program : Option ℕ) (descriptors : Option (List WrittenDescriptor)) : Type 0 where
  program_is : program ≡ Some s.program
  descriptors_are : descriptors ≡ Some s.descriptors

start-parts : (program : Option ℕ) (mode : Option Bool) (descriptors : Option (List WrittenDescriptor)) (s : WrittenStart) → start_with program mode descriptors ≡ Some s → Parts s program descriptors
start-parts None mode descriptors s is = absurd cc
start-parts (Some p) None descriptors s is = absurd cc
start-parts (Some p) (Some m) None s is = absurd cc
start-parts (Some p) (Some m) (Some ds) s is =
    let same : record { program = p; mode = m; descriptors = ds } ≡ s = cc in
    record { program_is = ap (λ (x : WrittenStart). Some x.program) same; descriptors_are = ap (λ (x : WrittenStart). Some x.descriptors) same }

start-given : (wide : Bool) (names : List (List ℕ)) (d : Data) (s : WrittenStart) → written_start wide names d ≡ Some s → is_given (length names) s ≡ true
start-given wide names d s is =
    let p = and_then-some (start_in wide names) (as_table d) s is in
    let q = if-some (only_keys (codes "program" ∷ codes "mode" ∷ codes "fd" ∷ []) p.0) _ s p.2 in
    let parts = start-parts _ _ _ s q.1 in
    let place = and_then-some (place_among names) (text_at (codes "program") p.0) s.program parts.program_is in
    let below : s.program < 0 + length names = place-below 0 names place.0 s.program place.2 in
    let within : s.program < length names = omega arith in
    let fd = and_then-some (each_item (written_descriptor wide)) (items_at (codes "fd") p.0) s.descriptors parts.descriptors_are in
    both_true (lt-ltb s.program (length names) within) (each-passes (written_descriptor wide) is_bounded (descriptor-bounded wide) fd.0 s.descriptors fd.2)

-- tasks
pub record IsWritten (task : WrittenTask) : Type 0 where
  pub grants_named : list_all is_named_grant task.grants ≡ true
  pub grants_once : are_once (names_of_grants task.grants) ≡ true
  pub programs_named : list_all is_named_program task.programs ≡ true
  pub programs_once : are_once (names_of_programs task.programs) ≡ true
  pub some : nat_le 1 (length task.starts) ≡ true
  pub given : list_all (is_given (length task.programs)) task.starts ≡ true

some-length : (n : ℕ) → (n == 0) ≡ false → nat_le 1 n ≡ true
some-length zero is = absurd cc
some-length (suc n) is = le-leb 1 (suc n) (omega arith)

record Whole (task : WrittenTask) (grants : Option (List WrittenGrant)) (programs : Option (List WrittenProgram)) (starts : Option (List WrittenStart)) : Type 0 where
  grants_are : grants ≡ Some task.grants
  programs_are : programs ≡ Some task.programs
  starts_are : starts ≡ Some task.starts

task-parts : (wide : Bool) (nodes : Option (List WrittenNode)) (grants : Option (List WrittenGrant)) (programs : Option (List WrittenProgram))
    (starts : Option (List WrittenStart)) (task : WrittenTask) → task_with wide nodes grants programs starts ≡ Some task →
    Whole task grants programs starts
task-parts wide None grants programs starts task is = absurd cc
task-parts wide (Some n) None programs starts task is = absurd cc
task-parts wide (Some n) (Some g) None starts task is = absurd cc
task-parts wide (Some n) (Some g) (Some p) None task is = absurd cc
task-parts wide (Some n) (Some g) (Some p) (Some s) task is =
    let same : record { nodes = n; grants = g; programs = p; starts = s; wide = wide } ≡ task = cc in
    record { grants_are = ap (λ (x : WrittenTask). Some x.grants) same; programs_are = ap (λ (x : WrittenTask). Some x.programs) same; starts_are = ap (λ (x : WrittenTask). Some x.starts) same }

if-empty : (b : Bool) (xs ys : List WrittenStart) → cond b None (Some xs) ≡ Some ys → (b ≡ false) × (xs ≡ ys)
if-empty true xs ys is = absurd cc
if-empty false xs ys is = (refl, cc)

pub task-written : (ms : Members) (task : WrittenTask) → written_task ms ≡ Some task → IsWritten task
unfolding written_task
task-written ms task is =
    let keys = if-some (only_keys task_keys ms) _ task is in
    let asks = and_then-some (task_in ms) (asks_further ms) task keys.1 in
    let wide = asks.0 in
    let parts = task-parts wide _ _ _ _ task asks.2 in
    let g = and_then-some grants_once (option_and_then (each_item written_grant) (items_at (codes "grant") ms)) task.grants parts.grants_are in
    let gl = and_then-some (each_item written_grant) (items_at (codes "grant") ms) g.0 g.1 in
    let go = if-some (are_once (names_of_grants g.0)) (Some g.0) task.grants g.2 in
    let g_same : g.0 ≡ task.grants = some-equal g.0 task.grants go.1 in
    let p = and_then-some programs_once (option_and_then (each_item written_program) (items_at (codes "program") ms)) task.programs parts.programs_are in
    let pl = and_then-some (each_item written_program) (items_at (codes "program") ms) p.0 p.1 in
    let po = if-some (are_once (names_of_programs p.0)) (Some p.0) task.programs p.2 in
    let p_same : p.0 ≡ task.programs = some-equal p.0 task.programs po.1 in
    let s = and_then-some (written_starts wide ms) (written_programs ms) task.starts parts.starts_are in
    let s_programs : s.0 ≡ task.programs = some-equal s.0 task.programs (sym s.1 ∙ parts.programs_are) in
    let sl = and_then-some some_start (listed_starts wide (names_of_programs s.0) ms) task.starts s.2 in
    let ss = if-empty (length sl.0 == 0) sl.0 task.starts sl.2 in
    let each = and_then-some (each_item (written_start wide (names_of_programs s.0))) (items_at (codes "process") ms) sl.0 sl.1 in
    let names = names_of_programs s.0 in
    let count : length names ≡ length task.programs = length-map s.0 (λ (p : WrittenProgram). p.name) ∙ ap length s_programs in
    record {
      grants_named = subst (λ xs. list_all is_named_grant xs ≡ true) g_same (each-passes written_grant is_named_grant grant-named gl.0 g.0 gl.2);
      grants_once = subst (λ xs. are_once (names_of_grants xs) ≡ true) g_same go.0;
      programs_named = subst (λ xs. list_all is_named_program xs ≡ true) p_same (each-passes written_program is_named_program program-named pl.0 p.0 pl.2);
      programs_once = subst (λ xs. are_once (names_of_programs xs) ≡ true) p_same po.0;
      some = subst (λ xs. nat_le 1 (length xs) ≡ true) ss.1 (some-length (length sl.0) ss.0);
      given = subst (λ xs. list_all (is_given (length task.programs)) xs ≡ true) ss.1
          (subst (λ n. list_all (is_given n) sl.0 ≡ true) count (each-passes (written_start wide names) (is_given (length names)) (start-given wide names) each.0 sl.0 each.2));
    }
