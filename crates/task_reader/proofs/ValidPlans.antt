-- A plan that is read is valid.
use Rattle.std.proofs.Common.{◌≡◌, ℕ, suc, ◌<◌, ◌≤◌, List, [], ◌∷◌, ◌++◌, Option, Some, None, Result, Ok, Err, option_map, Bool, true, false, cond, length, map, take, refl, ap}
use Rattle.std.proofs.Common.{sym, subst, ◌∙◌, arith, append_assoc, append-nil, ℤ, pos, negsuc}
use Rattle.std.specs.Prelude.{◌&&◌, ◌||◌, not, nat_le, nat_lt, if◌then◌else◌}
use Rattle.std.specs.List.{list_all, list_any}
use Rattle.std.specs.Str.{bytes_eq}
use Rattle.std.specs.Cmp.Derive.{both_true}
use Rattle.std.proofs.lemmas.List.{length-map, take_all}
use Rattle.std.proofs.lemmas.Bool.{lt-ltb, leb-true}
use Rattle.rights.specs.Sets.{is_within, all_rights, all_commands}
use Rattle.rights.proofs.Tests.{both_left, both_right}
use Rattle.file_tree.specs.Places.{begins, above}
use Rattle.file_tree.specs.Nodes.{Dir, Node, stands_at}
use Rattle.rights.specs.Limits.{most_nodes, most_processes, most_grants, most_programs, most_descriptors, most_pairs}
use Rattle.file_tree.specs.Refusals.{new_tree}
use Rattle.file_tree.specs.WellFormed.{has_directory, is_within_limits}
use Rattle.instruction_set.specs.Programs.{Instruction}
use Rattle.instruction_set.specs.Assembly.{Fault, assembly_in}
use Rattle.prog_asm.proofs.GoodPrograms.{assembly-good, assembly-spoken}
use Rattle.toml.specs.Data.{Members}
use Rattle.task.specs.Plans.{Grant, NamedProgram, FirstObject, On_node, On_end, FirstDescriptor, Start, Plan}
use Rattle.texts.specs.Names.{is_name}
use Rattle.task.specs.Limits.{all_apart, can_follow, are_made, is_tree, is_grant, are_grants_apart, are_grants, is_program_named, are_named_apart, are_programs, is_object}
use Rattle.task.specs.Limits.{is_descriptor, are_numbered_apart, are_descriptors, is_start, are_starts, is_in_language, is_plan}
use Rattle.task_reader.specs.ApartViews.{first_assembled}
use Rattle.task_reader.specs.Documents.{is_among, are_once}
use Rattle.task_reader.specs.Paths.{place_of}
use Rattle.task_reader.specs.Written.{WrittenNode, WrittenGrant, WrittenProgram, WrittenObject, By_path, By_pair, WrittenDescriptor, WrittenStart, WrittenTask, names_of_grants}
use Rattle.task_reader.specs.Written.{names_of_programs, written_task}
use Rattle.task_reader.specs.Reading.{Mistake, Wrong_field, Wrong_node, Wrong_grant, Wrong_descriptor, ◌>>=◌, or_mistake, can_stand, node_placed, node_behind, node_made, tree_from}
use Rattle.task_reader.specs.Reading.{tree_of, can_grant, grant_at, grant_placed, granted_place, grants_placed, are_disjoint, disjoint, policy_of, number_below, can_open}
use Rattle.task_reader.specs.Reading.{number_of_path, opened_object, object_placed, descriptor_at, descriptor_placed, descriptors_placed, numbered_apart, table_of, start_from}
use Rattle.task_reader.specs.Reading.{start_placed, starts_placed, program_from, assembled, all_assembled, is_short, keeps_limits, plan_of, plan_in}
use Rattle.task_reader.proofs.WrittenLaws.{some-equal, and_then-some, map-some, if-some, is_named_grant, is_named_program, has_side, is_bounded, is_given, IsWritten, task-written}

ok-equal : {A : Type 0} (x y : A) → or_mistake Wrong_field (Some x) ≡ Ok y → x ≡ y
ok-equal x y is = cc

pub ok-some : {A : Type 0} {B : Type 0} (m : Mistake) (o : Option A) (f : A → Result B Mistake) (y : B) → (or_mistake m o >>= f) ≡ Ok y → (x : A) × (o ≡ Some x) × (f x ≡ Ok y)
ok-some m None f y is = absurd cc
ok-some m (Some x) f y is = (x, refl, is)

pub ok-then : {A : Type 0} {B : Type 0} (r : Result A Mistake) (f : A → Result B Mistake) (y : B) → (r >>= f) ≡ Ok y → (x : A) × (r ≡ Ok x) × (f x ≡ Ok y)
ok-then (Ok x) f y is = (x, refl, is)
ok-then (Err m) f y is = absurd cc

none-either : (a b : Bool) → (a || b) ≡ false → (a ≡ false) × (b ≡ false)
none-either true b is = absurd cc
none-either false b is = (refl, is)

-- the tree
made-follows : (made : List Node) (n : WrittenNode) (m : Node) → node_made made n ≡ Some m → is_within_limits m ≡ true → can_follow made m ≡ true
unfolding can_stand
made-follows made n m is within =
    let p = and_then-some (node_behind made n) (place_of n.path) m is in
    let place = p.0 in
    let q = if-some (can_stand made place) (Some (node_placed n place)) m p.2 in
    let there = both_left (has_directory made (above place)) (not (list_any (stands_at place) made)) q.0 in
    let free = both_right (has_directory made (above place)) (not (list_any (stands_at place) made)) q.0 in
    let follows : is_within_limits (node_placed n place) ≡ true → can_follow made (node_placed n place) ≡ true = λ w. both_true (both_true w there) free in
    subst (λ x. is_within_limits x ≡ true → can_follow made x ≡ true) (some-equal (node_placed n place) m q.1) follows within

record Grown (made tree : List Node) : Type 0 where
  rest : List Node
  whole : tree ≡ made ++ rest
  follows : list_all is_within_limits rest ≡ true → are_made made rest ≡ true

grown : (made : List Node) (nodes : List WrittenNode) (tree : List Node) → tree_from made nodes ≡ Some tree → Grown made tree
grown made [] tree is = record { rest = []; whole = sym (some-equal made tree is) ∙ sym (append-nil made); follows = λ all. refl }
grown made (n ∷ nodes) tree is =
    let p = and_then-some (λ m. tree_from (made ++ m ∷ []) nodes) (node_made made n) tree is in
    let more = grown (made ++ p.0 ∷ []) nodes tree p.2 in
    record {
      rest = p.0 ∷ more.rest;
      whole = more.whole ∙ append_assoc made (p.0 ∷ []) more.rest;
      follows = λ all. both_true
          (made-follows made n p.0 p.1 (both_left (is_within_limits p.0) (list_all is_within_limits more.rest) all))
          (more.follows (both_right (is_within_limits p.0) (list_all is_within_limits more.rest) all));
    }

below-most : (root : Node) (rest : List Node) → nat_le (length (root ∷ rest)) most_nodes ≡ true → nat_lt (length rest) most_nodes ≡ true
below-most root rest few = let within : length rest < most_nodes = omega (arith, leb-true (length (root ∷ rest)) most_nodes few) in lt-ltb (length rest) most_nodes within

abbrev root : Node
root = record { kind = Dir; place = []; linked = true; content = [] }

tree-valid : (nodes : List WrittenNode) (tree : List Node) → tree_of nodes ≡ Some tree → list_all is_within_limits tree ≡ true → nat_le (length tree) most_nodes ≡ true → is_tree tree ≡ true
tree-valid nodes tree is within few =
    let more = grown new_tree nodes tree is in
    let rest = more.rest in
    let all : list_all is_within_limits (new_tree ++ rest) ≡ true = subst (λ t. list_all is_within_limits t ≡ true) more.whole within in
    let short : nat_le (length (new_tree ++ rest)) most_nodes ≡ true = subst (λ t. nat_le (length t) most_nodes ≡ true) more.whole few in
    subst (λ t. is_tree t ≡ true) (sym more.whole)
    (both_true (below-most root rest short) (more.follows (both_right (is_within_limits root) (list_all is_within_limits rest) all)))

-- the grants
grant-is : (tree : List Node) (g : WrittenGrant) (x : Grant) → grant_placed tree g ≡ Some x → (x.name ≡ g.name) × (has_directory tree x.path ≡ true)
unfolding can_grant
grant-is tree g x is =
    let p = map-some (grant_at g) (granted_place tree g.path) x is in
    let q = and_then-some (λ place. if can_grant tree place then Some place else None) (place_of g.path) p.0 p.1 in
    let r = if-some (can_grant tree q.0) (Some q.0) p.0 q.2 in
    let there : has_directory tree p.0 ≡ true = subst (λ place. has_directory tree place ≡ true) (some-equal q.0 p.0 r.1) r.0 in
    (ap (λ (y : Grant). y.name) (sym p.2), subst (λ (y : Grant). has_directory tree y.path ≡ true) p.2 there)

abbrev names : List Grant → List (List ℕ)
names grants = map (λ (g : Grant). g.name) grants

record Granted (tree : List Node) (written : List WrittenGrant) (grants : List Grant) : Type 0 where
  named : names grants ≡ names_of_grants written
  are : list_all is_named_grant written ≡ true → list_all (is_grant tree) grants ≡ true

granted : (tree : List Node) (written : List WrittenGrant) (grants : List Grant) → grants_placed tree written ≡ Some grants → Granted tree written grants
granted tree [] grants is = subst (Granted tree []) (some-equal [] grants is) (record { named = refl; are = λ all. refl })
granted tree (g ∷ written) grants is =
    let p = and_then-some (λ x. option_map (λ rest. x ∷ rest) (grants_placed tree written)) (grant_placed tree g) grants is in
    let x = p.0 in
    let q = map-some (λ rest. x ∷ rest) (grants_placed tree written) grants p.2 in
    let rest = q.0 in
    let more = granted tree written rest q.1 in
    let facts = grant-is tree g x p.1 in
    let whole : Granted tree (g ∷ written) (x ∷ rest) = record {
      named = ap (λ name. name ∷ names rest) facts.0 ∙ ap (λ others. g.name ∷ others) more.named;
      are = λ all. both_true
          (both_true (subst (λ name. is_name name ≡ true) (sym facts.0) (both_left (is_named_grant g) (list_all is_named_grant written) all)) facts.1)
          (more.are (both_right (is_named_grant g) (list_all is_named_grant written) all));
    } in
    subst (Granted tree (g ∷ written)) q.2 whole

apart-from : (g : Grant) (others : List Grant) → is_among g.name (names others) ≡ false → list_all (are_disjoint g) others ≡ true → list_all (are_grants_apart g) others ≡ true
apart-from g [] other disjoint = refl
apart-from g (h ∷ others) other disjoint =
    let differ = none-either (bytes_eq g.name h.name) (is_among g.name (names others)) other in
    let here = both_left (are_disjoint g h) (list_all (are_disjoint g) others) disjoint in
    let there = not (begins g.path h.path) in
    let back = not (begins h.path g.path) in
    both_true (both_true (both_true (ap not differ.0) (both_left there back here)) (both_right there back here))
    (apart-from g others differ.1 (both_right (are_disjoint g h) (list_all (are_disjoint g) others) disjoint))

not-true : (b : Bool) → not b ≡ true → b ≡ false
not-true true is = absurd cc
not-true false is = refl

all-apart : (grants : List Grant) → are_once (names grants) ≡ true → all_apart are_disjoint grants ≡ true → all_apart are_grants_apart grants ≡ true
all-apart [] once disjoint = refl
all-apart (g ∷ grants) once disjoint =
    let other = not-true (is_among g.name (names grants)) (both_left (not (is_among g.name (names grants))) (are_once (names grants)) once) in
    both_true (apart-from g grants other (both_left (list_all (are_disjoint g) grants) (all_apart are_disjoint grants) disjoint))
    (all-apart grants (both_right (not (is_among g.name (names grants))) (are_once (names grants)) once) (both_right (list_all (are_disjoint g) grants) (all_apart are_disjoint grants) disjoint))

few-named : {A : Type 0} {B : Type 0} (f : A → List ℕ) (g : B → List ℕ) (xs : List A) (ys : List B) → map f xs ≡ map g ys → length xs ≡ length ys
few-named f g xs ys same = sym (length-map xs f) ∙ ap length same ∙ length-map ys g

grants-valid : (tree : List Node) (written : List WrittenGrant) (grants : List Grant) → list_all is_named_grant written ≡ true →
    are_once (names_of_grants written) ≡ true → policy_of tree written ≡ Some grants → nat_le (length written) most_grants ≡ true →
    are_grants tree grants ≡ true
grants-valid tree written grants words once is few =
    let p = and_then-some disjoint (grants_placed tree written) grants is in
    let q = if-some (all_apart are_disjoint p.0) (Some p.0) grants p.2 in
    let same : p.0 ≡ grants = some-equal p.0 grants q.1 in
    let all = granted tree written p.0 p.1 in
    let count : length p.0 ≡ length written = few-named (λ (g : Grant). g.name) (λ (g : WrittenGrant). g.name) p.0 written all.named in
    subst (λ gs. are_grants tree gs ≡ true) same
    (both_true (both_true (subst (λ n. nat_le n most_grants ≡ true) (sym count) few) (all.are words))
    (all-apart p.0 (subst (λ ns. are_once ns ≡ true) (sym all.named) once) q.0))

-- the programs
program-is : (name : List ℕ) (marked : Bool) (read : Result (List Instruction) Fault) (q : NamedProgram) → program_from name marked read ≡ Ok q
    → (q.name ≡ name) × (read ≡ Ok q.code)
program-is name marked (Ok code) q is =
    let made : NamedProgram = record { name = name; code = code; marked = marked } in
    let same : made ≡ q = ok-equal made q is in
    (ap (λ (x : NamedProgram). x.name) (sym same), ap (λ (x : NamedProgram). Ok x.code) same)
program-is name marked (Err fault) q is = absurd cc

abbrev program_names : List NamedProgram → List (List ℕ)
program_names programs = map (λ (p : NamedProgram). p.name) programs

record Assembled (wide : Bool) (written : List WrittenProgram) (programs : List NamedProgram) : Type 0 where
  named : program_names programs ≡ names_of_programs written
  are : list_all is_named_program written ≡ true → list_all is_program_named programs ≡ true
  spoken : list_all (is_in_language wide) programs ≡ true

all-assembled : (wide : Bool) (written : List WrittenProgram) (programs : List NamedProgram) → all_assembled wide written ≡ Ok programs → Assembled wide written programs
all-assembled wide [] programs is = subst (Assembled wide []) (ok-equal [] programs is) (record { named = refl; are = λ all. refl; spoken = refl })
all-assembled wide (p ∷ written) programs is =
    let a = ok-then (assembled wide p) (λ first. all_assembled wide written >>= (λ rest. Ok (first ∷ rest))) programs is in
    let b = ok-then (all_assembled wide written) (λ rest. Ok (a.0 ∷ rest)) programs a.2 in
    let more = all-assembled wide written b.0 b.1 in
    let facts = program-is p.name p.marked (assembly_in wide p.text) a.0 a.1 in
    let whole : Assembled wide (p ∷ written) (a.0 ∷ b.0) = record {
      named = ap (λ name. name ∷ program_names b.0) facts.0 ∙ ap (λ others. p.name ∷ others) more.named;
      are = λ all. both_true
          (both_true (subst (λ name. is_name name ≡ true) (sym facts.0) (both_left (is_named_program p) (list_all is_named_program written) all)) (assembly-good wide p.text a.0.code facts.1))
          (more.are (both_right (is_named_program p) (list_all is_named_program written) all));
      spoken = both_true (assembly-spoken wide p.text a.0.code facts.1) more.spoken;
    } in
    subst (Assembled wide (p ∷ written)) (ok-equal (a.0 ∷ b.0) programs b.2) whole

named-from : (p : NamedProgram) (others : List NamedProgram) → is_among p.name (program_names others) ≡ false → list_all (are_named_apart p) others ≡ true
named-from p [] other = refl
named-from p (q ∷ others) other =
    let differ = none-either (bytes_eq p.name q.name) (is_among p.name (program_names others)) other in
    both_true (ap not differ.0) (named-from p others differ.1)

all-named-apart : (programs : List NamedProgram) → are_once (program_names programs) ≡ true → all_apart are_named_apart programs ≡ true
all-named-apart [] once = refl
all-named-apart (p ∷ programs) once =
    let other = not-true (is_among p.name (program_names programs)) (both_left (not (is_among p.name (program_names programs))) (are_once (program_names programs)) once) in
    both_true (named-from p programs other) (all-named-apart programs (both_right (not (is_among p.name (program_names programs))) (are_once (program_names programs)) once))

programs-count : (wide : Bool) (written : List WrittenProgram) (programs : List NamedProgram) → all_assembled wide written ≡ Ok programs → length programs ≡ length written
programs-count wide written programs is = few-named (λ (p : NamedProgram). p.name) (λ (p : WrittenProgram). p.name) programs written (all-assembled wide written programs is).named

programs-valid : (wide : Bool) (written : List WrittenProgram) (programs : List NamedProgram) → list_all is_named_program written ≡ true →
    are_once (names_of_programs written) ≡ true → all_assembled wide written ≡ Ok programs → nat_le (length written) most_programs ≡ true →
    are_programs programs ≡ true
programs-valid wide written programs words once is few =
    let all = all-assembled wide written programs is in
    both_true (both_true (subst (λ n. nat_le n most_programs ≡ true) (sym (programs-count wide written programs is)) few) (all.are words))
    (all-named-apart programs (subst (λ ns. are_once ns ≡ true) (sym all.named) once))

-- the first processes
pub below : (bound : ℕ) (z : ℤ) (n : ℕ) → number_below bound z ≡ Some n → nat_lt n bound ≡ true
below bound (pos k) n is =
    let p = if-some (nat_lt k bound) (Some k) n is in
    subst (λ m. nat_lt m bound ≡ true) (some-equal k n p.1) p.0
below bound (negsuc k) n is = absurd cc

object-valid : (tree : List Node) (o : WrittenObject) (x : FirstObject) → has_side o ≡ true → object_placed tree o ≡ Some x → is_object tree x ≡ true
unfolding can_open
object-valid tree (By_path path access) x sided is =
    let p = and_then-some (opened_object tree access) (number_of_path tree path) x is in
    let q = if-some (can_open tree p.0 access) (Some (On_node p.0 access)) x p.2 in
    subst (λ y. is_object tree y ≡ true) (some-equal (On_node p.0 access) x q.1) q.0
object-valid tree (By_pair pair side) x sided is =
    let p = map-some (λ n. On_end n side) (number_below most_pairs pair) x is in
    subst (λ y. is_object tree y ≡ true) p.2 (both_true (below most_pairs pair p.0 p.1) sided)

pub record On (d : WrittenDescriptor) (number : Option ℕ) (object : Option FirstObject) (x : FirstDescriptor) : Type 0 where
  pub number_is : number ≡ Some x.number
  object_is : object ≡ Some x.object
  rights_are : d.rights ≡ x.rights
  fcntls_are : d.fcntls ≡ x.fcntls

pub on-object : (d : WrittenDescriptor) (number : Option ℕ) (object : Option FirstObject) (x : FirstDescriptor) → descriptor_at d number object ≡ Some x → On d number object x
on-object d None object x is = absurd cc
on-object d (Some n) None x is = absurd cc
on-object d (Some n) (Some o) x is =
    let same : record { number = n; object = o; rights = d.rights; fcntls = d.fcntls } ≡ x = cc in
    subst (On d (Some n) (Some o)) same (record { number_is = refl; object_is = refl; rights_are = refl; fcntls_are = refl })

descriptor-valid : (tree : List Node) (d : WrittenDescriptor) (x : FirstDescriptor) → is_bounded d ≡ true → descriptor_placed tree d ≡ Some x → is_descriptor tree x ≡ true
descriptor-valid tree d x bounded is =
    let on = on-object d (number_below most_descriptors d.number) (object_placed tree d.object) x is in
    let side = has_side d.object in
    let rights = is_within d.rights all_rights in
    let fcntls = is_within d.fcntls all_commands in
    let first = both_left (side && rights) fcntls bounded in
    both_true
    (both_true
    (both_true (below most_descriptors d.number x.number on.number_is) (object-valid tree d.object x.object (both_left side rights first) on.object_is))
    (subst (λ r. is_within r all_rights ≡ true) on.rights_are (both_right side rights first)))
    (subst (λ f. is_within f all_commands ≡ true) on.fcntls_are (both_right (side && rights) fcntls bounded))

descriptors-valid : (tree : List Node) (written : List WrittenDescriptor) (xs : List FirstDescriptor) → list_all is_bounded written ≡ true →
    descriptors_placed tree written ≡ Some xs → list_all (is_descriptor tree) xs ≡ true
descriptors-valid tree [] xs bounded is = subst (λ ys. list_all (is_descriptor tree) ys ≡ true) (some-equal [] xs is) refl
descriptors-valid tree (d ∷ written) xs bounded is =
    let p = and_then-some (λ x. option_map (λ rest. x ∷ rest) (descriptors_placed tree written)) (descriptor_placed tree d) xs is in
    let q = map-some (λ rest. p.0 ∷ rest) (descriptors_placed tree written) xs p.2 in
    subst (λ ys. list_all (is_descriptor tree) ys ≡ true) q.2
    (both_true (descriptor-valid tree d p.0 (both_left (is_bounded d) (list_all is_bounded written) bounded) p.1)
    (descriptors-valid tree written q.0 (both_right (is_bounded d) (list_all is_bounded written) bounded) q.1))

table-valid : (tree : List Node) (written : List WrittenDescriptor) (xs : List FirstDescriptor) → list_all is_bounded written ≡ true → table_of tree written ≡ Some xs → are_descriptors tree xs ≡ true
table-valid tree written xs bounded is =
    let p = and_then-some numbered_apart (descriptors_placed tree written) xs is in
    let q = if-some (all_apart are_numbered_apart p.0) (Some p.0) xs p.2 in
    subst (λ ys. are_descriptors tree ys ≡ true) (some-equal p.0 xs q.1) (both_true (descriptors-valid tree written p.0 bounded p.1) q.0)

start-valid : (tree : List Node) (programs : ℕ) (s : WrittenStart) (x : Start) → is_given programs s ≡ true → start_placed tree s ≡ Some x → is_start tree programs x ≡ true
start-valid tree programs s x given is =
    let p = map-some (start_from s) (table_of tree s.descriptors) x is in
    let below = both_left (nat_lt s.program programs) (list_all is_bounded s.descriptors) given in
    let bounded = both_right (nat_lt s.program programs) (list_all is_bounded s.descriptors) given in
    subst (λ y. is_start tree programs y ≡ true) p.2 (both_true below (table-valid tree s.descriptors p.0 bounded p.1))

record Started (tree : List Node) (programs : ℕ) (written : List WrittenStart) (starts : List Start) : Type 0 where
  count : length starts ≡ length written
  are : list_all (is_given programs) written ≡ true → list_all (is_start tree programs) starts ≡ true

started : (tree : List Node) (programs : ℕ) (written : List WrittenStart) (starts : List Start) → starts_placed tree written ≡ Some starts → Started tree programs written starts
started tree programs [] starts is = subst (Started tree programs []) (some-equal [] starts is) (record { count = refl; are = λ all. refl })
started tree programs (s ∷ written) starts is =
    let p = and_then-some (λ x. option_map (λ rest. x ∷ rest) (starts_placed tree written)) (start_placed tree s) starts is in
    let q = map-some (λ rest. p.0 ∷ rest) (starts_placed tree written) starts p.2 in
    let more = started tree programs written q.0 q.1 in
    let whole : Started tree programs (s ∷ written) (p.0 ∷ q.0) = record {
      count = ap suc more.count;
      are = λ all. both_true
          (start-valid tree programs s p.0 (both_left (is_given programs s) (list_all (is_given programs) written) all) p.1)
          (more.are (both_right (is_given programs s) (list_all (is_given programs) written) all));
    } in
    subst (Started tree programs (s ∷ written)) q.2 whole

starts-valid : (tree : List Node) (programs : ℕ) (written : List WrittenStart) (starts : List Start) → nat_le 1 (length written) ≡ true →
    list_all (is_given programs) written ≡ true → starts_placed tree written ≡ Some starts → nat_le (length written) most_processes ≡ true →
    are_starts tree programs starts ≡ true
starts-valid tree programs written starts some given is few =
    let all = started tree programs written starts is in
    both_true
    (both_true (subst (λ n. nat_le 1 n ≡ true) (sym all.count) some) (subst (λ n. nat_le n most_processes ≡ true) (sym all.count) few))
    (all.are given)

-- the whole
record Limited (task : WrittenTask) (tree : List Node) : Type 0 where
  within : list_all is_within_limits tree ≡ true
  nodes : nat_le (length tree) most_nodes ≡ true
  grants : nat_le (length task.grants) most_grants ≡ true
  programs : nat_le (length task.programs) most_programs ≡ true
  starts : nat_le (length task.starts) most_processes ≡ true

limited : (task : WrittenTask) (tree : List Node) → keeps_limits task tree ≡ true → Limited task tree
limited task tree keeps =
    let a = list_all is_short task.nodes in
    let b = list_all is_within_limits tree in
    let c = nat_le (length tree) most_nodes in
    let d = nat_le (length task.grants) most_grants in
    let e = nat_le (length task.programs) most_programs in
    let f = nat_le (length task.starts) most_processes in
    let abcde = both_left (a && b && c && d && e) f keeps in
    let abcd = both_left (a && b && c && d) e abcde in
    let abc = both_left (a && b && c) d abcd in
    let ab = both_left (a && b) c abc in
    record {
      within = both_right a b ab;
      nodes = both_right (a && b) c abc;
      grants = both_right (a && b && c) d abcd;
      programs = both_right (a && b && c && d) e abcde;
      starts = both_right (a && b && c && d && e) f keeps;
    }

if-ok : {A : Type 0} (m : Mistake) (b : Bool) (x y : A) → cond b (Ok x) (Err m) ≡ Ok y → (b ≡ true) × (x ≡ y)
if-ok m true x y is = (refl, ok-equal x y is)
if-ok m false x y is = absurd cc

-- all programs are kept where there are no more than a task may have
pub all-kept : (task : WrittenTask) (tree : List Node) (kept : List NamedProgram) → first_assembled task.wide task.programs ≡ Ok kept → keeps_limits task tree ≡ true
    → all_assembled task.wide task.programs ≡ Ok kept
all-kept task tree kept is keeps =
    let q = ok-then (all_assembled task.wide task.programs) (λ all. Ok (take most_programs all)) kept is in
    let few : length task.programs ≤ most_programs = leb-true (length task.programs) most_programs (limited task tree keeps).programs in
    let count : length q.0 ≡ length task.programs = programs-count task.wide task.programs q.0 q.1 in
    let short : length q.0 ≤ most_programs = omega arith in
    q.1 ∙ ap Ok (sym (take_all most_programs q.0 short) ∙ ok-equal (take most_programs q.0) kept q.2)

pub plan-valid : (task : WrittenTask) (plan : Plan) → IsWritten task → plan_of task ≡ Ok plan → is_plan plan ≡ true
unfolding plan_of
plan-valid task plan written is =
    let t = ok-some Wrong_node (tree_of task.nodes) _ plan is in
    let tree = t.0 in
    let g = ok-some Wrong_grant (policy_of tree task.grants) _ plan t.2 in
    let s = ok-some Wrong_descriptor (starts_placed tree task.starts) _ plan g.2 in
    let p = ok-then (all_assembled task.wide task.programs) _ plan s.2 in
    let l = if-ok _ (keeps_limits task tree) _ plan p.2 in
    let limits = limited task tree l.0 in
    subst (λ x. is_plan x ≡ true) l.1
    (both_true
    (both_true
    (both_true
    (both_true (tree-valid task.nodes tree t.1 limits.within limits.nodes) (grants-valid tree task.grants g.0 written.grants_named written.grants_once g.1 limits.grants))
    (programs-valid task.wide task.programs p.0 written.programs_named written.programs_once p.1 limits.programs))
    (subst (λ n. are_starts tree n s.0 ≡ true) (sym (programs-count task.wide task.programs p.0 p.1))
    (starts-valid tree (length task.programs) task.starts s.0 written.some written.given s.1 limits.starts)))
    (all-assembled task.wide task.programs p.0 p.1).spoken)

pub read-valid : (ms : Members) (plan : Plan) → plan_in ms ≡ Ok plan → is_plan plan ≡ true
unfolding plan_in
read-valid ms plan is =
    let t = ok-some Wrong_field (written_task ms) plan_of plan is in
    plan-valid t.0 plan (task-written ms t.0 t.1) t.2
