-- Trees that are made node by node.
use Rattle.std.proofs.Common.{◌≡◌, ℕ, zero, suc, ◌<◌, ◌≤◌, ◌+◌, ◌-◌, true, List, [], ◌∷◌, ◌++◌, length, take, drop, map, refl, ap, sym, subst, ◌∙◌, arith, append_assoc, length-append}
use Rattle.std.specs.Prelude.{◌&&◌, ◌||◌, Bool, false, nat_lt, replicate, slice_set, slice_index_or, Some}
use Rattle.std.specs.List.{list_all, list_any}
use Rattle.std.proofs.Math.ListN.{drop_of_length-le, length-map}
use Rattle.std.proofs.Math.Seq.{set-append_seam, get_or-append_seam, take-length, take-suc}
use Rattle.std.proofs.lemmas.Bool.{ltb-true}
use Rattle.std.proofs.lemmas.Option.{slice_get-get_or}
use Rattle.std.proofs.lemmas.List.{append-nil, get_or-map, get_or-set_same, length-take-le, map-append, take-map, set-get_or, set-set}
use Rattle.rights.proofs.Tests.{both_left, both_right}
use Rattle.file_tree.specs.Places.{is_file_name, above, at_name, same_place}
use Rattle.file_tree.specs.Nodes.{Kind, File, Dir, Link, Node, node, is_dir, node_at, stands_at, nowhere}
use Rattle.rights.specs.Limits.{most_nodes}
use Rattle.file_tree.specs.Changes.{filled, resized, written}
use Rattle.file_tree.specs.Refusals.{created, new_tree}
use Rattle.file_tree.specs.WellFormed.{has_directory, is_directory_at}
use Rattle.file_tree.proofs.KeptByCreate.{limits_of}
use Rattle.file_tree.proofs.NodeLaws.{directory_from, stands_is}
use Rattle.file_tree.proofs.PlaceLaws.{other_place}
use Rattle.file_tree.proofs.TreeLaws.{filled_same}
use Rattle.task.specs.Limits.{are_made, can_follow, is_root_node, is_tree}
use Rattle.task.proofs.FirstTrees.{can, free_place, no_fault, root_is_new, same_node}
use Rattle.simulator.specs.Starts.{IsMadeIn}

-- ## Contents
pub filled_own : (t : List Node) (n : ℕ) (content : List ℕ) → (node t n).content ≡ content → t ≡ filled t n content
unfolding filled
filled_own t n content is =
    sym (set-get_or t n nowhere)
    ∙ ap (λ c. slice_set t n (record { kind = (node t n).kind; place = (node t n).place; linked = (node t n).linked; content = c })) is

pub filled_twice : (t : List Node) (n : ℕ) (a b : List ℕ) → n < length t → filled (filled t n a) n b ≡ filled t n b
unfolding filled
filled_twice t n a b low =
    let x : Node = record { kind = (node t n).kind; place = (node t n).place; linked = (node t n).linked; content = a } in
    let same : node (slice_set t n x) n ≡ x = get_or-set_same t n x nowhere low in
    ap (λ (m : Node). slice_set (slice_set t n x) n (record { kind = m.kind; place = m.place; linked = m.linked; content = b })) same
    ∙ set-set t n x (record { kind = (node t n).kind; place = (node t n).place; linked = (node t n).linked; content = b })

-- a byte at the end of a content
written_here : (content : List ℕ) (b : ℕ) → written content (length content) b ≡ content ++ b ∷ []
written_here content b =
    let none : length content - length content ≡ 0 = omega arith in
    let left : resized content (length content) ≡ content = (λ i. take-length content i ++ replicate (none i) 0) ∙ append-nil content in
    let right : drop (length content + 1) content ≡ [] = drop_of_length-le content (omega arith) in
    λ i. left i ++ b ∷ right i

pub written_end : (content : List ℕ) (at b : ℕ) → length content ≡ at → written content at b ≡ content ++ b ∷ []
written_end content at b is = subst (λ n. written content n b ≡ content ++ b ∷ []) is (written_here content b)

-- one byte more
pub byte_more : (t : List Node) (n at : ℕ) (content : List ℕ) → n < length t → at < length content →
    filled (filled t n (take at content)) n (written (node (filled t n (take at content)) n).content at (slice_index_or content at 0)) ≡ filled t n
    (take (at + 1) content)
byte_more t n at content low here =
    let same : (node (filled t n (take at content)) n).content ≡ take at content = ap (λ (m : Node). m.content) (filled_same t n (take at content) low) in
    let long : length (take at content) ≡ at = length-take-le at content (omega arith) in
    let next : at + 1 ≡ suc at = omega arith in
    ap (λ c. filled (filled t n (take at content)) n (written c at (slice_index_or content at 0))) same
    ∙ ap (filled (filled t n (take at content)) n) (written_end (take at content) at (slice_index_or content at 0) long ∙ sym (take-suc content at 0 here) ∙ ap (λ k. take k content) (sym next))
    ∙ filled_twice t n (take at content) (take (at + 1) content) low

-- a node that is made last is filled
pub filled_last : (t : List Node) (d : ℕ) (name content : List ℕ) → filled (created t d name File []) (length t) content ≡ created t d name File content
unfolding filled created
filled_last t d name content =
    let x : Node = record { kind = File; place = at_name (node t d).place name; linked = true; content = [] } in
    ap (λ (m : Node). slice_set (t ++ x ∷ []) (length t) (record { kind = m.kind; place = m.place; linked = m.linked; content = content })) (get_or-append_seam t x [] nowhere)
    ∙ set-append_seam t x [] (record { kind = File; place = at_name (node t d).place name; linked = true; content = content })

-- what is known of a file that is made last
pub record IsLast (t : List Node) (n : ℕ) : Type 0 where
  pub there : n < length t
  pub file : (node t n).kind ≡ File
  pub empty : (node t n).content ≡ []

pub created_last : (t : List Node) (d : ℕ) (name : List ℕ) → IsLast (created t d name File []) (length t)
unfolding created
created_last t d name =
    let x : Node = record { kind = File; place = at_name (node t d).place name; linked = true; content = [] } in
    let same : node (t ++ x ∷ []) (length t) ≡ x = get_or-append_seam t x [] nowhere in
    record {
      there = omega (arith, length-append t (x ∷ []));
      file = ap (λ (m : Node). m.kind) same;
      empty = ap (λ (m : Node). m.content) same;
    }

-- ## Nodes that can follow
directory_kind : (k : Kind) → is_dir k ≡ true → k ≡ Dir
directory_kind File is = absurd cc
directory_kind Dir is = refl
directory_kind Link is = absurd cc

all_last : (test : List ℕ → Bool) (names : List (List ℕ)) (name : List ℕ) → list_all test (at_name names name) ≡ true → test name ≡ true
all_last test [] name all = both_left _ (list_all test []) all
all_last test (x ∷ names) name all = all_last test names name (both_right (test x) _ all)

can_from : (made nodes : List Node) (j : ℕ) → are_made made nodes ≡ true → j < length nodes → can_follow (made ++ take j nodes) (node nodes j) ≡ true
can_from made [] j test low = absurd (omega arith)
can_from made (m ∷ nodes) zero test low =
    ap (λ t. can_follow t m) (append-nil made) ∙ both_left _ (are_made (made ++ m ∷ []) nodes) test
can_from made (m ∷ nodes) (suc j) test low =
    ap (λ t. can_follow t (node nodes j)) (sym (append_assoc made (m ∷ []) (take j nodes)))
    ∙ can_from (made ++ m ∷ []) nodes j (both_right (can_follow made m) _ test) (omega arith)

pub can_at : (nodes : List Node) (k : ℕ) → is_tree nodes ≡ true → 1 ≤ k → k < length nodes → can_follow (take k nodes) (node nodes k) ≡ true
can_at [] k test some low = absurd (omega arith)
can_at (root ∷ nodes) zero test some low = absurd (omega arith)
can_at (root ∷ nodes) (suc j) test some low =
    can_from (root ∷ []) nodes j (both_right (is_root_node root && nat_lt (length nodes) most_nodes) _ test) (omega arith)

pub few_nodes : (nodes : List Node) → is_tree nodes ≡ true → length nodes ≤ most_nodes
few_nodes [] test = absurd cc
few_nodes (root ∷ nodes) test =
    let low : length nodes < most_nodes = ltb-true (length nodes) most_nodes (both_right (is_root_node root) _ (both_left _ (are_made (root ∷ []) nodes) test)) in
    omega arith

pub first_is_root : (nodes : List Node) → is_tree nodes ≡ true → new_tree ≡ take 1 nodes
first_is_root [] test = absurd cc
first_is_root (root ∷ nodes) test = sym (root_is_new root (both_left _ (nat_lt (length nodes) most_nodes) (both_left _ (are_made (root ∷ []) nodes) test)))

-- the root alone has no name
pub has_name : (nodes : List Node) (k : ℕ) → is_tree nodes ≡ true → 1 ≤ k → k < length nodes → (node nodes k).place ≡ [] → ⊥
has_name [] k test some low empty = absurd (omega arith)
has_name (root ∷ nodes) zero test some low empty = absurd (omega arith)
has_name (root ∷ nodes) (suc j) test some low empty =
    let facts = can (root ∷ take j nodes) (node nodes j) (can_at (root ∷ nodes) (suc j) test some low) in
    let first = both_left (is_root_node root) _ (both_left _ (are_made (root ∷ []) nodes) test) in
    let stands : stands_at [] root ≡ true = both_left _ (is_dir root.kind) (both_left _ _ first) in
    let free = subst (λ p. list_any (stands_at p) (root ∷ take j nodes) ≡ false) empty facts.free in
    let clash : true ≡ false = subst (λ b. (b || list_any (stands_at []) (take j nodes)) ≡ false) stands free in
    absurd cc

pub no_names : {A : Type 0} (f : A → List ℕ) (names : List A) → length names < 1 → map f names ≡ []
no_names f [] few = refl
no_names f (x ∷ names) few = absurd (omega arith)

-- where a node goes, and what it is called there
pub has_holder : (made : List Node) (m : Node) → can_follow made m ≡ true → has_directory made (above m.place) ≡ true
has_holder made m test =
    let facts = can made m test in
    directory_from made (above m.place) facts.holder

pub made_in : (made : List Node) (m : Node) (d : ℕ) (name : List ℕ) → length made < most_nodes → can_follow made m ≡ true →
    is_directory_at (above m.place) (node made d) ≡ true → at_name (above m.place) name ≡ m.place → IsMadeIn made d name m
made_in made m d name room test at named =
    let facts = can made m test in
    let limits = limits_of m facts.fits in
    let stands = stands_is (above m.place) (node made d) (both_left _ (is_dir (node made d).kind) at) in
    let there : at_name (node made d).place name ≡ m.place = ap (λ p. at_name p name) (sym stands.1) ∙ named in
    record {
      kind = directory_kind (node made d).kind (both_right (stands_at (above m.place) (node made d)) _ at);
      named = all_last is_file_name (above m.place) name (ap (list_all is_file_name) named ∙ limits.names);
      content = limits.content;
      allowed = no_fault made d name stands.0 (ap (node_at made) there ∙ free_place made m.place facts.free) room;
      makes = same_node made m d name facts.linked there;
    }

-- ## A place by its last name
pub record Parts {A : Type 0} (f : A → List ℕ) (s : List A) (x : A) : Type 0 where
  pub front : map f (take (length s - 1) s) ≡ above (map f s)
  pub whole : at_name (above (map f s)) (f x) ≡ map f s

pub parts : {A : Type 0} (f : A → List ℕ) (s : List A) (x : A) → 1 ≤ length s → x ≡ slice_index_or s (length s - 1) x → Parts f s x
parts f s x some last =
    let low : length s - 1 < length s = omega arith in
    let next : suc (length s - 1) ≡ length s = omega arith in
    let all : take (length s - 1) s ++ x ∷ [] ≡ s =
    ap (λ y. take (length s - 1) s ++ y ∷ []) last ∙ sym (take-suc s (length s - 1) x low) ∙ ap (λ n. take n s) next ∙ take-length s
    in
    let front : map f (take (length s - 1) s) ≡ above (map f s) = sym (take-map f (length s - 1) s) ∙ ap (λ n. take (n - 1) (map f s)) (sym (length-map s f)) in
    record {
      front = front;
      whole = ap (λ p. at_name p (f x)) (sym front) ∙ sym (map-append f (take (length s - 1) s) (x ∷ [])) ∙ ap (map f) all;
    }

-- an element of a list, whatever stands for one that isn't there
some_same : {A : Type 0} {x y : A} → Some x ≡ Some y → x ≡ y
some_same is = cc

pub any_default : {A : Type 0} (xs : List A) (i : ℕ) (d e : A) → i < length xs → slice_index_or xs i d ≡ slice_index_or xs i e
any_default xs i d e low = some_same (sym (slice_get-get_or xs i d low) ∙ slice_get-get_or xs i e low)

-- the nodes so far, and the next one
pub nodes_more : {A : Type 0} (f : A → Node) (xs : List A) (k : ℕ) (x : A) → k < length xs → x ≡ slice_index_or xs k x → node (map f xs) k ≡ f x
nodes_more f xs k x low is = get_or-map f xs k x nowhere low ∙ ap f (sym is)

pub take_more : (nodes : List Node) (k : ℕ) (m : Node) → k < length nodes → node nodes k ≡ m → take k nodes ++ m ∷ [] ≡ take (k + 1) nodes
take_more nodes k m low is =
    let next : k + 1 ≡ suc k = omega arith in
    ap (λ x. take k nodes ++ x ∷ []) (sym is) ∙ sym (take-suc nodes k nowhere low) ∙ ap (λ n. take n nodes) (sym next)

-- places that differ in length differ
pub other_length : (p q : List (List ℕ)) → (length p ≡ length q → ⊥) → same_place p q ≡ false
other_length p q other = other_place p q (λ is. other (ap length is))
