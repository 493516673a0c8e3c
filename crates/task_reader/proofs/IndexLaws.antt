-- An index stays one as nodes are added, and the path of the directory above.
use Rattle.std.proofs.Common.{◌≡◌, ◌≢◌, ◌<◌, ◌-◌, ◌+◌, inl, inr, ℕ, suc, List, [], ◌∷◌, ◌++◌}
use Rattle.std.proofs.Common.{Option, Some, None, option_map, Bool, true, false, cond, length, drop, take-append-drop, refl, ap}
use Rattle.std.proofs.Common.{sym, subst, ◌∙◌, arith}
use Rattle.std.specs.Prelude.{◌==◌, ◌&&◌, ◌||◌, not, is_some, option_and_then, if◌then◌else◌}
use Rattle.std.specs.Borrow.{Bor}
use Rattle.std.specs.List.{list_all, list_any}
use Rattle.std.specs.Str.{bytes_eq}
use Rattle.indexmap.specs.IndexMap.{IndexMap}
use Rattle.rights.proofs.Tests.{both_left, both_right}
use Rattle.std.specs.Map.{update}
use Rattle.std.proofs.lemmas.Slice.Eq.{bytes_eq-Decides}
use Rattle.rights.proofs.Words.{same_bytes}
use Rattle.std.proofs.lemmas.List.{get_or_append_left}
use Rattle.std.proofs.Math.Seq.{get_or-append_seam}
use Rattle.std.proofs.lemmas.List.Folds.{list_any-append}
use Rattle.file_tree.specs.Refusals.{new_tree}
use Rattle.file_tree.specs.Nodes.{Node, Dir, nowhere, node, node_at, node_from, is_dir, stands_at}
use Rattle.file_tree.specs.Places.{same_place, place_text, above, is_path_name}
use Rattle.file_tree.specs.WellFormed.{is_directory_at, has_directory}
use Rattle.file_tree.proofs.PlaceLaws.{other_place}
use Rattle.file_tree.proofs.NodeLaws.{linked_there, node_at_found, node_at_none, stands_is, stands_from, any_at}
use Rattle.texts.specs.Parts.{parts}
use Rattle.task_reader.specs.IndexViews.{number_in, is_directory, IsIndex, IsPath}
use Rattle.task_reader.specs.Paths.{path_names, names_behind, place_of}
use Rattle.task_reader.specs.Reading.{can_grant, can_stand, granted_place, node_behind, node_made, node_placed, number_of_path}
use Rattle.task_reader.specs.Written.{WrittenNode}
use Rattle.task_reader.proofs.PathTexts.{path-text, text-path}
use Rattle.task_reader.proofs.WrittenLaws.{some-equal, and_then-some, if-some, map-some}
use Rattle.std.proofs.lemmas.Bool.{cases_Bool}

-- the names of a path are names
good-names : (names place : List (List ℕ)) → path_names names ≡ Some place → list_all is_path_name place ≡ true
good-names [] place is = ap (list_all is_path_name) (sym (some-equal [] place is))
good-names (name ∷ names) place is =
    let p = if-some (is_path_name name) (option_map (λ rest. name ∷ rest) (path_names names)) place is in
    let q = map-some (λ rest. name ∷ rest) (path_names names) place p.1 in
    ap (list_all is_path_name) (sym q.2) ∙ ap (λ b. b && list_all is_path_name q.0) p.0 ∙ good-names names q.0 q.1

good-behind : (text : List ℕ) (place : List (List ℕ)) → names_behind text ≡ Some place → list_all is_path_name place ≡ true
good-behind [] place is = ap (list_all is_path_name) (sym (some-equal [] place is))
good-behind (b ∷ text) place is = good-names (parts 47 (b ∷ text)) place is

pub path-names : (path : List ℕ) (place : List (List ℕ)) → IsPath path place → list_all is_path_name place ≡ true
unfolding place_of
path-names [] place is = absurd cc
path-names (b ∷ text) place is = good-behind text place (if-some (b == 47) (names_behind text) place is).1

all-front : (p q : List (List ℕ)) → list_all is_path_name (p ++ q) ≡ true → list_all is_path_name p ≡ true
all-front [] q is = refl
all-front (name ∷ p) q is =
    rw (both_left (is_path_name name) (list_all is_path_name (p ++ q)) is) (all-front p q (both_right (is_path_name name) (list_all is_path_name (p ++ q)) is))

-- so the text of the place above is its path, by which a directory is found
pub above-directory : {S : Type 0} (numbers : IndexMap (Bor (List ℕ)) ℕ S) (made : List Node) (path : List ℕ) (place : List (List ℕ)) → IsIndex numbers made
    → IsPath path place → is_directory made (number_of_path made (place_text (above place))) ≡ has_directory made (above place)
above-directory numbers made path place index is =
    let count = length place - 1 in
    let names : list_all is_path_name (above place) ≡ true =
    all-front (above place) (drop count place) (ap (list_all is_path_name) (take-append-drop count place) ∙ path-names path place is) in
    ap (λ read. is_directory made (option_and_then (node_at made) read)) (text-path (above place) names) ∙ sym (index.apart (above place))

-- a node that is found is there
pub there-numbered : (made : List Node) (path : List ℕ) (n : ℕ) → number_of_path made path ≡ Some n → n < length made
there-numbered made path n is =
    let q = and_then-some (node_at made) (place_of path) n is in
    linked_there made n (stands_is q.0 (node made n) (node_at_found made q.0 n q.2)).0

-- what stands at a place where nothing stood: the node behind the others
node_from-more : (k : ℕ) (place : List (List ℕ)) (made : List Node) (m : Node) → node_from k place made ≡ None
    → node_from k place (made ++ m ∷ []) ≡ (if stands_at place m then Some (k + length made) else None)
node_from-more k place [] m none = ap (λ n. if stands_at place m then Some n else None) (omega arith)
node_from-more k place (x ∷ made) m none =
    elim (cases_Bool (stands_at place x)) [
      | inl here ↦ let found : Some k ≡ None = rw here at none in cc
      | inr not ↦ rw not (node_from-more (k + 1) place made m (rw not at none) ∙ ap (λ n. if stands_at place m then Some n else None) (omega arith))
    ]

-- what stood at a place stands there still
node_from-kept : (k : ℕ) (place : List (List ℕ)) (made : List Node) (m : Node) (n : ℕ) → node_from k place made ≡ Some n → node_from k place (made ++ m ∷ []) ≡ Some n
node_from-kept k place [] m n found = absurd cc
node_from-kept k place (x ∷ made) m n found =
    elim (cases_Bool (stands_at place x)) [
      | inl here ↦ rw here (rw here at found)
      | inr not ↦ rw not (node_from-kept (k + 1) place made m n (rw not at found))
    ]

-- where the new node isn't, nothing changes
node_from-other : (k : ℕ) (place : List (List ℕ)) (made : List Node) (m : Node) → stands_at place m ≡ false → node_from k place (made ++ m ∷ []) ≡ node_from k place made
node_from-other k place [] m other = rw other refl
node_from-other k place (x ∷ made) m other =
    elim (cases_Bool (stands_at place x)) [ inl here ↦ rw here refl | inr not ↦ rw not (node_from-other (k + 1) place made m other) ]

-- another text is of another place
other-path : (path text : List ℕ) (p q : List (List ℕ)) → IsPath path p → IsPath text q → path ≢ text → same_place q p ≡ false
other-path path text p q path_is text_is other =
    other_place q p (λ same. other (sym (path-text path p path_is) ∙ ap place_text (sym same) ∙ path-text text q text_is))

-- what is numbered once a node is added
pub numbered-more : (made : List Node) (m : Node) (path : List ℕ) → IsPath path m.place → m.linked ≡ true → node_at made m.place ≡ None
    → (text : List ℕ) → number_of_path (made ++ m ∷ []) text ≡ update bytes_eq (number_of_path made) path (Some (length made)) text
unfolding node_at
numbered-more made m path is linked free text =
    elim (cases_Bool (bytes_eq path text)) [
      | inl same ↦
          let alike : path ≡ text = same_bytes path text same in
          let here : place_of text ≡ Some m.place = ap place_of (sym alike) ∙ is in
          rw same (rw here (node_from-more 0 m.place made m free ∙ rw (stands_from m.place m linked refl) (ap Some (omega arith))))
      | inr other ↦
          let differ : path ≢ text = λ alike. let is_same : bytes_eq path text ≡ true = (bytes_eq-Decides path text).1 alike in let is_not : bytes_eq path text ≡ false = other in cc in
          rw other (others differ (place_of text) refl)
    ]
  where
    others : path ≢ text → (read : Option (List (List ℕ))) → place_of text ≡ read → option_and_then (node_at (made ++ m ∷ [])) (place_of text) ≡ option_and_then (node_at made) (place_of text)
    others differ None read = rw read refl
    others differ (Some q) read =
        rw read (node_from-other 0 q made m (ap (λ b. b && same_place q m.place) linked ∙ other-path path text m.place q is read differ))

-- a directory is looked for among the nodes before and the one behind them
directory-or : (made : List Node) (m : Node) (place : List (List ℕ)) (before here : Bool) → has_directory made place ≡ before → is_directory_at place m ≡ here
    → has_directory (made ++ m ∷ []) place ≡ (before || here)
directory-or made m place before here was is =
    list_any-append (is_directory_at place) made (m ∷ []) ∙ ap (λ b. b || (is_directory_at place m || false)) was ∙ ap (λ h. before || h) (or-false is)
  where
    or-false : is_directory_at place m ≡ here → (is_directory_at place m || false) ≡ here
    or-false is = elim (cases_Bool here) [ inl so ↦ rw is (rw so refl) | inr not ↦ rw is (rw not refl) ]

-- what a number of the nodes before names is no other now
directory-kept : (made : List Node) (m : Node) (at : Option ℕ) → ((n : ℕ) → at ≡ Some n → n < length made)
    → is_directory (made ++ m ∷ []) at ≡ is_directory made at
directory-kept made m None there = refl
directory-kept made m (Some n) there = ap (λ x. is_dir x.kind) (get_or_append_left made (m ∷ []) nowhere n (there n refl))

-- at each place one node at most: what is there is a directory exactly if the first that stands there is
directories-more : (made : List Node) (m : Node) → node_at made m.place ≡ None → m.linked ≡ true
    → ((place : List (List ℕ)) → has_directory made place ≡ is_directory made (node_at made place))
    → (place : List (List ℕ)) → has_directory (made ++ m ∷ []) place ≡ is_directory (made ++ m ∷ []) (node_at (made ++ m ∷ []) place)
unfolding node_at
directories-more made m free linked apart place =
    elim (cases_Bool (stands_at place m)) [
      | inl here ↦
          let at : place ≡ m.place = (stands_is place m here).1 in
          let none : node_from 0 place made ≡ None = ap (λ p. node_from 0 p made) at ∙ free in
          let found : node_from 0 place (made ++ m ∷ []) ≡ Some (length made) = node_from-more 0 place made m none ∙ rw here (ap Some (omega arith)) in
          directory-or made m place false (is_dir m.kind) (apart place ∙ ap (is_directory made) none) (ap (λ b. b && is_dir m.kind) here)
          ∙ sym (ap (is_directory (made ++ m ∷ [])) found ∙ ap (λ x. is_dir x.kind) (get_or-append_seam made m [] nowhere))
      | inr not ↦
          let other : node_from 0 place (made ++ m ∷ []) ≡ node_from 0 place made = node_from-other 0 place made m not in
          directory-or made m place (has_directory made place) false refl (ap (λ b. b && is_dir m.kind) not) ∙ or-nothing (has_directory made place)
          ∙ apart place
          ∙ sym (ap (is_directory (made ++ m ∷ [])) other
          ∙ directory-kept made m (node_from 0 place made) (λ n found. linked_there made n (stands_is place (node made n) (node_at_found made place n found)).0))
    ]
  where
    or-nothing : (b : Bool) → (b || false) ≡ b
    or-nothing true = refl
    or-nothing false = refl

-- An index stays one as a node is added with its path.
pub index-more : {S : Type 0} (before after : IndexMap (Bor (List ℕ)) ℕ S) (made : List Node) (m : Node) (path : List ℕ) → IsIndex before made
    → IsPath path m.place → m.linked ≡ true → node_at made m.place ≡ None
    → ((text : List ℕ) → number_in after text ≡ update bytes_eq (number_in before) path (Some (length made)) text) → IsIndex after (made ++ m ∷ [])
index-more before after made m path index is linked free updates = record {
  numbered = λ text. updates text ∙ ap (λ before. cond (bytes_eq path text) (Some (length made)) before) (index.numbered text) ∙ sym (numbered-more made m path is linked free text);
  apart = directories-more made m free linked index.apart;
}

-- The root alone is indexed by `/`.
pub index-root : {S : Type 0} (before after : IndexMap (Bor (List ℕ)) ℕ S) → ((text : List ℕ) → number_in before text ≡ None)
    → ((text : List ℕ) → number_in after text ≡ update bytes_eq (number_in before) (47 ∷ []) (Some 0) text) → IsIndex after new_tree
unfolding node_at place_of
index-root before after none updates =
    let empty : IsIndex before [] = record { numbered = λ text. none text ∙ nothing (place_of text); apart = λ place. refl } in
    index-more before after [] (record { kind = Dir; place = []; linked = true; content = [] }) (47 ∷ []) empty refl refl refl updates
  where
    nothing : (read : Option (List (List ℕ))) → None ≡ option_and_then (node_at []) read
    nothing None = refl
    nothing (Some place) = refl

-- a node that can stand somewhere stands where nothing stood
pub stands-free : (made : List Node) (place : List (List ℕ)) → can_stand made place ≡ true → node_at made place ≡ None
unfolding can_stand node_at
stands-free made place can = free (node_at made place) refl
  where
    free : (at : Option ℕ) → node_at made place ≡ at → node_at made place ≡ None
    free None is = is
    free (Some n) is =
        let not_any : not (list_any (stands_at place) made) ≡ true = both_right (has_directory made (above place)) (not (list_any (stands_at place) made)) can in
        let any : list_any (stands_at place) made ≡ true = any_at (stands_at place) made n refl (node_at_found made place n is) in
        let no : not true ≡ true = ap not (sym any) ∙ not_any in
        absurd cc

-- nothing can stand where no directory is
pub cannot-stand : (made : List Node) (place : List (List ℕ)) → has_directory made (above place) ≡ false → can_stand made place ≡ false
unfolding can_stand
cannot-stand made place none = ap (λ b. b && not (list_any (stands_at place) made)) none

-- what can stand in a directory that is there: what nothing stands at
pub can-stand : (made : List Node) (place : List (List ℕ)) (at : Option ℕ) → has_directory made (above place) ≡ true → node_at made place ≡ at
    → can_stand made place ≡ not (is_some at)
unfolding can_stand node_at
can-stand made place None directory is =
    let none : list_any (stands_at place) made ≡ false = none-any made (node_at_none made place is) in
    ap (λ b. b && not (list_any (stands_at place) made)) directory ∙ ap not none
  where
    none-any : (nodes : List Node) → ((n : ℕ) → stands_at place (node nodes n) ≡ false) → list_any (stands_at place) nodes ≡ false
    none-any [] none = refl
    none-any (m ∷ nodes) none = rw (none 0) (none-any nodes (λ n. none (suc n)))
can-stand made place (Some n) directory is =
    let any : list_any (stands_at place) made ≡ true = any_at (stands_at place) made n refl (node_at_found made place n is) in
    ap (λ b. b && not (list_any (stands_at place) made)) directory ∙ ap not any

-- a node that is made has its path's place, and stands where nothing stood
pub record IsMade (made : List Node) (path : List ℕ) (m : Node) : Type 0 where
  pub at_path : IsPath path m.place
  pub linked : m.linked ≡ true
  pub free : node_at made m.place ≡ None

pub made-so : (made : List Node) (n : WrittenNode) (m : Node) → node_made made n ≡ Some m → IsMade made n.path m
made-so made n m is =
    let q = and_then-some (node_behind made n) (place_of n.path) m is in
    let p = if-some (can_stand made q.0) (Some (node_placed n q.0)) m q.2 in
    let same : node_placed n q.0 ≡ m = some-equal (node_placed n q.0) m p.1 in
    subst (λ x. IsMade made n.path x) same (record { at_path = q.1; linked = refl; free = stands-free made q.0 p.0 })

-- what is at a path that is numbered
pub record IsAt (made : List Node) (path : List ℕ) (n : ℕ) : Type 0 where
  pub at_path : IsPath path (node made n).place
  pub found : node_at made (node made n).place ≡ Some n

pub numbered-at : (made : List Node) (path : List ℕ) (n : ℕ) → number_of_path made path ≡ Some n → IsAt made path n
numbered-at made path n is =
    let q = and_then-some (node_at made) (place_of path) n is in
    let same : q.0 ≡ (node made n).place = (stands_is q.0 (node made n) (node_at_found made q.0 n q.2)).1 in
    record { at_path = q.1 ∙ ap Some same; found = ap (node_at made) (sym same) ∙ q.2 }

-- A place that is numbered can be granted exactly if a directory is there, and one that isn't can't.
pub granted-there : {S : Type 0} (numbers : IndexMap (Bor (List ℕ)) ℕ S) (made : List Node) (path : List ℕ) (n : ℕ) (b : Bool) → IsIndex numbers made
    → number_of_path made path ≡ Some n → is_dir (node made n).kind ≡ b → granted_place made path ≡ (if b then Some (node made n).place else None)
unfolding can_grant
granted-there numbers made path n b index is kind =
    let at = numbered-at made path n is in
    ap (option_and_then (λ place. if has_directory made place then Some place else None)) at.at_path
    ∙ ap (λ b. if b then Some (node made n).place else None) (index.apart (node made n).place ∙ ap (is_directory made) at.found ∙ kind)

pub granted-nowhere : {S : Type 0} (numbers : IndexMap (Bor (List ℕ)) ℕ S) (made : List Node) (path : List ℕ) → IsIndex numbers made
    → number_of_path made path ≡ None → granted_place made path ≡ None
unfolding can_grant
granted-nowhere numbers made path index is = at (place_of path) refl
  where
    at : (read : Option (List (List ℕ))) → place_of path ≡ read → granted_place made path ≡ None
    at None read = ap (option_and_then (λ place. if has_directory made place then Some place else None)) read
    at (Some place) read =
        let free : node_at made place ≡ None = sym (ap (option_and_then (node_at made)) read) ∙ is in
        ap (option_and_then (λ place. if has_directory made place then Some place else None)) read
        ∙ ap (λ b. if b then Some place else None) (index.apart place ∙ ap (is_directory made) free)
