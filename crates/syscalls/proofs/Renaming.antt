-- Renaming a node: when the tree does it, and where the node is then.
use Rattle.std.proofs.Common.{◌≡◌, ◌≢◌, ◌++◌, ◌<◌, ◌∷◌, ℕ, Bool, true, false, List, [], length, drop, refl, ap, sym, subst, ◌∙◌, cond, append-nil}
use Rattle.std.specs.Prelude.{◌&&◌, not, Option, Some, None}
use Rattle.std.specs.Cmp.Derive.{both_true}
use Rattle.std.proofs.Math.Seq.{drop-length}
use Rattle.std.specs.List.{list_all}
use Rattle.file_tree.proofs.PlaceTexts.{names_of_place}
use Rattle.file_tree.specs.Places.{same_place, begins, at_name, is_file_name}
use Rattle.file_tree.specs.Nodes.{Node, node, node_at, child_of, parent_of, stands_at, has_below, is_dir}
use Rattle.file_tree.specs.Changes.{renamed, moved, replaced_at}
use Rattle.file_tree.specs.Refusals.{ChangeFault, Gone, IntoItself, NotEmpty, rename_fault}
use Rattle.file_tree.specs.WellFormed.{IsTree}
use Rattle.file_tree.specs.declared.faults.TreeFault.{TreeFault}
use Rattle.file_tree.specs.declared.faults.TreeFault.TheVariants as fault
use Rattle.file_tree.specs.Views.{TellsTreeFault}
use Rattle.file_tree.proofs.PlaceLaws.{same_place_is, begins_refl}
use Rattle.file_tree.proofs.NodeLaws.{node_at_none, stands_from}
use Rattle.file_tree.proofs.TreeLaws.{renamed_node, child_by_place}
use Rattle.rights.specs.Errors.{ENOTEMPTY}
use Rattle.rights.specs.Errors as causes
use Rattle.rights.specs.Operations.{Remove as Removes, Create as Creates}
use Rattle.lookup.specs.Promises.{HasName}
use Rattle.process.specs.State.{ProcessState}
use Rattle.kernel.specs.World.{World}
use Rattle.kernel.specs.Answers.{Event, Gives, unless}
use Rattle.kernel.specs.Calls.{renamed_over, moves}
use Rattle.syscalls.proofs.Tests.{passes}

into : (a b c d : Bool) → cond a (Some Gone) (cond b None (cond c (Some IntoItself) (cond d (Some NotEmpty) None))) ≡ Some IntoItself → c ≡ true
into true b c d is = absurd cc
into false true c d is = absurd cc
into false false true d is = refl
into false false false true is = absurd cc
into false false false false is = absurd cc

pub into_itself : (t : List Node) (n d : ℕ) (name : List ℕ) → rename_fault t n d name ≡ Some IntoItself → begins (node t n).place (at_name (node t d).place name) ≡ true
unfolding rename_fault
into_itself t n d name is = into (not ((node t n).linked && (node t d).linked)) (same_place (at_name (node t d).place name) (node t n).place) _ _ is

-- a free place is no node's
pub other_place : (t : List Node) (n : ℕ) (p : List (List ℕ)) → (node t n).linked ≡ true → node_at t p ≡ None → same_place p (node t n).place ≡ false
other_place t n p linked free = at (same_place p (node t n).place) refl
  where
    at : (b : Bool) → same_place p (node t n).place ≡ b → b ≡ false
    at false is = refl
    at true is =
        let stands : stands_at p (node t n) ≡ true = stands_from p (node t n) linked (same_place_is p (node t n).place is) in
        let no : stands_at p (node t n) ≡ false = node_at_none t p free n in
        let clash : true ≡ false = sym stands ∙ no in
        absurd cc

pub free_place : (t : List Node) (d : ℕ) (name : List ℕ) → (node t d).linked ≡ true → child_of t d name ≡ None → node_at t (at_name (node t d).place name) ≡ None
free_place t d name linked absent = sym (child_by_place t d name linked) ∙ absent

-- what is renamed stands at its new place
module _ (q : List (List ℕ)) (m : Node) where
  not_replaced : stands_at q m ≡ false → replaced_at q m ≡ m
  not_replaced off = rw off refl

  front_moved : (m.linked && begins m.place m.place) ≡ true → (moved m.place q m).place ≡ q ++ drop (length m.place) m.place
  front_moved front = rw front refl

  stands_elsewhere : m.linked ≡ true → same_place q m.place ≡ false → stands_at q m ≡ false
  stands_elsewhere linked other = rw linked other

  moved_place : m.linked ≡ true → same_place q m.place ≡ false → (moved m.place q (replaced_at q m)).place ≡ q
  moved_place linked other =
      ap (λ (x : Node). (moved m.place q x).place) (not_replaced (stands_elsewhere linked other))
      ∙ front_moved (both_true linked (begins_refl m.place))
      ∙ ap (λ rest. q ++ rest) (drop-length m.place)
      ∙ append-nil q

pub renamed_place : (t : List Node) (n d : ℕ) (name : List ℕ) → (node t n).linked ≡ true →
    same_place (at_name (node t d).place name) (node t n).place ≡ false →
    (node (renamed t n (at_name (node t d).place name)) n).place ≡ at_name (node t d).place name
renamed_place t n d name linked other =
    ap (λ (m : Node). m.place) (renamed_node t n d name n other) ∙ moved_place (at_name (node t d).place name) (node t n) linked other

pub told_into : (o : Option ChangeFault) (e : TreeFault) → TellsTreeFault o e → e ≡ fault.IntoItself → o ≡ Some IntoItself
told_into o e tells is = subst (TellsTreeFault o) is tells (λ same. absurd cc)

pub told_full : (o : Option ChangeFault) (e : TreeFault) → TellsTreeFault o e → e ≡ fault.NotEmpty → o ≡ Some NotEmpty
told_full o e tells is = subst (TellsTreeFault o) is tells (λ same. absurd cc)

-- ## Over another node
-- the kinds fit where both are directories or neither is
fits_directory : (a b : Bool) → a ≡ b → not (a && not b) ≡ true
fits_directory true true is = refl
fits_directory true false is = absurd cc
fits_directory false b is = refl

fits_other : (a b : Bool) → a ≡ b → not (not a && b) ≡ true
fits_other true b is = refl
fits_other false false is = refl
fits_other false true is = absurd cc

-- what is left to ask then
pub over_rest : (w : World) (p : ℕ) (s : ProcessState) (e : Event) (n m : ℕ) → begins (node w.tree n).place (node w.tree m).place ≡ false →
    is_dir (node w.tree n).kind ≡ is_dir (node w.tree m).kind →
    renamed_over w p s e n m ≡ unless (not (has_below w.tree (node w.tree m).place)) ENOTEMPTY causes.Path
    (Gives 0 (moves w p s e n (node w.tree m).place) (record { operation = Removes; place = (node w.tree m).place }
    ∷ record { operation = Removes; place = (node w.tree n).place } ∷ record { operation = Creates; place = (node w.tree m).place } ∷ []))
over_rest w p s e n m apart kinds =
    passes _ _ _ _ (ap not apart) ∙ passes _ _ _ _ (fits_directory _ _ kinds) ∙ passes _ _ _ _ (fits_other _ _ kinds)

full : (a b c d : Bool) → cond a (Some Gone) (cond b None (cond c (Some IntoItself) (cond d (Some NotEmpty) None))) ≡ Some NotEmpty → d ≡ true
full true b c d is = absurd cc
full false true c d is = absurd cc
full false false true d is = absurd cc
full false false false true is = refl
full false false false false is = absurd cc

pub is_full : (t : List Node) (n d : ℕ) (name : List ℕ) → rename_fault t n d name ≡ Some NotEmpty → has_below t (at_name (node t d).place name) ≡ true
unfolding rename_fault
is_full t n d name is = full (not ((node t n).linked && (node t d).linked))
    (same_place (at_name (node t d).place name) (node t n).place) (begins (node t n).place (at_name (node t d).place name)) _ is

-- two linked nodes stand at different places
pub apart_places : (t : List Node) (n m : ℕ) → IsTree t → (node t n).linked ≡ true → (node t m).linked ≡ true → m ≢ n → same_place (node t m).place (node t n).place ≡ false
apart_places t n m tree linked other differ = at (same_place (node t m).place (node t n).place) refl
  where
    at : (b : Bool) → same_place (node t m).place (node t n).place ≡ b → b ≡ false
    at false is = refl
    at true is = absurd (differ (tree.apart m n other linked (same_place_is (node t m).place (node t n).place is)))

-- the directory of a node that has a name
pub named_place : (t : List Node) (m d : ℕ) (name : List ℕ) → HasName t m name → Some d ≡ parent_of t m → (node t m).place ≡ at_name (node t d).place name
named_place t m d name named parent =
    let same : named.parent ≡ d = some_same (sym named.held ∙ sym parent) in
    named.place ∙ ap (λ k. at_name (node t k).place name) same
  where
    some_same : {x y : ℕ} → Some x ≡ Some y → x ≡ y
    some_same is = cc

-- the last name of a node's place is a name
last_of_all : (p : List (List ℕ)) (name : List ℕ) → list_all is_file_name (p ++ name ∷ []) ≡ true → is_file_name name ≡ true
last_of_all [] name is = last (is_file_name name) is
  where
    last : (b : Bool) → (b && true) ≡ true → b ≡ true
    last true is = refl
    last false is = absurd cc
last_of_all (x ∷ p) name is = last_of_all p name (rest (is_file_name x) _ is)
  where
    rest : (a b : Bool) → (a && b) ≡ true → b ≡ true
    rest true b is = is
    rest false b is = absurd cc

pub name_of_node : (t : List Node) (n : ℕ) (name : List ℕ) → IsTree t → n < length t → HasName t n name → is_file_name name ≡ true
name_of_node t n name tree there named = last_of_all (node t named.parent).place name (ap (list_all is_file_name) (sym named.place) ∙ names_of_place t n (tree.limits n there))
