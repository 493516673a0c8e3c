-- What a call may rely on of its paths, and of what is found.
use Rattle.std.proofs.Common.{◌≡◌, ℕ, List, [], ◌∷◌, Bool, true, false, ap, sym, ◌∙◌, subst, refl}
use Rattle.std.specs.Prelude.{◌&&◌, ◌||◌, not, nat_eq, nat_le}
use Rattle.std.specs.List.{list_all}
use Rattle.std.proofs.lemmas.Bool.{and_parts}
use Rattle.std.specs.Cmp.Derive.{both_true}
use Rattle.std.proofs.lemmas.List.Folds.{list_all-append}
use Rattle.file_tree.specs.Places.{is_file_name, at_name, begins}
use Rattle.file_tree.specs.Nodes.{Node, node, has_below}
use Rattle.file_tree.specs.WellFormed.{IsTree}
use Rattle.file_tree.proofs.TreeLaws.{Parent, parent_is, parent_is_directory}
use Rattle.file_tree.proofs.KeptByCreate.{names_kept}
use Rattle.lookup.specs.Paths.{last_component, has_path_bytes}
use Rattle.lookup.specs.Paths as paths
use Rattle.lookup.specs.Promises.{HasName}
use Rattle.instruction_set.specs.Programs.{is_path, is_path_byte}
use Rattle.kernel.specs.Answers.{Move}
use Rattle.kernel.specs.Changes.{tree_after}
use Rattle.kernel.proofs.Trees.{moved_is_tree}

-- The paths of a program are paths of a lookup.
path_byte : (b : ℕ) → is_path_byte b ≡ true → paths.is_place_byte b ≡ true
path_byte b good = by (nat_le 33 b) (nat_le b 126) (nat_eq b 34) (nat_eq b 92) (nat_eq b 47) good
  where
    by : (a c f g h : Bool) → (a && c && not f && not g) ≡ true → ((a && c && not (f || h || g)) || h) ≡ true
    by true true false false true good = refl
    by true true false false false good = refl
    by false c f g h good = absurd cc
    by true false f g h good = absurd cc
    by true true true g h good = absurd cc
    by true true false true h good = absurd cc

pub path_bytes : (path : List ℕ) → is_path path ≡ true → has_path_bytes path ≡ true
path_bytes [] good = refl
path_bytes (b ∷ path) good =
    let parts = and_parts (is_path_byte b) (is_path path) good in
    both_true (path_byte b parts.0) (path_bytes path parts.1)

-- A linked node moves over another that is found under its name.
name_of_place : (t : List Node) → IsTree t → (m d : ℕ) (name : List ℕ) → (node t m).linked ≡ true → (node t m).place ≡ at_name (node t d).place name → is_file_name name ≡ true
name_of_place t tree m d name linked place =
    let all : list_all is_file_name (at_name (node t d).place name) ≡ true = subst (λ p. list_all is_file_name p ≡ true) place (names_kept t tree m linked) in
    let both : (list_all is_file_name (node t d).place && list_all is_file_name (name ∷ [])) ≡ true = sym (list_all-append is_file_name (node t d).place (name ∷ [])) ∙ all in
    let last : (is_file_name name && true) ≡ true = (and_parts _ _ both).1 in
    (and_parts (is_file_name name) true last).0

pub moved_over : (t : List Node) (n m : ℕ) (name : List ℕ) → IsTree t → (node t n).linked ≡ true → (node t m).linked ≡ true → HasName t m name →
    begins (node t n).place (node t m).place ≡ false → has_below t (node t m).place ≡ false → IsTree (tree_after t (Move n (node t m).place))
moved_over t n m name tree linked also has outside empty =
    let holder : Parent t m has.parent = parent_is t m has.parent has.held in
    subst (λ p. IsTree (tree_after t (Move n p))) (sym has.place)
    (moved_is_tree t n has.parent name tree linked holder.holder.linked (parent_is_directory t m has.parent tree has.held)
    (name_of_place t tree m has.parent name also has.place)
    (ap (begins (node t n).place) (sym has.place) ∙ outside)
    (ap (has_below t) (sym has.place) ∙ empty))
