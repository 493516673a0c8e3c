-- One name leads at once to what a walk beneath the directory comes to at its first event.
use Rattle.std.proofs.Common.{◌≡◌, ℕ, ◌≤◌, ◌+◌, List, [], ◌∷◌, ◌++◌, Bool, true, false, Option, Some, None, length, ap, sym, ◌∙◌, refl, arith, cond}
use Rattle.std.specs.Prelude.{not, ◌&&◌, ◌||◌, nat_eq, nat_le, IfSome, option_map}
use Rattle.std.specs.List.{list_all}
use Rattle.std.proofs.lemmas.Bool.{and_parts}
use Rattle.std.proofs.lemmas.Bool.Decides.{nat_tests}
use Rattle.std.proofs.lemmas.List.{append_assoc, append-nil}
use Rattle.file_tree.specs.Places.{is_file_name, is_file_name_byte, is_dots, names_fit, names_from, path_components, with_name}
use Rattle.file_tree.specs.Nodes.{Node, node, child_of, is_dir, is_link}
use Rattle.rights.specs.Limits.{most_path}
use Rattle.lookup.specs.Answers.{Beneath, Last, Follow, Keep, is_kept, Finding, Found_node}
use Rattle.lookup.specs.AtOnce.{at_once, may_name, named_at_once}
use Rattle.lookup.specs.ByNodes.{by_nodes, in_node, into, from_node}
use Rattle.lookup.specs.Leads.{onward}
use Rattle.lookup.specs.Steps.{Moves, Meets}
use Rattle.lookup.specs.Looks.{lookup_fault}
use Rattle.lookup.specs.Paths.{is_absolute, is_dot, is_dot_dot, is_too_long, is_unkept, last_component, path_fault}
use Rattle.lookup.specs.Walks.{Done, first_handled, handled, begun, settled}
use Rattle.lookup.specs.declared.ways.Found.{Found}
use Rattle.lookup.specs.Views.{found_of}

-- ## A name as a path
name_is_no_slash : (b : ℕ) → is_file_name_byte b ≡ true → nat_eq b 47 ≡ false
name_is_no_slash b byte = grind (arith, nat_tests)

-- the names of what has begun and goes on without a `/`
one_name : (begun name : List ℕ) → list_all is_file_name_byte name ≡ true → names_from begun name ≡ with_name (begun ++ name) []
one_name begun [] bytes = ap (λ (text : List ℕ). with_name text []) (sym (append-nil begun))
one_name begun (b ∷ name) bytes =
    let parts = and_parts (is_file_name_byte b) (list_all is_file_name_byte name) bytes in
    rw (name_is_no_slash b parts.0)
    (one_name (begun ++ b ∷ []) name parts.1 ∙ ap (λ (text : List ℕ). with_name text []) (append_assoc begun (b ∷ []) name))

fits : (read : ℕ) (name : List ℕ) → list_all is_file_name_byte name ≡ true → read + length name ≤ 255 → names_fit read name ≡ true
fits read [] bytes short = grind (arith, nat_tests)
fits read (b ∷ name) bytes short =
    let parts = and_parts (is_file_name_byte b) (list_all is_file_name_byte name) bytes in
    rw (name_is_no_slash b parts.0) (fits (read + 1) name parts.1 (omega arith))

-- what a name's test says
record IsName (name : List ℕ) : Type 0 where
  some : nat_eq (length name) 0 ≡ false
  short : nat_le (length name) 255 ≡ true
  bytes : list_all is_file_name_byte name ≡ true
  dot : is_dot name ≡ false
  dot_dot : is_dot_dot name ≡ false

no_dots : (x y : Bool) → not (x || y) ≡ true → (x ≡ false) × (y ≡ false)
no_dots true y h = cc
no_dots false true h = cc
no_dots false false h = (refl, refl)

no_true : (b : Bool) → not b ≡ true → b ≡ false
no_true true h = cc
no_true false h = refl

is_name : (name : List ℕ) → is_file_name name ≡ true → IsName name
unfolding is_file_name
is_name name h =
    let third = and_parts _ (not (is_dots name)) h in
    let second = and_parts _ (list_all is_file_name_byte name) third.0 in
    let first = and_parts (not (nat_eq (length name) 0)) (nat_le (length name) 255) second.0 in
    let dots = no_dots (is_dot name) (is_dot_dot name) third.1 in
    record { some = no_true _ first.0; short = first.1; bytes = second.1; dot = dots.0; dot_dot = dots.1 }

with_some : (name : List ℕ) → nat_eq (length name) 0 ≡ false → with_name name [] ≡ name ∷ []
with_some [] h = cc
with_some (b ∷ name) h = refl

alone : (name : List ℕ) → IsName name → path_components name ≡ name ∷ []
unfolding path_components
alone name is = one_name [] name is.bytes ∙ with_some name is.some

last_alone : (name : List ℕ) → IsName name → last_component name ≡ name
unfolding last_component
last_alone name is = rw (alone name is) refl

-- nothing is wrong with its text
within : (name : List ℕ) → IsName name → is_too_long name ≡ false
within name is =
    let few : length name ≤ 255 = least (length name) is.short in
    rw (fits 0 name is.bytes (omega arith), most (length name) few) refl
  where
    least : (n : ℕ) → nat_le n 255 ≡ true → n ≤ 255
    least n h = grind (arith, nat_tests)

    most : (n : ℕ) → n ≤ 255 → nat_le n most_path ≡ true
    most n h = grind (arith, nat_tests)

beneath : (name : List ℕ) → list_all is_file_name_byte name ≡ true → is_absolute name ≡ false
beneath [] bytes = refl
beneath (b ∷ name) bytes = name_is_no_slash b (and_parts (is_file_name_byte b) (list_all is_file_name_byte name) bytes).0

kept : (name : List ℕ) (last : Last) → IsName name → is_unkept last name ≡ false
kept name Follow is = refl
kept name Keep is = rw (last_alone name is, is.some, is.dot, is.dot_dot) refl

good : (name : List ℕ) (last : Last) → IsName name → path_fault name Beneath last ≡ None
unfolding path_fault
good name last is = rw (within name is, is.some, beneath name is.bytes, kept name last is) refl

-- ## Its first event
module _ (t : List Node) (d : ℕ) (name : List ℕ) (last : Last) (f : Finding) where
  abbrev ended : Option ℕ → Type 0
  ended o = settled (begun d name Beneath last) (onward (by_nodes t Beneath last) (from_node d) [] 0 (into t last d [] [] o)) ≡ Done f

  by_child : (o : Option ℕ) → named_at_once t d last o ≡ Some f → ended o
  by_child None is = by_last last is
    where
      by_last : (last : Last) → named_at_once t d last None ≡ Some f →
          settled (begun d name Beneath last) (onward (by_nodes t Beneath last) (from_node d) [] 0 (into t last d [] [] None)) ≡ Done f
      by_last Follow is = cc
      by_last Keep is = cc
  by_child (Some n) is = by_link (is_link (node t n).kind && not (is_kept last [])) is
    where
      by_link : (b : Bool) → cond b None (Some (Found_node n)) ≡ Some f →
          settled (begun d name Beneath last) (onward (by_nodes t Beneath last) (from_node d) [] 0
          (cond b (Meets (node t n).content) (Moves (record { current = n; before = d ∷ [] })))) ≡ Done f
      by_link true is = cc
      by_link false is = cc

  in_directory : IsName name → is_dir (node t d).kind ≡ true → (node t d).linked ≡ true → in_node t Beneath last d [] name [] ≡ into t last d [] [] (child_of t d name)
  in_directory is directory linked = rw (directory, linked, is.dot, is.dot_dot) refl

  first_of_name : IsName name → is_dir (node t d).kind ≡ true → (node t d).linked ≡ true → named_at_once t d last (child_of t d name) ≡ Some f →
      first_handled t d name Beneath last ≡ Done f
  unfolding first_handled handled lookup_fault by_nodes
  first_of_name is directory linked found =
      rw (good name last is, linked, alone name is, in_directory is directory linked) (by_child (child_of t d name) found)

-- ## In the words of the code
module _ (t : List Node) (d : ℕ) (name : List ℕ) (last : Last) where
  pub at_once_named : may_name t d name ≡ true → named_at_once t d last (child_of t d name) ≡ at_once t d name last
  unfolding at_once
  at_once_named may = rw may refl

  pub named_first : (o : Option Found) → may_name t d name ≡ true → option_map found_of o ≡ named_at_once t d last (child_of t d name) →
      IfSome o (λ found. first_handled t d name Beneath last ≡ Done (found_of found))
  named_first None may is = tt
  named_first (Some found) may is =
      let all = and_parts _ (node t d).linked may in
      let first = and_parts (is_file_name name) (is_dir (node t d).kind) all.0 in
      first_of_name t d name last (found_of found) (is_name name first.0) first.1 all.1 (sym is)

  pub named_alone : (o : Option Found) → may_name t d name ≡ true → IfSome o (λ found. path_components name ≡ name ∷ [])
  named_alone None may = tt
  named_alone (Some found) may =
      let all = and_parts _ (node t d).linked may in
      alone name (is_name name (and_parts (is_file_name name) (is_dir (node t d).kind) all.0).0)
