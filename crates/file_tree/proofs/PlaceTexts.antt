-- A place's text has the names of the place.
use Rattle.std.proofs.Common.{◌≡◌, ◌++◌, ℕ, Bool, true, false, List, [], ◌∷◌, Result, Ok, Err, refl, ap, sym, ◌∙◌, append-nil, append_assoc}
use Rattle.std.specs.Prelude.{◌&&◌, ◌||◌, not, nat_eq, length, nat_le, OnOk}
use Rattle.std.specs.List.{list_all}
use Rattle.file_tree.specs.Places.{at_name, slash, is_file_name, is_file_name_byte, is_dots, names_from, names_text, place_text, path_components, with_name}
use Rattle.file_tree.specs.PlaceViews.{is_one_name}
use Rattle.file_tree.specs.Nodes.{Node, node}
use Rattle.file_tree.specs.WellFormed.{is_content, is_byte, is_within_limits}

-- a byte of a name is no `/`
no_slash : (b : ℕ) → is_file_name_byte b ≡ true → nat_eq b 47 ≡ false
no_slash b is = at (nat_le 33 b) (nat_le b 126) (nat_eq b 34) (nat_eq b 47) (nat_eq b 92) is
  where
    at : (low high quote slash back : Bool) → (low && high && not (quote || slash || back)) ≡ true → slash ≡ false
    at low high quote false back is = refl
    at true true true true back is = absurd cc
    at true true false true back is = absurd cc
    at true false quote true back is = absurd cc
    at false high quote true back is = absurd cc

both : (a b : Bool) → (a && b) ≡ true → (a ≡ true) × (b ≡ true)
both true b is = (refl, is)
both false b is = absurd cc

-- the bytes of a name are read into it
reads_name : (begun name rest : List ℕ) → list_all is_file_name_byte name ≡ true → names_from begun (name ++ rest) ≡ names_from (begun ++ name) rest
reads_name begun [] rest is = ap (λ b. names_from b rest) (sym (append-nil begun))
reads_name begun (b ∷ name) rest is =
    let (first, others) = both (is_file_name_byte b) (list_all is_file_name_byte name) is in
    rw (no_slash b first) (reads_name (begun ++ b ∷ []) name rest others ∙ ap (λ x. names_from x rest) (append_assoc begun (b ∷ []) name))

-- a name has a byte
has_byte : (name : List ℕ) (names : List (List ℕ)) → is_file_name name ≡ true → with_name name names ≡ name ∷ names
unfolding is_file_name
has_byte [] names is = absurd cc
has_byte (b ∷ name) names is = refl

bytes_of : (name : List ℕ) → is_file_name name ≡ true → list_all is_file_name_byte name ≡ true
unfolding is_file_name
bytes_of name is =
    (both (not (nat_eq (length name) 0) && nat_le (length name) 255) (list_all is_file_name_byte name)
    (both (not (nat_eq (length name) 0) && nat_le (length name) 255 && list_all is_file_name_byte name) (not (is_dots name)) is).0).1

-- and holds no `/`
no_slash_in : (name : List ℕ) → list_all is_file_name_byte name ≡ true → is_one_name name ≡ true
no_slash_in [] is = refl
no_slash_in (b ∷ name) is =
    let (first, others) = both (is_file_name_byte b) (list_all is_file_name_byte name) is in
    ap (λ slash. not slash && is_one_name name) (no_slash b first) ∙ no_slash_in name others

pub one_name : (name : List ℕ) → is_file_name name ≡ true → is_one_name name ≡ true
one_name name is = no_slash_in name (bytes_of name is)

last_name : (p : List (List ℕ)) (name : List ℕ) → list_all is_file_name (at_name p name) ≡ true → is_file_name name ≡ true
last_name [] name is = (both (is_file_name name) true is).0
last_name (x ∷ p) name is = last_name p name (both (is_file_name x) (list_all is_file_name (at_name p name)) is).1

names_read : (begun : List ℕ) (p : List (List ℕ)) → list_all is_file_name p ≡ true → names_from begun (names_text p) ≡ with_name begun p
names_read begun [] is = refl
names_read begun (name ∷ p) is =
    let (first, others) = both (is_file_name name) (list_all is_file_name p) is in
    ap (with_name begun) (reads_name [] name (names_text p) (bytes_of name first) ∙ names_read name p others ∙ has_byte name p first)

pub components_of_text : (p : List (List ℕ)) → list_all is_file_name p ≡ true → path_components (place_text p) ≡ p
unfolding path_components
components_of_text [] is = refl
components_of_text (name ∷ p) is = names_read [] (name ∷ p) is

pub names_of_place : (t : List Node) (n : ℕ) → is_within_limits (node t n) ≡ true → list_all is_file_name (node t n).place ≡ true
unfolding is_within_limits
names_of_place t n is =
    let m = node t n in
    (both (list_all is_file_name m.place) (is_content m.kind m.content) (both (list_all is_file_name m.place && is_content m.kind m.content) (list_all is_byte m.content) is).0).0

-- the last name of a node's place holds no `/`
pub last_one : (t : List Node) (n : ℕ) (p : List (List ℕ)) (name : List ℕ) → is_within_limits (node t n) ≡ true → (node t n).place ≡ at_name p name → is_one_name name ≡ true
last_one t n p name is at = one_name name (last_name p name (ap (list_all is_file_name) (sym at) ∙ names_of_place t n is))

-- the text of a name's place is that of the directory's names, and the name after a `/`
names_text_at : (p : List (List ℕ)) (x : List ℕ) → names_text (at_name p x) ≡ names_text p ++ (slash ∷ x)
names_text_at [] x = append-nil (slash ∷ x)
names_text_at (name ∷ p) x = ap (λ text. (slash ∷ name) ++ text) (names_text_at p x) ∙ sym (append_assoc (slash ∷ name) (names_text p) (slash ∷ x))

-- so where the directory's names are told, and then a `/` and the name, the place is
pub told_at : {A E : Type 0} (r : Result A E) (before between after : List ℕ) (p q : List (List ℕ)) (x y : List ℕ) → q ≡ at_name p x → y ≡ x
    → between ≡ before ++ names_text p → OnOk r (after ≡ between ++ (slash ∷ y)) → OnOk r (after ≡ before ++ names_text q)
told_at (Ok a) before between after p q x y place same told behind =
    behind ∙ ap (λ text. text ++ (slash ∷ y)) told ∙ append_assoc before (names_text p) (slash ∷ y)
    ∙ ap (λ text. before ++ text) (ap (λ z. names_text p ++ (slash ∷ z)) same ∙ sym (names_text_at p x) ∙ ap names_text (sym place))
told_at (Err e) before between after p q x y place same told behind = tt
