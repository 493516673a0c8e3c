-- What a path's text says of its names.
use Rattle.std.proofs.Common.{◌≡◌, ℕ, ◌<◌, ◌≤◌, ◌+◌, List, [], ◌∷◌, ◌++◌, Bool, true, false, Option, Some, None, length, ap, ◌∙◌, refl, arith, cond, length-append}
use Rattle.std.specs.Prelude.{not, ◌&&◌, ◌||◌, nat_eq, nat_le}
use Rattle.std.specs.List.{list_all}
use Rattle.std.proofs.lemmas.Bool.{and_parts, cond_both}
use Rattle.std.proofs.lemmas.List.Folds.{list_all-append}
use Rattle.std.proofs.lemmas.Bool.Decides.{nat_tests}
use Rattle.std.specs.Cmp.Derive.{both_true}
use Rattle.file_tree.specs.Places.{is_file_name, is_file_name_byte, names_fit, names_from, path_components, with_name}
use Rattle.lookup.specs.Answers.{Way, Last, LookupFault, Too_long, No_entry, Escape, Bad_last}
use Rattle.rights.specs.Limits.{most_path}
use Rattle.lookup.specs.Paths.{is_too_long, is_escape, is_unkept, is_bad_last, is_dot, is_dot_dot, is_place_byte, has_path_bytes, last_or, last_component, path_fault}

passed : (b : Bool) (f : LookupFault) (rest : Option LookupFault) → cond b (Some f) rest ≡ None → (b ≡ false) × (rest ≡ None)
passed true f rest h = cc
passed false f rest h = (refl, h)

-- nothing is wrong with a text
pub record IsGoodText (path : List ℕ) (way : Way) (last : Last) : Type 0 where
  pub short : is_too_long path ≡ false
  pub beneath : is_escape way path ≡ false
  pub kept : is_unkept last path ≡ false

pub good_text : (path : List ℕ) (way : Way) (last : Last) → path_fault path way last ≡ None → IsGoodText path way last
unfolding path_fault
good_text path way last h =
    let long = passed (is_too_long path) Too_long _ h in
    let some = passed (nat_eq (length path) 0) No_entry _ long.1 in
    let beneath = passed (is_escape way path) Escape _ some.1 in
    let kept = passed (is_unkept last path) Bad_last _ beneath.1 in
    record { short = long.0; beneath = beneath.0; kept = kept.0 }

-- Each name in a short text of path bytes is one of name bytes, and neither empty nor too long.
abbrev pub IsGoodName : List ℕ → Type 0
IsGoodName name = (0 < length name) × (length name ≤ 255) × (list_all is_file_name_byte name ≡ true)

abbrev pub AreGoodNames : List (List ℕ) → Type 0
AreGoodNames [] = Unit {0}
AreGoodNames (name ∷ names) = IsGoodName name × AreGoodNames names

with_good : (begun : List ℕ) (names : List (List ℕ)) → length begun ≤ 255 → list_all is_file_name_byte begun ≡ true → AreGoodNames names → AreGoodNames (with_name begun names)
with_good [] names short good rest = rest
with_good (b ∷ begun) names short good rest = ((omega arith, short, good), rest)

fits_now : (n : ℕ) → nat_le n 255 ≡ true → n ≤ 255
fits_now n h = grind (arith, nat_tests)

fits_read : (read : ℕ) (path : List ℕ) → names_fit read path ≡ true → read ≤ 255
fits_read read [] h = fits_now read h
fits_read read (b ∷ path) h =
    cond_both (nat_eq b 47) (nat_le read 255 && names_fit 0 path) (names_fit (read + 1) path) (λ fits. fits ≡ true → read ≤ 255)
    (λ slash fits. fits_now read (and_parts _ _ fits).0)
    (λ other fits. let more : read + 1 ≤ 255 = fits_read (read + 1) path fits in omega arith) h

name_byte : (b : ℕ) → is_place_byte b ≡ true → nat_eq b 47 ≡ false → is_file_name_byte b ≡ true
name_byte b h other = by_byte (is_file_name_byte b) (nat_eq b 47) h other
  where
    by_byte : (x y : Bool) → (x || y) ≡ true → y ≡ false → x ≡ true
    by_byte true y h e = refl
    by_byte false true h e = cc
    by_byte false false h e = cc

name_more : (begun : List ℕ) (b : ℕ) → list_all is_file_name_byte begun ≡ true → is_file_name_byte b ≡ true → list_all is_file_name_byte (begun ++ b ∷ []) ≡ true
name_more begun b good byte = list_all-append is_file_name_byte begun (b ∷ []) ∙ both_true good (both_true byte refl)

names_good : (begun path : List ℕ) → length begun ≤ 255 → list_all is_file_name_byte begun ≡ true → names_fit (length begun) path ≡ true →
    list_all is_place_byte path ≡ true → AreGoodNames (names_from begun path)
names_good begun [] short good fit bytes = with_good begun [] short good tt
names_good begun (b ∷ path) short good fit bytes =
    let parts = and_parts (is_place_byte b) (list_all is_place_byte path) bytes in
    cond_both (nat_eq b 47) (with_name begun (names_from [] path)) (names_from (begun ++ b ∷ []) path) AreGoodNames
    (λ slash. let fits : (nat_le (length begun) 255 && names_fit 0 path) ≡ true = rw slash at fit in
    with_good begun (names_from [] path) short good (names_good [] path (omega arith) refl (and_parts _ _ fits).1 parts.1))
    (λ other. let fits : names_fit (length begun + 1) path ≡ true = rw other at fit in
    let least : length begun + 1 ≤ 255 = fits_read (length begun + 1) path fits in
    let count : length (begun ++ b ∷ []) ≡ length begun + 1 = length-append begun (b ∷ []) in
    names_good (begun ++ b ∷ []) path (omega arith) (name_more begun b good (name_byte b parts.0 other)) (ap (λ (n : ℕ). names_fit n path) count ∙ fits) parts.1)

last_good : (name : List ℕ) (names : List (List ℕ)) → IsGoodName name → AreGoodNames names → IsGoodName (last_or name names)
last_good name [] good rest = good
last_good name (next ∷ names) good rest = last_good next names rest.0 rest.1

-- so is the last name of a path, if it has one
last_of_path : (path : List ℕ) → is_too_long path ≡ false → has_path_bytes path ≡ true → is_bad_last (last_component path) ≡ false → IsGoodName (last_component path)
unfolding last_component path_components
last_of_path path short bytes good =
    by_names (names_from [] path) (names_good [] path (omega arith) refl (fits (nat_le (length path) most_path) (names_fit 0 path) short) bytes) good
  where
    fits : (x y : Bool) → not (x && y) ≡ false → y ≡ true
    fits true true h = refl
    fits true false h = cc
    fits false y h = cc

    by_names : (names : List (List ℕ)) → AreGoodNames names → is_bad_last (last_or [] names) ≡ false → IsGoodName (last_or [] names)
    by_names [] all h = cc
    by_names (name ∷ names) all h = last_good name names all.0 all.1

-- A last name that is kept may be that of a node.
pub last_is_name : (path : List ℕ) → is_too_long path ≡ false → is_bad_last (last_component path) ≡ false → has_path_bytes path ≡ true → is_file_name (last_component path) ≡ true
unfolding is_file_name
last_is_name path short good bytes =
    let name = last_of_path path short bytes good in
    let some : nat_eq (length (last_component path)) 0 ≡ false = empty (length (last_component path)) name.0 in
    let few : nat_le (length (last_component path)) 255 ≡ true = short_name (length (last_component path)) name.1 in
    by_parts (is_dot (last_component path)) (is_dot_dot (last_component path)) some few name.2 good
  where
    empty : (n : ℕ) → 0 < n → nat_eq n 0 ≡ false
    empty n h = grind (arith, nat_tests)

    short_name : (n : ℕ) → n ≤ 255 → nat_le n 255 ≡ true
    short_name n h = grind (arith, nat_tests)

    by_parts : {e l a : Bool} (x y : Bool) → e ≡ false → l ≡ true → a ≡ true → (e || x || y) ≡ false → (not e && l && a && not (x || y)) ≡ true
    by_parts true y e l a h = let bad : true ≡ false = rw e at h in cc
    by_parts false true e l a h = let bad : true ≡ false = rw e at h in cc
    by_parts false false e l a h = rw (e, l, a) refl
