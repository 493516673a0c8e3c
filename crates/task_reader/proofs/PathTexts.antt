-- A path is the text of its place.
use Rattle.std.proofs.Common.{◌≡◌, ℕ, List, [], ◌∷◌, ◌++◌, Some, None, option_map, Bool, true, false, cond, length, refl, ap, sym, ◌∙◌, append_assoc, append-nil}
use Rattle.std.specs.Prelude.{◌==◌, ◌&&◌, ◌||◌, not, nat_eq, nat_le}
use Rattle.std.specs.List.{list_all}
use Rattle.std.proofs.lemmas.Bool.{eqb-true}
use Rattle.rights.proofs.Tests.{both_left, both_right}
use Rattle.file_tree.specs.Places.{is_file_name_byte, is_dots, names_text, place_text, is_path_name}
use Rattle.texts.specs.Parts.{parts, parts_from}
use Rattle.task_reader.specs.Paths.{names_behind, path_names, place_of}
use Rattle.task_reader.proofs.WrittenLaws.{some-equal, if-some, map-some}

-- what is parted at each `/` is joined by them
joined-if : (b : ℕ) (text begun : List ℕ) (here : Bool) → (b == 47) ≡ here
    → names_text (parts_from 47 text []) ≡ 47 ∷ text
    → names_text (parts_from 47 text (begun ++ b ∷ [])) ≡ (47 ∷ (begun ++ b ∷ [])) ++ text
    → names_text (cond here (begun ∷ parts_from 47 text []) (parts_from 47 text (begun ++ b ∷ []))) ≡ (47 ∷ begun) ++ b ∷ text
joined-if b text begun true is rest more =
    let slash : b ≡ 47 = eqb-true b 47 is in
    ap (λ t. (47 ∷ begun) ++ t) (rest ∙ ap (λ s. s ∷ text) (sym slash))
joined-if b text begun false is rest more = more ∙ append_assoc (47 ∷ begun) (b ∷ []) text

joined : (text begun : List ℕ) → names_text (parts_from 47 text begun) ≡ (47 ∷ begun) ++ text
joined [] begun = refl
joined (b ∷ text) begun = joined-if b text begun (b == 47) refl (joined text []) (joined text (begun ++ b ∷ []))

all-names : (names place : List (List ℕ)) → path_names names ≡ Some place → names ≡ place
all-names [] place is = some-equal [] place is
all-names (name ∷ names) place is =
    let p = if-some (is_path_name name) (option_map (λ rest. name ∷ rest) (path_names names)) place is in
    let q = map-some (λ rest. name ∷ rest) (path_names names) place p.1 in
    ap (λ rest. name ∷ rest) (all-names names q.0 q.1) ∙ q.2

-- there is a first part
written-out : (place : List (List ℕ)) (b : ℕ) (text : List ℕ) → names_text place ≡ b ∷ text → place_text place ≡ names_text place
written-out [] b text is = absurd cc
written-out (name ∷ place) b text is = refl

behind-text : (text : List ℕ) (place : List (List ℕ)) → names_behind text ≡ Some place → place_text place ≡ 47 ∷ text
behind-text [] place is = ap place_text (sym (some-equal [] place is))
behind-text (b ∷ text) place is =
    let same = all-names (parts 47 (b ∷ text)) place is in
    let whole : names_text place ≡ 47 ∷ b ∷ text = ap names_text (sym same) ∙ joined (b ∷ text) [] in
    written-out place 47 (b ∷ text) whole ∙ whole

pub path-text : (path : List ℕ) (place : List (List ℕ)) → place_of path ≡ Some place → place_text place ≡ path
unfolding place_of
path-text [] place is = absurd cc
path-text (b ∷ text) place is =
    let p = if-some (b == 47) (names_behind text) place is in
    behind-text text place p.1 ∙ ap (λ s. s ∷ text) (sym (eqb-true b 47 p.0))

-- a name has no `/`, so its end is where the next begins
slash-or : (slash quote back : Bool) → not (quote || slash || back) ≡ true → slash ≡ false
slash-or true true back is = absurd cc
slash-or true false back is = absurd cc
slash-or false quote back is = refl

no-slash : (b : ℕ) → is_file_name_byte b ≡ true → (b == 47) ≡ false
no-slash b is = slash-or (b == 47) (nat_eq b 34) (nat_eq b 92) (both_right (nat_le 33 b && nat_le b 126) (not (nat_eq b 34 || nat_eq b 47 || nat_eq b 92)) is)

parted : (name begun : List ℕ) (place : List (List ℕ)) → list_all is_file_name_byte name ≡ true → list_all is_path_name place ≡ true
    → parts_from 47 (name ++ names_text place) begun ≡ (begun ++ name) ∷ place
parted [] begun [] bytes names = ap (λ n. n ∷ []) (sym (append-nil begun))
parted [] begun (next ∷ place) bytes names =
    let next_bytes = both_right (not (nat_eq (length next) 0)) (list_all is_file_name_byte next)
    (both_left (not (nat_eq (length next) 0) && list_all is_file_name_byte next) (not (is_dots next))
    (both_left (is_path_name next) (list_all is_path_name place) names)) in
    ap (λ rest. begun ∷ rest) (parted next [] place next_bytes (both_right (is_path_name next) (list_all is_path_name place) names))
    ∙ ap (λ n. n ∷ next ∷ place) (sym (append-nil begun))
parted (b ∷ name) begun place bytes names =
    let here = no-slash b (both_left (is_file_name_byte b) (list_all is_file_name_byte name) bytes) in
    ap (λ h. cond h (begun ∷ parts_from 47 (name ++ names_text place) []) (parts_from 47 (name ++ names_text place) (begun ++ b ∷ []))) here
    ∙ parted name (begun ++ b ∷ []) place (both_right (is_file_name_byte b) (list_all is_file_name_byte name) bytes) names
    ∙ ap (λ n. n ∷ place) (append_assoc begun (b ∷ []) name)

pub each-name : (place : List (List ℕ)) → list_all is_path_name place ≡ true → path_names place ≡ Some place
each-name [] names = refl
each-name (name ∷ place) names =
    ap (λ b. cond b (option_map (λ rest. name ∷ rest) (path_names place)) None) (both_left (is_path_name name) (list_all is_path_name place) names)
    ∙ ap (option_map (λ rest. name ∷ rest)) (each-name place (both_right (is_path_name name) (list_all is_path_name place) names))

pub not-each : (place : List (List ℕ)) → list_all is_path_name place ≡ false → path_names place ≡ None
not-each [] other = absurd cc
not-each (name ∷ place) other = go (is_path_name name) other (not-each place)
  where
    go : (here : Bool) → (here && list_all is_path_name place) ≡ false → (list_all is_path_name place ≡ false → path_names place ≡ None) →
        cond here (option_map (λ rest. name ∷ rest) (path_names place)) None ≡ None
    go true other rest = ap (option_map (λ rest. name ∷ rest)) (rest other)
    go false other rest = refl

behind-some : (name rest : List ℕ) → not (nat_eq (length name) 0) ≡ true → names_behind (name ++ rest) ≡ path_names (parts 47 (name ++ rest))
behind-some [] rest some = absurd cc
behind-some (b ∷ name) rest some = refl

pub text-path : (place : List (List ℕ)) → list_all is_path_name place ≡ true → place_of (place_text place) ≡ Some place
unfolding place_of
text-path [] names = refl
text-path (name ∷ place) names =
    let first = both_left (is_path_name name) (list_all is_path_name place) names in
    let formed = both_left (not (nat_eq (length name) 0) && list_all is_file_name_byte name) (not (is_dots name)) first in
    behind-some name (names_text place) (both_left (not (nat_eq (length name) 0)) (list_all is_file_name_byte name) formed)
    ∙ ap path_names (parted name [] place (both_right (not (nat_eq (length name) 0)) (list_all is_file_name_byte name) formed) (both_right (is_path_name name) (list_all is_path_name place) names))
    ∙ each-name (name ∷ place) names
