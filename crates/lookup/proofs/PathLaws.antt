-- How a path is read byte by byte, and what its names are.
use Rattle.std.proofs.Common.{◌≡◌, ℕ, ◌<◌, ◌≤◌, ◌-◌, ◌+◌, List, [], ◌∷◌, ◌++◌, length, take, drop, get_or, ap, sym, ◌∙◌, refl, arith, get_or-drop, length-drop}
use Rattle.std.specs.Prelude.{◌≢◌}
use Rattle.std.proofs.lemmas.Bool.{eq-eqb, ne_eqb}
use Rattle.std.proofs.lemmas.List.{drop_more, take_more}
use Rattle.file_tree.specs.Places.{with_name, names_from}
use Rattle.lookup.specs.Paths.{last_or}

-- the next byte of a path ends the name that is begun, or belongs to it
names_at_slash : (begun path : List ℕ) (i : ℕ) → i < length path → get_or path i 0 ≡ 47 → names_from begun (drop i path) ≡ with_name begun (names_from [] (drop (i + 1) path))
names_at_slash begun path i there slash = rw (drop_more path i 0 there, eq-eqb _ _ slash) refl

pub names_at_byte : (begun path : List ℕ) (i : ℕ) → i < length path → get_or path i 0 ≢ 47 → names_from begun (drop i path) ≡ names_from (begun ++ get_or path i 0 ∷ []) (drop (i + 1) path)
names_at_byte begun path i there other = rw (drop_more path i 0 there, ne_eqb _ _ other) refl

begun_more : (path : List ℕ) (from i : ℕ) → from ≤ i → i < length path → take (i + 1 - from) (drop from path) ≡ take (i - from) (drop from path) ++ get_or path i 0 ∷ []
begun_more path from i low there =
    let short : i - from < length (drop from path) = omega (arith, length-drop from path) in
    let sum : i + 1 - from ≡ (i - from) + 1 = omega arith in
    let place : from + (i - from) ≡ i = omega arith in
    rw (sum, take_more (drop from path) (i - from) 0 short, get_or-drop from path (i - from) 0, place) refl

-- what is left of a path has the same last name after a name of it, and after a byte of a name
pub last_at_slash : (path : List ℕ) (from i j : ℕ) (last late whole : List ℕ) → i < length path → get_or path i 0 ≡ 47 → j ≡ i + 1 →
    ((names : List (List ℕ)) → last_or last (with_name (take (i - from) (drop from path)) names) ≡ last_or late names) →
    last_or last (names_from (take (i - from) (drop from path)) (drop i path)) ≡ whole →
    last_or late (names_from (take (i + 1 - j) (drop j path)) (drop (i + 1) path)) ≡ whole
last_at_slash path from i j last late whole there slash next step same =
    let none : i + 1 - j ≡ 0 = omega arith in
    rw none (sym (step (names_from [] (drop (i + 1) path))) ∙ ap (last_or last) (sym (names_at_slash (take (i - from) (drop from path)) path i there slash)) ∙ same)

pub last_at_byte : (path : List ℕ) (from i : ℕ) (last whole : List ℕ) → from ≤ i → i < length path → get_or path i 0 ≢ 47 →
    last_or last (names_from (take (i - from) (drop from path)) (drop i path)) ≡ whole →
    last_or last (names_from (take (i + 1 - from) (drop from path)) (drop (i + 1) path)) ≡ whole
last_at_byte path from i last whole low there other same =
    rw (begun_more path from i low there) (ap (last_or last) (sym (names_at_byte (take (i - from) (drop from path)) path i there other)) ∙ same)
