-- How a path is read byte by byte.
use Rattle.std.proofs.Common.{◌≡◌, ℕ, ◌<◌, ◌≤◌, ◌-◌, ◌+◌, List, [], ◌∷◌, ◌++◌, Bool, false, length, take, drop, get_or, ap, sym, ◌∙◌, refl, arith, nat_eq, get_or-drop, length-drop, length-take}
use Rattle.std.specs.Prelude.{◌≢◌, ◌&&◌, nat_le}
use Rattle.std.proofs.lemmas.Bool.{eq-eqb, ne_eqb, lt-leb, cond_both}
use Rattle.std.proofs.lemmas.List.{drop_more, take_more, take_rest, drop_all}
use Rattle.std.proofs.Math.Seq.{drop-length}
use Rattle.file_tree.specs.Places.{begins, with_name, names_from, names_fit, path_components}

-- the next byte of a path ends the name that is begun, or belongs to it
pub names_at_slash : (begun path : List ℕ) (i : ℕ) → i < length path → get_or path i 0 ≡ 47 → names_from begun (drop i path) ≡ with_name begun (names_from [] (drop (i + 1) path))
names_at_slash begun path i there slash = rw (drop_more path i 0 there, eq-eqb _ _ slash) refl

pub names_at_byte : (begun path : List ℕ) (i : ℕ) → i < length path → get_or path i 0 ≢ 47 → names_from begun (drop i path) ≡ names_from (begun ++ get_or path i 0 ∷ []) (drop (i + 1) path)
names_at_byte begun path i there other = rw (drop_more path i 0 there, ne_eqb _ _ other) refl

pub begun_more : (path : List ℕ) (from i : ℕ) → from ≤ i → i < length path → take (i + 1 - from) (drop from path) ≡ take (i - from) (drop from path) ++ get_or path i 0 ∷ []
begun_more path from i low there =
    let short : i - from < length (drop from path) = omega (arith, length-drop from path) in
    let sum : i + 1 - from ≡ (i - from) + 1 = omega arith in
    let place : from + (i - from) ≡ i = omega arith in
    rw (sum, take_more (drop from path) (i - from) 0 short, get_or-drop from path (i - from) 0, place) refl

-- what is left of a place decides the same after a name of the path, and after a byte of a name
pub after_slash : (path : List ℕ) (from i j : ℕ) (rest left : List (List ℕ)) (whole : Bool) → i < length path → get_or path i 0 ≡ 47 → j ≡ i + 1 →
    ((names : List (List ℕ)) → begins (with_name (take (i - from) (drop from path)) names) rest ≡ begins names left) →
    begins (names_from (take (i - from) (drop from path)) (drop i path)) rest ≡ whole →
    begins (names_from (take (i + 1 - j) (drop j path)) (drop (i + 1) path)) left ≡ whole
after_slash path from i j rest left whole there slash next step same =
    let none : i + 1 - j ≡ 0 = omega arith in
    rw none (sym (step (names_from [] (drop (i + 1) path))) ∙ ap (λ names. begins names rest) (sym (names_at_slash (take (i - from) (drop from path)) path i there slash)) ∙ same)

pub after_byte : (path : List ℕ) (from i : ℕ) (rest : List (List ℕ)) (whole : Bool) → from ≤ i → i < length path → get_or path i 0 ≢ 47 →
    begins (names_from (take (i - from) (drop from path)) (drop i path)) rest ≡ whole →
    begins (names_from (take (i + 1 - from) (drop from path)) (drop (i + 1) path)) rest ≡ whole
after_byte path from i rest whole low there other same =
    rw (begun_more path from i low there) (ap (λ names. begins names rest) (sym (names_at_byte (take (i - from) (drop from path)) path i there other)) ∙ same)

-- a name of more than 255 bytes does not fit, whatever comes
long_name : (read : ℕ) (text : List ℕ) → 255 < read → names_fit read text ≡ false
long_name read [] long = lt-leb read 255 long
long_name read (b ∷ text) long =
    let short : nat_le read 255 ≡ false = lt-leb read 255 long in
    let more : names_fit (read + 1) text ≡ false = long_name (read + 1) text (omega arith) in
    cond_both (nat_eq b 47) (nat_le read 255 && names_fit 0 text) (names_fit (read + 1) text) (λ fits. fits ≡ false) (λ slash. rw short refl) (λ other. more)

pub long_at : (text : List ℕ) (i read : ℕ) → i < length text → get_or text i 0 ≢ 47 → 255 ≤ read → names_fit read (drop i text) ≡ false
long_at text i read there other long =
    let longer : names_fit (read + 1) (drop (i + 1) text) ≡ false = long_name (read + 1) (drop (i + 1) text) (omega arith) in
    rw (drop_more text i 0 there, ne_eqb _ _ other) longer

-- the first name of a path, where it ends at a slash and where it ends with the path, and none where nothing is begun at the end
with_name_some : (begun : List ℕ) (names : List (List ℕ)) → 0 < length begun → with_name begun names ≡ begun ∷ names
with_name_some [] names h = absurd (omega arith)
with_name_some (b ∷ begun) names h = refl

pub name_at_slash : (path : List ℕ) (from i : ℕ) → from < i → i < length path → get_or path i 0 ≡ 47 →
    names_from (take (i - from) (drop from path)) (drop i path) ≡ path_components path →
    path_components path ≡ take (i - from) (drop from path) ∷ path_components (take (length path - (i + 1)) (drop (i + 1) path))
unfolding path_components
name_at_slash path from i some there slash same =
    let count : length (take (i - from) (drop from path)) ≡ i - from = length-take (i - from) (drop from path) ∙ omega (arith, length-drop from path) in
    rw (take_rest path (i + 1)) (sym same ∙ names_at_slash (take (i - from) (drop from path)) path i there slash ∙ with_name_some (take (i - from) (drop from path)) _ (omega arith))

pub none_begun : (path : List ℕ) → names_from [] path ≡ path_components path
unfolding path_components
none_begun path = refl

pub slash_next : (path : List ℕ) (from i : ℕ) → i ≤ from → from ≤ i → i < length path → get_or path i 0 ≡ 47 →
    names_from (take (i - from) (drop from path)) (drop i path) ≡ path_components path →
    names_from (take (i + 1 - (i + 1)) (drop (i + 1) path)) (drop (i + 1) path) ≡ path_components path
slash_next path from i low high there slash same =
    let none : i - from ≡ 0 = omega arith in
    let next : i + 1 - (i + 1) ≡ 0 = omega arith in
    let begun : names_from [] (drop i path) ≡ path_components path = rw none at same in
    rw next (sym (names_at_slash [] path i there slash) ∙ begun)

pub byte_next : (path : List ℕ) (from i : ℕ) → from ≤ i → i < length path → get_or path i 0 ≢ 47 →
    names_from (take (i - from) (drop from path)) (drop i path) ≡ path_components path →
    names_from (take (i + 1 - from) (drop from path)) (drop (i + 1) path) ≡ path_components path
byte_next path from i low there other same =
    rw (begun_more path from i low there) (sym (names_at_byte (take (i - from) (drop from path)) path i there other) ∙ same)

at_end : (path : List ℕ) (from i : ℕ) → length path ≤ i → i ≤ length path →
    names_from (take (i - from) (drop from path)) (drop i path) ≡ path_components path → with_name (drop from path) [] ≡ path_components path
at_end path from i low high same =
    let whole : i ≡ length path = omega arith in
    let rest : drop i path ≡ [] = rw whole (drop-length path) in
    let begun : take (i - from) (drop from path) ≡ drop from path = rw whole (take_rest path from) in
    rw (begun, rest) at same

pub name_at_end : (path : List ℕ) (from i : ℕ) → from < length path → length path ≤ i → i ≤ length path →
    names_from (take (i - from) (drop from path)) (drop i path) ≡ path_components path →
    path_components path ≡ take (length path - from) (drop from path) ∷ path_components (take (length path - length path) (drop (length path) path))
unfolding path_components
name_at_end path from i some low high same =
    let none : length path - length path ≡ 0 = omega arith in
    let count : length (drop from path) ≡ length path - from = length-drop from path in
    rw (take_rest path from, none) (sym (at_end path from i low high same) ∙ with_name_some (drop from path) [] (omega arith))

pub no_name : (path : List ℕ) (from i : ℕ) → length path ≤ from → length path ≤ i → i ≤ length path →
    names_from (take (i - from) (drop from path)) (drop i path) ≡ path_components path → path_components path ≡ []
no_name path from i none low high same =
    let rest : drop from path ≡ [] = drop_all from path none in
    sym (rw rest at (at_end path from i low high same))
