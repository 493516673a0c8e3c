-- The names in a place's text.
use Rattle.std.proofs.Common.{◌≡◌, ℕ, ◌<◌, ◌≤◌, ◌+◌, ◌-◌, List, [], ◌∷◌, ◌++◌, Bool, true, false, length}
use Rattle.std.proofs.Common.{take, drop, Some, refl, ap, sym, ◌∙◌, append-nil, append_assoc, arith, cond, get_or, length-append, take-append-drop}
use Rattle.std.proofs.Math.Seq.{drop-append_seam, take-append_seam}
use Rattle.std.proofs.lemmas.List.{drop_more, take_rest}
use Rattle.std.proofs.lemmas.Slice.Eq.{bytes_eq-Decides}
use Rattle.std.specs.Str.{bytes_eq}
use Rattle.std.specs.Prelude.{◌&&◌, ◌==◌, not, slice_get}
use Rattle.std.proofs.lemmas.Bool.{eqb-true, ne_eqb, and_parts}
use Rattle.std.specs.Cmp.Derive.{both_true}
use Rattle.texts.specs.Parts.{parts, parts_from}
use Rattle.file_tree.specs.Places.{above, at_name, begins, ends_name, lies_at, names_text, place_text, same_place, slash}
use Rattle.file_tree.specs.PlaceViews.{LastName, is_one_name, is_place_text, names_of}
use Rattle.file_tree.proofs.PlaceLaws.{above_at_name, at_name_length, begins_is, begins_from, rest_same, same_place_from, same_place_is}

-- a text that is cut at a `/` has the parts before it and those behind it
parts-cut : (front rest begun : List ℕ) → parts_from slash (front ++ slash ∷ rest) begun ≡ parts_from slash front begun ++ parts slash rest
parts-cut [] rest begun = refl
parts-cut (b ∷ front) rest begun = go (b == slash) (parts-cut front rest []) (parts-cut front rest (begun ++ b ∷ []))
  where
    go : (ends : Bool) → parts_from slash (front ++ slash ∷ rest) [] ≡ parts_from slash front [] ++ parts slash rest →
        parts_from slash (front ++ slash ∷ rest) (begun ++ b ∷ []) ≡ parts_from slash front (begun ++ b ∷ []) ++ parts slash rest →
        cond ends (begun ∷ parts_from slash (front ++ slash ∷ rest) []) (parts_from slash (front ++ slash ∷ rest) (begun ++ b ∷ []))
        ≡ cond ends (begun ∷ parts_from slash front []) (parts_from slash front (begun ++ b ∷ [])) ++ parts slash rest
    go true here there = ap (λ names. begun ∷ names) here
    go false here there = there

pub names-cut : (front rest : List ℕ) → names_of (front ++ slash ∷ rest) ≡ names_of front ++ parts slash rest
names-cut [] rest = refl
names-cut (b ∷ front) rest = parts-cut front rest []

-- a name without a `/` is one part
one-part : (name begun : List ℕ) → is_one_name name ≡ true → parts_from slash name begun ≡ (begun ++ name) ∷ []
one-part [] begun one = ap (λ name. name ∷ []) (sym (append-nil begun))
one-part (b ∷ name) begun one = go (b == slash) one (one-part name (begun ++ b ∷ []))
  where
    go : (ends : Bool) → (not ends && is_one_name name) ≡ true → (is_one_name name ≡ true → parts_from slash name (begun ++ b ∷ []) ≡ ((begun ++ b ∷ []) ++ name) ∷ []) →
        cond ends (begun ∷ parts_from slash name []) (parts_from slash name (begun ++ b ∷ [])) ≡ (begun ++ b ∷ name) ∷ []
    go true one rest = absurd cc
    go false one rest = rest one ∙ ap (λ name. name ∷ []) (append_assoc begun (b ∷ []) name)

pub names-at : (front name : List ℕ) → is_one_name name ≡ true → names_of (front ++ slash ∷ name) ≡ names_of front ++ name ∷ []
names-at front name one = names-cut front name ∙ ap (λ names. names_of front ++ names) (one-part name [] one)

-- texts of places that stand one behind the other have the names of both
pub names-append : (front rest : List ℕ) → is_place_text rest ≡ true → names_of (front ++ rest) ≡ names_of front ++ names_of rest
names-append front [] is = ap names_of (append-nil front) ∙ sym (append-nil (names_of front))
names-append front (b ∷ rest) is =
    let at : b ≡ slash = eqb-true b slash is in
    ap (λ c. names_of (front ++ c ∷ rest)) at ∙ names-cut front rest

-- the parts of a text, each behind a `/`, are that text behind a `/`
parts-text : (text begun : List ℕ) → names_text (parts_from slash text begun) ≡ slash ∷ (begun ++ text)
parts-text [] begun = append-nil (slash ∷ begun) ∙ ap (λ text. slash ∷ text) (sym (append-nil begun))
parts-text (b ∷ text) begun = go (b == slash) refl (parts-text text []) (parts-text text (begun ++ b ∷ []))
  where
    go : (ends : Bool) → (b == slash) ≡ ends → names_text (parts_from slash text []) ≡ slash ∷ text →
        names_text (parts_from slash text (begun ++ b ∷ [])) ≡ slash ∷ ((begun ++ b ∷ []) ++ text) →
        names_text (cond ends (begun ∷ parts_from slash text []) (parts_from slash text (begun ++ b ∷ []))) ≡ slash ∷ (begun ++ b ∷ text)
    go true is here there = ap (λ text. slash ∷ (begun ++ text)) (here ∙ ap (λ c. c ∷ text) (sym (eqb-true b slash is)))
    go false is here there = there ∙ ap (λ text. slash ∷ text) (append_assoc begun (b ∷ []) text)

-- so a place's text is that of its names
pub text-of : (text : List ℕ) → is_place_text text ≡ true → names_text (names_of text) ≡ text
text-of [] is = refl
text-of (b ∷ text) is = parts-text text [] ∙ ap (λ c. c ∷ text) (sym (eqb-true b slash is))

-- and the root's is printed as `/`
parts-printed : (text begun : List ℕ) → place_text (parts_from slash text begun) ≡ names_text (parts_from slash text begun)
parts-printed [] begun = refl
parts-printed (b ∷ text) begun = go (b == slash) (parts-printed text (begun ++ b ∷ []))
  where
    go : (ends : Bool) → place_text (parts_from slash text (begun ++ b ∷ [])) ≡ names_text (parts_from slash text (begun ++ b ∷ [])) →
        place_text (cond ends (begun ∷ parts_from slash text []) (parts_from slash text (begun ++ b ∷ [])))
        ≡ names_text (cond ends (begun ∷ parts_from slash text []) (parts_from slash text (begun ++ b ∷ [])))
    go true there = refl
    go false there = there

pub printed : (text : List ℕ) → is_place_text text ≡ true → 0 < length text → place_text (names_of text) ≡ text
printed [] is some = absurd (omega arith)
printed (b ∷ text) is some = parts-printed text [] ∙ text-of (b ∷ text) is

names_text-append : (p q : List (List ℕ)) → names_text (p ++ q) ≡ names_text p ++ names_text q
names_text-append [] q = refl
names_text-append (name ∷ p) q = ap (λ text. (slash ∷ name) ++ text) (names_text-append p q) ∙ sym (append_assoc (slash ∷ name) (names_text p) (names_text q))

names_text-is : (p : List (List ℕ)) → is_place_text (names_text p) ≡ true
names_text-is [] = refl
names_text-is (name ∷ p) = refl

both-ways : (a b : Bool) → (a ≡ true → b ≡ true) → (b ≡ true → a ≡ true) → a ≡ b
both-ways true b there back = sym (there refl)
both-ways false true there back = back refl
both-ways false false there back = refl

rest-of : (front rest other : List ℕ) → front ++ rest ≡ front ++ other → rest ≡ other
rest-of [] rest other is = is
rest-of (b ∷ front) rest other is = rest-of front rest other cc

-- a place begins with another where its text is the other's and then nothing, or a `/` and more
begins-parted : (front text : List ℕ) → is_place_text front ≡ true → is_place_text text ≡ true → begins (names_of front) (names_of text) ≡ true →
    text ≡ front ++ names_text (drop (length (names_of front)) (names_of text))
begins-parted front text front_is text_is begins_so =
    let rest = drop (length (names_of front)) (names_of text) in
    sym (text-of text text_is) ∙ ap names_text (begins_is (names_of front) (names_of text) begins_so) ∙ names_text-append (names_of front) rest
    ∙ ap (λ text. text ++ names_text rest) (text-of front front_is)

pub begins-rest : (front text : List ℕ) → is_place_text front ≡ true → is_place_text text ≡ true → bytes_eq (take (length front) text) front ≡ true →
    is_place_text (drop (length front) text) ≡ begins (names_of front) (names_of text)
begins-rest front text front_is text_is starts =
    let rest = drop (length front) text in
    let parted : text ≡ front ++ rest = sym (take-append-drop (length front) text) ∙ ap (λ start. start ++ rest) ((bytes_eq-Decides (take (length front) text) front).0 starts) in
    both-ways (is_place_text rest) (begins (names_of front) (names_of text))
    (λ is. begins_from (names_of front) (names_of text) (names_of rest) (ap names_of parted ∙ names-append front rest is))
    (λ begins_so.
    let more = drop (length (names_of front)) (names_of text) in
    ap is_place_text (rest-of front rest (names_text more) (sym parted ∙ begins-parted front text front_is text_is begins_so)) ∙ names_text-is more)

pub begins-otherwise : (front text : List ℕ) → is_place_text front ≡ true → is_place_text text ≡ true → bytes_eq (take (length front) text) front ≡ false →
    false ≡ begins (names_of front) (names_of text)
begins-otherwise front text front_is text_is starts =
    both-ways false (begins (names_of front) (names_of text)) (λ no. absurd cc)
    (λ begins_so.
    let more = names_text (drop (length (names_of front)) (names_of text)) in
    let start : take (length front) text ≡ front = ap (take (length front)) (begins-parted front text front_is text_is begins_so) ∙ take-append_seam front more in
    sym starts ∙ (bytes_eq-Decides (take (length front) text) front).1 start)

pub begins-text : (front text : List ℕ) → is_place_text front ≡ true → is_place_text text ≡ true → lies_at front text ≡ begins (names_of front) (names_of text)
unfolding lies_at
begins-text front text front_is text_is = go (bytes_eq (take (length front) text) front) refl
  where
    go : (starts : Bool) → bytes_eq (take (length front) text) front ≡ starts → (starts && ends_name (drop (length front) text)) ≡ begins (names_of front) (names_of text)
    go true is = begins-rest front text front_is text_is is
    go false is = begins-otherwise front text front_is text_is is

-- what is behind a place's front is put behind another
pub record Moved (from to text : List ℕ) : Type 0 where
  pub within : length from ≤ length text
  pub is : is_place_text (to ++ drop (length from) text) ≡ true
  pub names : names_of (to ++ drop (length from) text) ≡ names_of to ++ drop (length (names_of from)) (names_of text)

pub moved-text : (from to text : List ℕ) → is_place_text from ≡ true → is_place_text to ≡ true → is_place_text text ≡ true →
    begins (names_of from) (names_of text) ≡ true → Moved from to text
moved-text from to text from_is to_is text_is begins_so = record {
  within = let count : length text ≡ length from + length more = ap length parted ∙ length-append from more in omega arith;
  is = ap (λ rest. is_place_text (to ++ rest)) cut ∙ placed to to_is;
  names = ap (λ rest. names_of (to ++ rest)) cut ∙ names-append to more (names_text-is rest)
      ∙ ap (λ names. names_of to ++ names) (sym (ap (drop (length (names_of from))) (ap names_of parted ∙ names-append from more (names_text-is rest))
      ∙ drop-append_seam (names_of from) (names_of more)));
}
  where
    rest : List (List ℕ)
    rest = drop (length (names_of from)) (names_of text)

    more : List ℕ
    more = names_text rest

    parted : text ≡ from ++ more
    parted = begins-parted from text from_is text_is begins_so

    cut : drop (length from) text ≡ more
    cut = ap (drop (length from)) parted ∙ drop-append_seam from more

    placed : (to : List ℕ) → is_place_text to ≡ true → is_place_text (to ++ more) ≡ true
    placed [] is = names_text-is rest
    placed (b ∷ to) is = is

-- places are the same where their texts are
pub same-text : (left right : List ℕ) → is_place_text left ≡ true → is_place_text right ≡ true → bytes_eq left right ≡ same_place (names_of left) (names_of right)
same-text left right left_is right_is =
    both-ways (bytes_eq left right) (same_place (names_of left) (names_of right))
    (λ same. same_place_from (names_of left) (names_of right) (ap names_of ((bytes_eq-Decides left right).0 same)))
    (λ same. (bytes_eq-Decides left right).1
    (sym (text-of left left_is) ∙ ap names_text (same_place_is (names_of left) (names_of right) same) ∙ text-of right right_is))

pub root-text : (text : List ℕ) → is_place_text text ≡ true → (length text == 0) ≡ same_place (names_of text) []
root-text [] is = refl
root-text (b ∷ text) is = ne_eqb (length (b ∷ text)) 0 (λ e. absurd (omega arith)) ∙ same-text (b ∷ text) [] is refl

-- the text of a name's place is cut at its last `/`
front-is : (front rest : List ℕ) → is_place_text (front ++ rest) ≡ true → is_place_text front ≡ true
front-is [] rest is = refl
front-is (b ∷ front) rest is = is

pub last-at : (text : List ℕ) (at : ℕ) → 0 < at → at ≤ length text → get_or text (at - 1) 0 ≡ slash → is_one_name (drop at text) ≡ true → is_place_text text ≡ true →
    LastName text (take (at - 1) text) (take (length text - (at - 1 + 1)) (drop (at - 1 + 1) text))
last-at text at some within slash_at one is =
    let next : at - 1 + 1 ≡ at = omega arith in
    let there : at - 1 < length text = omega arith in
    let rest : take (length text - (at - 1 + 1)) (drop (at - 1 + 1) text) ≡ drop at text = ap (λ n. take (length text - n) (drop n text)) next ∙ take_rest text at in
    let cut : drop (at - 1) text ≡ slash ∷ drop at text = drop_more text (at - 1) 0 there ∙ ap (λ b. b ∷ drop (at - 1 + 1) text) slash_at ∙ ap (λ n. slash ∷ drop n text) next in
    let parted : text ≡ take (at - 1) text ++ slash ∷ drop at text = sym (take-append-drop (at - 1) text) ∙ ap (λ rest. take (at - 1) text ++ rest) cut in
    record {
      parted = parted ∙ ap (λ name. take (at - 1) text ++ slash ∷ name) (sym rest);
      above_is = front-is (take (at - 1) text) (drop (at - 1) text) (ap is_place_text (take-append-drop (at - 1) text) ∙ is);
      one = ap is_one_name rest ∙ one;
    }

pub last-names : (text above name : List ℕ) → LastName text above name → names_of text ≡ at_name (names_of above) name
last-names text above name last = ap names_of last.parted ∙ names-at above name last.one

pub names-above : (text above_text name : List ℕ) → LastName text above_text name → names_of above_text ≡ above (names_of text)
names-above text above_text name last = sym (above_at_name (names_of above_text) name) ∙ ap above (sym (last-names text above_text name last))

pub last-of : (text above name : List ℕ) → LastName text above name → Some name ≡ slice_get (names_of text) (length (names_of text) - 1)
last-of text above name last =
    let p = names_of above in
    let count : length (at_name p name) - 1 ≡ length p = omega (arith, at_name_length p name) in
    sym (ap (λ names. slice_get names (length names - 1)) (last-names text above name last) ∙ ap (slice_get (at_name p name)) count ∙ seam p)
  where
    seam : (p : List (List ℕ)) → slice_get (p ++ name ∷ []) (length p) ≡ Some name
    seam [] = refl
    seam (x ∷ p) = seam p

pub no-child : (p : List (List ℕ)) (name : List ℕ) → false ≡ same_place (at_name p name) []
no-child [] name = refl
no-child (x ∷ p) name = refl

-- and it is that of a name in a directory where both are
child-same : (p q : List (List ℕ)) (x y : List ℕ) → (same_place p q && bytes_eq x y) ≡ same_place (at_name p x) (at_name q y)
child-same p q x y =
    both-ways (same_place p q && bytes_eq x y) (same_place (at_name p x) (at_name q y))
    (λ both.
    let parts = and_parts (same_place p q) (bytes_eq x y) both in
    let places : p ≡ q = same_place_is p q parts.0 in
    let names : x ≡ y = (bytes_eq-Decides x y).0 parts.1 in
    same_place_from (at_name p x) (at_name q y) cc)
    (λ same.
    let whole : at_name p x ≡ at_name q y = same_place_is (at_name p x) (at_name q y) same in
    let places : p ≡ q = sym (above_at_name p x) ∙ ap above whole ∙ above_at_name q y in
    let names : x ∷ [] ≡ y ∷ [] = rest_same p (x ∷ []) (y ∷ []) (whole ∙ ap (λ place. at_name place y) (sym places)) in
    let last : x ≡ y = cc in
    both_true (same_place_from p q places) ((bytes_eq-Decides x y).1 last))

pub child-of : (directory text above name last : List ℕ) → is_place_text directory ≡ true → LastName text above last →
    (bytes_eq directory above && bytes_eq name last) ≡ same_place (at_name (names_of directory) name) (names_of text)
child-of directory text above name last is cut =
    ap (λ same. same && bytes_eq name last) (same-text directory above is cut.above_is) ∙ child-same (names_of directory) (names_of above) name last
    ∙ ap (same_place (at_name (names_of directory) name)) (sym (last-names text above last cut))

pub pushed : (before all name : List ℕ) → all ≡ (before ++ slash ∷ []) ++ name → is_one_name name ≡ true → names_of all ≡ at_name (names_of before) name
pushed before all name is one = ap names_of (is ∙ append_assoc before (slash ∷ []) name) ∙ names-at before name one
