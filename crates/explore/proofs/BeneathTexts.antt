-- Where a text begins with a place's names, what is behind them decides whether it is beneath the place.
use Rattle.std.proofs.Common.{◌≡◌, ℕ, Bool, true, false, List, [], ◌∷◌, ◌++◌, length, take, drop, Some, None, refl, ap, sym, ◌∙◌}
use Rattle.std.specs.Prelude.{◌&&◌, Option, nat_eq, option_and_then, if◌then◌else◌}
use Rattle.std.specs.Str.{bytes_eq}
use Rattle.std.proofs.lemmas.Bool.{and_parts}
use Rattle.file_tree.specs.Places.{ends_name, lies_at, names_text, slash}
use Rattle.explore.specs.Breaches.{behind, is_beneath, passes}

behind-by : (front text : List ℕ) → bytes_eq (take (length front) text) front ≡ true → behind front text ≡ Some (drop (length front) text)
behind-by [] text is = refl
behind-by (b ∷ front) [] is = absurd cc
behind-by (b ∷ front) (c ∷ text) is =
    let parts = and_parts (nat_eq c b) (bytes_eq (take (length front) text) front) is in
    ap (λ same. if same then behind front text else None) parts.0 ∙ behind-by front text parts.1

not-behind : (front text : List ℕ) → bytes_eq (take (length front) text) front ≡ false → behind front text ≡ None
not-behind [] text is = absurd cc
not-behind (b ∷ front) [] is = refl
not-behind (b ∷ front) (c ∷ text) is = go (nat_eq c b) is (not-behind front text)
  where
    go : (same : Bool) → (same && bytes_eq (take (length front) text) front) ≡ false → (bytes_eq (take (length front) text) front ≡ false → behind front text ≡ None) →
        (if same then behind front text else None) ≡ None
    go true is rest = rest is
    go false is rest = refl

behind-both : (front next text : List ℕ) → behind (front ++ next) text ≡ option_and_then (behind next) (behind front text)
behind-both [] next text = refl
behind-both (b ∷ front) next [] = refl
behind-both (b ∷ front) next (c ∷ text) = go (nat_eq c b) (behind-both front next text)
  where
    go : (same : Bool) → behind (front ++ next) text ≡ option_and_then (behind next) (behind front text) →
        (if same then behind (front ++ next) text else None) ≡ option_and_then (behind next) (if same then behind front text else None)
    go true is = is
    go false is = refl

by-names : (place : List (List ℕ)) (text : List ℕ) → is_beneath place text ≡ passes ends_name (behind (names_text place) text)
unfolding is_beneath
by-names [] text = refl
by-names (name ∷ place) text =
    go (λ rest. by-names place rest) (behind (slash ∷ name) text) ∙ ap (passes ends_name) (sym (behind-both (slash ∷ name) (names_text place) text))
  where
    go : ((rest : List ℕ) → is_beneath place rest ≡ passes ends_name (behind (names_text place) rest)) → (left : Option (List ℕ)) →
        passes (is_beneath place) left ≡ passes ends_name (option_and_then (behind (names_text place)) left)
    go each None = refl
    go each (Some rest) = each rest

pub lies-beneath : (place : List (List ℕ)) (text : List ℕ) → lies_at (names_text place) text ≡ is_beneath place text
unfolding lies_at
lies-beneath place text = go (bytes_eq (take (length (names_text place)) text) (names_text place)) refl
  where
    go : (starts : Bool) → bytes_eq (take (length (names_text place)) text) (names_text place) ≡ starts
        → (starts && ends_name (drop (length (names_text place)) text)) ≡ is_beneath place text
    go true is = sym (by-names place text ∙ ap (passes ends_name) (behind-by (names_text place) text is))
    go false is = sym (by-names place text ∙ ap (passes ends_name) (not-behind (names_text place) text is))
