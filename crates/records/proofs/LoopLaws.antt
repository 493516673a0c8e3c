-- What is written, and with what is left the whole: a step of a loop.
use Rattle.std.proofs.Common.{◌≡◌, ℕ, ◌+◌, ◌<◌, List, ◌∷◌, ◌++◌, length, map, drop, get_or, ap, ◌∙◌, sym, append_assoc, add-one, drop-cons}
use Rattle.std.specs.List.{flat_map}

-- what is left begins with the item
drop-item : {A : Type 0} (items : List A) (i : ℕ) (d : A) → i < length items → drop i items ≡ get_or items i d ∷ drop (i + 1) items
drop-item items i d within = drop-cons items i d within ∙ ap (λ n. get_or items i d ∷ drop n items) (sym (add-one i))

pub item-written : {A B : Type 0} (text : B → List ℕ) (seen : A → B) (items : List A) (i : ℕ) (d : A) (now next whole : List ℕ) → i < length items
    → now ++ flat_map text (map seen (drop i items)) ≡ whole → next ≡ now ++ text (seen (get_or items i d))
    → next ++ flat_map text (map seen (drop (i + 1) items)) ≡ whole
item-written text seen items i d now next whole within before is =
    let rest = flat_map text (map seen (drop (i + 1) items)) in
    ap (λ t. t ++ rest) is ∙ append_assoc now (text (seen (get_or items i d))) rest
    ∙ ap (λ left. now ++ flat_map text (map seen left)) (sym (drop-item items i d within)) ∙ before
