-- Laws of the parts of a text between commas.
use Rattle.std.proofs.Common.{◌≡◌, ℕ, List, [], ◌∷◌, ◌++◌, Bor, map, refl, ap, ◌∙◌, sym, append_assoc, append-nil}
use Rattle.std.specs.List.{flat_map}
use Rattle.texts.specs.Parts.{joined}

-- a part, with its comma
abbrev pub part_text : Bor (List ℕ) → List ℕ
part_text part = part.now ++ 44 ∷ []

-- parts and a last one, with commas between, are each with its comma, and the last one
pub joined-last : (parts : List (Bor (List ℕ))) (last : Bor (List ℕ)) → joined 44 (map (λ part. part.now) (parts ++ last ∷ [])) ≡ flat_map part_text parts ++ last.now
joined-last [] last = refl
joined-last (part ∷ []) last = sym (ap (λ t. t ++ last.now) (append-nil (part_text part)) ∙ append_assoc part.now (44 ∷ []) last.now)
joined-last (part ∷ next ∷ parts) last =
    let rest = flat_map part_text (next ∷ parts) in
    ap (λ t. part.now ++ 44 ∷ t) (joined-last (next ∷ parts) last) ∙ sym (append_assoc part.now (44 ∷ []) (rest ++ last.now)) ∙ sym (append_assoc (part_text part) rest last.now)
