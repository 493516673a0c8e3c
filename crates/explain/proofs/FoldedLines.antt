-- A line that is folded word by word.
use Rattle.std.proofs.Common.{◌≡◌, ℕ, List, [], ◌∷◌, ◌++◌, refl, sym, subst}
use Rattle.texts.specs.Bytes.{space}
use Rattle.texts.specs.PageViews.{Adds}
use Rattle.texts.specs.Parts.{parts}
use Rattle.texts.specs.declared.pages.Page.{Page}
use Rattle.explain.specs.Listing.{Folds, FoldsWords, last_word}
use Rattle.explain.specs.ListingViews.{AddsSome}
use Rattle.explain.proofs.Writing.{both, written}

pub one_word : (p q : Page) (line word : List ℕ) → parts space line ≡ word ∷ [] → Adds p q word → AddsSome (Folds line) p q
one_word p q line word are adds =
    written (Folds line) p q word adds (subst (λ (words : List (List ℕ)). FoldsWords words word) (sym are) (last_word word))

-- a word, what stands behind it, and the rest
pub more_words : (p q r s : Page) (line word between rest : List ℕ) → parts space line ≡ word ∷ parts space rest
    → ((text : List ℕ) → Folds rest text → FoldsWords (word ∷ parts space rest) (word ++ (between ++ text)))
    → Adds p q word → Adds q r between → AddsSome (Folds rest) r s → AddsSome (Folds line) p s
more_words p q r s line word between rest are joins first second others =
    both (λ (text : List ℕ). text ≡ word) (λ (text : List ℕ). FoldsWords (word ∷ parts space rest) (word ++ text)) (Folds line) p q s
    (λ a b is folds. subst (λ (words : List (List ℕ)). FoldsWords words (a ++ b)) (sym are) (subst (λ (front : List ℕ). FoldsWords (word ∷ parts space rest) (front ++ b)) (sym is) folds))
    (written (λ (text : List ℕ). text ≡ word) p q word first refl)
    (both (λ (text : List ℕ). text ≡ between) (Folds rest) (λ (text : List ℕ). FoldsWords (word ∷ parts space rest) (word ++ text)) q r s
    (λ a b is folds. subst (λ (front : List ℕ). FoldsWords (word ∷ parts space rest) (word ++ (front ++ b))) (sym is) (joins b folds))
    (written (λ (text : List ℕ). text ≡ between) q r between second refl) others)
