-- Words with a space between each two are the first of them, and the others behind spaces.
use Rattle.std.proofs.Common.{◌≡◌, ℕ, List, [], ◌∷◌, ◌++◌, refl, ap, sym, ◌∙◌, append_assoc, append-nil}
use Rattle.texts.specs.Parts.{joined}
use Rattle.certificate_text.specs.Spaced.{spaced}

joined-spaced : (word : List ℕ) (words : List (List ℕ)) → joined 32 (word ∷ words) ≡ word ++ spaced words
joined-spaced word [] = sym (append-nil word)
joined-spaced word (next ∷ words) = ap (λ text. word ++ 32 ∷ text) (joined-spaced next words)

-- a word, the next one and the others, added one after another
pub added-words : (before first next : List ℕ) (words : List (List ℕ)) (one two three : List ℕ) → one ≡ before ++ first → two ≡ one ++ 32 ∷ next → three ≡ two ++ spaced words
    → three ≡ before ++ (first ++ 32 ∷ joined 32 (next ∷ words))
added-words before first next words one two three is_one is_two is_three =
    is_three
    ∙ ap (λ text. text ++ spaced words) (is_two ∙ ap (λ text. text ++ 32 ∷ next) is_one)
    ∙ append_assoc (before ++ first) (32 ∷ next) (spaced words)
    ∙ append_assoc before first (32 ∷ (next ++ spaced words))
    ∙ ap (λ text. before ++ (first ++ 32 ∷ text)) (sym (joined-spaced next words))

spaced-more : (words more : List (List ℕ)) → spaced (words ++ more) ≡ spaced words ++ spaced more
spaced-more [] more = refl
spaced-more (word ∷ words) more =
    ap (λ text. 32 ∷ (word ++ text)) (spaced-more words more) ∙ ap (λ text. 32 ∷ text) (sym (append_assoc word (spaced words) (spaced more)))

-- a word, some words and others, added one after another
pub added-lists : (before first : List ℕ) (words more : List (List ℕ)) (one two three : List ℕ) → one ≡ before ++ first → two ≡ one ++ spaced words → three ≡ two ++ spaced more
    → three ≡ before ++ joined 32 (first ∷ (words ++ more))
added-lists before first words more one two three is_one is_two is_three =
    is_three
    ∙ ap (λ text. text ++ spaced more) (is_two ∙ ap (λ text. text ++ spaced words) is_one)
    ∙ append_assoc (before ++ first) (spaced words) (spaced more)
    ∙ append_assoc before first (spaced words ++ spaced more)
    ∙ ap (λ text. before ++ (first ++ text)) (sym (spaced-more words more))
    ∙ ap (λ text. before ++ text) (sym (joined-spaced first (words ++ more)))

-- some words, four more one by one, and others
pub added-four : (before : List ℕ) (words : List (List ℕ)) (a b c d : List ℕ) (more : List (List ℕ)) (one two three four five six : List ℕ) → one ≡ before ++ spaced words
    → two ≡ one ++ 32 ∷ a → three ≡ two ++ 32 ∷ b → four ≡ three ++ 32 ∷ c → five ≡ four ++ 32 ∷ d → six ≡ five ++ spaced more
    → six ≡ before ++ spaced (words ++ a ∷ b ∷ c ∷ d ∷ more)
added-four before words a b c d more one two three four five six is_one is_two is_three is_four is_five is_six =
    is_six
    ∙ ap (λ text. text ++ spaced more)
    (is_five ∙ ap (λ text. text ++ 32 ∷ d) (is_four ∙ ap (λ text. text ++ 32 ∷ c) (is_three ∙ ap (λ text. text ++ 32 ∷ b) (is_two ∙ ap (λ text. text ++ 32 ∷ a) is_one))))
    ∙ append_assoc (((front ++ 32 ∷ a) ++ 32 ∷ b) ++ 32 ∷ c) (32 ∷ d) (spaced more)
    ∙ append_assoc ((front ++ 32 ∷ a) ++ 32 ∷ b) (32 ∷ c) (spaced (d ∷ more))
    ∙ append_assoc (front ++ 32 ∷ a) (32 ∷ b) (spaced (c ∷ d ∷ more))
    ∙ append_assoc front (32 ∷ a) (spaced (b ∷ c ∷ d ∷ more))
    ∙ append_assoc before (spaced words) (spaced (a ∷ b ∷ c ∷ d ∷ more))
    ∙ ap (λ text. before ++ text) (sym (spaced-more words (a ∷ b ∷ c ∷ d ∷ more)))
  where
    front : List ℕ
    front = before ++ spaced words
