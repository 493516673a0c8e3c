-- An element behind others, if memory wasn't refused for it; and what stands at places of a list.
use Rattle.std.proofs.Common.{◌≡◌, ◌<◌, ℕ, All, Bool, true, false, List, [], ◌∷◌, ◌++◌, ◌∙◌, ap, get_or, length, subst, subst₂, sym}
use Rattle.std.specs.Prelude.{Some, cond}
use Rattle.std.specs.List.{AllPairs, slice_get}
use Rattle.std.proofs.lemmas.List.Elements.{All-push}
use Rattle.std.proofs.lemmas.List.Quantifiers.{all_pairs_push}
use Rattle.std.proofs.lemmas.Option.{get_or_from_slice_get, slice_get_read, slice_get_within}

pub pairs-push : {X : Type 0} (R : X → X → Type 0) (before after : List X) (x : X) (ok : Bool) → after ≡ cond ok (before ++ x ∷ []) before → AllPairs R before
    → All (λ y. R y x) before → AllPairs R after
pairs-push R before after x true is pairs each = subst (AllPairs R) (sym is) (all_pairs_push R before x pairs each)
pairs-push R before after x false is pairs each = subst (AllPairs R) (sym is) pairs

pub at-both : {X : Type 0} (R : X → X → Type 0) (xs : List X) (i j : ℕ) (a b : X) → AllPairs R xs → slice_get xs i ≡ Some a → slice_get xs j ≡ Some b → i < j → R a b
at-both R xs i j a b pairs at also before =
    subst₂ R (get_or_from_slice_get xs i a a at) (get_or_from_slice_get xs j b a also) (pairs i j a before (slice_get_within xs j b also))

pub all-push : {X : Type 0} (P : X → Type 0) (before after : List X) (x : X) (ok : Bool) → after ≡ cond ok (before ++ x ∷ []) before → All P before → P x → All P after
all-push P before after x true is all one = subst (All P) (sym is) (All-push P before x all one)
all-push P before after x false is all one = subst (All P) (sym is) all

-- what a look-up finds, in a list or one that is the same
pub found-in : {X : Type 0} (xs ys : List X) (i : ℕ) (x : X) → ys ≡ xs → i < length ys → x ≡ get_or ys i x → slice_get xs i ≡ Some x
found-in xs ys i x same within is = slice_get_read xs (length ys) i x (ap length same) within (is ∙ ap (λ list. get_or list i x) same)
