-- Copies of entries file the same names.
use Rattle.std.proofs.Common.{◌≡◌, ℕ, List, [], ◌∷◌, refl}
use Rattle.std.specs.Prelude.{Vec}
use Rattle.std.specs.List.{AllZip, each_same}
use Rattle.std.specs.Map.{lookup}
use Rattle.std.specs.BTreeMap.{BTreeMap, is_at}
use Rattle.std.specs.Cmp.Lexicographic.{slice_cmp}
use Rattle.std.specs.Ordering.{nat_cmp}
use Rattle.link_tree.specs.LinkViews.{named_in}

module _ {A : Type 0} (name : List ℕ) where
  entries_same : (C : Vec ℕ A → Vec ℕ A → Type 0) → ((v w : Vec ℕ A) → C v w → w.items ≡ v.items) → (es fs : List (Vec ℕ A × ℕ)) →
      AllZip (λ p q. C p.0 q.0 × (q.1 ≡ p.1)) es fs →
      lookup (is_at (λ (k : Vec ℕ A). slice_cmp nat_cmp name k.items)) fs ≡ lookup (is_at (λ (k : Vec ℕ A). slice_cmp nat_cmp name k.items)) es
  entries_same C same [] [] all = refl
  entries_same C same [] (f ∷ fs) all = absurd all
  entries_same C same (e ∷ es) [] all = absurd all
  entries_same C same (e ∷ es) (f ∷ fs) all = rw (same e.0 f.0 all.0.0, all.0.1, entries_same C same es fs all.1) refl

-- a clone of a directory's children
pub children_same : {A : Type 0} (C : Vec ℕ A → Vec ℕ A → Type 0) → ((v w : Vec ℕ A) → C v w → w.items ≡ v.items) → (m n : BTreeMap (Vec ℕ A) ℕ) →
    AllZip (λ p q. C p.0 q.0 × (q.1 ≡ p.1)) m.entries n.entries → named_in n ≡ named_in m
children_same C same m n all = λ i name. entries_same name C same m.entries n.entries all i
