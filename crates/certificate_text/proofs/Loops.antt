-- Numbered things that are written one after another.
use Rattle.std.proofs.Common.{◌≡◌, ℕ, ◌+◌, ◌<◌, ◌≤◌, List, ◌++◌, length, map, drop, ap, sym, ◌∙◌, subst}
use Rattle.std.specs.List.{slice_index_or}
use Rattle.std.specs.Prelude.{Option, Result, Ok, Err}
use Rattle.rights.specs.declared.stops.Stop.{Stop}
use Rattle.certificate_text.specs.Pieces.{in_order}
use Rattle.certificate_text.specs.WritingViews.{Writes}
use Rattle.certificate_text.proofs.InOrder.{in-order-here, in-order-end}
use Rattle.certificate_text.proofs.Written.{Written, written-next, written-failed, written-all}

module _ {A B : Type 0} (view : A → B) (text : ℕ → B → List ℕ) (xs : List A) where
  abbrev pub left_from : ℕ → List ℕ
  left_from i = in_order text i (map view (drop i xs))

  module _ (before now after : Option (List ℕ)) (faults so failed i : ℕ) (whole : List ℕ) where
    module _ (x : A) (within : i < length xs) (is : x ≡ slice_index_or xs i x) (so_far : Written before now faults so whole (left_from i)) where
      here : Written before now faults so whole (text i (view x) ++ left_from (i + 1))
      here = subst (Written before now faults so whole) (in-order-here view text xs i x within ∙ ap (λ y. text i (view y) ++ left_from (i + 1)) (sym is)) so_far

      pub loop-next : (u : Unit {0}) → Writes (Ok u) now after so failed (text i (view x)) → Written before after faults failed whole (left_from (i + 1))
      loop-next u wrote = written-next before now after faults so failed whole (text i (view x)) (left_from (i + 1)) here u wrote

      pub loop-failed : (stop : Stop) (r : Result (Unit {0}) Stop) → r ≡ Err stop → Writes (Err stop) now after so failed (text i (view x)) → Writes r before after faults failed whole
      loop-failed stop r is wrote =
          subst (λ r. Writes r before after faults failed whole) (sym is)
          (written-failed before now after faults so failed whole (text i (view x)) (left_from (i + 1)) here stop wrote)

  pub loop-end : (before now : Option (List ℕ)) (faults failed i : ℕ) (whole : List ℕ) (u : Unit {0}) → length xs ≤ i →
      Written before now faults failed whole (left_from i) → Writes (Ok u) before now faults failed whole
  loop-end before now faults failed i whole u past so_far =
      written-all before now faults failed whole u (subst (Written before now faults failed whole) (in-order-end view text xs i past) so_far)
