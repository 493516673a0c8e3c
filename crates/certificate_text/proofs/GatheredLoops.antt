-- Numbered things whose texts are gathered one after another.
use Rattle.std.proofs.Common.{◌≡◌, ℕ, ◌+◌, ◌<◌, ◌≤◌, List, ◌++◌, length, map, drop, ap, sym, ◌∙◌, subst}
use Rattle.std.specs.List.{slice_index_or}
use Rattle.std.specs.Prelude.{Option, Result, Ok, Err}
use Rattle.rights.specs.declared.stops.Stop.{Stop}
use Rattle.certificate_text.specs.Pieces.{in_order}
use Rattle.certificate_text.specs.WritingViews.{Gathers}
use Rattle.certificate_text.proofs.InOrder.{in-order-here, in-order-end}
use Rattle.certificate_text.proofs.GatheredTexts.{Gathered, gathered-next, gathered-failed, gathered-all}

module _ {A B : Type 0} (view : A → B) (text : ℕ → B → List ℕ) (xs : List A) where
  abbrev pub left_from : ℕ → List ℕ
  left_from i = in_order text i (map view (drop i xs))

  module _ (before now after : Option (List ℕ)) (faults so failed : ℕ) (old mid new : List ℕ) (i : ℕ) (whole : List ℕ) where
    module _ (x : A) (within : i < length xs) (is : x ≡ slice_index_or xs i x) (so_far : Gathered before now faults so old mid whole (left_from i)) where
      here : Gathered before now faults so old mid whole (text i (view x) ++ left_from (i + 1))
      here = subst (Gathered before now faults so old mid whole) (in-order-here view text xs i x within ∙ ap (λ y. text i (view y) ++ left_from (i + 1)) (sym is)) so_far

      pub loop-next : (u : Unit {0}) → Gathers (Ok u) now after so failed mid new (text i (view x)) → Gathered before after faults failed old new whole (left_from (i + 1))
      loop-next u wrote = gathered-next before now after faults so failed old mid new whole (text i (view x)) (left_from (i + 1)) here u wrote

      pub loop-failed : (stop : Stop) (r : Result (Unit {0}) Stop) → r ≡ Err stop → Gathers (Err stop) now after so failed mid new (text i (view x))
          → Gathers r before after faults failed old new whole
      loop-failed stop r is wrote =
          subst (λ r. Gathers r before after faults failed old new whole) (sym is)
          (gathered-failed before now after faults so failed old mid new whole (text i (view x)) (left_from (i + 1)) here stop wrote)

  pub loop-end : (before now : Option (List ℕ)) (faults failed : ℕ) (old mid : List ℕ) (i : ℕ) (whole : List ℕ) (u : Unit {0}) → length xs ≤ i →
      Gathered before now faults failed old mid whole (left_from i) → Gathers (Ok u) before now faults failed old mid whole
  loop-end before now faults failed old mid i whole u past so_far =
      gathered-all before now faults failed old mid whole u (subst (Gathered before now faults failed old mid whole) (in-order-end view text xs i past) so_far)
