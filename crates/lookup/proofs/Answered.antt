-- What `find` gives is what holds of what the path leads to.
use Rattle.std.proofs.Common.{◌≡◌, ℕ, List, Option, Some, None, Result, Ok, Err, sym, ◌∙◌}
use Rattle.std.specs.Prelude.{IfSome, IfOk}
use Rattle.file_tree.specs.Nodes.{Node}
use Rattle.file_tree.specs.WellFormed.{IsTree}
use Rattle.lookup.specs.Answers.{Way, Last, Finding}
use Rattle.lookup.specs.Looks.{Looks, find_of, walk_of}
use Rattle.lookup.specs.Views.{answer_of, found_of}
use Rattle.lookup.specs.declared.faults.PathFault.{PathFault}
use Rattle.lookup.specs.declared.ways.Found.{Found}
use Rattle.lookup.proofs.Alike.{walk_is_find}
use Rattle.lookup.proofs.LookLaws.{find_looks, find_only}

given : (o : Option Finding) (found : Finding) (P : Finding → Type 0) → IfSome o (λ a. a ≡ found) → P found → IfSome o P
given None found P same holds = tt
given (Some a) found P same holds = rw same holds

module _ (t : List Node) (start : ℕ) (path : List ℕ) (way : Way) (last : Last) (tree : IsTree t) (r : Result Found PathFault)
    (walked : IfSome (answer_of r) (λ a. a ≡ walk_of t start path way last)) where
  -- what holds of what the path leads to holds of what is answered
  pub answered : (P : Finding → Type 0) → ((a : Finding) → Looks t start path way last a → P a) → IfSome (answer_of r) P
  answered P law =
      let found : P (walk_of t start path way last) = rw (walk_is_find t start path way last tree) (law (find_of t start path way last) (find_looks t start path way last)) in
      given (answer_of r) (walk_of t start path way last) P walked found

  pub answers_exactly : IfSome (answer_of r) (λ a. a ≡ find_of t start path way last)
  answers_exactly = answered (λ a. a ≡ find_of t start path way last) (find_only t start path way last)

  pub answers_related : IfSome (answer_of r) (Looks t start path way last)
  answers_related = answered (Looks t start path way last) (λ a led. led)

  pub answers_only : (a : Finding) → Looks t start path way last a → IfSome (answer_of r) (λ b. b ≡ a)
  answers_only a led = answered (λ b. b ≡ a) (λ b other. find_only t start path way last b other ∙ sym (find_only t start path way last a led))

  pub found : (P : Finding → Type 0) → ((a : Finding) → Looks t start path way last a → P a) → IfOk r (λ f. P (found_of f))
  found P law = by_result r (answered P law)
    where
      by_result : (r : Result Found PathFault) → IfSome (answer_of r) P → IfOk r (λ f. P (found_of f))
      by_result (Ok f) h = h
      by_result (Err e) h = tt
