-- What goes by the descriptor of a number, as lists of it grow.
use Rattle.std.proofs.Common.{List, [], ◌∷◌, ◌++◌, arith, below_more, length, length-append, subst, sym}
use Rattle.std.specs.Prelude.{slice_index_or}
use Rattle.std.proofs.Math.ListN.{get_or-append}
use Rattle.std.proofs.Math.Seq.{get_or-append_seam}
use Rattle.rights.specs.Values.{DescriptorNumber}
use Rattle.instruction_set.specs.Programs.{Instruction}
use Rattle.explore.specs.Attacks.{AreTriedByEach, GoBy, IsTriedBy}

pub go_append : (n : DescriptorNumber) (front back : List Instruction) → GoBy n front → GoBy n back → GoBy n (front ++ back)
go_append n [] back first second = second
go_append n (i ∷ front) back first second = (first.0, go_append n front back first.1 second)

pub tried_more : (front : List (List Instruction)) (deeds : List Instruction) → AreTriedByEach front → IsTriedBy (length front) deeds → AreTriedByEach (front ++ deeds ∷ [])
tried_more front deeds before here n below =
    below_more (λ k. IsTriedBy k (slice_index_or (front ++ deeds ∷ []) k [])) (length front)
    (λ k h. subst (IsTriedBy k) (sym (get_or-append front (deeds ∷ []) [] k h)) (before k h))
    (subst (IsTriedBy (length front)) (sym (get_or-append_seam front deeds [] [])) here) n (omega (arith, length-append front (deeds ∷ [])))
