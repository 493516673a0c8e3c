-- The flat certificate is told as its version tells it: so to tell it again changes nothing.
use Rattle.std.proofs.Common.{◌≡◌, ℕ, true, List, [], ◌∷◌, zero, suc, refl, ap, ◌∙◌}
use Rattle.std.specs.Prelude.{slice_set}
use Rattle.std.specs.Cmp.Derive.{both_true}
use Rattle.std.specs.List.{list_all, list_any}
use Rattle.rights.proofs.Tests.{both_left, both_right}
use Rattle.certificate.specs.Bounds.{Slot, Open, Bound, Version}
use Rattle.certificate.specs.Growth.{open_bound}
use Rattle.certificate.specs.Told.{is_told_bound, is_told_slot, told_bound}
use Rattle.certificate.proofs.ToldLaws.{held_is_told, told_bound_stays}
use Rattle.instruction_set.specs.Successors.{enters_mode}
use Rattle.task.specs.Plans.{FirstDescriptor, Start, Plan}
use Rattle.searcher.specs.Flat.{code_of_start, first_held, first_target, flat_bound, flat_mode, with_first}
use Rattle.searcher.specs.Versions.{flat_version}

one_set : (v : Version) (slots : List Slot) (n : ℕ) (s : Slot) → list_all (is_told_slot v) slots ≡ true → is_told_slot v s ≡ true
    → list_all (is_told_slot v) (slice_set slots n s) ≡ true
one_set v [] n s all here = refl
one_set v (t ∷ slots) zero s all here = both_true here (both_right (is_told_slot v t) (list_all (is_told_slot v) slots) all)
one_set v (t ∷ slots) (suc n) s all here =
    let first = is_told_slot v t in
    let rest = list_all (is_told_slot v) slots in
    both_true (both_left first rest all) (one_set v slots n s (both_right first rest all) here)

first_told : (plan : Plan) (b : Bound) → is_told_bound (flat_version plan) b ≡ true → (descriptors : List FirstDescriptor)
    → is_told_bound (flat_version plan) (with_first plan b descriptors) ≡ true
first_told plan b told [] = told
first_told plan b told (d ∷ descriptors) =
    one_set (flat_version plan) (with_first plan b descriptors).slots d.number (Open (first_held plan d)) (first_told plan b told descriptors)
    (held_is_told (flat_version plan)
    (record { target = first_target plan d.object; least = d.rights; greatest = d.rights; least_fcntls = d.fcntls; greatest_fcntls = d.fcntls }))

pub flat_stays : (v : Version) (plan : Plan) (s : Start) → v ≡ flat_version plan → told_bound v (flat_bound plan s) ≡ flat_bound plan s
flat_stays v plan s same =
    ap (λ v. told_bound v (flat_bound plan s)) same
    ∙ told_bound_stays (flat_version plan) (flat_bound plan s)
    (first_told plan (open_bound (flat_mode s.mode (list_any enters_mode (code_of_start plan s)))) refl s.descriptors)
