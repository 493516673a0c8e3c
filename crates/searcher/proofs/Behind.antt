-- How a point comes before the next ones of its program, and how the points of the next first process come before those of the others.
use Rattle.std.proofs.Common.{◌≡◌, ◌≤◌, ◌+◌, ◌-◌, ℕ, List, [], ◌∷◌, length, take, drop, ap, sym, ◌∙◌, subst, arith}
use Rattle.std.specs.Prelude.{Result, Some}
use Rattle.std.proofs.lemmas.List.{take_rest}
use Rattle.certificate.specs.Bounds.{Bound, Certificate}
use Rattle.certificate.specs.GrowthViews.{Grows}
use Rattle.certificate.specs.Lines.{block_lines}
use Rattle.certificate.specs.Told.{told_bound}
use Rattle.certificate.specs.declared.lines.Refusal.{Refusal}
use Rattle.instruction_set.specs.declared.instructions.Instruction.{Instruction as InstructionCode}
use Rattle.instruction_set.specs.Views.{code_of}
use Rattle.task.specs.declared.starts.Start.{Start as StartCode}
use Rattle.task.specs.Plans.{Start, Plan}
use Rattle.task.specs.Views.{starts_of}
use Rattle.certificate.specs.Growths.{grown, grown_by, then_grown}
use Rattle.searcher.specs.Flat.{flat_points_of, name_of_start, next_behind, points_behind, points_from, with_next}
use Rattle.certificate.proofs.Growths.{by_append, grown_keeps}

pub point_next : (name : List ℕ) (b : Bound) (point : ℕ) (code : List InstructionCode) (r : Result (Unit {0}) Refusal) (new d e : Certificate) → 1 ≤ length code
    → grown (block_lines (record { program = name; point = point; bound = told_bound d.version b })) d ≡ Some e
    → Grows r new (grown_by (points_from name (told_bound e.version b) (point + 1) (code_of (take (length code - 1) (drop 1 code)))) e)
    → Grows r new (grown_by (points_from name (told_bound d.version b) point (code_of code)) d)
unfolding grown_by points_from
point_next name b point [] r new d e some took grows = absurd (omega arith)
point_next name b point (i ∷ code) r new d e some took grows =
    let kept : e.version ≡ d.version = grown_keeps (block_lines (record { program = name; point = point; bound = told_bound d.version b })) d e took in
    let rest : take (length (i ∷ code) - 1) (drop 1 (i ∷ code)) ≡ code = take_rest (i ∷ code) 1 in
    let behind : then_grown (grown_by (points_from name (told_bound d.version b) (point + 1) (code_of code))) (Some e)
    ≡ grown_by (points_from name (told_bound e.version b) (point + 1) (code_of (take (length (i ∷ code) - 1) (drop 1 (i ∷ code))))) e =
    λ k. grown_by (points_from name (told_bound (sym kept k) b) (point + 1) (code_of (sym rest k))) e in
    subst (Grows r new) (sym (ap (then_grown (grown_by (points_from name (told_bound d.version b) (point + 1) (code_of code)))) took ∙ behind)) grows

pub next_grown : (plan : Plan) (turns : List StartCode) (name : List ℕ) (s : Start) (c d : Certificate) → 1 ≤ length turns
    → next_behind plan name plan.starts ≡ Some s → grown_by (flat_points_of plan s) c ≡ Some d
    → grown_by (points_behind plan (starts_of turns) name) c
    ≡ grown_by (points_behind plan (starts_of (take (length turns - 1) (drop 1 turns))) (name_of_start plan s)) d
unfolding points_behind
next_grown plan [] name s c d some next took = absurd (omega arith)
next_grown plan (turn ∷ turns) name s c d some next took =
    let rest = points_behind plan (starts_of turns) (name_of_start plan s) in
    ap (λ o. grown_by (with_next plan (points_behind plan (starts_of turns)) o) c) next
    ∙ by_append (flat_points_of plan s) rest c
    ∙ ap (then_grown (grown_by rest)) took
    ∙ ap (λ left. grown_by (points_behind plan (starts_of left) (name_of_start plan s)) d) (sym (take_rest (turn ∷ turns) 1))
