use Rattle.std.proofs.Common.{◌≡◌, ◌∙◌, rules, tests}
use Rattle.std.proofs.lemmas.Iterator.{YieldsList-from_slice}
use Rattle.std.specs.Prelude.{Bool, ◌||◌, not}
use Rattle.certificate.specs.Views.{bound_of}
use Rattle.rules.specs.Rules.{all_starts_within, is_bounded_start, marked_at, start_within}
use Rattle.task.specs.Plans.{Start}
use Rattle.task.specs.Views.{start_of}
use Rattle.checker.proofs.Folds.{all_seen}
use Rattle.checker.proofs.starts.starts_within.Goals as goal

pub returns-else-at-ne0 : goal.returns-else-at-ne0
returns-else-at-ne0 c =
    let of = c.args.at.now.of.now in
    let b = bound_of c.args.bound.now in
    let starts = c.starts.result.now in
    let within : Start → Bool = λ s. not (is_bounded_start of.marked of.program s) || start_within of.task.now b s in
    let all : c.all.result ≡ all_starts_within of.task.now (marked_at of.task.now of.program) of.program b of.task.now.starts =
    all_seen within start_of starts _ _ _ c.all.ensures.ran (YieldsList-from_slice starts cc) (λ x b q k. search (rules, tests))
    ∙ (λ k. all_starts_within of.task.now (of.marks k) of.program b (c.starts.ensures.starts k)) in
    search (rules, tests)
