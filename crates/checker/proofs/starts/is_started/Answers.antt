use Rattle.std.proofs.Common.{◌∙◌, rules, tests}
use Rattle.std.proofs.lemmas.Iterator.{YieldsList-from_slice}
use Rattle.rules.specs.Rules.{is_bounded_start, starts_program}
use Rattle.task.specs.Views.{start_of}
use Rattle.checker.proofs.Folds.{any_seen}
use Rattle.checker.proofs.starts.is_started.Goals as goal

pub returns : goal.returns
returns c =
    let of = c.args.of.now in
    let starts = c.starts.result.now in
    any_seen (is_bounded_start of.marked of.program) start_of starts _ _ _ c.any.ensures.ran (YieldsList-from_slice starts cc) (λ x b q k. search (rules, tests))
    ∙ (λ k. starts_program (of.marks k) of.program (c.starts.ensures.starts k))
