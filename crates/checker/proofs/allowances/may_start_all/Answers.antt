use Rattle.std.proofs.Common.{rules, tests}
use Rattle.std.proofs.lemmas.Iterator.{YieldsList-from_slice}
use Rattle.std.specs.Prelude.{Bool, ◌&&◌, ◌||◌, ◌==◌, not}
use Rattle.std.specs.List.{list_all}
use Rattle.checker.specs.AllowanceViews.{allowance_of}
use Rattle.rules.specs.Authority.{may_start_with}
use Rattle.task.specs.Plans.{Start}
use Rattle.task.specs.Views.{start_of}
use Rattle.checker.proofs.Folds.{all_seen}
use Rattle.checker.proofs.allowances.may_start_all.Goals as goal

pub returns : goal.returns
returns c =
    let may : Start → Bool = λ s. not (s.mode && (s.program == c.args.program))
    || list_all (may_start_with c.args.allowance.now.wide c.args.task.now (allowance_of c.args.allowance.now)) s.descriptors in
    let all = all_seen may start_of c.starts.result.now _ _ _ c.all.ensures.ran (YieldsList-from_slice c.starts.result.now cc) (λ x b q k. search (rules, tests)) in
    let starts = c.starts.ensures.starts in
    search (rules, tests)
