use Rattle.std.proofs.Common.{rules, tests}
use Rattle.std.proofs.lemmas.Iterator.{YieldsList-from_slice}
use Rattle.checker.specs.AllowanceViews.{allowance_of}
use Rattle.rules.specs.Authority.{may_start_with}
use Rattle.task.specs.Views.{first_descriptor_of}
use Rattle.checker.proofs.Folds.{all_seen}
use Rattle.checker.proofs.allowances.may_start.Goals as goal

pub returns : goal.returns
returns c =
    let descriptors = c.args.start.now.descriptors.items in
    all_seen (may_start_with c.args.allowance.now.wide c.args.task.now (allowance_of c.args.allowance.now)) first_descriptor_of descriptors _ _ _ c.all.ensures.ran
    (YieldsList-from_slice descriptors cc) (λ x b q k. search (rules, tests))
