use Rattle.std.proofs.Common.{rules, tests, not, ◌||◌, ◌∙◌, ap}
use Rattle.std.specs.List.{list_all}
use Rattle.std.proofs.lemmas.Iterator.{YieldsList-from_slice}
use Rattle.certificate.specs.Views.{ceiling_of}
use Rattle.rights.specs.Operations.{Operation}
use Rattle.rights.specs.RightViews.{right_operation_seen}
use Rattle.rights.specs.Sets.{is_within}
use Rattle.rights.specs.Values.{RightSet}
use Rattle.task.specs.Policies.{grant_lists}
use Rattle.task.specs.Views.{grants_of}
use Rattle.rights.specs.Uses.{asked_rights}
use Rattle.checker.proofs.Folds.{all_seen}
use Rattle.checker.proofs.allowances.keeps_ceiling.Goals as goal

pub returns : goal.returns
returns c =
    let is_listed = λ (o : RightSet × Operation). not (is_within o.0 (asked_rights c.args.wide (ceiling_of c.args.ceiling.now).rights))
    || grant_lists (grants_of c.args.grants.now) (ceiling_of c.args.ceiling.now).grant o.1 in
    all_seen is_listed right_operation_seen c.operations_of_rights.result.now _ _ _ c.all.ensures.ran (YieldsList-from_slice c.operations_of_rights.result.now cc)
    (λ x b q k. search (rules, tests, c.asked-rights.ensures)) ∙ ap (list_all is_listed) c.operations_of_rights.ensures
