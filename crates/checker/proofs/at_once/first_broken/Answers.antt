use Rattle.std.proofs.Common.{◌∙◌, rules, tests}
use Rattle.std.proofs.lemmas.Iterator.{YieldsList-from_slice}
use Rattle.std.proofs.lemmas.Iterator.Consumers.{YieldsList-at, YieldsList-from_copied}
use Rattle.std.specs.Prelude.{not, option_map}
use Rattle.certificate.specs.Views.{bound_of}
use Rattle.checker.specs.Asked.{all_numbers, is_rule_kept}
use Rattle.checker.specs.PointViews.{expansion_of, instruction_of_point, tests_of}
use Rattle.checker.specs.RuleViews.{rule_number}
use Rattle.checker.proofs.Folds.{find_seen}
use Rattle.checker.proofs.Found.{unkept_found}
use Rattle.checker.proofs.OneByOne.{first_is}
use Rattle.checker.proofs.at_once.first_broken.Goals as goal

pub returns : goal.returns
returns c =
    let at = c.args.at.now in
    let of = at.of.now in
    find_seen (λ rule. not (is_rule_kept (tests_of at) rule)) rule_number _ _ _ _ c.find.ensures.ran
    (YieldsList-from_copied (YieldsList-at c.copied.ensures.source (YieldsList-from_slice _ c.iter.ensures.rest))) (λ x b q k. search (rules, tests))
    ∙ unkept_found (tests_of at) all_numbers
    ∙ first_is of.task.now (expansion_of of) of.program at.point (instruction_of_point at) (option_map bound_of at.bound)
