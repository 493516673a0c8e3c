use Rattle.std.proofs.Common.{◌∙◌, map, rules, tests}
use Rattle.std.proofs.lemmas.Iterator.{YieldsList-from_slice}
use Rattle.std.specs.Prelude.{◌==◌}
use Rattle.std.proofs.lemmas.Iterator.Consumers.{YieldsList-from_copied}
use Rattle.task.specs.Plans.{FirstDescriptor}
use Rattle.task.specs.Views.{first_descriptor_of}
use Rattle.checker.proofs.Folds.{find_seen}
use Rattle.checker.proofs.Found.{number_found}
use Rattle.checker.proofs.starts.with_number.Goals as goal

pub returns : goal.returns
returns c =
    let descriptors = c.args.descriptors.now in
    find_seen (λ (d : FirstDescriptor). d.number == c.args.number) first_descriptor_of descriptors _ _ _ c.find.ensures.ran
    (YieldsList-from_copied (YieldsList-from_slice descriptors cc)) (λ x b q k. search (rules, tests)) ∙ number_found c.args.number (map first_descriptor_of descriptors)
