use Rattle.std.proofs.Common.{rules, tests}
use Rattle.std.proofs.lemmas.Iterator.{YieldsList-from_slice}
use Rattle.certificate.specs.Views.{slot_of}
use Rattle.checker.specs.PointViews.{authority_of_program}
use Rattle.rules.specs.Authority.{may_have_slot}
use Rattle.checker.proofs.Folds.{all_seen}
use Rattle.checker.proofs.keeping.enters_within.Goals as goal

pub returns-else-not-enters_mode : goal.returns-else-not-enters_mode
returns-else-not-enters_mode c =
    let slots = c.slots.result.now in
    let all = all_seen (may_have_slot c.args.at.now.of.now.task.now.wide (authority_of_program c.args.at.now.of.now))
    slot_of slots _ _ _ c.all.ensures.ran (YieldsList-from_slice slots cc) (λ x b q k. search (rules, tests)) in
    search (rules, tests)
