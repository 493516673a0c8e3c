use Rattle.std.proofs.Common.{rules, tests}
use Rattle.std.proofs.lemmas.Iterator.{YieldsList-from_slice}
use Rattle.certificate.specs.Views.{ceiling_of}
use Rattle.rules.specs.Authority.{stays_in}
use Rattle.checker.proofs.Folds.{all_seen}
use Rattle.checker.proofs.allowances.stays_in_all.Goals as goal

pub returns : goal.returns
returns c =
    all_seen (stays_in (ceiling_of c.args.source.now)) ceiling_of c.args.targets.now _ _ _ c.all.ensures.ran (YieldsList-from_slice c.args.targets.now cc)
    (λ x b q k. search (rules, tests))
