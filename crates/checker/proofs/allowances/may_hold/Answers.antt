use Rattle.std.proofs.Common.{rules, tests}
use Rattle.std.proofs.lemmas.Iterator.{YieldsList-from_slice}
use Rattle.std.specs.Prelude.{Bool, ◌&&◌, ◌==◌}
use Rattle.certificate.specs.Bounds.{End}
use Rattle.certificate.specs.Order.{same_class}
use Rattle.certificate.specs.Views.{class_of, held_end_of}
use Rattle.rights.specs.Views.{side_seen}
use Rattle.checker.proofs.Folds.{any_seen}
use Rattle.checker.proofs.allowances.may_hold.Goals as goal

pub returns-in-Socket : goal.returns-in-Socket
returns-in-Socket c =
    let is_it : End → Bool = λ held. same_class held.class (class_of c.in-Socket.class) && (held.side == side_seen c.in-Socket.side) in
    let ends = c.args.allowance.now.ends.now in
    let any = any_seen is_it held_end_of ends _ _ _ c.any.ensures.ran (YieldsList-from_slice ends cc) (λ x b q k. search (rules, tests)) in
    search (rules, tests)
