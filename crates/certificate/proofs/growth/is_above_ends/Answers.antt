use Rattle.std.proofs.Common.{ap, sym, ◌∙◌, true}
use Rattle.std.specs.Ordering.{is_lt}
use Rattle.certificate.specs.Bounds.{End}
use Rattle.certificate.specs.Growth.{end_order, asked_of_last}
use Rattle.certificate.specs.Views.{held_end_of}
use Rattle.certificate.proofs.Last.{at_last, at_none}
use Rattle.certificate.proofs.LastOnes.{asked-last, asked-none}
use Rattle.certificate.proofs.growth.is_above_ends.Goals as goal

pub returns-in-None : goal.returns-in-None
returns-in-None c =
    let given = held_end_of c.args.held.now in
    let test = λ (a : End). is_lt (end_order a given) in
    sym (at_none held_end_of (asked_of_last true test) c.args.holds.now c.in-None.ensures.cases ∙ asked-none true test)

pub returns-in-Some : goal.returns-in-Some
returns-in-Some c =
    let given = held_end_of c.args.held.now in
    let test = λ (a : End). is_lt (end_order a given) in
    let at = at_last held_end_of (asked_of_last true test) test (asked-last true test) c.args.holds.now _ c.in-Some.last.now c.in-Some.ensures.cases.0 in
    c.is_lt.ensures ∙ ap is_lt c.compare.ensures ∙ sym at
