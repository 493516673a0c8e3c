use Rattle.std.proofs.Common.{ap, sym, ◌∙◌, true}
use Rattle.std.specs.Ordering.{is_lt}
use Rattle.certificate.specs.Bounds.{Ceiling}
use Rattle.certificate.specs.Growth.{name_order, asked_of_last}
use Rattle.certificate.specs.Views.{ceiling_of}
use Rattle.texts.specs.Views.{name_of}
use Rattle.certificate.proofs.Last.{at_last, at_none}
use Rattle.certificate.proofs.LastOnes.{asked-last, asked-none}
use Rattle.certificate.proofs.growth.is_above_ceilings.Goals as goal

pub returns-in-None : goal.returns-in-None
returns-in-None c =
    let given = name_of c.args.grant.now in
    let test = λ (a : Ceiling). is_lt (name_order a.grant given) in
    sym (at_none ceiling_of (asked_of_last true test) c.args.ceilings.now c.in-None.ensures.cases ∙ asked-none true test)

pub returns-in-Some : goal.returns-in-Some
returns-in-Some c =
    let given = name_of c.args.grant.now in
    let test = λ (a : Ceiling). is_lt (name_order a.grant given) in
    let at = at_last ceiling_of (asked_of_last true test) test (asked-last true test) c.args.ceilings.now _ c.in-Some.last.now c.in-Some.ensures.cases.0 in
    c.is_lt.ensures ∙ ap is_lt (c.cmp.ensures ∙ (λ i. name_order (c.as_bytes.ensures.bytes i) (c.as_bytes-in-Some.ensures.bytes i))) ∙ sym at
