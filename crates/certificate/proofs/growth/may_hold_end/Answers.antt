use Rattle.std.proofs.Common.{ap, sym, ◌∙◌, false, map}
use Rattle.certificate.specs.Bounds.{Authority}
use Rattle.certificate.specs.Growth.{above_ends, asked_of_last}
use Rattle.certificate.specs.Views.{authority_of, held_end_of}
use Rattle.certificate.proofs.Last.{at_last, at_none}
use Rattle.certificate.proofs.LastOnes.{asked-last, asked-none}
use Rattle.certificate.proofs.growth.may_hold_end.Goals as goal

pub returns-in-None : goal.returns-in-None
returns-in-None c =
    let held = held_end_of c.args.held.now in
    let test = λ (a : Authority). above_ends a.holds held in
    sym (at_none authority_of (asked_of_last false test) c.args.authorities.now c.in-None.ensures.cases ∙ asked-none false test)

pub returns-in-Some : goal.returns-in-Some
returns-in-Some c =
    let held = held_end_of c.args.held.now in
    let test = λ (a : Authority). above_ends a.holds held in
    let at = at_last authority_of (asked_of_last false test) test (asked-last false test) c.args.authorities.now _ c.in-Some.last.now c.in-Some.ensures.cases.0 in
    c.is_above_ends.ensures ∙ ap (λ holds. above_ends (map held_end_of holds) held) c.deref.ensures.value ∙ sym at
