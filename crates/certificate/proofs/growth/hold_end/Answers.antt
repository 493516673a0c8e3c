use Rattle.std.proofs.Common.{◌-◌, ap, sym, ◌∙◌, arith, length}
use Rattle.std.proofs.Math.Seq.{map-set_same}
use Rattle.std.proofs.lemmas.List.{nil_from_length}
use Rattle.certificate.specs.Growth.{with_last, with_held_end}
use Rattle.certificate.specs.Views.{authorities_of, authority_of, held_end_of}
use Rattle.certificate.proofs.LastOnes.{last_seen_set, with_last-none}
use Rattle.certificate.proofs.Outcomes.{on_err, on_ok}
use Rattle.certificate.proofs.growth.hold_end.Goals as goal

pub returns-in-Some-clause-ok : goal.returns-in-Some-clause-ok
returns-in-Some-clause-ok c =
    let f = with_held_end (held_end_of c.args.held) in
    let found = c.in-Some.ensures.item in
    let seen = ap f (ap authority_of found.1) in
    on_ok c.hold_end.result _ _ (λ is. last_seen_set authority_of f c.args.authorities.now c.in-Some.last.now _ found.3.0 (is ∙ seen)) c.hold_end.ensures.ok

pub returns-in-Some-clause-err : goal.returns-in-Some-clause-err
returns-in-Some-clause-err c =
    let authorities = c.args.authorities.now in
    let seen = ap authority_of c.in-Some.ensures.item.1 in
    on_err c.hold_end.result _ _ (λ is. map-set_same authority_of authorities (length authorities - 1) _ c.in-Some.last.now (is ∙ seen)) c.hold_end.ensures.err

pub returns-in-None-clause-ok : goal.returns-in-None-clause-ok
returns-in-None-clause-ok c =
    let f = with_held_end (held_end_of c.args.held) in
    let none = nil_from_length c.args.authorities.now (omega (arith, c.in-None.ensures.item.3)) in
    ap authorities_of none ∙ sym (ap (λ authorities. with_last f (authorities_of authorities)) none ∙ with_last-none f)
