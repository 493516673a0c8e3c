use Rattle.std.proofs.Common.{◌∙◌, bit_and, bit_or, ap}
use Rattle.rights.specs.Sets.{all_rights, is_within, plain_rights}
use Rattle.certificate.proofs.ToldLaws.{untold_known, untold_nested}
use Rattle.certificate.proofs.bounds.RightsRange.untold.Goals as goal

pub invariant_of-result : goal.invariant_of-result
invariant_of-result c =
    let r = c.args.self in
    let least = c.intersection.ensures ∙ ap (bit_and r.least.0) c.plain.ensures in
    let greatest = c.union.ensures ∙ ap (bit_or r.greatest.0) c.further.ensures in
    record {
      nested = ap (λ n. is_within n c.union.result.0) least ∙ ap (is_within (bit_and r.least.0 plain_rights)) greatest ∙ untold_nested r.least.0 r.greatest.0 r.nested;
      known = ap (λ n. is_within n all_rights) greatest ∙ untold_known r.greatest.0 r.known;
    }
