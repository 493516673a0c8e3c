use Rattle.rights.specs.Sets.{all_rights}
use Rattle.certificate.proofs.Ranges.{joins_known, joins_nested}
use Rattle.certificate.proofs.order.RightsRangeDomain.join.Goals as goal

pub invariant_of-result : goal.invariant_of-result
invariant_of-result c =
    let a = c.args.self.now in
    let b = c.args.other.now in
    record {
      nested = joins_nested a.least.0 a.greatest.0 b.least.0 b.greatest.0 c.intersection.result.0 c.union.result.0 c.intersection.ensures c.union.ensures a.nested;
      known = joins_known a.greatest.0 b.greatest.0 all_rights c.union.result.0 c.union.ensures a.known b.known;
    }
