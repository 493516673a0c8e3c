use Rattle.certificate.proofs.Smaller.{interval_smaller, sends_smaller, slot_smaller}
use Rattle.certificate.proofs.laws.parts_within_describe_no_more.Goals as goal

pub returns-clause-intervals : goal.returns-clause-intervals
returns-clause-intervals c = interval_smaller

pub returns-clause-slots : goal.returns-clause-slots
returns-clause-slots c = slot_smaller

pub returns-clause-channels : goal.returns-clause-channels
returns-clause-channels c = sends_smaller
