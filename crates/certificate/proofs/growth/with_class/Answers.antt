use Rattle.certificate.proofs.Listed.{programs_alone}
use Rattle.certificate.proofs.growth.with_class.Goals as goal

pub returns-in-Initial : goal.returns-in-Initial
returns-in-Initial c = rw c.in-Initial.is (programs_alone c.args.programs.now)
