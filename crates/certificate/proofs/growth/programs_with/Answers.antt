use Rattle.certificate.proofs.Listed.{programs_alone}
use Rattle.certificate.proofs.growth.programs_with.Goals as goal

pub returns-in-Register : goal.returns-in-Register
returns-in-Register c = rw c.in-Register.is (programs_alone c.args.programs.now)

pub returns-in-Ceiling : goal.returns-in-Ceiling
returns-in-Ceiling c = rw c.in-Ceiling.is (programs_alone c.args.programs.now)
