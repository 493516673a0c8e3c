use Rattle.std.proofs.lemmas.List.{map-set}
use Rattle.certificate.specs.Views.{interval_of}
use Rattle.certificate.proofs.bounds.Bound.registers_with.Goals as goal

pub returns-then-register-lt8 : goal.returns-then-register-lt8
returns-then-register-lt8 c = map-set interval_of c.args.self.now.registers c.args.register c.args.interval
