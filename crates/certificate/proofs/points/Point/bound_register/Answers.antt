use Rattle.std.proofs.lemmas.List.{map-set}
use Rattle.certificate.specs.Views.{interval_of, point_of}
use Rattle.certificate.proofs.points.Point.bound_register.Goals as goal

pub returns-then-register-lt8 : goal.returns-then-register-lt8
returns-then-register-lt8 c =
    let set = map-set interval_of c.args.self.now.registers c.args.register c.args.interval in
    let point = point_of c.args.self.now in
    λ i. record point { bound = record point.bound { registers = set i } }
