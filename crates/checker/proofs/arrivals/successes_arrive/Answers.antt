use Rattle.std.proofs.Common.{◌∙◌}
use Rattle.std.specs.Prelude.{option_map}
use Rattle.certificate.specs.Views.{bound_of}
use Rattle.checker.specs.PointViews.{instruction_of_point, name_of_point}
use Rattle.checker.proofs.Arriving.{successes_as}
use Rattle.checker.proofs.arrivals.successes_arrive.Goals as goal

pub returns : goal.returns
returns c =
    let at = c.args.at.now in
    let of = at.of.now in
    c.successes_pass.ensures.0
    ∙ successes_as of.task.now of.cert.now of.valid of.made (name_of_point at) at.point (instruction_of_point at) (option_map bound_of at.there) at.stands at.leads
    (bound_of c.args.bound.now) c.args.arrival
