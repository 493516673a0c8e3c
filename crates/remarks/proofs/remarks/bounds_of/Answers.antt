use Rattle.std.specs.Prelude.{option_map}
use Rattle.certificate.specs.Bounds.{bound_at}
use Rattle.certificate.specs.Views.{bound_of}
use Rattle.remarks.proofs.Lists.{one_more}
use Rattle.remarks.proofs.remarks.bounds_of.Goals as goal

pub loop-point-preserved : goal.loop-point-preserved
loop-point-preserved c =
    one_more (option_map bound_of) (bound_at c.args.cert.now c.args.name.now) c.loop-point.bounds.items c.push.new.self.items c.bound_at.result
    c.loop-point.point c.in_ok-push.ensures.items c.loop-point.invariant c.bound_at.ensures
