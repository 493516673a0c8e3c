use Rattle.certificate.specs.Bounds.{Closed}
use Rattle.rights.specs.Limits.{most_descriptors}
use Rattle.certificate.specs.Growth.{copies, open_bound}
use Rattle.certificate.specs.Views.{mode_of}
use Rattle.texts.specs.Views.{name_of}
use Rattle.certificate.proofs.Kept.{none_kept}
use Rattle.certificate.proofs.points.Point.begins.Goals as goal

pub returns : goal.returns
returns c =
    let slots = none_kept (copies most_descriptors Closed) c.new.result.items c.new.ensures.items in
    λ i. record {
      program = name_of c.args.program;
      point = c.args.point;
      bound = record (open_bound (mode_of c.args.mode)) { slots = slots i };
    }
