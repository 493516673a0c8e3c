use Rattle.std.proofs.Common.{◌∙◌, ap}
use Rattle.std.specs.Prelude.{option_map}
use Rattle.certificate.specs.Bounds.{bound_at}
use Rattle.certificate.specs.Views.{bound_of}
use Rattle.texts.specs.Views.{name_of}
use Rattle.checker.proofs.Standing.{bound_first}
use Rattle.checker.proofs.asked.AskedProgram.first_bound.Goals as goal

pub returns : goal.returns
returns c =
    let of = c.args.self.now in
    bound_first of.task.now of.cert.now (name_of of.name) (option_map bound_of c.bound_at.result)
    (c.bound_at.ensures ∙ ap (λ name. bound_at of.cert.now name 0) c.as_bytes.ensures.bytes)
