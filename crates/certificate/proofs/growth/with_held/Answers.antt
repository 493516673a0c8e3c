use Rattle.std.proofs.Common.{ap, sym, ◌∙◌}
use Rattle.std.specs.Str.{bytes_eq}
use Rattle.rights.specs.Limits.{most_programs}
use Rattle.certificate.specs.Room.{listed_with}
use Rattle.certificate.specs.CountViews.{programs_listed}
use Rattle.certificate.proofs.Listed.{programs_alone, target-no_programs}
use Rattle.certificate.proofs.growth.with_held.Goals as goal

pub returns-in_default : goal.returns-in_default
returns-in_default c = rw c.in_default.is (programs_alone c.args.programs.now)

pub returns : goal.returns
returns c =
    rw c.in-Some.is
    (programs_alone c.args.programs.now
    ∙ ap (listed_with bytes_eq most_programs (programs_listed c.args.programs.now)) (sym (target-no_programs c.in-Some.held.target c.in_default-target.not-Socket)))
