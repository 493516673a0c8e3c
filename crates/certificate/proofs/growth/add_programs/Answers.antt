use Rattle.std.proofs.Common.{ap, sym, ◌∙◌}
use Rattle.std.specs.Str.{bytes_eq}
use Rattle.rights.specs.Limits.{most_programs}
use Rattle.certificate.specs.Room.{listed_with}
use Rattle.certificate.specs.CountViews.{programs_listed}
use Rattle.certificate.proofs.Listed.{programs_alone}
use Rattle.certificate.proofs.growth.add_programs.Goals as goal

pub returns-then-not-names_program : goal.returns-then-not-names_program
returns-then-not-names_program c =
    let p = c.args.programs.now in
    programs_alone p ∙ ap (listed_with bytes_eq most_programs (programs_listed p)) (sym (c.names_program.ensures c.if-not-names_program.true))
