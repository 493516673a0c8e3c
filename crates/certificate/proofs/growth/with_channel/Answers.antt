use Rattle.std.proofs.Common.{sym, ◌∙◌}
use Rattle.std.specs.Str.{bytes_eq}
use Rattle.rights.specs.Limits.{most_programs}
use Rattle.certificate.specs.Growth.{programs_of_class, programs_of_held}
use Rattle.certificate.specs.CountViews.{programs_listed}
use Rattle.certificate.specs.Views.{channel_of}
use Rattle.certificate.proofs.Distinct.{listed-append, listed-append_none}
use Rattle.certificate.proofs.growth.with_channel.Goals as goal

pub returns-in-None : goal.returns-in-None
returns-in-None c =
    let channel = channel_of c.args.channel.now in
    sym (listed-append_none bytes_eq most_programs (programs_listed c.args.programs.now) (programs_of_class channel.class)
    (programs_of_held channel.sends) c.in-None.ensures)

pub returns-in-Some : goal.returns-in-Some
returns-in-Some c =
    let channel = channel_of c.args.channel.now in
    let k = programs_listed c.in-Some.programs in
    c.with_held.ensures ∙ sym (listed-append bytes_eq most_programs (programs_listed c.args.programs.now) (programs_of_class channel.class)
    (programs_of_held channel.sends) k c.in-Some.ensures)
