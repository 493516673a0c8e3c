use Rattle.std.proofs.Common.{◌≡◌, ◌∷◌, ap, sym, ◌∙◌}
use Rattle.certificate.specs.Views.{version_of}
use Rattle.certificate_text.specs.Words.{channel_of_words}
use Rattle.certificate_text.proofs.Unsided.{no-side}
use Rattle.certificate_text.proofs.lines.read_channel.Goals as goal

pub returns-in_default-read_side : goal.returns-in_default-read_side
returns-in_default-read_side c =
    let version = version_of c.args.version in
    let class = c.in-Some.class.now in
    let side = c.in-Some.side.now in
    let words : c.args.words ≡ class ∷ side ∷ c.next_two.new.words = c.in-Some.ensures {u = tt} in
    sym (ap (channel_of_words version) words ∙ no-side version class side c.next_two.new.words (sym (c.in_default-read_side.ensures {u = tt})))
