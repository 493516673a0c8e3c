use Rattle.std.proofs.Common.{ap, ◌∙◌}
use Rattle.explain.specs.Listing.{first_point}
use Rattle.explain.specs.ObservedViews.{headed}
use Rattle.explain.proofs.ListedLines.{warning_written}
use Rattle.explain.proofs.observations.add_warning.Goals as goal

pub returns : goal.returns
returns c =
    let place = c.place-place.result in
    warning_written c.args.page.now c.say.new.page _ place.program.now place.point place.line c.args.warning.now.words.bytes.items c.name.result.now
    (headed c.args.warning.now) c.place-place.ensures.program (c.place-place.ensures.point ∙ (c.first_point.ensures ∙ ap first_point c.deref.ensures.value)) c.name.ensures c.say.ensures
