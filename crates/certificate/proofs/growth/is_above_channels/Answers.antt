use Rattle.std.proofs.Common.{ap, sym, ◌∙◌}
use Rattle.std.specs.Ordering.{is_lt}
use Rattle.certificate.specs.Bounds.{ChannelBound}
use Rattle.certificate.specs.Growth.{above_channels, channel_order}
use Rattle.certificate.specs.Views.{channel_of}
use Rattle.certificate.proofs.Last.{at_last, at_none, above_channels-last, above_channels-none}
use Rattle.certificate.proofs.growth.is_above_channels.Goals as goal

pub returns-in-None : goal.returns-in-None
returns-in-None c =
    let channel = channel_of c.args.channel.now in
    sym (at_none channel_of (λ channels. above_channels channels channel) c.args.channels.now c.in-None.ensures.cases ∙ above_channels-none channel)

pub returns-in-Some : goal.returns-in-Some
returns-in-Some c =
    let channel = channel_of c.args.channel.now in
    let at = at_last channel_of (λ channels. above_channels channels channel) (λ (a : ChannelBound). is_lt (channel_order a channel))
    (above_channels-last channel) c.args.channels.now _ c.in-Some.last.now c.in-Some.ensures.cases.0 in
    c.is_lt.ensures ∙ ap is_lt c.compare.ensures ∙ sym at
