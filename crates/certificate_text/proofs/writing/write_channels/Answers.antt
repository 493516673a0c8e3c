use Rattle.std.proofs.Common.{map}
use Rattle.certificate.specs.Views.{channel_of, version_of}
use Rattle.certificate_text.specs.Pieces.{in_order, channel_text}
use Rattle.certificate_text.proofs.GatheredLoops.{loop-end, loop-failed, loop-next}
use Rattle.certificate_text.proofs.Written.{passed_on}
use Rattle.certificate_text.proofs.writing.write_channels.Goals as goal

pub returns-in_err-write_channel : goal.returns-in_err-write_channel
returns-in_err-write_channel g c =
    loop-failed channel_of (λ n. channel_text (version_of c.args.version)) c.args.channels.now _ _ _ _ _ _ _ _ _ c.loop-channel.channel-index
    (in_order (λ n. channel_text (version_of c.args.version)) 0 (map channel_of c.args.channels.now)) c.channel-item.result c.loop-channel-test.true c.channel-item.is
    c.loop-channel.invariant
    c.in_err-write_channel.field-0.0 _ (passed_on _ _ c.from_residual.ensures) c.in_err-write_channel.ensures

pub loop-channel-preserved : goal.loop-channel-preserved
loop-channel-preserved g c =
    loop-next channel_of (λ n. channel_text (version_of c.args.version)) c.args.channels.now _ _ _ _ _ _ _ _ _ c.loop-channel.channel-index
    (in_order (λ n. channel_text (version_of c.args.version)) 0 (map channel_of c.args.channels.now)) c.channel-item.result c.loop-channel-test.true c.channel-item.is
    c.loop-channel.invariant
    c.in_ok-write_channel.field-0 c.in_ok-write_channel.ensures

pub returns : goal.returns
returns g c = loop-end channel_of (λ n. channel_text (version_of c.args.version)) c.args.channels.now _ _ _ _ _ _ c.loop-channel.channel-index _ tt c.loop-channel-test.false c.loop-channel.invariant
