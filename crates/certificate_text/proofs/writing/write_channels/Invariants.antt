use Rattle.std.proofs.Common.{drop, map}
use Rattle.certificate.specs.Views.{channel_of, version_of}
use Rattle.certificate_text.specs.Pieces.{in_order, channel_text}
use Rattle.certificate_text.proofs.GatheredTexts.{Gathered}
use Rattle.certificate_text.proofs.writing.write_channels.Given as goal

-- those before this one are written
abbrev pub invariant-loop-channel : goal.invariant-loop-channel
invariant-loop-channel g l =
    Gathered (g.W.Out.taken l.fn.out) (g.W.Out.taken l.out) (g.W.Out.faults l.fn.out) (g.W.Out.faults l.out) l.fn.room l.room
    (in_order (λ n. channel_text (version_of l.version)) 0 (map channel_of l.channels))
    (in_order (λ n. channel_text (version_of l.version)) l.channel-index (map channel_of (drop l.channel-index l.channels)))
