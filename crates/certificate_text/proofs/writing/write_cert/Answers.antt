use Rattle.std.proofs.Common.{subst}
use Rattle.std.specs.Prelude.{Ok}
use Rattle.certificate_text.specs.Texts.{certificate_text}
use Rattle.certificate_text.specs.WritingViews.{Gathers}
use Rattle.certificate_text.proofs.GatheredTexts.{handed-all}
use Rattle.certificate_text.proofs.writing.write_cert.Goals as goal

pub returns-clause-written : goal.returns-clause-written
returns-clause-written g c =
    handed-all _ _ _ _ _ _ _ _ c.in_ok-gather_cert.field-0 _
    (subst
    (λ old. Gathers (Ok c.in_ok-gather_cert.field-0) (g.W.Out.taken c.args.out.now) (g.W.Out.taken c.gather_cert.new.out)
    (g.W.Out.faults c.args.out.now) (g.W.Out.faults c.gather_cert.new.out) old c.gather_cert.new.room (certificate_text c.args.cert.now))
    c.new-room.ensures c.in_ok-gather_cert.ensures.written)
    c.hand_on.ensures
