use Rattle.std.proofs.Common.{map}
use Rattle.certificate.specs.Views.{interval_of, version_of}
use Rattle.certificate_text.specs.Pieces.{in_order, register_text}
use Rattle.certificate_text.proofs.GatheredLoops.{loop-end, loop-failed, loop-next}
use Rattle.certificate_text.proofs.Written.{passed_on}
use Rattle.certificate_text.proofs.writing.write_registers.Goals as goal

pub returns-in_err-write_register : goal.returns-in_err-write_register
returns-in_err-write_register g c =
    loop-failed interval_of (register_text (version_of c.args.version)) c.args.registers.now _ _ _ _ _ _ _ _ _ c.loop-register.register
    (in_order (register_text (version_of c.args.version)) 0 (map interval_of c.args.registers.now)) c.index-registers-register.result c.loop-register-test.true
    c.index-registers-register.is c.loop-register.invariant
    c.in_err-write_register.field-0.0 _ (passed_on _ _ c.from_residual.ensures) c.in_err-write_register.ensures

pub loop-register-preserved : goal.loop-register-preserved
loop-register-preserved g c =
    loop-next interval_of (register_text (version_of c.args.version)) c.args.registers.now _ _ _ _ _ _ _ _ _ c.loop-register.register
    (in_order (register_text (version_of c.args.version)) 0 (map interval_of c.args.registers.now)) c.index-registers-register.result c.loop-register-test.true
    c.index-registers-register.is c.loop-register.invariant
    c.in_ok-write_register.field-0 c.in_ok-write_register.ensures

pub returns : goal.returns
returns g c = loop-end interval_of (register_text (version_of c.args.version)) c.args.registers.now _ _ _ _ _ _ c.loop-register.register _ tt c.loop-register-test.false c.loop-register.invariant
