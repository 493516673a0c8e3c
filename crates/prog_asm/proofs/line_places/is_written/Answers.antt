use Rattle.std.proofs.Common.{ap, sym, ◌∙◌}
use Rattle.std.specs.Prelude.{Some, option_map}
use Rattle.instruction_set.specs.Assembly.{placed}
use Rattle.prog_asm.specs.FormViews.{written_from}
use Rattle.prog_asm.proofs.SameInstructions.{same-instruction}
use Rattle.prog_asm.proofs.line_places.is_written.Goals as goal

pub returns : goal.returns
returns c = λ same. record {
  written = written_from c.in-Some.written;
  there = ap (option_map written_from) c.in-Some.is;
  same =
      ap (λ target. placed (λ name. Some target) (written_from c.in-Some.written)) (sym c.led_point-target.ensures) ∙ c.led.ensures
      ∙ ap Some (same-instruction c.led.result c.args.instruction.now (sym c.eq.ensures ∙ same));
}
