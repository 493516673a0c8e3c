use Rattle.std.proofs.Common.{◌≡◌, ap, sym, ◌∙◌, refl}
use Rattle.std.specs.Prelude.{Option, Some, None, Ok, option_map, is_some, false}
use Rattle.instruction_set.specs.Assembly.{line_with}
use Rattle.prog_asm.specs.FaultPlaceViews.{fault_seen, list_of}
use Rattle.prog_asm.specs.FormViews.{written_from}
use Rattle.prog_asm.proofs.JudgedLaws.{good-read}
use Rattle.prog_asm.proofs.line_places.is_line_of.Goals as goal

none-is : {A : Type 0} (o : Option A) (b : _) → b ≡ is_some o → b ≡ false → o ≡ None
none-is None b is none = refl
none-is (Some a) b is none = absurd cc

pub returns : goal.returns
returns c = λ same.
    let wrong = none-is c.in_ok-seen.seen.wrong c.is_some.result c.is_some.ensures c.if-is_some.false in
    let label = none-is c.in_ok-seen.seen.line.label c.is_some-else-is_some.result c.is_some-else-is_some.ensures c.if-is_some-2.false in
    let read = good-read c.args.wide c.args.text.now 1 (sym (ap (λ wrong. list_of (option_map fault_seen wrong)) wrong) ∙ c.in_ok-seen.ensures.wrong) in
    record {
      found = option_map written_from c.in_ok-seen.seen.line.instruction;
      read = read ∙ ap Ok (sym c.in_ok-seen.ensures.line)
          ∙ ap (λ label. Ok (line_with (option_map (λ name. name.now) label) (option_map written_from c.in_ok-seen.seen.line.instruction))) label;
      instruction_is = c.is_written.ensures same;
    }
