use Rattle.std.proofs.Common.{◌≡◌, ◌+◌, ◌-◌, ◌*◌, ◌<◌, ℕ, [], ◌∷◌, ◌++◌, take, ap, sym, ◌∙◌, arith, get_or}
use Rattle.std.specs.Prelude.{true}
use Rattle.std.proofs.lemmas.Bool.{and_from}
use Rattle.std.proofs.lemmas.List.{take_more}
use Rattle.std.proofs.lemmas.List.Folds.{list_all_more}
use Rattle.texts.specs.Bytes.{is_digit}
use Rattle.texts.specs.Numbers.{value_from}
use Rattle.simulator.proofs.PlainEvents.{digit-below, value-more}
use Rattle.simulator.proofs.schedule.first_number.Goals as goal

pub loop-at-preserved : goal.loop-at-preserved
loop-at-preserved c =
    let text = c.args.text.now in
    let at = c.loop-at.at in
    let b : ℕ = get_or text at 0 in
    let more : take (at + 1) text ≡ take at text ++ b ∷ [] = take_more text at 0 c.loop-at-test.true in
    let digit : is_digit b ≡ true = sym (c.is_ascii_digit.ensures.value) ∙ c.if-not-is_ascii_digit.false in
    let low : b - 48 < 10 = digit-below b digit in
    let value : c.from.result ≡ b - 48 = c.from.ensures in
    record {
      digits = list_all_more is_digit text at 0 c.loop-at-test.true ∙ and_from _ _ c.loop-at.invariant.digits digit;
      value =
          ap (λ d. c.loop-at.number * 10 + d) value ∙ ap (λ n. n * 10 + (b - 48)) c.loop-at.invariant.value
          ∙ sym (value-more 0 (take at text) b) ∙ sym (ap (value_from 0) more);
      small = omega (arith, low, value, c.if-number-ge100.false);
    }
