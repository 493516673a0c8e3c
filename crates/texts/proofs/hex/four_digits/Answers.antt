use Rattle.std.proofs.Common.{◌≡◌, ◌/◌, ◌%◌, [], ◌∷◌, ap, ◌∙◌, arith}
use Rattle.texts.specs.Hex.{hex_digit}
use Rattle.texts.proofs.hex.four_digits.Goals as goal

pub returns : goal.returns
returns c =
    let n = c.args.number in
    let first : n / 4096 ≡ n / 16 / 16 / 16 % 16 = omega (arith, c.ranges.number.fits) in
    let second : n / 256 % 16 ≡ n / 16 / 16 % 16 = omega arith in
    λ i.
    (c.one_digit.ensures ∙ ap hex_digit first) i ∷ (c.one_digit-2.ensures ∙ ap hex_digit second) i ∷ c.one_digit-3.ensures i ∷ c.one_digit-4.ensures i ∷ []
