use Rattle.std.proofs.Common.{◌≡◌, ◌/◌, ◌%◌, [], ◌∷◌, ap, ◌∙◌, arith}
use Rattle.texts.specs.Hex.{hex_digit}
use Rattle.texts.proofs.hex.eight_digits.Goals as goal

pub returns : goal.returns
returns c =
    let n = c.args.number in
    let first : n / 268435456 ≡ n / 16 / 16 / 16 / 16 / 16 / 16 / 16 % 16 = omega (arith, c.ranges.number.fits) in
    let second : n / 16777216 % 16 ≡ n / 16 / 16 / 16 / 16 / 16 / 16 % 16 = omega arith in
    let third : n / 1048576 % 16 ≡ n / 16 / 16 / 16 / 16 / 16 % 16 = omega arith in
    let fourth : n / 65536 % 16 ≡ n / 16 / 16 / 16 / 16 % 16 = omega arith in
    let fifth : n / 4096 % 16 ≡ n / 16 / 16 / 16 % 16 = omega arith in
    let sixth : n / 256 % 16 ≡ n / 16 / 16 % 16 = omega arith in
    λ i.
    (c.one_digit.ensures ∙ ap hex_digit first) i ∷ (c.one_digit-2.ensures ∙ ap hex_digit second) i
    ∷ (c.one_digit-3.ensures ∙ ap hex_digit third) i ∷ (c.one_digit-4.ensures ∙ ap hex_digit fourth) i
    ∷ (c.one_digit-5.ensures ∙ ap hex_digit fifth) i ∷ (c.one_digit-6.ensures ∙ ap hex_digit sixth) i
    ∷ c.one_digit-7.ensures i ∷ c.one_digit-8.ensures i ∷ []
