use Rattle.std.proofs.Common.{◌≤◌, ◌<◌, arith}
use Rattle.std.proofs.Math.Nat.{pow-le-pow_right}
use Rattle.texts.proofs.hex.read_hex.Goals as goal

pub overflow_mul-number : goal.overflow_mul-number
overflow_mul-number c =
    let within : c.loop-byte.byte-index ≤ 7 = omega (arith, c.requires, c.if-word-count.false, c.loop-byte-test.true) in
    let some : 0 < 16 = omega arith in
    omega (arith, pow-le-pow_right {n = 16} some within, c.loop-byte.invariant.small)

pub overflow_add-number : goal.overflow_add-number
overflow_add-number c =
    let within : c.loop-byte.byte-index ≤ 7 = omega (arith, c.requires, c.if-word-count.false, c.loop-byte-test.true) in
    let some : 0 < 16 = omega arith in
    omega (arith, pow-le-pow_right {n = 16} some within, c.loop-byte.invariant.small, c.digit_value.ensures.small, c.from.ensures)
