-- The sides of a pair.
use Rattle.std.proofs.Common.{◌<◌, arith}
use Rattle.rights.specs.declared.sides.Side.{Side}
use Rattle.rights.specs.declared.sides.Side.TheVariants as side
use Rattle.rights.specs.Views.{side_seen}

pub side_small : (s : Side) → side_seen s < 2
side_small side.A = omega arith
side_small side.B = omega arith
