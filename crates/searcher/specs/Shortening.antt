-- The short form of a certificate: bounds at named points alone, in version 2 or 4, where others are carried. (own)
use Rattle.std.specs.Prelude.{◌≡◌, Bool, true, []}
use Rattle.std.specs.List.{filter, list_all}
use Rattle.certificate.specs.Bounds.{PointBound, Certificate}
use Rattle.rules.specs.Expansions.{code_named, is_named}
use Rattle.task.specs.Plans.{Plan}
use Rattle.searcher.specs.Versions.{flat_version}

-- a bound at a named point of its program
abbrev pub is_at_named : Plan → PointBound → Bool
is_at_named plan b = is_named (code_named plan.programs b.program) b.point

unfoldable pub short_form : Plan → Certificate → Certificate
short_form plan c = record { version = flat_version plan; points = filter (is_at_named plan) c.points; channels = c.channels; authorities = [] }

-- A certificate that is its own short form.
pub record IsShort (plan : Plan) (c : Certificate) : Type 0 where
  pub version : c.version ≡ flat_version plan
  pub named : list_all (is_at_named plan) c.points ≡ true
  pub none : c.authorities ≡ []
