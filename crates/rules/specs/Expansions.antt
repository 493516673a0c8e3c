-- What a certificate says of the points that it gives no bound: in versions 2 to 4 bounds are carried along a program, from each
-- point to the next, up to where ways meet. (own)
use Rattle.std.specs.Prelude.{◌≡◌, ◌==◌, ◌&&◌, ◌||◌, ◌++◌, not, ℕ, zero, suc, Bool, true, false, nat_lt, List, [], ◌∷◌, length, Option, Some, None, if◌then◌else◌}
use Rattle.std.specs.List.{flat_map, list_any, slice_get}
use Rattle.std.specs.Str.{bytes_eq}
use Rattle.rights.specs.Values.{Name}
use Rattle.rights.specs.Limits.{most_instructions}
use Rattle.certificate.specs.Bounds.{Bound, PointBound, Version, One, Two, Three, Four, Certificate, bound_at}
use Rattle.certificate.specs.Growth.{IsCertificate}
use Rattle.certificate.specs.Growths.{IsGrown}
use Rattle.instruction_set.specs.Programs.{Instruction, Set, Mov, Add, In, Jmp, Jeq, Jlt, Halt, Invoke}
use Rattle.task.specs.Limits.{is_plan}
use Rattle.task.specs.Plans.{NamedProgram, Plan}
use Rattle.rules.specs.Carrying.{carried_on}

-- where an instruction names a point to go to, whether or not it ever goes there
abbrev pub targets : Instruction → List ℕ
targets (Set register value) = []
targets (Mov register source) = []
targets (Add register addend) = []
targets (In register) = []
targets (Jmp target) = target ∷ []
targets (Jeq register value target) = target ∷ []
targets (Jlt register value target) = target ∷ []
targets Halt = []
targets (Invoke call otherwise) = otherwise ∷ []

abbrev pub names_point : ℕ → Instruction → Bool
names_point point i = list_any (λ (target : ℕ). target == point) (targets i)

-- A named point of a program: point 0, and each that a jump or an `else` names.
abbrev pub is_named : List Instruction → ℕ → Bool
is_named code point = (point == 0) || list_any (names_point point) code

-- In versions 2 to 4 bounds may be carried to the other points of a program.
abbrev pub may_carry : Version → List Instruction → ℕ → Bool
may_carry One code point = false
may_carry Two code point = nat_lt point (length code) && not (is_named code point)
may_carry Three code point = nat_lt point (length code) && not (is_named code point)
may_carry Four code point = nat_lt point (length code) && not (is_named code point)

-- the code of the program of a name; where a task has none, there is the empty list
unfoldable pub code_named : List NamedProgram → Name → List Instruction
code_named [] name = []
code_named (p ∷ programs) name = if bytes_eq p.name name then p.code else code_named programs name

-- the bound that is given, or else the other
abbrev pub or_carried : Option Bound → Option Bound → Option Bound
or_carried None carried = carried
or_carried (Some given) carried = Some given

-- The bound of a point as an outcome meets it: the one that is given, or else, at the next point, what is carried on to it.
abbrev pub bound_met : Certificate → Name → ℕ → Option Bound → ℕ → Option Bound
bound_met c name next carried point = or_carried (bound_at c name point) (if point == next then carried else None)

-- a point's bound, if it has one
abbrev pub with_bound : Name → ℕ → Option Bound → List PointBound
with_bound name point None = []
with_bound name point (Some b) = record { program = name; point = point; bound = b } ∷ []

-- Along the program of a name.
module _ (plan : Plan) (c : Certificate) (name : List ℕ) where
  abbrev pub code_at : List Instruction
  code_at = code_named plan.programs name

  -- what a point with this instruction and this bound, if there are both, carries on to the next
  abbrev pub carried_by : ℕ → Option Instruction → Option Bound → Option Bound
  carried_by point None b = None
  carried_by point (Some i) None = None
  carried_by point (Some i) (Some b) =
      if may_carry c.version code_at (suc point) then carried_on plan c name point b i else None

  -- THE BOUND OF A POINT to which this is carried: the one that it is given, or else what is carried.
  abbrev pub bound_with : ℕ → Option Bound → Option Bound
  bound_with point carried = or_carried (bound_at c name point) carried

  abbrev pub carried_past : ℕ → Option Bound → Option Bound
  carried_past point carried = carried_by point (slice_get code_at point) (bound_with point carried)

  -- the bounds of so many points from one on, to which this is carried
  unfoldable pub points_along : Option Bound → ℕ → ℕ → List PointBound
  points_along carried point zero = []
  points_along carried point (suc n) =
      with_bound name point (bound_with point carried) ++ points_along (carried_past point carried) (suc point) n

  -- what is carried to a point, all the way from point 0
  unfoldable pub carried_to : ℕ → Option Bound
  carried_to zero = None
  carried_to (suc n) = carried_past n (carried_to n)

  abbrev pub bound_there : ℕ → Option Bound
  bound_there n = bound_with n (carried_to n)

-- the programs of which some point is given a bound, each once where its points stand together
unfoldable pub programs_behind : List ℕ → List PointBound → List (List ℕ)
programs_behind last [] = []
programs_behind last (b ∷ points) =
    if bytes_eq b.program last then programs_behind last points else b.program ∷ programs_behind b.program points

abbrev pub programs_given : List PointBound → List (List ℕ)
programs_given [] = []
programs_given (b ∷ points) = b.program ∷ programs_behind b.program points

abbrev pub expanded_points : Plan → Certificate → List PointBound
expanded_points plan c = flat_map (λ name. points_along plan c name None 0 most_instructions) (programs_given c.points)

-- THE EXPANSION: the certificate in which each carried bound is written. One of version 1 is its own; that of one of version 2,
-- which has no authorities, is of version 1; and those of versions 3 and 4 are of their own.
abbrev pub expanded_version : Version → Version
expanded_version One = One
expanded_version Two = One
expanded_version Three = Three
expanded_version Four = Four

abbrev pub expanded : Version → Plan → Certificate → Certificate
expanded One plan c = c
expanded Two plan c = record c { version = One; points = expanded_points plan c }
expanded Three plan c = record c { points = expanded_points plan c }
expanded Four plan c = record c { points = expanded_points plan c }

abbrev pub expansion : Plan → Certificate → Certificate
expansion plan c = expanded c.version plan c

-- It bounds each point by what is given there, or else by what is carried there all the way from point 0.
abbrev pub ExpansionBounds : Type 0
ExpansionBounds = (plan : Plan) (c : Certificate) (name : List ℕ) (point : ℕ) → is_plan plan ≡ true → IsCertificate c
    → bound_at (expansion plan c) name point ≡ bound_there plan c name point

-- It is what its own lines make of nothing.
abbrev pub ExpansionIsGrown : Type 0
ExpansionIsGrown = (plan : Plan) (c : Certificate) → IsCertificate c → IsGrown (expansion plan c)
