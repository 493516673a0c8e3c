-- Why bytes are no certificate. (own)
use Rattle.std.specs.Prelude.{ℕ, Result, Ok, Err, Option, Some, None}

-- Of several faults of a line the first of these counts: it has no form that a line has; a number, the programs or the
-- classes are past their limit; it is of good form, but out of its place or not above the line before it.
pub data Fault : Type 0 where
  Syntax : Fault
  Limit : Fault
  Order : Fault

-- the fault of the first faulty line, and where that line begins
pub record Faulty : Type 0 where
  pub fault : Fault
  pub offset : ℕ

abbrev pub first_of : Fault → Fault → Fault
first_of Syntax e = Syntax
first_of Limit Syntax = Syntax
first_of Limit Limit = Limit
first_of Limit Order = Limit
first_of Order e = e

-- of two parts of a line
abbrev pub both : {A B C : Type 0} → (A → B → C) → Result A Fault → Result B Fault → Result C Fault
both f (Ok a) (Ok b) = Ok (f a b)
both f (Ok a) (Err e) = Err e
both f (Err d) (Ok b) = Err d
both f (Err d) (Err e) = Err (first_of d e)

abbrev pub with_part : {A B : Type 0} → (A → B) → Result A Fault → Result B Fault
with_part f (Ok a) = Ok (f a)
with_part f (Err e) = Err e

-- what has no form is Syntax
abbrev pub formed : {A : Type 0} → Option A → Result A Fault
formed None = Err Syntax
formed (Some a) = Ok a
