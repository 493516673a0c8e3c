-- The statuses that a program ends with. (own)
use Rattle.std.specs.Prelude.{◌==◌, ◌||◌, ℕ, Bool}
use Rattle.checker.specs.Verdicts.{Verdict, Yes, No}

-- The status of a fault: 2 of one in words or files, 3 of want of memory and of a failed output. That of
-- a program that is done is 0, or 1 where it answers no.
abbrev pub is_fault_status : ℕ → Bool
is_fault_status status = (status == 2) || (status == 3)

abbrev pub is_done_status : ℕ → Bool
is_done_status status = (status == 0) || (status == 1)

abbrev pub is_status : ℕ → Bool
is_status status = is_done_status status || is_fault_status status

abbrev pub verdict_status : Verdict → ℕ
verdict_status Yes = 0
verdict_status (No program point rule) = 1
