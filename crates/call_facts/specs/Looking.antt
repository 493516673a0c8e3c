-- Which registers an instruction looks at: what it does goes by what they hold. (own)
use Rattle.std.specs.Prelude.{◌==◌, ◌||◌, ℕ, Bool, false}
use Rattle.instruction_set.specs.Programs.{Instruction, Set, Mov, Add, In, Jmp, Jeq, Jlt, Halt, Invoke}
use Rattle.call_facts.specs.Arguments.{is_given}

abbrev pub looks_at : ℕ → Instruction → Bool
looks_at register (Set own value) = false
looks_at register (Mov own source) = source == register
looks_at register (Add own addend) = own == register || addend == register
looks_at register (In own) = false
looks_at register (Jmp target) = false
looks_at register (Jeq own value target) = own == register
looks_at register (Jlt own value target) = own == register
looks_at register Halt = false
looks_at register (Invoke call otherwise) = is_given register call
