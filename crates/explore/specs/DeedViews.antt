-- What the code's deeds by a number stand for.
use Rattle.std.specs.Prelude.{List, ◌++◌}
use Rattle.instruction_set.specs.Programs.{Instruction}
use Rattle.explore.specs.declared.attacks.ByNumber.{ByNumber}

abbrev pub deeds_in : ByNumber → List Instruction
deeds_in d = d.plain.items ++ d.named.items ++ d.limits.items
