use Rattle.std.proofs.Common.{◌≡◌, map, drop}
use Rattle.instruction_set.specs.Fields.{set_of_word}
use Rattle.prog_asm.proofs.lists.named.Given as goal

-- the rows that are left decide it
abbrev pub invariant-loop-row : goal.invariant-loop-row
invariant-loop-row g l =
    set_of_word (map (λ row. (row.name.now, g.F.Flags.set_of row.value)) (drop l.row-index l.rows)) l.word ≡ set_of_word (map (λ row. (row.name.now, g.F.Flags.set_of row.value)) l.rows) l.word
