use Rattle.std.proofs.Common.{◌≡◌, length}
use Rattle.texts.specs.Parts.{parts}
use Rattle.instruction_set.specs.Fields.{is_word_among}
use Rattle.prog_asm.proofs.lists.is_among.Given as goal

-- what is left decides it
abbrev pub invariant-loop-word : goal.invariant-loop-word
invariant-loop-word l = is_word_among l.word (parts 44 l.list) ≡ is_word_among l.word (parts 44 l.initial.list)

abbrev pub decreases-loop-word : goal.decreases-loop-word
decreases-loop-word l = length l.list
