use Rattle.std.proofs.Common.{◌≡◌, map, drop}
use Rattle.instruction_set.specs.Forms.{mnemonic_among}
use Rattle.prog_asm.specs.FormViews.{mnemonic_from}
use Rattle.prog_asm.proofs.mnemonics.mnemonic_among.Given as goal

-- what is left decides it
abbrev pub invariant-loop-mnemonic : goal.invariant-loop-mnemonic
invariant-loop-mnemonic l = mnemonic_among (map mnemonic_from (drop l.mnemonic-index l.mnemonics)) l.word ≡ mnemonic_among (map mnemonic_from l.mnemonics) l.word
