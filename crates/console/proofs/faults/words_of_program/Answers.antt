use Rattle.std.proofs.Common.{◌≡◌, ◌++◌, ◌∙◌, List, ℕ, Some, append_assoc, ap, codes, refl}
use Rattle.std.specs.Fmt.{decimal, digits}
use Rattle.std.proofs.lemmas.Result.{IfOk-weaker}
use Rattle.prog_asm.specs.declared.faults.AsmFault.{AsmFault}
use Rattle.prog_asm.specs.declared.faults.AsmFault.TheVariants as asm
use Rattle.prog_asm.specs.FaultViews.{fault_line, fault_name, fault_number}
use Rattle.task_reader.specs.FaultViews.{text_fault}
use Rattle.console.specs.Faults.{fault_words}
use Rattle.console.specs.FaultViews.{program_fault}
use Rattle.console.proofs.faults.words_of_program.Goals as goal

five-joined : (a b c d e : List ℕ) → a ++ (b ++ (c ++ (d ++ e))) ≡ (((a ++ b) ++ c) ++ d) ++ e
five-joined a b c d e = rw (append_assoc, append_assoc, append_assoc) refl

-- what follows the name of the program
abbrev behind_name : ℕ → AsmFault → List ℕ
behind_name line f = codes ":" ++ (decimal line ++ (codes " " ++ (decimal (fault_number f) ++ (codes " " ++ fault_name f))))

-- the words of a mistake on a line, the same line by another name
on-line : (program : List ℕ) (line l : ℕ) (mistake : List ℕ) → line ≡ l →
    codes "task 6 Asm " ++ (program ++ (codes ":" ++ (decimal line ++ (codes " " ++ mistake))))
    ≡ codes "task 6 Asm " ++ ((((program ++ codes ":") ++ decimal l) ++ codes " ") ++ mistake)
on-line program line l mistake same = rw same (ap (λ words. codes "task 6 Asm " ++ words) (five-joined program (codes ":") (decimal l) (codes " ") mistake))

program-words : (program : List ℕ) (f : AsmFault) (line : ℕ) → Some line ≡ fault_line f →
    codes "task 6 Asm " ++ (program ++ behind_name line f) ≡ fault_words (program_fault program (text_fault f))
unfolding digits
program-words program (asm.Word l) line is = on-line program line l (codes "1 Word") cc
program-words program (asm.Operand l) line is = on-line program line l (codes "2 Operand") cc
program-words program (asm.NoLabel l) line is = on-line program line l (codes "3 NoLabel") cc
program-words program (asm.TwiceLabel l) line is = on-line program line l (codes "4 TwiceLabel") cc
program-words program (asm.TooMany l) line is = on-line program line l (codes "5 TooMany") cc
program-words program (asm.FallsOff l) line is = on-line program line l (codes "6 FallsOff") cc
program-words program asm.Memory line is = absurd cc

pub returns : goal.returns
returns c =
    IfOk-weaker c.format.result _ _
    (λ words is. is ∙ rw (c.number-number.ensures, c.name-name.ensures) (program-words c.args.program.now c.args.fault c.in-Some.line c.in-Some.ensures)) c.format.ensures.ok
