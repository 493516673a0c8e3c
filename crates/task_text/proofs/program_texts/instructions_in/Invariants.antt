use Rattle.instruction_set.specs.Views.{code_of}
use Rattle.task_text.specs.Instructions.{AreLinesOf}
use Rattle.task_text.specs.ProgramViews.{texts_at}
use Rattle.task_text.proofs.program_texts.instructions_in.Given as goal

-- the lines so far are those of instructions
abbrev pub invariant-loop-line : goal.invariant-loop-line
invariant-loop-line l = AreLinesOf l.wide (texts_at l.text l.spans.items) (code_of l.code)
