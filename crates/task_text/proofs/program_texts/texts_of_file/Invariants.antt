use Rattle.std.proofs.Common.{◌≡◌, length}
use Rattle.task.specs.Views.{programs_of}
use Rattle.task_text.specs.ProgramViews.{AreTextsOf, codes_in}
use Rattle.task_text.proofs.program_texts.texts_of_file.Given as goal

-- so many texts, each of its program
abbrev pub invariant-loop-program : goal.invariant-loop-program
invariant-loop-program l = (length l.texts.items ≡ l.program-index) × AreTextsOf l.task.wide l.texts.items (codes_in (programs_of l.program-items))
