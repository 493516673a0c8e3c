use Rattle.std.proofs.Common.{◌≡◌, length}
use Rattle.task_text.specs.NearWords.{is_within_one_edit}
use Rattle.task_text.proofs.near.is_within_one_edit.Given as goal

-- what is left decides it
abbrev pub invariant-loop-word : goal.invariant-loop-word
invariant-loop-word l = is_within_one_edit l.word l.known ≡ is_within_one_edit l.fn.word l.fn.known

abbrev pub decreases-loop-word : goal.decreases-loop-word
decreases-loop-word l = length l.word
