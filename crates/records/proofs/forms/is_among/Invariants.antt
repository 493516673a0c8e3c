use Rattle.std.proofs.Common.{length}
use Rattle.records.proofs.forms.is_among.Given as goal

abbrev pub decreases-loop-word : goal.decreases-loop-word
decreases-loop-word l = length l.words
