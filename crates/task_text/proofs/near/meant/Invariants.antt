use Rattle.std.proofs.Common.{◌≡◌, drop, map}
use Rattle.task_text.specs.NearWords.{meant_of}
use Rattle.task_text.proofs.near.meant.Given as goal

-- the words that are left decide it
abbrev pub invariant-loop-one : goal.invariant-loop-one
invariant-loop-one l = meant_of (map (λ one. one.now) (drop l.one-index l.known)) l.word ≡ meant_of (map (λ one. one.now) l.known) l.word
