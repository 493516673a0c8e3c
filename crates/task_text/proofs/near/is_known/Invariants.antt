use Rattle.std.proofs.Common.{◌≡◌, drop, map}
use Rattle.task_text.specs.NearWords.{is_one_of}
use Rattle.task_text.proofs.near.is_known.Given as goal

-- the words that are left decide it
abbrev pub invariant-loop-one : goal.invariant-loop-one
invariant-loop-one l = is_one_of (map (λ one. one.now) (drop l.one-index l.known)) l.word ≡ is_one_of (map (λ one. one.now) l.known) l.word
