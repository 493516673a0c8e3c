use Rattle.std.proofs.Common.{◌≡◌, ◌<◌, length}
use Rattle.page.proofs.frames.Block.add_broken.Given as goal

-- a line has some letters at least
abbrev pub invariant-loop-rest : goal.invariant-loop-rest
invariant-loop-rest l = record { room_is : l.self.room ≡ l.initial.self.room; some : 0 < l.room }

abbrev pub decreases-loop-rest : goal.decreases-loop-rest
decreases-loop-rest l = length l.rest
