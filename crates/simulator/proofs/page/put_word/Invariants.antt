use Rattle.std.proofs.Common.{◌≡◌, ◌+◌, ◌++◌, length, take}
use Rattle.simulator.proofs.page.put_word.Given as goal

-- so many bytes of the word are put
abbrev pub invariant-loop-i : goal.invariant-loop-i
invariant-loop-i g l = record {
  put : take (l.at + l.i) l.room.items ≡ take l.at l.fn.room.items ++ take l.i l.word;
  len : length l.room.items ≡ length l.fn.room.items;
}
