use Rattle.std.proofs.Common.{◌≡◌, drop}
use Rattle.std.specs.Prelude.{false}
use Rattle.follow.specs.Outcomes.{repeats_from}
use Rattle.follow.specs.Views.{history_of, transfer_of}
use Rattle.follow.proofs.transfers.is_repeat.Given as goal

-- what holds so far, and then the calls that are left
abbrev pub invariant-loop-past : goal.invariant-loop-past
invariant-loop-past l =
    repeats_from l.repeats (history_of (drop l.past-index l.history)) l.process (transfer_of l.transfer)
    ≡ repeats_from false (history_of l.history) l.process (transfer_of l.transfer)
