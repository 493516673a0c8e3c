use Rattle.std.specs.List.{range_with_len}
use Rattle.explain.specs.Listing.{InOrder, TellsProgram}
use Rattle.explain.specs.ListingViews.{AddsSome}
use Rattle.explain.proofs.listing.add_listing.Given as goal

-- the programs before are told
abbrev pub invariant-loop-number : goal.invariant-loop-number
invariant-loop-number l =
    AddsSome (InOrder (TellsProgram l.scene.task.now l.scene.cert.now l.bounds l.has_cert) (range_with_len 0 l.number)) l.fn.page l.page
