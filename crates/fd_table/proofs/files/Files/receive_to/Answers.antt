use Rattle.rights.specs.Views.{side_seen}
use Rattle.fd_table.specs.Kept.{open_files}
use Rattle.fd_table.specs.Holders.{empty_hand}
use Rattle.fd_table.specs.StoredViews.{tables_kept}
use Rattle.fd_table.proofs.Answering.{alike_follows, follows_itself}
use Rattle.fd_table.proofs.Answering.{end_open}
use Rattle.fd_table.proofs.Refusals.{passed_is}
use Rattle.fd_table.proofs.files.Files.receive_to.Goals as goal

pub take-requires : goal.take-requires
take-requires c = end_open (tables_kept c.self.inside.tables) c.args.end.pair (side_seen c.args.end.side) empty_hand c.self.invariant (rw (← c.self.view_is) at c.requires.there)

pub put-requires-clause-kept : goal.put-requires-clause-kept
put-requires-clause-kept c =
    let taken = c.in-Some.ensures.follows _ empty_hand (follows_itself (tables_kept c.self.inside.tables) empty_hand c.self.invariant) in
    record { hand = empty_hand; kept = taken.kept }

pub invariant_of-self : goal.invariant_of-self
invariant_of-self c =
    let taken = c.put.ensures _ empty_hand (c.in-Some.ensures.follows _ empty_hand (follows_itself (tables_kept c.self.inside.tables) empty_hand c.self.invariant)) in
    taken.kept

pub returns-in-Some : goal.returns-in-Some
unfolding open_files
returns-in-Some c =
    let taken = c.put.ensures _ empty_hand (c.in-Some.ensures.follows _ empty_hand (follows_itself (tables_kept c.self.inside.tables) empty_hand c.self.invariant)) in
    let passed = passed_is _ _ c.in-Some.ensures.front in
    rw (← c.self.view_is) (rw passed at (alike_follows _ (tables_kept c.put.new.self) taken))
