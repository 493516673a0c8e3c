use Rattle.fd_table.specs.Holders.{empty_hand}
use Rattle.fd_table.specs.StoredViews.{tables_kept}
use Rattle.fd_table.proofs.Answering.{alike_follows, follows_itself}
use Rattle.fd_table.specs.Kept.{open_files}
use Rattle.fd_table.proofs.files.Files.share.Goals as goal

pub put-requires-clause-kept : goal.put-requires-clause-kept
put-requires-clause-kept c =
    let held = c.hold.ensures _ (follows_itself (tables_kept c.self.inside.tables) empty_hand c.self.invariant) in
    record { hand = empty_hand; kept = held.kept }

pub invariant_of-self : goal.invariant_of-self
invariant_of-self c =
    let shared = c.put.ensures _ empty_hand (c.hold.ensures _ (follows_itself (tables_kept c.self.inside.tables) empty_hand c.self.invariant)) in
    shared.kept

pub returns : goal.returns
unfolding open_files
returns c =
    let shared = c.put.ensures _ empty_hand (c.hold.ensures _ (follows_itself (tables_kept c.self.inside.tables) empty_hand c.self.invariant)) in
    let given = c.at-shared.ensures in
    rw (← c.self.view_is, ← given) (alike_follows _ (tables_kept c.put.new.self) shared)
