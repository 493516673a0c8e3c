use Rattle.fd_table.specs.Holders.{empty_hand}
use Rattle.fd_table.specs.StoredViews.{tables_kept}
use Rattle.fd_table.proofs.Answering.{alike_follows, follows_itself}
use Rattle.fd_table.proofs.Following.{follows_full}
use Rattle.fd_table.proofs.files.Files.close.Goals as goal

pub put-requires-clause-kept : goal.put-requires-clause-kept
put-requires-clause-kept c =
    let given = follows_full _ _ empty_hand (follows_itself (tables_kept c.self.inside.tables) empty_hand c.self.invariant) in
    record { hand = empty_hand; kept = given.kept }

pub invariant_of-self : goal.invariant_of-self
invariant_of-self c =
    let closed = c.put.ensures _ empty_hand (follows_full _ _ empty_hand (follows_itself (tables_kept c.self.inside.tables) empty_hand c.self.invariant)) in
    closed.kept

pub returns : goal.returns
returns c =
    rw (← c.self.view_is)
    (alike_follows _ (tables_kept c.put.new.self) (c.put.ensures _ empty_hand (follows_full _ _ empty_hand (follows_itself (tables_kept c.self.inside.tables) empty_hand c.self.invariant))))
