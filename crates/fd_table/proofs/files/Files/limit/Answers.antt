use Rattle.fd_table.specs.Holders.{empty_hand}
use Rattle.fd_table.specs.StoredViews.{tables_kept}
use Rattle.fd_table.proofs.Answering.{alike_follows, follows_itself}
use Rattle.fd_table.proofs.files.Files.limit.Goals as goal

pub invariant_of-self : goal.invariant_of-self
invariant_of-self c =
    let limited = c.limit.ensures _ empty_hand (follows_itself (tables_kept c.self.inside.tables) empty_hand c.self.invariant) in
    limited.kept

pub returns : goal.returns
returns c =
    rw (← c.self.view_is)
    (alike_follows _ (tables_kept c.limit.new.self) (c.limit.ensures _ empty_hand (follows_itself (tables_kept c.self.inside.tables) empty_hand c.self.invariant)))
