use Rattle.rights.specs.Views.{side_seen}
use Rattle.fd_table.specs.Holders.{empty_hand}
use Rattle.fd_table.specs.StoredViews.{tables_kept}
use Rattle.fd_table.proofs.Answering.{alike_follows, follows_itself}
use Rattle.fd_table.proofs.Answering.{end_open}
use Rattle.fd_table.proofs.Following.{follows_empty}
use Rattle.fd_table.proofs.files.Files.receive.Goals as goal

pub take-requires : goal.take-requires
take-requires c = end_open (tables_kept c.self.inside.tables) c.args.end.pair (side_seen c.args.end.side) empty_hand c.self.invariant (rw (← c.self.view_is) at c.requires)

pub release-requires : goal.release-requires
release-requires c =
    let taken = c.in-Some.ensures.follows _ empty_hand (follows_itself (tables_kept c.self.inside.tables) empty_hand c.self.invariant) in
    record { hand = empty_hand; kept = taken.kept }

pub invariant_of-self : goal.invariant_of-self
invariant_of-self c =
    let taken = c.release.ensures _ empty_hand (c.in-Some.ensures.follows _ empty_hand (follows_itself (tables_kept c.self.inside.tables) empty_hand c.self.invariant)) in
    taken.kept

pub invariant_of-self-in-None : goal.invariant_of-self-in-None
invariant_of-self-in-None c =
    let taken = follows_empty _ _ empty_hand (c.in-None.ensures.follows _ empty_hand (follows_itself (tables_kept c.self.inside.tables) empty_hand c.self.invariant)) in
    taken.kept

pub returns-in-Some-clause-taken : goal.returns-in-Some-clause-taken
returns-in-Some-clause-taken c =
    rw (← c.self.view_is)
    (alike_follows _ (tables_kept c.release.new.self)
    (c.release.ensures _ empty_hand (c.in-Some.ensures.follows _ empty_hand
    (follows_itself (tables_kept c.self.inside.tables) empty_hand c.self.invariant))))

pub returns-in-None-clause-taken : goal.returns-in-None-clause-taken
returns-in-None-clause-taken c =
    let itself = follows_itself (tables_kept c.self.inside.tables) empty_hand c.self.invariant in
    let follows = follows_empty _ _ empty_hand (c.in-None.ensures.follows _ empty_hand itself) in
    rw (← c.self.view_is) (alike_follows _ (tables_kept c.take.new.self) follows)
