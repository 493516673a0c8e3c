use Rattle.std.specs.Option.{option_map}
use Rattle.rights.specs.Sides.{other_side}
use Rattle.rights.specs.Views.{side_seen}
use Rattle.fd_table.specs.StoredViews.{tables_kept, message_kept}
use Rattle.fd_table.proofs.Following.{follows_take, other_small}
use Rattle.fd_table.proofs.file_tables.FileTables.take.Goals as goal

pub returns-clause-follows : goal.returns-clause-follows
returns-clause-follows c = λ f hand follows.
    follows_take f (tables_kept c.args.self.now) _ c.args.end.pair (other_side (side_seen c.args.end.side)) (side_seen c.args.end.side)
    (option_map message_kept c.take_in.result) hand follows c.requires
    (rw (c.number.ensures, c.other.ensures) at c.take_in.ensures.front)
    (rw (c.number.ensures, c.other.ensures) at c.take_in.ensures.rest)
    (other_small (side_seen c.args.end.side))
