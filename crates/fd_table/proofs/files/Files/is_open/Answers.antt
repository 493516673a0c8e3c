use Rattle.std.proofs.Common.{◌∙◌, sym}
use Rattle.rights.specs.Views.{side_seen}
use Rattle.fd_table.specs.StoredViews.{tables_kept}
use Rattle.fd_table.proofs.Answering.{open_is}
use Rattle.fd_table.proofs.files.Files.is_open.Goals as goal

pub returns : goal.returns
returns c = rw (← c.self.view_is) (c.is_end_open.ensures ∙ sym (open_is (tables_kept c.self.inside.tables) c.args.pair (side_seen c.args.side) c.self.invariant))
