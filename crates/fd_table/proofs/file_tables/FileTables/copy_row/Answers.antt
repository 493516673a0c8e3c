use Rattle.std.proofs.Common.{◌∙◌, sym, arith}
use Rattle.fd_table.specs.Kept.{entry_at, open_files}
use Rattle.fd_table.specs.Holders.{empty_hand}
use Rattle.fd_table.specs.EntryViews.{entry_kept}
use Rattle.fd_table.specs.StoredViews.{tables_kept}
use Rattle.fd_table.proofs.Answering.{follows_itself}
use Rattle.fd_table.proofs.Following.{following_first, following_last, following_next}
use Rattle.fd_table.proofs.Tables.{no_number, source_kept}
use Rattle.fd_table.proofs.file_tables.FileTables.copy_row.Goals as goal

pub loop-n-init : goal.loop-n-init
loop-n-init c =
    following_first (tables_kept c.args.self.now) c.args.q (entry_at (tables_kept c.args.self.now).entries c.args.p) (follows_itself (tables_kept c.args.self.now) empty_hand c.requires.kept)

pub put-requires-clause-kept : goal.put-requires-clause-kept
put-requires-clause-kept c =
    let held = c.hold.ensures _ c.loop-n.invariant.follows in
    record { hand = empty_hand; kept = held.kept }

pub loop-n-preserved : goal.loop-n-preserved
loop-n-preserved c =
    let held = c.hold.ensures _ c.loop-n.invariant.follows in
    following_next _ _ _ c.args.q c.loop-n.n (entry_at (tables_kept c.args.self.now).entries c.args.p) (entry_kept c.at-copied.result) c.loop-n.invariant (c.put.ensures _ empty_hand held)
    (c.at-copied.ensures ∙ source_kept _ _ c.args.p c.args.q c.loop-n.n c.loop-n.invariant.filling)

pub returns : goal.returns
unfolding open_files
returns c =
    following_last (tables_kept c.args.self.now) (tables_kept c.loop-n.self) c.args.q c.loop-n.n (entry_at (tables_kept c.args.self.now).entries c.args.p) (omega arith) c.loop-n.invariant
    (λ m more. no_number _ c.args.q m more ∙ sym (no_number _ c.args.p m more))
