use Rattle.std.proofs.Common.{refl, None, arith}
use Rattle.fd_table.specs.Holders.{empty_hand}
use Rattle.fd_table.specs.StoredViews.{tables_kept}
use Rattle.fd_table.proofs.Answering.{follows_itself}
use Rattle.fd_table.proofs.Following.{following_first, following_last, following_next, follows_full}
use Rattle.fd_table.proofs.Tables.{no_number}
use Rattle.fd_table.proofs.file_tables.FileTables.clear_row.Goals as goal

pub loop-n-init : goal.loop-n-init
loop-n-init c = following_first (tables_kept c.args.self.now) c.args.p (λ n. None) (follows_itself (tables_kept c.args.self.now) empty_hand c.requires.kept)

pub put-requires-clause-kept : goal.put-requires-clause-kept
put-requires-clause-kept c =
    let full = follows_full _ _ empty_hand c.loop-n.invariant.follows in
    record { hand = empty_hand; kept = full.kept }

pub loop-n-preserved : goal.loop-n-preserved
loop-n-preserved c =
    following_next _ _ _ c.args.p c.loop-n.n (λ n. None) None c.loop-n.invariant (c.put.ensures _ empty_hand (follows_full _ _ empty_hand c.loop-n.invariant.follows)) refl

pub returns : goal.returns
returns c = following_last (tables_kept c.args.self.now) _ c.args.p c.loop-n.n (λ n. None) (omega arith) c.loop-n.invariant (λ m more. no_number _ c.args.p m more)
