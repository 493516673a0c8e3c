use Rattle.std.proofs.Common.{◌≡◌, ◌∙◌, ◌+◌, ◌-◌, sym, ap, arith, false, true}
use Rattle.std.specs.Prelude.{is_some}
use Rattle.fd_table.specs.Kept.{entry_at}
use Rattle.fd_table.specs.OpenFiles.{lowest_from}
use Rattle.fd_table.proofs.Lists.{some_kept}
use Rattle.fd_table.proofs.Scans.{lowest_here, lowest_later, lowest_none}
use Rattle.fd_table.proofs.entries.Entries.lowest.Goals as goal

pub returns-then-is_none : goal.returns-then-is_none
returns-then-is_none c =
    let free : is_some (entry_at c.args.self.now c.args.p c.loop-n.n) ≡ false =
    ap is_some (sym c.at.ensures) ∙ some_kept c.at.result ∙ c.if-is_none.ensures
    in
    sym (lowest_here (15 - c.loop-n.n) c.loop-n.n (16 - c.loop-n.n) _ (omega arith) free) ∙ c.loop-n.invariant

pub loop-n-preserved : goal.loop-n-preserved
loop-n-preserved c =
    let taken : is_some (entry_at c.args.self.now c.args.p c.loop-n.n) ≡ true =
    ap is_some (sym c.at.ensures) ∙ some_kept c.at.result ∙ c.if-is_none.ensures
    in
    sym (lowest_later (16 - (c.loop-n.n + 1)) c.loop-n.n (16 - c.loop-n.n) _ (omega arith) taken) ∙ c.loop-n.invariant

pub returns : goal.returns
returns c =
    let row = entry_at c.args.self.now c.args.p in
    sym (lowest_none c.loop-n.n row) ∙ ap (λ k. lowest_from k c.loop-n.n row) (omega arith) ∙ c.loop-n.invariant
