use Rattle.std.proofs.Common.{sym, subst, refl, ap, ◌∙◌}
use Rattle.rights.specs.Sides.{other_side}
use Rattle.fd_table.specs.OpenFiles.{Alike, is_open}
use Rattle.fd_table.specs.Openings.{with_entry}
use Rattle.fd_table.specs.Filled.{with_received}
use Rattle.fd_table.specs.Kept.{open_files}
use Rattle.rights.specs.Views.{side_seen}
use Rattle.fd_table.specs.Views.{front_seen}
use Rattle.kernel.specs.Answers.{Pop}
use Rattle.kernel.specs.Calls.{blocked}
use Rattle.kernel.specs.Changes.{files_after}
use Rattle.syscalls.specs.AnswerViews.{Refuses, world_at}
use Rattle.syscalls.proofs.Finding.{refused_alone}
use Rattle.syscalls.proofs.Tests.{passes, fails, kept}
use Rattle.syscalls.proofs.Keeping.{meets, take_succeeds}
use Rattle.syscalls.proofs.Queues.{receives_none, receives}
use Rattle.syscalls.proofs.kernels.Kernel.receive_end.Goals as goal

pub returns-then-not-is_open : goal.returns-then-not-is_open
returns-then-not-is_open g c = λ s processes e same.
    let f = open_files c.args.self.files.now in
    let w = world_at g.T.Tree.nodes c.args.self processes in
    let side = side_seen c.args.end.now.side in (
      receives_none w c.args.self.caller.number s e c.args.description c.args.end.now.pair side c.args.number (f.queue c.args.end.now.pair (other_side side)) c.in-None.ensures
          ∙ fails _ _ _ _ (ap (is_open f c.args.end.now.pair) (sym c.other.ensures) ∙ sym c.is_open.ensures ∙ c.if-not-is_open.true),
      record { tree = refl; files = refl },
    )

pub returns-in-None : goal.returns-in-None
returns-in-None g c = λ s processes e same.
    let t = g.T.Tree.nodes c.args.self.tree.now in
    let f = open_files c.args.self.files.now in
    let w = world_at g.T.Tree.nodes c.args.self processes in
    let p = c.args.self.caller.number in
    let side = side_seen c.args.end.now.side in
    refused_alone c.blocked.result w t f _
    (subst (Refuses c.blocked.result) (sym (receives_none w p s e c.args.description c.args.end.now.pair side c.args.number (f.queue c.args.end.now.pair (other_side side)) c.in-None.ensures
    ∙ passes _ _ _ _ (ap (is_open f c.args.end.now.pair) (sym c.other.ensures) ∙ sym c.is_open.ensures ∙ c.if-not-is_open.false)
    ∙ ap (blocked w p s e) (sym c.is_nonblocking.ensures))) c.blocked.ensures)
    (record { tree = refl; files = refl })

pub returns : goal.returns
unfolding files_after
returns g c = λ s processes e same.
    let f = open_files c.args.self.files.now in
    let w = world_at g.T.Tree.nodes c.args.self processes in
    let p = c.args.self.caller.number in
    let side = side_seen c.args.end.now.side in
    let arrives = receives w p s e c.args.description c.args.end.now.pair side c.args.number
    (f.queue c.args.end.now.pair (other_side side)) (front_seen c.in-Some.front) c.in-Some.ensures (kept _ c.if-not-front.false) in
    meets c.value.ensures (take_succeeds w p _ _ _ _ (Pop c.args.end.now.pair (other_side side)) c.args.number arrives.passed arrives.is refl
    (subst (λ o. Alike (with_entry (with_received f c.args.end.now.pair side) p c.args.number o) (open_files c.receive_to.new.self)) arrives.front c.receive_to.ensures))
