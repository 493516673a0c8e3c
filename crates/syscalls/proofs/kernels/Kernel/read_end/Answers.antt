use Rattle.std.proofs.Common.{sym, subst, refl, ap, ◌∙◌, []}
use Rattle.std.specs.Prelude.{if◌then◌else◌}
use Rattle.rights.specs.Sides.{other_side}
use Rattle.fd_table.specs.Kept.{open_files}
use Rattle.rights.specs.Views.{side_seen}
use Rattle.fd_table.specs.Views.{front_seen}
use Rattle.kernel.specs.Answers.{gives, Pop}
use Rattle.fd_table.specs.OpenFiles.{is_open}
use Rattle.kernel.specs.Calls.{blocked}
use Rattle.kernel.specs.Changes.{files_after}
use Rattle.syscalls.specs.AnswerViews.{Refuses, world_at}
use Rattle.syscalls.proofs.Finding.{refused_alone}
use Rattle.syscalls.proofs.Keeping.{meets, same_succeeds, queue_succeeds}
use Rattle.syscalls.proofs.Queues.{read_none, read_some}
use Rattle.syscalls.proofs.kernels.Kernel.read_end.Goals as goal

pub returns-then-is_open : goal.returns-then-is_open
returns-then-is_open g c = λ s processes e same.
    let t = g.T.Tree.nodes c.args.self.tree.now in
    let f = open_files c.args.self.files.now in
    let w = world_at g.T.Tree.nodes c.args.self processes in
    let p = c.args.self.caller.number in
    let d = c.args.description in
    let side = side_seen c.args.end.now.side in
    refused_alone c.blocked.result w t f _
    (subst (Refuses c.blocked.result) (sym (read_none w p s e d c.args.end.now.pair side (f.queue c.args.end.now.pair (other_side side)) c.in-None.ensures
    ∙ ap (λ b. if b then blocked w p s e (f.states c.args.description).nonblock else gives 256)
    (ap (is_open f c.args.end.now.pair) (sym c.other.ensures) ∙ sym c.if-is_open.ensures)
    ∙ ap (blocked w p s e) (sym c.is_nonblocking.ensures))) c.blocked.ensures)
    (record { tree = refl; files = refl })

pub returns-else-is_open : goal.returns-else-is_open
returns-else-is_open g c = λ s processes e same.
    let f = open_files c.args.self.files.now in
    let w = world_at g.T.Tree.nodes c.args.self processes in
    let p = c.args.self.caller.number in
    let d = c.args.description in
    let side = side_seen c.args.end.now.side in
    meets c.value.ensures (same_succeeds w p _ _ _ [] c.requires.idle
    (read_none w p s e d c.args.end.now.pair side (f.queue c.args.end.now.pair (other_side side)) c.in-None.ensures
    ∙ ap (λ b. if b then blocked w p s e (f.states c.args.description).nonblock else gives 256)
    (ap (is_open f c.args.end.now.pair) (sym c.other.ensures) ∙ sym c.if-is_open.ensures))
    refl)

pub returns-in-Some : goal.returns-in-Some
unfolding files_after
returns-in-Some g c = λ s processes e same.
    let f = open_files c.args.self.files.now in
    let w = world_at g.T.Tree.nodes c.args.self processes in
    let p = c.args.self.caller.number in
    let d = c.args.description in
    let side = side_seen c.args.end.now.side in
    meets c.value-in-Some.ensures (queue_succeeds w p _ _ _ _ (Pop c.args.end.now.pair (other_side side)) []
    (read_some w p s e d c.args.end.now.pair side (f.queue c.args.end.now.pair (other_side side)) (front_seen c.in-Some.front) c.in-Some.ensures)
    refl c.receive.ensures.taken)
