use Rattle.std.proofs.Common.{sym, subst, refl, ap, ◌∙◌, []}
use Rattle.std.specs.Prelude.{option_map}
use Rattle.fd_table.specs.Descriptions.{message_of}
use Rattle.fd_table.specs.Kept.{open_files}
use Rattle.rights.specs.Views.{side_seen}
use Rattle.fd_table.specs.Views.{descriptor_seen}
use Rattle.kernel.specs.Answers.{Push}
use Rattle.kernel.specs.Calls.{blocked}
use Rattle.kernel.specs.Changes.{files_after}
use Rattle.kernel.proofs.AlikeWorlds.{alike_bound}
use Rattle.syscalls.specs.AnswerViews.{Refuses, world_at}
use Rattle.syscalls.proofs.Finding.{refused_alone}
use Rattle.syscalls.proofs.Keeping.{meets, queue_succeeds}
use Rattle.syscalls.proofs.Queues.{sends, sends_closed, sends_full, told_closed, told_full}
use Rattle.syscalls.proofs.kernels.Kernel.write_end.Goals as goal

pub returns-in-Ok : goal.returns-in-Ok
unfolding files_after
returns-in-Ok g c = λ s processes e same.
    let w = world_at g.T.Tree.nodes c.args.self processes in
    let d = c.args.description in
    let message = message_of c.args.byte (option_map descriptor_seen c.args.passed) in
    meets c.value.ensures (queue_succeeds w c.args.self.caller.number _ _ _ _ (Push c.args.end.now.pair (side_seen c.args.end.now.side) message) []
    (sends w c.args.self.caller.number s e d c.args.end.now.pair (side_seen c.args.end.now.side) message c.in-Ok.ensures.allowed)
    refl (alike_bound _ _ _ c.in-Ok.ensures.ok))

pub returns-in-Err-Closed : goal.returns-in-Err-Closed
returns-in-Err-Closed g c = λ s processes e same.
    let w = world_at g.T.Tree.nodes c.args.self processes in (
      sends_closed w c.args.self.caller.number s e c.args.description c.args.end.now.pair (side_seen c.args.end.now.side) _
          (told_closed _ _ c.in-Err-Closed.ensures.refused c.in-Err-Closed.field-0-is),
      record { tree = refl; files = c.in-Err-Closed.ensures.err },
    )

pub returns-in-Err-Full : goal.returns-in-Err-Full
returns-in-Err-Full g c = λ s processes e same.
    let t = g.T.Tree.nodes c.args.self.tree.now in
    let w = world_at g.T.Tree.nodes c.args.self processes in
    let p = c.args.self.caller.number in
    refused_alone c.blocked.result w t (open_files c.send.new.self) _
    (subst (Refuses c.blocked.result)
    (sym (sends_full w p s e c.args.description c.args.end.now.pair (side_seen c.args.end.now.side) _ (told_full _ _ c.in-Err-Full.ensures.refused c.in-Err-Full.field-0-is)
    ∙ ap (blocked w p s e) (sym c.is_nonblocking-nonblock.ensures))) c.blocked.ensures)
    (record { tree = refl; files = c.in-Err-Full.ensures.err })
