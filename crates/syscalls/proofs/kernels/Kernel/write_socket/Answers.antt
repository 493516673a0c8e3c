use Rattle.std.proofs.Common.{sym, subst, ap, ◌∙◌}
use Rattle.std.specs.Prelude.{None, not}
use Rattle.fd_table.specs.Descriptions.{message_of}
use Rattle.fd_table.specs.Kept.{open_files}
use Rattle.rights.specs.Views.{side_seen}
use Rattle.kernel.specs.Calls.{sent_end}
use Rattle.syscalls.specs.AnswerViews.{Meets, world_at}
use Rattle.syscalls.proofs.Tests.{passes}
use Rattle.syscalls.proofs.kernels.Kernel.write_socket.Goals as goal

pub returns : goal.returns
returns g c = λ s processes e same.
    let w = world_at g.T.Tree.nodes c.args.self processes in
    let p = c.args.self.caller.number in
    let after = Meets w p (g.T.Tree.nodes c.write_end.new.self.0) (open_files c.write_end.new.self.1.0) c.write_end.result in
    subst after (sym (passes _ _ _ _ (ap not (same ∙ c.if-self.false))))
    (subst (λ b. after (sent_end w p s e c.args.description c.args.end.now.pair (side_seen c.args.end.now.side) (message_of b None))) c.byte_of-byte.ensures (c.write_end.ensures s processes e same))
