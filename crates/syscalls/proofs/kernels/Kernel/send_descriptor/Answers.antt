use Rattle.std.proofs.Common.{sym, subst, refl, ap, ◌∙◌}
use Rattle.std.specs.Prelude.{Some}
use Rattle.rights.specs.Sets.{is_within}
use Rattle.fd_table.specs.Descriptions.{message_of}
use Rattle.fd_table.specs.Kept.{open_files}
use Rattle.rights.specs.Views.{side_seen}
use Rattle.kernel.specs.Calls.{answer, sent_end}
use Rattle.syscalls.specs.AnswerViews.{Meets, held_seen, world_at}
use Rattle.syscalls.proofs.Tests.{passes}
use Rattle.syscalls.proofs.Targets.{at_node, at_end, end_named}
use Rattle.syscalls.proofs.kernels.Kernel.send_descriptor.Goals as goal

pub returns-in-Node : goal.returns-in-Node
unfolding answer
returns-in-Node g c = λ processes e same. (
  c.in_ok-socket.ensures.passes _ ∙ c.in_ok-passed.ensures.passes _
      ∙ passes _ _ _ _ (ap (λ n. is_within n c.in_ok-socket.socket.rights.0) (sym c.need_of.ensures) ∙ sym c.contains.ensures.computes ∙ c.if-not-contains.false)
      ∙ at_node _ _ c.in-Node.field-0 c.target_of.ensures c.in-Node.is _ _,
  record { tree = refl; files = refl },
)

pub returns-in-End : goal.returns-in-End
unfolding answer
returns-in-End g c = λ processes e same.
    let w = world_at g.T.Tree.nodes c.args.self processes in
    let p = c.args.self.caller.number in
    let s = c.args.self.caller.process.now in
    let after = Meets w p (g.T.Tree.nodes c.write_end.new.self.0) (open_files c.write_end.new.self.1.0) c.write_end.result in
    subst after (sym (c.in_ok-socket.ensures.passes _ ∙ c.in_ok-passed.ensures.passes _
    ∙ passes _ _ _ _ (ap (λ n. is_within n c.in_ok-socket.socket.rights.0) (sym c.need_of.ensures) ∙ sym c.contains.ensures.computes ∙ c.if-not-contains.false)
    ∙ at_end _ _ c.in-End.end c.target_of.ensures c.in-End.is _ _))
    (subst (λ b. after (sent_end w p s e c.in_ok-socket.socket.description c.in-End.end.pair (side_seen c.in-End.end.side)
    (message_of b (Some (held_seen c.in_ok-passed.passed))))) c.byte_of-byte.ensures (c.write_end.ensures s processes e same))

pub write_end-requires-clause-named : goal.write_end-requires-clause-named
write_end-requires-clause-named g c = c.in_ok-socket.ensures.held.named

pub write_end-requires-clause-there : goal.write_end-requires-clause-there
write_end-requires-clause-there g c =
    end_named (open_files c.args.self.files.now) c.in_ok-socket.socket.description c.target_of.result c.in-End.end c.target_of.ensures c.in-End.is c.in_ok-socket.ensures.held.named
