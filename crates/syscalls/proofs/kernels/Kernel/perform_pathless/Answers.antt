use Rattle.std.proofs.Common.{ap}
use Rattle.std.specs.Prelude.{Ok}
use Rattle.instruction_set.specs.Views.{syscall_of}
use Rattle.syscalls.proofs.Walked.{performs_as}
use Rattle.syscalls.proofs.kernels.Kernel.perform_pathless.Goals as goal

pub returns-in-Read : goal.returns-in-Read
returns-in-Read g c = performs_as g.T.Tree.nodes c.args.self c.read.new.self.0 c.read.new.self.1.0 c.read.result _ _ (ap syscall_of c.in-Read.is) c.read.ensures

pub returns-in-Write : goal.returns-in-Write
returns-in-Write g c = performs_as g.T.Tree.nodes c.args.self c.write.new.self.0 c.write.new.self.1.0 c.write.result _ _ (ap syscall_of c.in-Write.is) c.write.ensures

pub returns-in-Lseek : goal.returns-in-Lseek
returns-in-Lseek g c = performs_as g.T.Tree.nodes c.args.self c.seek.new.self.0 c.seek.new.self.1.0 c.seek.result _ _ (ap syscall_of c.in-Lseek.is) c.seek.ensures

pub returns-in-Ftruncate : goal.returns-in-Ftruncate
returns-in-Ftruncate g c = performs_as g.T.Tree.nodes c.args.self c.truncate.new.self.0 c.truncate.new.self.1.0 c.truncate.result _ _ (ap syscall_of c.in-Ftruncate.is) c.truncate.ensures

pub returns-in-Fsync : goal.returns-in-Fsync
returns-in-Fsync g c = performs_as g.T.Tree.nodes c.args.self c.sync.new.self.0 c.sync.new.self.1.0 c.sync.result _ _ (ap syscall_of c.in-Fsync.is) c.sync.ensures

pub returns-in-Fstat : goal.returns-in-Fstat
returns-in-Fstat g c =
    performs_as g.T.Tree.nodes c.args.self c.stat_descriptor.new.self.0 c.stat_descriptor.new.self.1.0 c.stat_descriptor.result _ _ (ap syscall_of c.in-Fstat.is) c.stat_descriptor.ensures

pub returns-in-Sendfd : goal.returns-in-Sendfd
returns-in-Sendfd g c =
    performs_as g.T.Tree.nodes c.args.self c.send_descriptor.new.self.0 c.send_descriptor.new.self.1.0 c.send_descriptor.result _ _ (ap syscall_of c.in-Sendfd.is) c.send_descriptor.ensures

pub returns-in-Recvfd : goal.returns-in-Recvfd
returns-in-Recvfd g c =
    performs_as g.T.Tree.nodes c.args.self c.receive_descriptor.new.self.0 c.receive_descriptor.new.self.1.0 c.receive_descriptor.result _ _ (ap syscall_of c.in-Recvfd.is) c.receive_descriptor.ensures

pub returns-in-FcntlGetfl : goal.returns-in-FcntlGetfl
returns-in-FcntlGetfl g c = performs_as g.T.Tree.nodes c.args.self c.get_flags.new.self.0 c.get_flags.new.self.1.0 c.get_flags.result _ _ (ap syscall_of c.in-FcntlGetfl.is) c.get_flags.ensures

pub returns-in-FcntlSetfl : goal.returns-in-FcntlSetfl
returns-in-FcntlSetfl g c = performs_as g.T.Tree.nodes c.args.self c.set_status.new.self.0 c.set_status.new.self.1.0 c.set_status.result _ _ (ap syscall_of c.in-FcntlSetfl.is) c.set_status.ensures

pub returns-in-Dup : goal.returns-in-Dup
returns-in-Dup g c = performs_as g.T.Tree.nodes c.args.self c.duplicate.new.self.0 c.duplicate.new.self.1.0 c.duplicate.result _ _ (ap syscall_of c.in-Dup.is) c.duplicate.ensures

pub returns-in-Close : goal.returns-in-Close
returns-in-Close g c = performs_as g.T.Tree.nodes c.args.self c.close.new.self.0 c.close.new.self.1.0 c.close.result _ _ (ap syscall_of c.in-Close.is) c.close.ensures

pub returns-in-CapRightsLimit : goal.returns-in-CapRightsLimit
returns-in-CapRightsLimit g c =
    performs_as g.T.Tree.nodes c.args.self c.limit_rights.new.self.0 c.limit_rights.new.self.1.0 c.limit_rights.result _ _ (ap syscall_of c.in-CapRightsLimit.is) c.limit_rights.ensures

pub returns-in-CapFcntlsLimit : goal.returns-in-CapFcntlsLimit
returns-in-CapFcntlsLimit g c =
    performs_as g.T.Tree.nodes c.args.self c.limit_fcntls.new.self.0 c.limit_fcntls.new.self.1.0 c.limit_fcntls.result _ _ (ap syscall_of c.in-CapFcntlsLimit.is) c.limit_fcntls.ensures

pub returns-in-CapEnter : goal.returns-in-CapEnter
returns-in-CapEnter g c = performs_as g.T.Tree.nodes c.args.self c.enter_mode.new.self.0 c.enter_mode.new.self.1.0 (Ok c.enter_mode.result) _ _ (ap syscall_of c.in-CapEnter.is) c.enter_mode.ensures

pub returns-in-CapGetmode : goal.returns-in-CapGetmode
returns-in-CapGetmode g c = performs_as g.T.Tree.nodes c.args.self c.get_mode.new.self.0 c.get_mode.new.self.1.0 (Ok c.get_mode.result) _ _ (ap syscall_of c.in-CapGetmode.is) c.get_mode.ensures

pub returns-in-Socketpair : goal.returns-in-Socketpair
returns-in-Socketpair g c = performs_as g.T.Tree.nodes c.args.self c.make_pair.new.self.0 c.make_pair.new.self.1.0 c.make_pair.result _ _ (ap syscall_of c.in-Socketpair.is) c.make_pair.ensures

pub returns-in-Use : goal.returns-in-Use
returns-in-Use g c = performs_as g.T.Tree.nodes c.args.self c.use_right.new.self.0 c.use_right.new.self.1.0 c.use_right.result _ _ (ap syscall_of c.in-Use.is) c.use_right.ensures
