use Rattle.std.proofs.Common.{[], ◌∙◌, refl}
use Rattle.fd_table.specs.Kept.{open_files}
use Rattle.syscalls.specs.AnswerViews.{world_at}
use Rattle.syscalls.proofs.Forking.{full, refused, forks}
use Rattle.syscalls.proofs.Keeping.{meets}
use Rattle.syscalls.proofs.kernels.Kernel.fork.Goals as goal

pub returns-then-made-ge-MAX_PROCESSES : goal.returns-then-made-ge-MAX_PROCESSES
returns-then-made-ge-MAX_PROCESSES g c = λ processes e same counts.
    let w = world_at g.T.Tree.nodes c.args.self processes in
    (full w c.args.self.caller.number c.args.self.caller.process.now e c.args.self.caller.made counts c.if-made-ge-MAX_PROCESSES.true, record { tree = refl; files = refl })

pub returns-then-self : goal.returns-then-self
returns-then-self g c = λ processes e same counts.
    let w = world_at g.T.Tree.nodes c.args.self processes in (
      refused w c.args.self.caller.number c.args.self.caller.process.now e c.args.self.caller.made counts c.if-made-ge-MAX_PROCESSES.false (same ∙ c.if-self.true),
      record { tree = refl; files = refl },
    )

pub returns : goal.returns
returns g c = λ processes e same counts.
    meets c.besides.ensures (forks (world_at g.T.Tree.nodes c.args.self processes) c.args.self.caller.number c.args.self.caller.process.now e c.args.self.caller.made counts
    (open_files c.copy_table.new.self) [] c.if-made-ge-MAX_PROCESSES.false (same ∙ c.if-self.false)
    refl c.copy_table.ensures)
