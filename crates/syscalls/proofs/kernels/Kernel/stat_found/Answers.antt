use Rattle.syscalls.proofs.kernels.Kernel.stat_found.Goals as goal

pub returns-in-Node : goal.returns-in-Node
returns-in-Node g c = λ s processes e same. rw c.in-Node.is (c.stat.ensures s processes e same)
