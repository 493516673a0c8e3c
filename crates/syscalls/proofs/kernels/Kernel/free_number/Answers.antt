use Rattle.std.proofs.Common.{sym}
use Rattle.fd_table.specs.Kept.{open_files}
use Rattle.syscalls.proofs.Numbers.{lowest_is_free}
use Rattle.syscalls.proofs.kernels.Kernel.free_number.Goals as goal

pub returns-in-Some-clause-free : goal.returns-in-Some-clause-free
returns-in-Some-clause-free g c =
    let (above, under, free) = lowest_is_free 16 0 c.in-Some.number ((open_files c.args.self.now.files.now).table c.args.self.now.caller.number) (sym c.in-Some.ensures) in
    (c.requires, under, free)
