use Rattle.std.proofs.Common.{rules, ◌≡◌, false, ap, refl}
use Rattle.fd_table.specs.Kept.{open_files}
use Rattle.process.specs.Views.{walking_in}
use Rattle.instruction_set.specs.Paths.{has_path}
use Rattle.instruction_set.specs.Views.{syscall_of}
use Rattle.kernel.specs.Walks.{lookups_of}
use Rattle.kernel.proofs.FittingWalks.{none_under}
use Rattle.syscalls.proofs.Walked.{from_directories, from_directory, from_root, pathless_looks_nothing_up, performs_at_rest}
use Rattle.syscalls.proofs.kernels.Kernel.perform.Goals as goal

pub open_path-requires-clause-under : goal.open_path-requires-clause-under
unfolding lookups_of
open_path-requires-clause-under g c =
    from_root g.T.Tree.nodes c.args.self _ c.args.walk c.requires.fits _ _ _ c.bytes.ensures.value (ap (λ k. lookups_of (syscall_of k)) c.in-Open.is)

pub open_beneath-requires-clause-under : goal.open_beneath-requires-clause-under
unfolding lookups_of
open_beneath-requires-clause-under g c =
    from_directory g.T.Tree.nodes c.args.self _ c.args.walk c.requires.fits _ _ _ _ c.bytes-in-Openat.ensures.value (ap (λ k. lookups_of (syscall_of k)) c.in-Openat.is)

pub stat_beneath-requires-clause-under : goal.stat_beneath-requires-clause-under
unfolding lookups_of
stat_beneath-requires-clause-under g c =
    from_directory g.T.Tree.nodes c.args.self _ c.args.walk c.requires.fits _ _ _ _ c.bytes-in-Fstatat.ensures.value (ap (λ k. lookups_of (syscall_of k)) c.in-Fstatat.is)

pub stat_path-requires-clause-under : goal.stat_path-requires-clause-under
unfolding lookups_of
stat_path-requires-clause-under g c =
    from_root g.T.Tree.nodes c.args.self _ c.args.walk c.requires.fits _ _ _ c.bytes-in-Stat.ensures.value (ap (λ k. lookups_of (syscall_of k)) c.in-Stat.is)

pub make_beneath-requires-clause-under : goal.make_beneath-requires-clause-under
unfolding lookups_of
make_beneath-requires-clause-under g c =
    from_directory g.T.Tree.nodes c.args.self _ c.args.walk c.requires.fits _ _ _ _ c.bytes-in-Mkdirat.ensures.value (ap (λ k. lookups_of (syscall_of k)) c.in-Mkdirat.is)

pub make_path-requires-clause-under : goal.make_path-requires-clause-under
unfolding lookups_of
make_path-requires-clause-under g c =
    from_root g.T.Tree.nodes c.args.self _ c.args.walk c.requires.fits _ _ _ c.bytes-in-Mkdir.ensures.value (ap (λ k. lookups_of (syscall_of k)) c.in-Mkdir.is)

pub remove_beneath-requires-clause-under : goal.remove_beneath-requires-clause-under
unfolding lookups_of
remove_beneath-requires-clause-under g c =
    from_directory g.T.Tree.nodes c.args.self _ c.args.walk c.requires.fits _ _ _ _ c.bytes-in-Unlinkat.ensures.value (ap (λ k. lookups_of (syscall_of k)) c.in-Unlinkat.is)

pub remove_path-requires-clause-under : goal.remove_path-requires-clause-under
unfolding lookups_of
remove_path-requires-clause-under g c =
    from_root g.T.Tree.nodes c.args.self _ c.args.walk c.requires.fits _ _ _ c.bytes-in-Unlink.ensures.value (ap (λ k. lookups_of (syscall_of k)) c.in-Unlink.is)

pub rename_beneath-requires-clause-under : goal.rename_beneath-requires-clause-under
unfolding lookups_of
rename_beneath-requires-clause-under g c =
    from_directories g.T.Tree.nodes c.args.self _ c.args.walk c.requires.fits _ _ _ _ _ _ c.bytes-in-Renameat.ensures.value
    c.bytes-in-Renameat-2.ensures.value (ap (λ k. lookups_of (syscall_of k)) c.in-Renameat.is)

pub returns-in_default : goal.returns-in_default
returns-in_default g c =
    let k = c.args.self in
    let f = open_files k.files.now in
    let call = syscall_of c.args.call.now in
    let pathless : has_path call ≡ false = search rules in
    performs_at_rest g.T.Tree.nodes k c.perform_pathless.new.self.0 c.perform_pathless.new.self.1.0 c.perform_pathless.result call call refl c.args.walk
    (none_under (g.T.Tree.nodes k.tree.now) f.objects (f.table k.caller.number) k.caller.process.now call (walking_in c.args.walk) (pathless_looks_nothing_up call pathless) c.requires.fits)
    c.requires.rests c.perform_pathless.ensures
