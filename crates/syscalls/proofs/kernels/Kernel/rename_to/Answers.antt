use Rattle.std.proofs.Common.{refl, true, sym, subst, ap, ◌∙◌, []}
use Rattle.std.specs.Prelude.{if◌then◌else◌}
use Rattle.file_tree.specs.Nodes.{node}
use Rattle.file_tree.specs.Places.{at_name}
use Rattle.lookup.specs.Promises.{IsFindingThere, IsUnderName}
use Rattle.lookup.specs.Views.{found_of}
use Rattle.rights.specs.Needs.{Second, needs_of}
use Rattle.instruction_set.specs.Programs.{called}
use Rattle.kernel.specs.Answers.{gives, granted}
use Rattle.rights.specs.Opens.{no_request}
use Rattle.kernel.specs.Calls.{renamed_free, renamed_over}
use Rattle.fd_table.specs.Kept.{open_files}
use Rattle.syscalls.specs.AnswerViews.{Meets, world_at}
use Rattle.syscalls.proofs.Tests.{passes, equal, unequal}
use Rattle.syscalls.proofs.Renaming.{name_of_node}
use Rattle.syscalls.proofs.Keeping.{meets, same_succeeds}
use Rattle.syscalls.proofs.kernels.Kernel.rename_to.Goals as goal

pub returns-in-Free : goal.returns-in-Free
returns-in-Free g c = λ call target may s processes e same.
    let p = c.args.self.caller.number in
    let t = g.T.Tree.nodes c.args.self.tree.now in
    let w = world_at g.T.Tree.nodes c.args.self processes in
    rw c.in-Free.is
    (subst (λ x. Meets w p (g.T.Tree.nodes c.rename_free.new.self.0) (open_files c.rename_free.new.self.1.0) c.rename_free.result
    (renamed_free w p s e c.args.n (at_name (node t c.in-Free.dir).place x))) c.last_name.ensures
    (c.rename_free.ensures s processes e same))

pub returns-then-number : goal.returns-then-number
returns-then-number g c = λ call target may s processes e same.
    let p = c.args.self.caller.number in
    let w = world_at g.T.Tree.nodes c.args.self processes in
    rw c.in-Node.is
    (meets c.value.ensures (same_succeeds w p _ [] _ [] c.requires.ready.idle
    (ap (λ b. if b then gives 0 else granted (needs_of (called call) no_request Second true) target (renamed_over w p s e c.args.n c.in-Node.over))
    (equal c.args.n c.in-Node.over (sym c.number.ensures ∙ c.if-number.true ∙ c.number-2.ensures)))
    refl))

pub rename_over-requires-clause-name : goal.rename_over-requires-clause-name
rename_over-requires-clause-name g c =
    let t = g.T.Tree.nodes c.args.self.tree.now in
    let there = subst (λ x. IsFindingThere t (found_of x)) c.in-Node.is c.requires.place.there in
    let named = subst (λ x. IsUnderName t c.args.path.now (found_of x)) c.in-Node.is c.requires.named in
    rw c.last_name-2.ensures (name_of_node t c.in-Node.over _ c.requires.ready.tree there.there named)

pub returns : goal.returns
returns g c = λ call target may s processes e same.
    let p = c.args.self.caller.number in
    let w = world_at g.T.Tree.nodes c.args.self processes in
    let n = c.args.n in
    let over = c.in-Node.over in
    let need = needs_of (called call) no_request Second true in
    let after = Meets w p (g.T.Tree.nodes c.rename_over.new.self.0) (open_files c.rename_over.new.self.1.0) c.rename_over.result in
    rw c.in-Node.is
    (subst after
    (sym (ap (λ b. if b then gives 0 else granted need target (renamed_over w p s e n over))
    (unequal n over (λ is. c.if-number.false (c.number.ensures ∙ is ∙ sym c.number-2.ensures)))
    ∙ passes _ _ _ _ (may ∙ c.if-not-may_replace.false)))
    (c.rename_over.ensures s processes e same))
