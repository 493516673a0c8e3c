use Rattle.std.proofs.Common.{[], ◌∙◌, refl, sym}
use Rattle.fd_table.specs.Kept.{open_files}
use Rattle.syscalls.proofs.Keeping.{meets}
use Rattle.syscalls.proofs.Pairing.{no_first, no_second, refused, pairs, first_free, second_free, entries_apart}
use Rattle.syscalls.proofs.kernels.Kernel.make_pair.Goals as goal

pub next_free-requires : goal.next_free-requires
next_free-requires g c = (first_free (open_files c.args.self.files.now) c.args.self.caller.number c.in-Some.first c.requires (sym c.in-Some.ensures)).1

pub open_pair-requires-clause-free_a : goal.open_pair-requires-clause-free_a
open_pair-requires-clause-free_a g c = first_free (open_files c.args.self.files.now) c.args.self.caller.number c.in-Some.first c.requires (sym c.in-Some.ensures)

pub open_pair-requires-clause-free_b : goal.open_pair-requires-clause-free_b
open_pair-requires-clause-free_b g c =
    let f = open_files c.args.self.files.now in
    let p = c.args.self.caller.number in
    let low = (first_free f p c.in-Some.first c.requires (sym c.in-Some.ensures)).1 in
    (second_free f p c.in-Some.first c.in-Some-next_free.second c.requires low (sym c.in-Some-next_free.ensures)).0

pub open_pair-requires-clause-apart : goal.open_pair-requires-clause-apart
open_pair-requires-clause-apart g c =
    let f = open_files c.args.self.files.now in
    let p = c.args.self.caller.number in
    let low = (first_free f p c.in-Some.first c.requires (sym c.in-Some.ensures)).1 in
    entries_apart p c.in-Some.first c.in-Some-next_free.second
    (second_free f p c.in-Some.first c.in-Some-next_free.second c.requires low (sym c.in-Some-next_free.ensures)).1

pub returns : goal.returns
returns g c = λ processes e same.
    let t = g.T.Tree.nodes c.args.self.tree.now in
    meets c.besides.ensures (pairs t (open_files c.args.self.files.now) processes c.args.self.caller.number c.args.self.caller.process.now e c.in-Some.first c.in-Some-next_free.second
    (open_files c.open_pair.new.self) [] (sym c.in-Some.ensures) (sym c.in-Some-next_free.ensures) (same ∙ c.if-self.false)
    refl _ c.class_of-class.ensures c.in_ok-open_pair.ensures.ok)

pub returns-in_default : goal.returns-in_default
returns-in_default g c = λ processes e same.
    let t = g.T.Tree.nodes c.args.self.tree.now in (
      no_first t (open_files c.args.self.files.now) processes c.args.self.caller.number c.args.self.caller.process.now e (sym c.in_default.ensures),
      record { tree = refl; files = refl },
    )

pub returns-in_default-next_free : goal.returns-in_default-next_free
returns-in_default-next_free g c = λ processes e same.
    let t = g.T.Tree.nodes c.args.self.tree.now in (
      no_second t (open_files c.args.self.files.now) processes c.args.self.caller.number c.args.self.caller.process.now e c.in-Some.first (sym c.in-Some.ensures) (sym c.in_default-next_free.ensures),
      record { tree = refl; files = refl },
    )

pub returns-then-self : goal.returns-then-self
returns-then-self g c = λ processes e same.
    let t = g.T.Tree.nodes c.args.self.tree.now in (
      refused t (open_files c.args.self.files.now) processes c.args.self.caller.number c.args.self.caller.process.now e c.in-Some.first c.in-Some-next_free.second
          (sym c.in-Some.ensures) (sym c.in-Some-next_free.ensures) (same ∙ c.if-self.true),
      record { tree = refl; files = refl },
    )
