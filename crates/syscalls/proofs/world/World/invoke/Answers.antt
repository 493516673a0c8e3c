use Rattle.std.proofs.Common.{◌≡◌, ◌<◌, ◌∙◌, ℕ, ap, refl, subst, sym}
use Rattle.std.specs.Prelude.{None}
use Rattle.fd_table.specs.Kept.{open_files}
use Rattle.process.specs.State.{ProcessState}
use Rattle.process.specs.Views.{walking_in}
use Rattle.instruction_set.specs.Views.{syscall_of}
use Rattle.kernel.specs.Calls.{answer}
use Rattle.syscalls.specs.AnswerViews.{Meets}
use Rattle.syscalls.specs.CallViews.{Comes, Settles, result_of}
use Rattle.syscalls.specs.Views.{effects_in, event_of, world_with}
use Rattle.syscalls.proofs.Calling.{made_few, ready, same_process}
use Rattle.syscalls.proofs.Forking.{unmade}
use Rattle.syscalls.proofs.Settling.{as_many, fits_rested, if_ok_map, next_rested, rested, settled, stands_rested, stays_there, still_made, there_told, whole_again}
use Rattle.syscalls.proofs.world.World.invoke.Goals as goal

pub take_walk-walk-requires : goal.take_walk-walk-requires
take_walk-walk-requires g c =
    made_few (g.T.Tree.nodes c.args.self.now.tree) (open_files c.args.self.now.files) c.args.self.now.processes.items c.args.number (syscall_of c.args.call.now) c.requires

pub index-requires : goal.index-requires
index-requires g c =
    let s = c.requires.process in
    subst (λ n. c.args.number < n) (sym c.take_walk-walk.new.processes.ok.0)
    (still_made c.args.self.now.processes.items c.take_walk-walk.new.processes.items c.args.number s c.requires.made (c.take_walk-walk.ensures.left s c.requires.made))

pub perform-came-requires-clause-ready : goal.perform-came-requires-clause-ready
perform-came-requires-clause-ready g c =
    ready (g.T.Tree.nodes c.args.self.now.tree) (open_files c.args.self.now.files) c.args.self.now.processes.items c.args.number (syscall_of c.args.call.now) c.requires

pub perform-came-requires-clause-unmade : goal.perform-came-requires-clause-unmade
perform-came-requires-clause-unmade g c =
    let s = c.requires.process in
    subst (λ m. (n : ℕ) → (open_files c.args.self.now.files).table m n ≡ None)
    (sym (c.len.ensures ∙ c.take_walk-walk.new.processes.ok.0
    ∙ as_many c.args.self.now.processes.items c.take_walk-walk.new.processes.items c.args.number s c.requires.made (c.take_walk-walk.ensures.left s c.requires.made)))
    (unmade c.requires.programs (g.T.Tree.nodes c.args.self.now.tree) (open_files c.args.self.now.files) c.args.self.now.processes.items c.requires.numbering c.requires.good)

pub perform-came-requires-clause-rests : goal.perform-came-requires-clause-rests
perform-came-requires-clause-rests g c =
    let s = c.requires.process in
    ap (λ (x : ProcessState). x.walk)
    (stands_rested c.args.self.now.processes.items c.take_walk-walk.new.processes.items c.args.number s c.requires.made (c.take_walk-walk.ensures.left s c.requires.made)
    c.index.result.now c.index.ensures)

pub perform-came-requires-clause-fits : goal.perform-came-requires-clause-fits
perform-came-requires-clause-fits g c =
    let s = c.requires.process in
    let f = open_files c.args.self.now.files in
    fits_rested (g.T.Tree.nodes c.args.self.now.tree) f (f.table c.args.number) s c.index.result.now (syscall_of c.args.call.now) (walking_in c.take_walk-walk.result)
    (stands_rested c.args.self.now.processes.items c.take_walk-walk.new.processes.items c.args.number s c.requires.made (c.take_walk-walk.ensures.left s c.requires.made)
    c.index.result.now c.index.ensures)
    (c.take_walk-walk.ensures.taken s c.requires.made) c.requires.fits

pub settle-requires-clause-made : goal.settle-requires-clause-made
settle-requires-clause-made g c =
    let s = c.requires.process in
    still_made c.args.self.now.processes.items c.take_walk-walk.new.processes.items c.args.number s c.requires.made (c.take_walk-walk.ensures.left s c.requires.made)

pub settle-requires-clause-next : goal.settle-requires-clause-next
settle-requires-clause-next g c =
    let s = c.requires.process in
    next_rested c.args.self.now.processes.items c.take_walk-walk.new.processes.items c.args.number s c.requires.made (c.take_walk-walk.ensures.left s c.requires.made) c.requires.next

pub returns-clause-comes : goal.returns-clause-comes
returns-clause-comes g c =
    let t = g.T.Tree.nodes c.args.self.now.tree in
    let f = open_files c.args.self.now.files in
    let processes = c.args.self.now.processes.items in
    let others = c.take_walk-walk.new.processes.items in
    let p = c.args.number in
    let s = c.requires.process in
    let made = c.requires.made in
    let left = c.take_walk-walk.ensures.left s made in
    let e = event_of c.args.event in
    let call = syscall_of c.args.call.now in
    let after = g.T.Tree.nodes c.perform-came.new.self.0 in
    let open_after = open_files c.perform-came.new.self.1.0 in
    let whole = whole_again s c.index.result.now (walking_in c.take_walk-walk.result) (stands_rested processes others p s made left c.index.result.now c.index.ensures)
    (c.take_walk-walk.ensures.taken s made) in
    let meets = subst (λ x. Meets (world_with t f processes) p after open_after c.perform-came.result (answer (world_with t f processes) p x e call)) whole
    (c.perform-came.ensures processes e refl (sym (c.len.ensures ∙ c.take_walk-walk.new.processes.ok.0 ∙ as_many processes others p s made left))) in
    if_ok_map c.settle.result _ _ (λ called settles. λ x there.
    subst (λ y. Comes (world_with t f processes) p y e call c.args.otherwise (result_of called.outcome) (effects_in after called.effects)
    (world_with after open_after c.settle.new.processes.items)) (same_process processes p s x made there)
    (settled c.requires.programs t f processes c.requires.numbering c.requires.good p s e call c.args.otherwise made c.requires.fits after open_after c.perform-came.result meets
    (result_of called.outcome) called.effects c.settle.new.processes.items
    (subst (λ xs. Settles xs p (rested s) c.args.otherwise c.perform-came.result (result_of called.outcome) called.effects c.settle.new.processes.items) left
    (settles (rested s) (stays_there processes others p s made left))))) c.settle.ensures

pub returns-clause-there : goal.returns-clause-there
returns-clause-there g c =
    let t = g.T.Tree.nodes c.args.self.now.tree in
    let processes = c.args.self.now.processes.items in
    let others = c.take_walk-walk.new.processes.items in
    let p = c.args.number in
    let s = c.requires.process in
    let left = c.take_walk-walk.ensures.left s c.requires.made in
    if_ok_map c.settle.result _ _ (λ called settles.
    there_told _ p (g.T.Tree.nodes c.perform-came.new.self.0) (open_files c.perform-came.new.self.1.0) _ c.perform-came.result
    (c.perform-came.ensures processes (event_of c.args.event) refl
    (sym (c.len.ensures ∙ c.take_walk-walk.new.processes.ok.0 ∙ as_many processes others p s c.requires.made left)))
    others c.settle.new.processes.items (rested s) c.args.otherwise (result_of called.outcome) called.effects (settles (rested s) (stays_there processes others p s c.requires.made left)))
    c.settle.ensures
