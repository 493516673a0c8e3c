use Rattle.std.proofs.Common.{◌≡◌, ◌<◌, ◌≤◌, ◌∙◌, List, length, ap, arith, sym, vec_len}
use Rattle.std.specs.Prelude.{slice_set}
use Rattle.std.proofs.Math.ListN.{length-set}
use Rattle.process.specs.State.{Deed, ProcessState, left_by}
use Rattle.process.specs.Views.{deed_of}
use Rattle.kernel.specs.Steps.{changed_at}
use Rattle.kernel.specs.World.{World}
use Rattle.syscalls.specs.Views.{world_of}
use Rattle.simulator.specs.Deeds.{finished, set_back}
use Rattle.simulator.specs.Views.{result_of}
use Rattle.simulator.proofs.Aside.{changed_past, set_is_changed}
use Rattle.simulator.proofs.DeedsDone.{finished_end}
use Rattle.simulator.proofs.deeds.finish_deed.Goals as goal

pub returns-in-Walking : goal.returns-in-Walking
returns-in-Walking g c =
    let w : World = world_of g.T.Tree.nodes c.args.world.now in
    let deed : Deed = deed_of c.args.deed in
    let x : ProcessState = c.index_mut-process.result.now in
    ap (λ (ys : List ProcessState). record w { processes = ys })
    (ap (slice_set w.processes c.args.number) (c.keep.ensures ∙ ap (set_back deed c.args.point) c.process.view_is)
    ∙ set_is_changed (set_back deed c.args.point) w.processes c.args.number x c.requires c.index_mut-process.ensures.value
    ∙ ap (λ o. finished deed c.args.point c.args.number c.args.made (result_of o) w.processes) (sym c.in-Walking.is))

pub returns-then-made-len : goal.returns-then-made-len
returns-then-made-len g c =
    let w : World = world_of g.T.Tree.nodes c.args.world.now in
    let deed : Deed = deed_of c.args.deed in
    let x : ProcessState = c.index_mut-process.result.now in
    let one : List ProcessState = slice_set w.processes c.args.number c.leave.new.self in
    let count : vec_len c.args.world.now.processes ≡ length w.processes = c.args.world.now.processes.ok.0 in
    let there : c.args.made < length one = omega (arith, count, c.len.ensures, c.if-made-len.true, length-set w.processes c.args.number c.leave.new.self) in
    ap (λ (ys : List ProcessState). record w { processes = ys })
    (ap (slice_set one c.args.made) c.leave-then-made-len.ensures
    ∙ set_is_changed (left_by deed) one c.args.made c.index_mut.result.now there c.index_mut.ensures.value
    ∙ ap (λ ys. changed_at ys c.args.made (left_by deed))
    (ap (slice_set w.processes c.args.number) c.leave.ensures
    ∙ set_is_changed (left_by deed) w.processes c.args.number x c.requires c.index_mut-process.ensures.value)
    ∙ finished_end deed c.args.point c.args.number c.args.made c.args.outcome w.processes c.in_default.not-Walking)

pub returns : goal.returns
returns g c =
    let w : World = world_of g.T.Tree.nodes c.args.world.now in
    let deed : Deed = deed_of c.args.deed in
    let x : ProcessState = c.index_mut-process.result.now in
    let one : List ProcessState = slice_set w.processes c.args.number c.leave.new.self in
    let count : vec_len c.args.world.now.processes ≡ length w.processes = c.args.world.now.processes.ok.0 in
    let past : length one ≤ c.args.made = omega (arith, count, c.len.ensures, c.if-made-len.false, length-set w.processes c.args.number c.leave.new.self) in
    ap (λ (ys : List ProcessState). record w { processes = ys })
    (sym (changed_past (left_by deed) one c.args.made past)
    ∙ ap (λ ys. changed_at ys c.args.made (left_by deed))
    (ap (slice_set w.processes c.args.number) c.leave.ensures
    ∙ set_is_changed (left_by deed) w.processes c.args.number x c.requires c.index_mut-process.ensures.value)
    ∙ finished_end deed c.args.point c.args.number c.args.made c.args.outcome w.processes c.in_default.not-Walking)
