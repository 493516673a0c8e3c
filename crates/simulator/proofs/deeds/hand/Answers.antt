use Rattle.std.proofs.Common.{◌≡◌, ◌<◌, ◌≤◌, ◌∙◌, List, length, ap, sym, arith, vec_len}
use Rattle.std.specs.Prelude.{Some}
use Rattle.std.specs.List.{slice_get}
use Rattle.process.specs.State.{Deed, ProcessState, handed_to}
use Rattle.instruction_set.specs.Programs.{Instruction}
use Rattle.instruction_set.specs.Views.{instruction_of}
use Rattle.kernel.specs.World.{World}
use Rattle.syscalls.specs.Views.{world_of}
use Rattle.simulator.proofs.Aside.{changed_past}
use Rattle.simulator.proofs.DeedsDone.{follows_own, handed_else, handed_if, handed_set, has_paths, is_deed_of, registers_fit}
use Rattle.simulator.proofs.deeds.hand.Goals as goal

pub returns-then-at-len-clause-handed : goal.returns-then-at-len-clause-handed
returns-then-at-len-clause-handed g c =
    let deed : Deed = record { instruction = instruction_of c.args.instruction.now; registers = c.args.registers.now; point = c.args.point } in
    let w : World = world_of g.T.Tree.nodes c.args.world.now in
    let count : vec_len c.args.world.now.processes ≡ length w.processes = c.args.world.now.processes.ok.0 in
    let past : length w.processes ≤ c.args.number = omega (arith, count, c.len.ensures, c.if-at-len.true) in
    ap (λ (ys : List ProcessState). record w { processes = ys }) (sym (changed_past (handed_to deed) w.processes c.args.number past))

pub returns-in_ok-instruction-clause-handed : goal.returns-in_ok-instruction-clause-handed
returns-in_ok-instruction-clause-handed g c =
    let x : ProcessState = c.index_mut-process.result.now in
    let deed : Deed = record { instruction = instruction_of c.args.instruction.now; registers = c.args.registers.now; point = c.args.point } in
    let copied : Instruction → Deed = λ i. record { instruction = i; registers = c.args.registers.now; point = c.args.point } in
    let w : World = world_of g.T.Tree.nodes c.args.world.now in
    let count : vec_len c.args.world.now.processes ≡ length w.processes = c.args.world.now.processes.ok.0 in
    let there : c.args.number < length w.processes = omega (arith, count, c.len.ensures, c.if-at-len.false) in
    handed_set w c.args.number deed x c.keep.new.self there c.index_mut-process.ensures.value
    (c.keep.ensures ∙ ap (λ i. record x { kept = Some (copied i) }) c.in_ok-instruction.ensures.copy ∙ handed_if deed x c.if-is_hostile.ensures)

pub returns-else-is_hostile-clause-handed : goal.returns-else-is_hostile-clause-handed
returns-else-is_hostile-clause-handed g c =
    let x : ProcessState = c.index_mut-process.result.now in
    let deed : Deed = record { instruction = instruction_of c.args.instruction.now; registers = c.args.registers.now; point = c.args.point } in
    let w : World = world_of g.T.Tree.nodes c.args.world.now in
    let count : vec_len c.args.world.now.processes ≡ length w.processes = c.args.world.now.processes.ok.0 in
    let there : c.args.number < length w.processes = omega (arith, count, c.len.ensures, c.if-at-len.false) in
    handed_set w c.args.number deed x x there c.index_mut-process.ensures.value (handed_else deed x c.if-is_hostile.ensures)

pub returns-in_ok-instruction-clause-deed : goal.returns-in_ok-instruction-clause-deed
returns-in_ok-instruction-clause-deed g c = λ programs may.
    is_deed_of programs (slice_get c.args.world.now.processes.items c.args.number) _ (has_paths (instruction_of c.args.instruction.now) c.in_ok-instruction.ensures.valid)
    c.told-registers (registers_fit c.args.registers.now c.fits-registers) may

pub returns-else-is_hostile-clause-deed : goal.returns-else-is_hostile-clause-deed
returns-else-is_hostile-clause-deed g c = λ programs may.
    let count : vec_len c.args.world.now.processes ≡ length c.args.world.now.processes.items = c.args.world.now.processes.ok.0 in
    let there : c.args.number < length c.args.world.now.processes.items = omega (arith, count, c.len.ensures, c.if-at-len.false) in
    follows_own programs c.args.world.now.processes.items c.args.number _ c.index_mut-process.result.now there c.index_mut-process.ensures.value c.if-is_hostile.ensures
