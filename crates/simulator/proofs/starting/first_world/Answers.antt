use Rattle.std.proofs.Common.{◌≡◌, [], true, length, map, sym, subst, ◌∙◌, ap}
use Rattle.std.proofs.Math.ListN.{length-map}
use Rattle.fd_table.specs.Kept.{open_files}
use Rattle.kernel.specs.Renamings.{DiffersInNumbers}
use Rattle.syscalls.specs.Views.{world_with}
use Rattle.task.specs.Begins.{first_process, first_world}
use Rattle.task.specs.Views.{node_of, starts_of}
use Rattle.task.specs.Plans.{Plan}
use Rattle.simulator.specs.Starts.{Awaits, are_among, are_owned, owned_from}
use Rattle.simulator.proofs.Given.{plan_owned, plan_among}
use Rattle.simulator.proofs.Started.{begun_world, started_good}
use Rattle.simulator.proofs.starting.first_world.Goals as goal

pub open_all-requires-clause-owned : goal.open_all-requires-clause-owned
open_all-requires-clause-owned g c =
    subst (λ starts. are_owned (owned_from 0 starts) ≡ true) (sym c.starts.ensures.starts) (plan_owned c.args.task.now c.nodes.ensures.valid)

pub open_all-requires-clause-among : goal.open_all-requires-clause-among
open_all-requires-clause-among g c =
    let plan : Plan = c.args.task.now in
    let count : length c.deref.result.now ≡ length plan.nodes =
    ap length c.deref.ensures.value ∙ c.in_ok-built.ensures.count ∙ sym (length-map c.nodes.result.now node_of) ∙ ap length c.nodes.ensures.nodes
    in
    subst (λ n. are_among n (owned_from 0 (starts_of c.starts.result.now)) ≡ true) (sym count)
    (subst (λ starts. are_among (length plan.nodes) (owned_from 0 starts) ≡ true) (sym c.starts.ensures.starts) (plan_among plan c.nodes.ensures.valid))

same : (g : _) (c : goal.After-drop-built-2 g) →
    DiffersInNumbers (first_world c.args.task.now)
    (world_with (g.T.Tree.nodes c.in_ok-built.built.tree) (open_files c.in_ok-files.files) c.in_ok-processes.processes.items)
same g c =
    begun_world c.args.task.now (g.T.Tree.nodes c.in_ok-built.built.tree) (open_files c.in_ok-files.files) c.in_ok-processes.processes.items
    (subst (λ starts. Awaits (owned_from 0 starts) [] (open_files c.in_ok-files.files)) c.starts.ensures.starts c.in_ok-files.ensures)
    (c.in_ok-built.ensures.nodes ∙ c.nodes.ensures.nodes)
    (c.in_ok-processes.ensures ∙ (λ i. map (first_process (c.programs.ensures.programs i)) (c.starts-2.ensures.starts i)))

pub returns-clause-same : goal.returns-clause-same
returns-clause-same g c = same g c

pub returns-clause-good : goal.returns-clause-good
returns-clause-good g c = started_good c.args.task.now c.nodes.ensures.valid _ (same g c)
