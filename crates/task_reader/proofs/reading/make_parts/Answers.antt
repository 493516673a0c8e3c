use Rattle.std.proofs.Common.{◌≡◌, Some, Ok, List, true, ap, sym, subst, ◌∙◌}
use Rattle.std.specs.List.{list_all}
use Rattle.std.specs.Result.{IsOk}
use Rattle.std.proofs.lemmas.Result.{err_from_is_err_and}
use Rattle.file_tree.specs.Nodes.{Node}
use Rattle.rights.specs.Limits.{most_programs}
use Rattle.std.proofs.Common.{take}
use Rattle.task.specs.Plans.{Grant, NamedProgram, Start, plan_in}
use Rattle.task.specs.Limits.{is_plan}
use Rattle.task_reader.specs.ApartViews.{first_assembled}
use Rattle.task_reader.specs.FaultViews.{FaultIs}
use Rattle.task_reader.specs.PlacedViews.{is_small, placed_starts}
use Rattle.task_reader.specs.Reading.{Wrong_grant, Wrong_descriptor, or_mistake, tree_of, policy_of, grants_placed, starts_placed, all_assembled, keeps_limits, plan_of}
use Rattle.task_reader.specs.Written.{WrittenTask}
use Rattle.task_reader.specs.declared.written.WrittenGrant.{WrittenGrant as GrantCode}
use Rattle.task_reader.specs.declared.written.WrittenProgram.{WrittenProgram as ProgramCode}
use Rattle.task_reader.specs.declared.written.WrittenStart.{WrittenStart as StartCode}
use Rattle.task_reader.specs.declared.written.WrittenTask.{WrittenTask as TaskCode}
use Rattle.task.specs.Views.{nodes_of, grants_of, programs_of, starts_of}
use Rattle.task_reader.specs.WrittenViews.{grants_seen, programs_seen, starts_seen, task_seen}
use Rattle.task_reader.proofs.ApartLaws.{checked-policy}
use Rattle.task_reader.proofs.EachItem.{some_from}
use Rattle.task_reader.proofs.Passing.{fault-before, fault-never}
use Rattle.task_reader.proofs.WrittenLaws.{some-equal, task-written}
use Rattle.task_reader.proofs.ValidPlans.{all-kept, ok-then, plan-valid}
use Rattle.task_reader.proofs.Stages.{fails-grants, fails-starts, fails-programs, past-limit, reads-plan, plan-small}
use Rattle.task_reader.proofs.reading.make_parts.Goals as goal

-- what each stage made, of the written task
policy-made : (w : TaskCode) (gs : List GrantCode) (nodes : List Node) → gs ≡ w.grants.items → IsOk (or_mistake Wrong_grant (policy_of nodes (grants_seen gs)))
    → (grants : List Grant) × (policy_of nodes (task_seen w).grants ≡ Some grants) × (grants_placed nodes (task_seen w).grants ≡ Some grants)
policy-made w gs nodes same is = checked-policy nodes (task_seen w).grants (subst (λ xs. IsOk (or_mistake Wrong_grant (policy_of nodes (grants_seen xs)))) same is)

starts-made : (w : TaskCode) (ss : List StartCode) (nodes : List Node) (starts : List Start) → ss ≡ w.starts.items
    → or_mistake Wrong_descriptor (starts_placed nodes (starts_seen ss)) ≡ Ok starts → starts_placed nodes (task_seen w).starts ≡ Some starts
starts-made w ss nodes starts same is = ap (λ xs. starts_placed nodes (starts_seen xs)) (sym same) ∙ some_from Wrong_descriptor _ _ is

programs-made : (w : TaskCode) (ps : List ProgramCode) (programs : List NamedProgram) → ps ≡ w.programs.items → first_assembled w.further_rights (programs_seen ps) ≡ Ok programs
    → first_assembled w.further_rights (task_seen w).programs ≡ Ok programs
programs-made w ps programs same is = ap (λ xs. first_assembled w.further_rights (programs_seen xs)) (sym same) ∙ is

same-grants : (w : TaskCode) (gs : List GrantCode) (nodes : List Node) (grants made : List Grant) → gs ≡ w.grants.items
    → or_mistake Wrong_grant (grants_placed nodes (grants_seen gs)) ≡ Ok made → grants_placed nodes (task_seen w).grants ≡ Some grants → grants ≡ made
same-grants w gs nodes grants made same is placed =
    some-equal grants made (sym placed ∙ ap (λ xs. grants_placed nodes (grants_seen xs)) (sym same) ∙ some_from Wrong_grant _ _ is)

-- what the task stands for, once nothing is wrong with it
record Planned (task : WrittenTask) (nodes : List Node) (programs : List NamedProgram) (starts : List Start) : Type 0 where
  grants : List Grant
  placed : grants_placed nodes task.grants ≡ Some grants
  reads : plan_of task ≡ Ok (plan_in task.wide nodes grants programs starts)

planned : (w : TaskCode) (nodes : List Node) (programs : List NamedProgram) (starts : List Start) → tree_of (task_seen w).nodes ≡ Some nodes
    → (grants : List Grant) × (policy_of nodes (task_seen w).grants ≡ Some grants) × (grants_placed nodes (task_seen w).grants ≡ Some grants)
    → starts_placed nodes (task_seen w).starts ≡ Some starts → first_assembled w.further_rights (task_seen w).programs ≡ Ok programs → keeps_limits (task_seen w) nodes ≡ true
    → Planned (task_seen w) nodes programs starts
planned w nodes programs starts made granted started kept keeps =
    let assembled : all_assembled w.further_rights (task_seen w).programs ≡ Ok programs = all-kept (task_seen w) nodes programs kept keeps in
    record {
      grants = granted.0;
      placed = granted.2;
      reads = reads-plan (task_seen w) nodes made granted.0 granted.1 starts started programs assembled keeps;
    }

-- a mistake of a stage is the task's
pub returns-in_err-check_policy : goal.returns-in_err-check_policy
returns-in_err-check_policy c =
    let p = err_from_is_err_and c.from_residual.result c.from_residual.ensures.1 in
    let error = c.in_err-check_policy.field-0.0 in
    let w = c.args.written.now in
    let task = task_seen w in
    let nodes = nodes_of c.args.tree.now.nodes.items in
    let made = c.requires.tree in
    let told : FaultIs error (or_mistake Wrong_grant (policy_of nodes task.grants)) =
    subst (λ gs. FaultIs error (or_mistake Wrong_grant (policy_of nodes (grants_seen gs)))) c.deref.ensures.value c.in_err-check_policy.ensures in
    rw (p.1, p.2) (fails-grants task nodes made error told)

pub returns-in_err-placed : goal.returns-in_err-placed
returns-in_err-placed c =
    let p = err_from_is_err_and c.from_residual-in_err-placed.result c.from_residual-in_err-placed.ensures.1 in
    let error = c.in_err-placed.field-0.0 in
    let w = c.args.written.now in
    let task = task_seen w in
    let nodes = nodes_of c.args.tree.now.nodes.items in
    let made = c.requires.tree in
    let granted = policy-made w _ nodes c.deref.ensures.value c.in_ok-check_policy.ensures in
    let told : FaultIs error (or_mistake Wrong_descriptor (starts_placed nodes task.starts)) =
    subst (λ ss. FaultIs error (or_mistake Wrong_descriptor (starts_placed nodes (starts_seen ss)))) c.deref-2.ensures.value c.in_err-placed.ensures in
    rw (p.1, p.2) (fails-starts task nodes made granted.0 granted.1 error told)

pub returns-in_err-programs : goal.returns-in_err-programs
returns-in_err-programs c =
    let p = err_from_is_err_and c.from_residual-in_err-programs.result c.from_residual-in_err-programs.ensures.1 in
    let error = c.in_err-programs.field-0.0 in
    let w = c.args.written.now in
    let task = task_seen w in
    let nodes = nodes_of c.args.tree.now.nodes.items in
    let made = c.requires.tree in
    let granted = policy-made w _ nodes c.deref.ensures.value c.in_ok-check_policy.ensures in
    let starts = placed_starts c.in_ok-placed.placed.items in
    let started = starts-made w _ nodes starts c.deref-2.ensures.value c.in_ok-placed.ensures in
    let told : FaultIs error (first_assembled task.wide task.programs) =
    subst (λ ps. FaultIs error (first_assembled w.further_rights (programs_seen ps))) c.deref-3.ensures.value c.in_err-programs.ensures in
    rw (p.1, p.2)
    (fails-programs task nodes made granted.0 granted.1 starts started error (fault-before error (all_assembled task.wide task.programs) (λ all. take most_programs all) told))

pub returns-then-not-keeps_limits : goal.returns-then-not-keeps_limits
returns-then-not-keeps_limits c =
    let w = c.args.written.now in
    let task = task_seen w in
    let nodes = nodes_of c.args.tree.now.nodes.items in
    let made = c.requires.tree in
    let granted = policy-made w _ nodes c.deref.ensures.value c.in_ok-check_policy.ensures in
    let starts = placed_starts c.in_ok-placed.placed.items in
    let started = starts-made w _ nodes starts c.deref-2.ensures.value c.in_ok-placed.ensures in
    let programs = programs_of c.in_ok-programs.programs.items in
    let kept = programs-made w _ programs c.deref-3.ensures.value c.in_ok-programs.ensures in
    let past = ap (λ ns. keeps_limits task (nodes_of ns)) (sym c.deref-4.ensures.value) ∙ sym c.keeps_limits.ensures ∙ c.if-not-keeps_limits.true in
    let all = ok-then (all_assembled task.wide task.programs) (λ all. Ok (take most_programs all)) programs kept in
    past-limit task nodes made granted.0 granted.1 starts started all.0 all.1 past

pub returns-in_err-grants : goal.returns-in_err-grants
returns-in_err-grants c =
    let p = err_from_is_err_and c.from_residual-in_err-grants.result c.from_residual-in_err-grants.ensures.1 in
    let error = c.in_err-grants.field-0.0 in
    let w = c.args.written.now in
    let task = task_seen w in
    let nodes = nodes_of c.args.tree.now.nodes.items in
    let made = c.requires.tree in
    let granted = policy-made w _ nodes c.deref.ensures.value c.in_ok-check_policy.ensures in
    let told : FaultIs error (or_mistake Wrong_grant (grants_placed nodes task.grants)) =
    subst (λ gs. FaultIs error (or_mistake Wrong_grant (grants_placed nodes (grants_seen gs)))) c.deref-5.ensures.value c.in_err-grants.ensures in
    rw (p.1, p.2) (fault-never error granted.0 (plan_of task) (subst (λ placed. FaultIs error (or_mistake Wrong_grant placed)) granted.2 told))

pub kept_starts-requires : goal.kept_starts-requires
kept_starts-requires c =
    let w = c.args.written.now in
    let nodes = nodes_of c.args.tree.now.nodes.items in
    let starts = placed_starts c.in_ok-placed.placed.items in
    let programs = programs_of c.in_ok-programs.programs.items in
    let plan =
    planned w nodes programs starts c.requires.tree
    (policy-made w _ nodes c.deref.ensures.value c.in_ok-check_policy.ensures) (starts-made w _ nodes starts c.deref-2.ensures.value c.in_ok-placed.ensures)
    (programs-made w _ programs c.deref-3.ensures.value c.in_ok-programs.ensures)
    (ap (λ ns. keeps_limits (task_seen w) (nodes_of ns)) (sym c.deref-4.ensures.value) ∙ sym c.keeps_limits.ensures ∙ c.if-not-keeps_limits.false) in
    let valid : is_plan (plan_in w.further_rights nodes plan.grants programs starts) ≡ true =
    plan-valid (task_seen w) (plan_in w.further_rights nodes plan.grants programs starts) (task-written c.requires.document.0 (task_seen w) c.requires.document.1) plan.reads in
    subst (λ ss. list_all is_small (placed_starts ss) ≡ true) (sym c.deref-6.ensures.value) (plan-small (plan_in w.further_rights nodes plan.grants programs starts) valid)

pub returns : goal.returns
returns c =
    let w = c.args.written.now in
    let nodes = nodes_of c.args.tree.now.nodes.items in
    let starts = placed_starts c.in_ok-placed.placed.items in
    let programs = programs_of c.in_ok-programs.programs.items in
    let plan =
    planned w nodes programs starts c.requires.tree
    (policy-made w _ nodes c.deref.ensures.value c.in_ok-check_policy.ensures) (starts-made w _ nodes starts c.deref-2.ensures.value c.in_ok-placed.ensures)
    (programs-made w _ programs c.deref-3.ensures.value c.in_ok-programs.ensures)
    (ap (λ ns. keeps_limits (task_seen w) (nodes_of ns)) (sym c.deref-4.ensures.value) ∙ sym c.keeps_limits.ensures ∙ c.if-not-keeps_limits.false) in
    let same = same-grants w _ nodes plan.grants (grants_of c.in_ok-grants.grants.items) c.deref-5.ensures.value c.in_ok-grants.ensures plan.placed in
    let kept : starts_of c.in_ok-starts.starts.items ≡ starts = c.in_ok-starts.ensures ∙ ap placed_starts c.deref-6.ensures.value in
    plan.reads
    ∙ ap Ok (ap (λ gs. plan_in w.further_rights nodes gs programs starts) same ∙ ap (λ ss. plan_in w.further_rights nodes (grants_of c.in_ok-grants.grants.items) programs ss) (sym kept))
