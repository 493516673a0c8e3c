-- A task is read stage by stage.
use Rattle.std.proofs.Common.{◌≡◌, ℕ, zero, suc, ◌<◌, ◌≤◌, List, [], ◌∷◌, Some, Result, Ok, Err, Bool, true, false, cond, length, map, get_or, refl, ap, sym, subst, ◌∙◌, arith}
use Rattle.std.specs.Prelude.{◌^◌, nat_lt}
use Rattle.std.specs.List.{list_all, slice_get}
use Rattle.std.specs.Cmp.Derive.{both_true}
use Rattle.std.proofs.lemmas.Bool.{lt-ltb, ltb-true}
use Rattle.rights.proofs.Tests.{both_left, both_right}
use Rattle.file_tree.specs.Nodes.{Node}
use Rattle.task_reader.specs.declared.faults.TaskFault.{TaskFault}
use Rattle.task.specs.Plans.{Grant, NamedProgram, FirstObject, On_node, On_end, Start, Plan, plan_in}
use Rattle.task.specs.KeptLimits.{IsThere}
use Rattle.task.specs.Limits.{is_plan}
use Rattle.task_reader.specs.Written.{WrittenTask}
use Rattle.task_reader.specs.Reading.{Mistake, Wrong_node, Wrong_grant, Wrong_descriptor, Past_limit, ◌>>=◌, or_mistake, tree_of, policy_of, starts_placed, all_assembled}
use Rattle.task_reader.specs.Reading.{keeps_limits, within_limits, plan_of}
use Rattle.task_reader.specs.FaultViews.{FaultIs}
use Rattle.task_reader.specs.PlacedViews.{has_near, is_near, is_small}
use Rattle.task_reader.proofs.Passing.{fault-passes}
use Rattle.task.proofs.KeptLimits.{plans_keep_limits}

pub ap2 : {A : Type 0} {B : Type 0} {C : Type 0} (f : A → B → C) (x y : A) (v w : B) → x ≡ y → v ≡ w → f x v ≡ f y w
ap2 f x y v w same alike = ap (λ a. f a v) same ∙ ap (f y) alike

abbrev with_starts : WrittenTask → List Node → List Grant → List Start → Result Plan Mistake
with_starts task tree grants starts = all_assembled task.wide task.programs >>= (λ programs. within_limits task (plan_in task.wide tree grants programs starts))

abbrev with_grants : WrittenTask → List Node → List Grant → Result Plan Mistake
with_grants task tree grants = or_mistake Wrong_descriptor (starts_placed tree task.starts) >>= with_starts task tree grants

abbrev with_tree : WrittenTask → List Node → Result Plan Mistake
with_tree task tree = or_mistake Wrong_grant (policy_of tree task.grants) >>= with_grants task tree

module _ (task : WrittenTask) where
  pub fails-tree : (e : TaskFault) → FaultIs e (or_mistake Wrong_node (tree_of task.nodes)) → FaultIs e (plan_of task)
  unfolding plan_of
  fails-tree e is = fault-passes e (or_mistake Wrong_node (tree_of task.nodes)) (with_tree task) is

  module _ (tree : List Node) (made : tree_of task.nodes ≡ Some tree) where
    on-tree : plan_of task ≡ with_tree task tree
    unfolding plan_of
    on-tree = ap (λ o. or_mistake Wrong_node o >>= with_tree task) made

    pub fails-grants : (e : TaskFault) → FaultIs e (or_mistake Wrong_grant (policy_of tree task.grants)) → FaultIs e (plan_of task)
    fails-grants e is = subst (FaultIs e) (sym on-tree) (fault-passes e (or_mistake Wrong_grant (policy_of tree task.grants)) (with_grants task tree) is)

    module _ (grants : List Grant) (granted : policy_of tree task.grants ≡ Some grants) where
      on-grants : plan_of task ≡ with_grants task tree grants
      on-grants = on-tree ∙ ap (λ o. or_mistake Wrong_grant o >>= with_grants task tree) granted

      pub fails-starts : (e : TaskFault) → FaultIs e (or_mistake Wrong_descriptor (starts_placed tree task.starts)) → FaultIs e (plan_of task)
      fails-starts e is = subst (FaultIs e) (sym on-grants) (fault-passes e (or_mistake Wrong_descriptor (starts_placed tree task.starts)) (with_starts task tree grants) is)

      module _ (starts : List Start) (started : starts_placed tree task.starts ≡ Some starts) where
        on-starts : plan_of task ≡ with_starts task tree grants starts
        on-starts = on-grants ∙ ap (λ o. or_mistake Wrong_descriptor o >>= with_starts task tree grants) started

        pub fails-programs : (e : TaskFault) → FaultIs e (all_assembled task.wide task.programs) → FaultIs e (plan_of task)
        fails-programs e is = subst (FaultIs e) (sym on-starts) (fault-passes e (all_assembled task.wide task.programs)
            (λ programs. within_limits task (plan_in task.wide tree grants programs starts)) is)

        module _ (programs : List NamedProgram) (assembled : all_assembled task.wide task.programs ≡ Ok programs) where
          on-programs : plan_of task ≡ within_limits task (plan_in task.wide tree grants programs starts)
          on-programs = on-starts ∙ ap (λ r. r >>= (λ programs. within_limits task (plan_in task.wide tree grants programs starts))) assembled

          pub past-limit : keeps_limits task tree ≡ false → plan_of task ≡ Err Past_limit
          past-limit past = on-programs ∙ ap (λ b. cond b (Ok (plan_in task.wide tree grants programs starts)) (Err Past_limit)) past

          pub reads-plan : keeps_limits task tree ≡ true → plan_of task ≡ Ok (plan_in task.wide tree grants programs starts)
          reads-plan keeps = on-programs ∙ ap (λ b. cond b (Ok (plan_in task.wide tree grants programs starts)) (Err Past_limit)) keeps

-- The code's numbers hold those of a plan.
all-from : {A : Type 0} (test : A → Bool) (xs : List A) → ((i : ℕ) (x : A) → slice_get xs i ≡ Some x → test x ≡ true) → list_all test xs ≡ true
all-from test [] each = refl
all-from test (x ∷ xs) each = both_true (each 0 x refl) (all-from test xs (λ i y is. each (suc i) y is))

object-near : (tree : List Node) (o : FirstObject) → length tree ≤ 1024 → IsThere tree o → is_near o ≡ true
object-near tree (On_node n access) few there =
    let within : n < length tree = there.there in
    let near : n < 2 ^ 16 = omega arith in
    lt-ltb n (2 ^ 16) near
object-near tree (On_end pair side) few there = refl

pub plan-small : (plan : Plan) → is_plan plan ≡ true → list_all is_small plan.starts ≡ true
plan-small plan valid =
    let keeps = plans_keep_limits plan valid in
    all-from is_small plan.starts
    (λ p s at.
    let below : s.program < length plan.programs = keeps.starts.program p s at in
    let few : length plan.programs ≤ 8 = keeps.programs.few in
    let program : s.program < 2 ^ 8 = omega arith in
    both_true (lt-ltb s.program (2 ^ 8) program)
    (all-from has_near s.descriptors
    (λ i d at_d. object-near plan.nodes d.object keeps.tree.few (keeps.starts.usable p i s d at at_d).object)))

pub small-at : {A : Type 0} {B : Type 0} (seen : A → B) (test : B → Bool) (xs : List A) (i : ℕ) (d : A) → list_all test (map seen xs) ≡ true → i < length xs → test (seen (get_or xs i d)) ≡ true
small-at seen test [] i d all within = absurd (omega arith)
small-at seen test (x ∷ xs) zero d all within = both_left (test (seen x)) (list_all test (map seen xs)) all
small-at seen test (x ∷ xs) (suc i) d all within = small-at seen test xs i d (both_right (test (seen x)) (list_all test (map seen xs)) all) (omega arith)

pub near-fits : (n : ℕ) → nat_lt n (2 ^ 16) ≡ true → n < 2 ^ 16
near-fits n near = ltb-true n (2 ^ 16) near
