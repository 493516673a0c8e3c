-- What a description is of, to the code and to the model.
use Rattle.std.proofs.Common.{◌≡◌, ◌<◌, ℕ, false, List, length, refl, ap, subst, ◌∙◌}
use Rattle.fd_table.specs.Descriptions.{Access, Object, At_node, At_end}
use Rattle.file_tree.specs.Nodes.{Node, node, is_link}
use Rattle.fd_table.specs.Filled.{IsEndThere, IsNamed}
use Rattle.fd_table.specs.OpenFiles.{OpenFiles}
use Rattle.rights.specs.Views.{side_seen}
use Rattle.fd_table.specs.Views.{access_seen}
use Rattle.fd_table.specs.declared.ends.End.{End}
use Rattle.kernel.specs.Answers.{Answer, at_object}
use Rattle.syscalls.specs.declared.operands.OpenNode.{OpenNode}
use Rattle.syscalls.specs.declared.operands.Target.{Target}
use Rattle.syscalls.specs.declared.operands.Target.TheVariants as target
use Rattle.syscalls.specs.AnswerViews.{IsReadyObject, IsTarget, IsTargetThere}

at_node_there : (o : Object) (found : OpenNode) → IsTarget (target.Node found) o → (on_node : ℕ → Access → Answer) (on_end : ℕ → ℕ → Answer) →
    at_object o on_node on_end ≡ on_node found.node (access_seen found.access)
unfolding at_object
at_node_there (At_node n access) found (number, is) on_node on_end = ap (λ m. on_node m access) number ∙ ap (on_node found.node) is
at_node_there (At_end pair side class) found is on_node on_end = absurd is

at_end_there : (o : Object) (end : End) → IsTarget (target.End end) o → (on_node : ℕ → Access → Answer) (on_end : ℕ → ℕ → Answer) → at_object o on_node on_end ≡ on_end end.pair (side_seen end.side)
unfolding at_object
at_end_there (At_node n access) end is on_node on_end = absurd is
at_end_there (At_end pair side class) end (number, is) on_node on_end = ap (λ m. on_end m side) number ∙ ap (on_end end.pair) is

pub at_node : (o : Object) (code : Target) (found : OpenNode) → IsTarget code o → code ≡ target.Node found →
    (on_node : ℕ → Access → Answer) (on_end : ℕ → ℕ → Answer) → at_object o on_node on_end ≡ on_node found.node (access_seen found.access)
at_node o code found is same = at_node_there o found (subst (λ x. IsTarget x o) same is)

pub at_end : (o : Object) (code : Target) (end : End) → IsTarget code o → code ≡ target.End end →
    (on_node : ℕ → Access → Answer) (on_end : ℕ → ℕ → Answer) → at_object o on_node on_end ≡ on_end end.pair (side_seen end.side)
at_end o code end is same = at_end_there o end (subst (λ x. IsTarget x o) same is)

-- a description that is named, and is of an end
end_there : (f : OpenFiles) (n : ℕ) (end : End) (o : Object) → f.objects n ≡ o → IsTarget (target.End end) o → IsNamed f n → IsEndThere f end.pair (side_seen end.side)
end_there f n end (At_node m access) is hit named = absurd hit
end_there f n end (At_end pair side class) is (number, same) named = record {
  description = n;
  class = class;
  named = named;
  is = is ∙ ap (λ p. At_end p side class) number ∙ ap (λ s. At_end end.pair s class) same;
}

pub end_named : (f : OpenFiles) (n : ℕ) (code : Target) (end : End) → IsTarget code (f.objects n) → code ≡ target.End end → IsNamed f n → IsEndThere f end.pair (side_seen end.side)
end_named f n code end hit same named = end_there f n end (f.objects n) refl (subst (λ x. IsTarget x (f.objects n)) same hit) named

-- what a ready description is of is there
target_at : (t : List Node) (f : OpenFiles) (n : ℕ) (code : Target) (o : Object) → f.objects n ≡ o → IsTarget code o → IsNamed f n → IsReadyObject t o → IsTargetThere t f code
target_at t f n (target.Node found) (At_node m access) is (number, same) named ready = subst (λ k. (k < length t) × (is_link (node t k).kind ≡ false)) number ready
target_at t f n (target.Node found) (At_end pair side class) is hit named ready = absurd hit
target_at t f n (target.End end) o is hit named ready = end_there f n end o is hit named

pub target_there : (t : List Node) (f : OpenFiles) (n : ℕ) (code : Target) → IsTarget code (f.objects n) → IsNamed f n → IsReadyObject t (f.objects n) → IsTargetThere t f code
target_there t f n code hit named ready = target_at t f n code (f.objects n) refl hit named ready
