use Rattle.std.proofs.Common.{ap, refl}
use Rattle.std.specs.Map.{lookup}
use Rattle.std.specs.BTreeMap.{is_at}
use Rattle.std.specs.Cmp.Lexicographic.{slice_cmp}
use Rattle.std.specs.Ordering.{nat_cmp}
use Rattle.link_tree.proofs.NewLinks.{root_linked}
use Rattle.link_tree.proofs.LinkTreeTree.new.Goals as goal

pub invariant_of-result : goal.invariant_of-result
invariant_of-result c =
    let pushed = c.in_ok-push.ensures.items in
    rw (pushed, c.new-entries.ensures.items) (root_linked _ refl refl (λ name. ap (lookup (is_at (λ key. slice_cmp nat_cmp name key.items))) c.new.ensures.empty) c.new-2.ensures.items).0

pub returns-clause-ok : goal.returns-clause-ok
returns-clause-ok c =
    let pushed = c.in_ok-push.ensures.items in
    rw (pushed, c.new-entries.ensures.items) (root_linked _ refl refl (λ name. ap (lookup (is_at (λ key. slice_cmp nat_cmp name key.items))) c.new.ensures.empty) c.new-2.ensures.items).1
