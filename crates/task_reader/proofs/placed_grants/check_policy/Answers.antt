use Rattle.std.proofs.Common.{◌≡◌, None, Some, map, option_map, false, true, refl, sym, ap, subst, ◌∙◌}
use Rattle.std.specs.Result.{IsOk}
use Rattle.task.specs.Views.{nodes_of}
use Rattle.task_reader.specs.ApartViews.{granted_places}
use Rattle.task_reader.specs.Reading.{Wrong_grant, or_mistake}
use Rattle.task_reader.specs.WrittenViews.{grants_seen}
use Rattle.task_reader.proofs.ApartLaws.{no-policy, policy-if}
use Rattle.task_reader.proofs.placed_grants.check_policy.Goals as goal

pub returns-in_default : goal.returns-in_default
returns-in_default c =
    let tree = nodes_of c.args.tree.now.nodes.items in
    let grants = grants_seen c.args.written.now in
    let none : granted_places tree grants ≡ None = sym c.in_ok-places.ensures ∙ ap (option_map (λ ps. map (λ p. p.now) ps.items)) c.in_default.is in
    ap (or_mistake Wrong_grant) (no-policy tree grants none)

pub returns-then-not-branch : goal.returns-then-not-branch
returns-then-not-branch c =
    let tree = nodes_of c.args.tree.now.nodes.items in
    let grants = grants_seen c.args.written.now in
    let places = map (λ p. p.now) c.in-Some.places.items in
    let some : granted_places tree grants ≡ Some places = sym c.in_ok-places.ensures ∙ ap (option_map (λ ps. map (λ p. p.now) ps.items)) c.in-Some.is in
    let policy = policy-if tree grants places false some (sym c.if-not-branch.true ∙ c.in_ok-are_apart.ensures.apart) in
    ap (or_mistake Wrong_grant) policy.policy

pub returns : goal.returns
returns c =
    let tree = nodes_of c.args.tree.now.nodes.items in
    let grants = grants_seen c.args.written.now in
    let places = map (λ p. p.now) c.in-Some.places.items in
    let some : granted_places tree grants ≡ Some places = sym c.in_ok-places.ensures ∙ ap (option_map (λ ps. map (λ p. p.now) ps.items)) c.in-Some.is in
    let policy = policy-if tree grants places true some (sym c.if-not-branch.false ∙ c.in_ok-are_apart.ensures.apart) in
    subst (λ p. IsOk (or_mistake Wrong_grant p)) (sym policy.policy) refl
