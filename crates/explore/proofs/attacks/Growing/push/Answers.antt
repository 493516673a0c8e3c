use Rattle.std.proofs.Common.{[], ◌∷◌, subst, sym}
use Rattle.explore.specs.Attacks.{GoBy, GoesBy}
use Rattle.explore.proofs.Trying.{go_append}
use Rattle.explore.proofs.attacks.Growing.push.Goals as goal

pub invariant_of-self : goal.invariant_of-self
invariant_of-self c = subst (GoBy c.self.inside.number) (sym c.in_err-push.ensures.items) c.self.invariant

pub invariant_of-self-2 : goal.invariant_of-self-2
invariant_of-self-2 c =
    subst (GoBy c.self.inside.number) (sym c.in_ok-push.ensures.items)
    (go_append c.self.inside.number c.self.inside.deeds.items (c.args.deed ∷ []) c.self.invariant
    (subst (λ n. GoesBy n c.args.deed) (sym c.self.view_is) c.requires, tt))
