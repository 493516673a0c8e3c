use Rattle.std.proofs.Common.{◌≡◌, sym, subst}
use Rattle.std.specs.Prelude.{true}
use Rattle.certificate.specs.Order.{bound_within}
use Rattle.certificate.specs.declared.bounds.Bound.{Bound as BoundCode}
use Rattle.certificate.specs.OrderLaws.{bound-refl}
use Rattle.certificate.specs.Views.{bound_of, interval_of}
use Rattle.searcher.proofs.Widened.{held_wider}
use Rattle.searcher.proofs.point_states.widened.Goals as goal
use Rattle.searcher.proofs.point_states.widened.Goals.{then-not-within, else-not-within}

pub loop-register-init : goal.loop-register-init
loop-register-init c = bound-refl (bound_of c.args.grown.now)

pub loop-register-preserved : goal.loop-register-preserved
loop-register-preserved c =
    let Holds : BoundCode → Type 0 = λ b. bound_within (bound_of c.args.grown.now) (bound_of b) ≡ true in
    elim c.if-not-within.branch [
      | then-not-within w ↦
          subst Holds (sym w.next-is)
          (held_wider (bound_of c.args.grown.now) (bound_of c.loop-register.next) (bound_of w.with_interval-next.result) c.loop-register.register (interval_of c.interval-after.result)
          (interval_of w.taken_further-interval.result) c.loop-register.invariant c.interval-after.ensures w.taken_further-interval.ensures w.with_interval-next.ensures)
      | else-not-within w ↦ subst Holds (sym w.next-is) c.loop-register.invariant
    ]
