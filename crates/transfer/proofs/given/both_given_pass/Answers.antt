use Rattle.std.proofs.Common.{refl}
use Rattle.certificate.specs.Views.{bound_of, interval_of}
use Rattle.instruction_set.specs.Views.{operand_of}
use Rattle.rules.specs.Slots.{OpenSlot, slots_in}
use Rattle.transfer.specs.GivenViews.{may_be, stays, given_at}
use Rattle.transfer.proofs.Keeping.{one_settles, repeated_settle, none_kept, some_kept}
use Rattle.transfer.proofs.Repeated.{none_passes, some_passes}
use Rattle.transfer.proofs.given.both_given_pass.Goals as goal

pub returns-then-none_is : goal.returns-then-none_is
returns-then-none_is g c = (
  none_passes (g.T.OutcomeVisitor.passes c.args.visitor.now)
      (given_at c.args.site.now (operand_of c.args.second.0) c.args.second.1 (interval_of c.args.given))
      (λ (slot : OpenSlot). may_be c.args.first.1 slot.held.target) (slots_in (bound_of c.args.site.now.bound.now) (operand_of c.args.first.0))
      c.none_is.result c.none_is.ensures c.if-none_is.true,
  refl,
  refl,
  λ passes.
      none_kept
      (g.T.OutcomeVisitor.joins c.args.visitor.now)
      (given_at c.args.site.now (operand_of c.args.second.0) c.args.second.1 (interval_of c.args.given))
      (repeated_settle (g.T.OutcomeVisitor.joins c.args.visitor.now) (stays c.args.site.now (interval_of c.args.given))
      (one_settles (g.T.OutcomeVisitor.joins c.args.visitor.now) _) (λ (slot : OpenSlot). may_be c.args.second.1 slot.held.target)
      (slots_in (bound_of c.args.site.now.bound.now) (operand_of c.args.second.0)))
      (λ (slot : OpenSlot). may_be c.args.first.1 slot.held.target) (slots_in (bound_of c.args.site.now.bound.now) (operand_of c.args.first.0))
      (g.T.OutcomeVisitor.kept c.args.visitor.now) c.none_is.result c.none_is.ensures c.if-none_is.true,
)

pub returns-else-none_is : goal.returns-else-none_is
returns-else-none_is g c = (
  some_passes (g.T.OutcomeVisitor.passes c.args.visitor.now)
      (given_at c.args.site.now (operand_of c.args.second.0) c.args.second.1 (interval_of c.args.given))
      (λ (slot : OpenSlot). may_be c.args.first.1 slot.held.target) (slots_in (bound_of c.args.site.now.bound.now) (operand_of c.args.first.0))
      c.none_is.result c.given_passes.result c.none_is.ensures c.if-none_is.false c.given_passes.ensures.0,
  c.given_passes.ensures.1,
  c.given_passes.ensures.2,
  λ passes.
      some_kept
      (g.T.OutcomeVisitor.joins c.args.visitor.now)
      (given_at c.args.site.now (operand_of c.args.second.0) c.args.second.1 (interval_of c.args.given))
      (repeated_settle (g.T.OutcomeVisitor.joins c.args.visitor.now) (stays c.args.site.now (interval_of c.args.given))
      (one_settles (g.T.OutcomeVisitor.joins c.args.visitor.now) _) (λ (slot : OpenSlot). may_be c.args.second.1 slot.held.target)
      (slots_in (bound_of c.args.site.now.bound.now) (operand_of c.args.second.0)))
      (λ (slot : OpenSlot). may_be c.args.first.1 slot.held.target) (slots_in (bound_of c.args.site.now.bound.now) (operand_of c.args.first.0))
      (g.T.OutcomeVisitor.kept c.args.visitor.now) _ c.none_is.result c.none_is.ensures c.if-none_is.false (c.given_passes.ensures.3 passes),
)
