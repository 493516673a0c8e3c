use Rattle.std.proofs.Common.{refl, sym, ap, ◌∙◌, ℕ}
use Rattle.std.specs.Prelude.{Some}
use Rattle.std.specs.List.{slice_get}
use Rattle.page.specs.declared.pictures.Target.{Target}
use Rattle.page.proofs.wiring.pair_wire.Goals as goal

pub returns : goal.returns
returns c = record {
  row = c.args.row;
  place = c.in-Some.ensures.0;
  class = c.in-Some.found.now;
  at = ap (λ list. slice_get list c.in-Some.ensures.0) (sym c.deref.ensures.value) ∙ c.in-Some.ensures.1;
  is = ap Target.Pair (sym c.in-Some.ensures.2);
  net = c.in-Some-Pair-default.ensures.0 ∙ ap Some c.in-Some-Pair-default.field-0-0-is;
  first = c.in-Some-Pair-default-row_of.ensures.0 ∙ ap Some c.in-Some-Pair-default-row_of.field-0-0-is ∙ ap (λ (n : ℕ). Some (Target.Pair n)) c.if-first-class.false;
  after = c.if-row-found.false;
  within = c.if-found-row.false;
  from = c.in-Some-Pair-default-row_of.ensures.1;
  to = c.in-Some-Pair-default.ensures.1;
  lane = c.in-Some-pair_x.ensures.lane;
  few = c.in-Some-pair_x.ensures.few;
  begin = refl;
  end = refl;
}
