use Rattle.std.proofs.Common.{refl, sym, ap, ◌∙◌}
use Rattle.std.specs.Prelude.{Some}
use Rattle.page.specs.declared.pictures.Target.{Target}
use Rattle.page.proofs.Pushes.{found-in}
use Rattle.page.proofs.wiring.panel_wire.Goals as goal

pub returns : goal.returns
returns c = record {
  row = c.args.row;
  place = c.in-Some.place;
  placed = c.in-Some.ensures.0;
  net = c.in-Some-Panel-default.ensures.0 ∙ ap Some c.in-Some-Panel-default.field-0-0-is;
  from = c.in-Some-Panel-default.ensures.1;
  at = c.in-Some.ensures.1;
  is = ap Target.Panel (sym c.in-Some.ensures.2);
  to = found-in _ _ c.in-Some.place c.in-Some-Some.arrives.now c.deref.ensures.value c.in-Some-Some.ensures.lookup.3.0 c.in-Some-Some.ensures.lookup.1;
  lane = c.in-Some-Some.ensures'.lane;
  few = c.in-Some-Some.ensures'.few;
  begin = refl;
  end = refl;
}
