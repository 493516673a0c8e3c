use Rattle.std.specs.Prelude.{is_ok}
use Rattle.page.specs.WireViews.{IsWire}
use Rattle.page.proofs.Pushes.{all-push}
use Rattle.page.proofs.WireLaws.{all-apart}
use Rattle.page.proofs.wiring.wires_of.Goals as goal

pub returns : goal.returns
returns c = all-apart c.args.ways.now c.requires c.loop-at.wires.items c.loop-at.invariant

pub loop-at-preserved : goal.loop-at-preserved
loop-at-preserved c = all-push (IsWire c.args.ways.now) c.loop-at.wires.items c.push.new.self.items _ (is_ok c.push.result) c.push.ensures.items c.loop-at.invariant c.in-Some.ensures
