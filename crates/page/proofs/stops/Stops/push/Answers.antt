use Rattle.std.specs.Prelude.{is_ok}
use Rattle.page.proofs.StopLaws.{before-push, rises-push}
use Rattle.page.proofs.stops.Stops.push.Goals as goal

pub invariant_of-self-2 : goal.invariant_of-self-2
invariant_of-self-2 c = record {
  rise = rises-push c.args.self.now.items.items c.push.new.self.items _ c.args.stop (is_ok c.push.result) c.push.ensures.items c.args.self.now.rise c.args.self.now.before c.requires.above;
  before = before-push c.args.self.now.items.items c.push.new.self.items _ c.args.stop (is_ok c.push.result) c.push.ensures.items c.args.self.now.before c.requires.above;
}
