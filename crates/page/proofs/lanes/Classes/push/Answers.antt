use Rattle.std.proofs.Common.{◌≡◌, ◌<◌, All, rules, subst, arith}
use Rattle.std.specs.Prelude.{is_ok}
use Rattle.std.proofs.lemmas.Grind.{common_steps}
use Rattle.page.specs.declared.lanes.ClassLane.{ClassLane}
use Rattle.page.proofs.Pushes.{pairs-push}
use Rattle.page.proofs.lanes.Classes.push.Goals as goal

pub invariant_of-self-2 : goal.invariant_of-self-2
invariant_of-self-2 c = record {
  few = grind (arith, common_steps);
  apart =
      pairs-push (λ (a b : ClassLane). a.lane ≡ b.lane → a.last < b.first) c.args.self.now.items.items c.push.new.self.items _ (is_ok c.push.result)
      c.push.ensures.items c.args.self.now.apart
      (subst (All (λ (a : ClassLane). a.lane ≡ c.free_lane-lane.result → a.last < c.args.first)) c.deref.ensures.value c.free_lane-lane.ensures.free);
  least = search rules;
}
