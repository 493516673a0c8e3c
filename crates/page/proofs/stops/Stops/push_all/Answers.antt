use Rattle.page.proofs.StopLaws.{last-fits, next-fits}
use Rattle.page.proofs.stops.Stops.push_all.Goals as goal

pub loop-stop-preserved : goal.loop-stop-preserved
loop-stop-preserved c = record {
  left =
      λ k after within. next-fits c.args.others.now.items.items c.deref-stop-items.result.now c.loop-stop.stop-index k c.args.higher c.push.new.self.next
      c.deref-stop-items.ensures.value c.args.others.now.rise c.push.ensures.next after within;
  end =
      last-fits c.args.others.now.items.items c.deref-stop-items.result.now c.loop-stop.stop-index c.args.higher c.args.height c.push.new.self.next c.args.others.now.next
      c.deref-stop-items.ensures.value c.args.others.now.before c.requires.end c.push.ensures.next c.loop-stop-test.true;
}
