use Rattle.std.proofs.Common.{◌≡◌, ◌-◌, arith}
use Rattle.lookup.specs.NameViews.{all_spanned}
use Rattle.lookup.proofs.NameLaws.{read_byte, all_read}
use Rattle.lookup.proofs.names.put_names.Goals as goal

pub loop-start-preserved : goal.loop-start-preserved
loop-start-preserved c =
    let text = c.args.text.now in
    record {
      low = omega arith;
      order = omega arith;
      high = c.loop-start.invariant.high;
      names = read_byte text (all_spanned text c.args.spans.now.items) (c.loop-start.start - 1) c.loop-start.start c.loop-start.end _
          (omega arith) (omega arith) c.loop-start.invariant.order c.if-text-start-eq47.false c.loop-start.invariant.names;
      within = c.loop-start.invariant.within;
    }

pub returns-clause-names : goal.returns-clause-names
returns-clause-names c =
    let text = c.args.text.now in
    let here : c.loop-start.start ≡ c.args.from = omega arith in
    all_read text (all_spanned text c.args.spans.now.items) c.args.from c.loop-start.start c.loop-start.end _ c.put_name-2.new.spans.items c.put_name-2.result
    here c.loop-start.invariant.names (c.put_name-2.ensures.names text c.loop-start.invariant.high)
