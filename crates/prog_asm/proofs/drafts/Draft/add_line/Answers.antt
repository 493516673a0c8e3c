use Rattle.std.specs.Prelude.{option_map}
use Rattle.std.proofs.lemmas.Result.{IfOk-weaker}
use Rattle.prog_asm.specs.DraftViews.{JudgesLine}
use Rattle.prog_asm.specs.FaultPlaceViews.{fault_seen, list_of}
use Rattle.prog_asm.specs.LineViews.{line_from, span_seen}
use Rattle.prog_asm.proofs.JudgedCode.{IsSeen, line-judged}
use Rattle.prog_asm.proofs.drafts.Draft.add_line.Goals as goal

pub returns : goal.returns
returns c = λ before drafts is.
    let text = c.args.text.now in
    let seen = c.in_ok-seen.seen in
    let is_seen : IsSeen c.args.wide text c.args.number (line_from seen.line) (list_of (option_map fault_seen seen.wrong)) (span_seen seen.label) (span_seen seen.instruction) = record {
      line = c.in_ok-seen.ensures.line;
      own = c.in_ok-seen.ensures.wrong;
      label = c.in_ok-seen.ensures.label;
      instruction = c.in_ok-seen.ensures.instruction;
    } in
    IfOk-weaker c.add_step.result _ (JudgesLine c.args.wide before text c.args.self.now c.add_step.new.self)
    (λ more stepped. line-judged c.args.wide before text c.args.self.now c.add_own.new.self c.add_label.new.self c.add_step.new.self c.args.number (line_from seen.line)
    (list_of (option_map fault_seen seen.wrong)) (span_seen seen.label) (span_seen seen.instruction) more drafts is is_seen c.in_ok-add_own.ensures c.in_ok-add_label.ensures stepped)
    c.add_step.ensures
