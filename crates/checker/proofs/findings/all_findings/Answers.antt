use Rattle.std.proofs.Common.{◌≡◌, ◌∙◌, ap, arith, length, map, refl, sym}
use Rattle.std.proofs.Math.ListN.{length-map}
use Rattle.rules.specs.Expansions.{expansion}
use Rattle.task.specs.Plans.{programs_of_plan}
use Rattle.task.specs.Views.{program_of}
use Rattle.checker.specs.FindingViews.{broken_rule_of}
use Rattle.checker.specs.Findings.{findings_of_programs}
use Rattle.checker.proofs.Apart.{programs_next, programs_none}
use Rattle.checker.proofs.findings.all_findings.Goals as goal

pub loop-program-init : goal.loop-program-init
loop-program-init c = ap (map broken_rule_of) c.new-found.ensures.items ∙ programs_none c.args.task.now (expansion c.args.task.now c.args.cert.now)

pub loop-program-preserved : goal.loop-program-preserved
loop-program-preserved c =
    programs_next c.args.task.now (expansion c.args.task.now c.args.cert.now) c.loop-program.program
    (length (programs_of_plan c.args.task.now c.loop-program.program)) _ _ refl c.loop-program.invariant c.in_ok-add_program.ensures

pub returns : goal.returns
returns c =
    let many = sym (length-map c.programs-program-end.result.now program_of) ∙ ap length c.programs-program-end.ensures.programs in
    let all : c.loop-program.program ≡ length c.args.task.now.programs = omega (arith, many, c.loop-program-test.false) in
    c.loop-program.invariant ∙ ap (findings_of_programs c.args.task.now (expansion c.args.task.now c.args.cert.now)) all
