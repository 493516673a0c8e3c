use Rattle.std.proofs.Common.{◌≡◌, ◌∙◌, ◌++◌, ◌+◌, ap, arith, length, map, sym}
use Rattle.std.specs.Prelude.{option_map}
use Rattle.certificate.specs.Views.{bound_of}
use Rattle.instruction_set.specs.Views.{instruction_of}
use Rattle.std.proofs.Math.ListN.{length-map}
use Rattle.task.specs.Plans.{programs_of_plan}
use Rattle.checker.specs.PointViews.{expansion_of, instruction_of_point}
use Rattle.checker.specs.FindingViews.{broken_rule_of}
use Rattle.checker.specs.Findings.{findings_before, findings_in}
use Rattle.checker.proofs.Apart.{along_next, along_none}
use Rattle.checker.proofs.OneByOne.{unkept_is}
use Rattle.checker.proofs.Standing.{bound_along}
use Rattle.checker.proofs.findings.add_points.Goals as goal

pub loop-point-init : goal.loop-point-init
loop-point-init c = (along_none c.args.of.now.task.now (expansion_of c.args.of.now) c.args.of.now.program (map broken_rule_of c.args.found.now.items), c.first_bound-bound.ensures)

pub loop-point-preserved : goal.loop-point-preserved
loop-point-preserved c = (found, bound_along c.at-at.result c.args.of.now c.loop-point.point c.at-at.ensures.program c.at-at.ensures.point)
  where
    found : map broken_rule_of c.add_unkept.new.found.items
        ≡ map broken_rule_of c.args.found.now.items ++ findings_before c.args.of.now.task.now (expansion_of c.args.of.now) c.args.of.now.program (c.loop-point.point + 1)
    found =
        let at = c.at-at.result in
        let here = c.in_ok-add_unkept.ensures ∙ ap (λ l. map broken_rule_of c.loop-point.found.items ++ l)
        (unkept_is at.of.now.task.now (expansion_of at.of.now) at.of.now.program at.point (instruction_of_point at) (option_map bound_of at.bound)
        ∙ (λ k. findings_in (c.at-at.ensures.program k).program (c.at-at.ensures.point k) (c.at-at.ensures.tests k))) in
        along_next c.args.of.now.task.now (expansion_of c.args.of.now) c.args.of.now.program c.loop-point.point _ _ _ c.loop-point.invariant.0 here

pub returns : goal.returns
returns c =
    let of = c.args.of.now in
    let many = sym (length-map of.code.now instruction_of) ∙ ap length of.coded in
    let all : c.loop-point.point ≡ length (programs_of_plan of.task.now of.program) = omega (arith, many, c.loop-point-test.false) in
    c.loop-point.invariant.0 ∙ ap (λ n. map broken_rule_of c.args.found.now.items ++ findings_before of.task.now (expansion_of of) of.program n) all
