use Rattle.std.proofs.Common.{ap, arith, length, sym, ◌∙◌}
use Rattle.std.proofs.Math.ListN.{length-map}
use Rattle.instruction_set.specs.Views.{instruction_of}
use Rattle.checker.proofs.KnownLimits.{all_known}
use Rattle.checker.proofs.PastEnds.{few_points}
use Rattle.checker.proofs.points.code_at.Goals as goal

pub returns-in-Some-clause-few : goal.returns-in-Some-clause-few
returns-in-Some-clause-few c =
    let few = few_points c.in-Some.named.now.program c.code.ensures.valid in
    let many = sym (length-map c.code.result.now instruction_of) ∙ ap length c.code.ensures.value in
    omega arith

pub returns-in-Some-clause-known : goal.returns-in-Some-clause-known
returns-in-Some-clause-known c = all_known c.code.result.now c.code.ensures.value c.code.ensures.valid
