use Rattle.std.proofs.Common.{◌≡◌, ◌∙◌, subst, sym}
use Rattle.std.specs.Prelude.{None}
use Rattle.certificate.specs.Views.{bound_of}
use Rattle.instruction_set.specs.Views.{instruction_of, syscall_of}
use Rattle.instruction_set.specs.declared.instructions.Instruction.{Instruction as InstructionCode}
use Rattle.rules.specs.Rules.{least_broken}
use Rattle.checker.specs.PointViews.{call_tests_of, expansion_of}
use Rattle.checker.proofs.KeptRules.{none_broken}
use Rattle.checker.proofs.at_once.keeps_if_call.Goals as goal

pub returns : goal.returns
returns c = λ kept.
    let at = c.args.at.now in
    let b = bound_of c.args.bound.now in
    subst (λ (i : InstructionCode). least_broken (call_tests_of at b (instruction_of i)) ≡ None) (sym c.in-Invoke.is)
    (none_broken at.of.now.task.now (expansion_of at.of.now) at.point b (syscall_of c.in-Invoke.call) c.in-Invoke.otherwise (sym c.keeps_call_rules.ensures ∙ kept))
