use Rattle.std.proofs.Common.{◌∙◌, ap, sym}
use Rattle.std.specs.Prelude.{option_map}
use Rattle.std.specs.List.{slice_get, slice_index_or}
use Rattle.certificate.specs.Views.{bound_of}
use Rattle.texts.specs.Views.{name_of}
use Rattle.instruction_set.specs.Views.{code_of, instruction_of}
use Rattle.checker.specs.PointViews.{expansion_of}
use Rattle.checker.proofs.Apart.{tests_are}
use Rattle.checker.proofs.Standing.{bound_is, bound_next, read_there}
use Rattle.rights.proofs.Lists.{list_all-slice_get}
use Rattle.transfer.specs.Limits.{leaves_known}
use Rattle.checker.proofs.asked.AskedProgram.at.Goals as goal

pub invariant_of-result-clause-stands : goal.invariant_of-result-clause-stands
invariant_of-result-clause-stands c =
    let of = c.args.self.now in
    sym (ap (λ code. slice_get code c.args.point) of.stands)
    ∙ read_there of.code.now c.args.point c.index-self-point.result c.requires.point c.index-self-point.is

pub invariant_of-result-clause-leads : goal.invariant_of-result-clause-leads
invariant_of-result-clause-leads c =
    let of = c.args.self.now in
    bound_next of.task.now of.cert.now (name_of of.name) c.args.point (option_map bound_of c.args.bound.now) (option_map bound_of c.carried_past-carried.result)
    (option_map bound_of c.bound_with-there.result) c.requires.bound c.carried_past-carried.ensures c.bound_with-there.ensures

pub invariant_of-result-clause-known : goal.invariant_of-result-clause-known
invariant_of-result-clause-known c =
    let of = c.args.self.now in
    list_all-slice_get leaves_known (code_of of.code.now) c.args.point (instruction_of (slice_index_or of.code.now c.args.point c.index-self-point.result)) of.known
    (read_there of.code.now c.args.point c.index-self-point.result c.requires.point c.index-self-point.is)

pub returns-clause-tests : goal.returns-clause-tests
returns-clause-tests c =
    let of = c.args.self.now in
    let i = instruction_of (slice_index_or of.code.now c.args.point c.index-self-point.result) in
    let there = sym (ap (λ code. slice_get code c.args.point) of.coded)
    ∙ read_there of.code.now c.args.point c.index-self-point.result c.requires.point c.index-self-point.is in
    let bounded = bound_is of.task.now of.cert.now of.program c.args.point (name_of of.name) (option_map bound_of c.args.bound.now) of.valid of.made of.named
    c.requires.bound in
    tests_are of.task.now (expansion_of of) of.program c.args.point i (option_map bound_of c.args.bound.now) there (sym bounded)
