use Rattle.std.proofs.Common.{◌≡◌, ◌∙◌, ap, arith, length, sym}
use Rattle.std.proofs.lemmas.List.{length-map}
use Rattle.explain.specs.Listing.{TellsProgram}
use Rattle.explain.proofs.ListedLines.{lists_written}
use Rattle.explain.proofs.Writing.{none_written, number_written}
use Rattle.task.specs.Views.{program_of}
use Rattle.explain.proofs.listing.add_listing.Goals as goal

pub loop-number-init : goal.loop-number-init
loop-number-init c = none_written (TellsProgram c.args.scene.now.task.now c.args.scene.now.cert.now c.args.bounds.now c.args.has_cert) c.args.page.now

pub loop-number-preserved : goal.loop-number-preserved
loop-number-preserved c =
    number_written (TellsProgram c.args.scene.now.task.now c.args.scene.now.cert.now c.args.bounds.now c.args.has_cert) c.args.page.now c.loop-number.page
    c.add_program.new.page c.loop-number.number c.loop-number.invariant c.add_program.ensures

pub returns : goal.returns
returns c =
    let plan = c.args.scene.now.task.now in
    let items = c.programs-named-items.result.now in
    let last : c.loop-number.number ≡ length items = omega (arith, c.loop-number-test.false, c.loop-number.auto.number-end) in
    let all : length items ≡ length plan.programs = sym (length-map items program_of) ∙ ap length c.programs-named-items.ensures.programs in
    lists_written plan c.args.scene.now.cert.now c.args.bounds.now c.args.has_cert c.args.page.now c.loop-number.page c.add_task_remarks.new.page c.loop-number.number
    (last ∙ all) c.loop-number.invariant c.add_task_remarks.ensures
