use Rattle.explain.proofs.ListedLines.{program_written}
use Rattle.explain.proofs.listing.add_program.Goals as goal

pub returns : goal.returns
returns c =
    program_written c.args.scene.now.task.now c.args.scene.now.cert.now c.args.bounds.now c.args.has_cert c.args.page.now c.say.new.page c.add_points.new.page
    c.add_program_remarks.new.page c.add_program_warnings.new.page c.args.number c.program_name.result.now c.if-named.authority.bytes.items c.program_name.ensures c.say.ensures
    c.add_points.ensures c.add_program_remarks.ensures c.add_program_warnings.ensures
