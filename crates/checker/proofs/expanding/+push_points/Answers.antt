use Rattle.std.proofs.Common.{◌∙◌, sym}
use Rattle.certificate.specs.Growths.{grown}
use Rattle.certificate.specs.Lines.{block_lines}
use Rattle.certificate.specs.Told.{told_bound}
use Rattle.checker.proofs.Along.{given_next}
use Rattle.checker.proofs.expanding.+push_points.Goals as goal

pub returns-in_ok-push_block-in-len1-up : goal.returns-in_ok-push_block-in-len1-up
returns-in_ok-push_block-in-len1-up t c =
    let d = c.args.expanded.now in
    given_next c.args.points.now c.first-item.result c.push_points.result c.push_points.new.expanded d c.push_block.new.cert c.in-len1-up.len_at_least c.first-item.is
    ((λ k. grown (block_lines (record { program = sym c.program.ensures k; point = sym c.point.ensures k; bound = told_bound d.version (sym c.bound.ensures k) })) d)
    ∙ c.in_ok-push_block-in-len1-up.ensures) c.push_points.ensures
