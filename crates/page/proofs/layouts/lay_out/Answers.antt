use Rattle.std.proofs.Common.{◌+◌, ◌≤◌, ◌∙◌, ap, arith}
use Rattle.page.specs.declared.board.Strip.{Strip}
use Rattle.page.proofs.FrameLaws.{beside-or-below, board-fits, boards-apart}
use Rattle.page.proofs.layouts.lay_out.Goals as goal

pub returns-clause-apart : goal.returns-clause-apart
returns-clause-apart c =
    let boxes = c.add_programs.new.board in
    let panels = c.add_panels-arrivals.new.board in
    let beside = c.lanes_of-beside.result.1 in
    let right = c.lanes_of-beside.ensures.right in
    let within = c.lanes_of-beside.ensures.beside in
    let strip = c.add_programs.ensures ∙ c.new-boxes.ensures in
    let left = ap (λ (s : Strip). s.left) strip in
    let width = ap (λ (s : Strip). s.width) strip in
    let edge : boxes.strip.left + boxes.strip.width ≤ beside = omega (arith, right, within, left, width) in
    let other = c.add_panels-arrivals.ensures.strip ∙ c.new-panels.ensures in
    boards-apart boxes panels
    (beside-or-below c.args.size.now.is_wide (boxes.strip.left + boxes.strip.width) panels.strip.left boxes.below panels.strip.start beside edge
    (λ wide. ap (λ (s : Strip). s.left) other ∙ c.panels_strip.ensures.beside wide)
    (λ narrow.
    let below = c.panels_strip.ensures.below narrow in
    let start = ap (λ (s : Strip). s.start) other in
    omega (arith, below, start)))

pub returns-clause-boxes_fit : goal.returns-clause-boxes_fit
returns-clause-boxes_fit c = board-fits c.add_programs.new.board

pub returns-clause-panels_fit : goal.returns-clause-panels_fit
returns-clause-panels_fit c = board-fits c.add_panels-arrivals.new.board
