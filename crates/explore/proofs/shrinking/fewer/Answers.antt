use Rattle.std.proofs.Common.{◌≡◌, None, map, subst, ◌∙◌, ap, arith}
use Rattle.std.specs.List.{remove}
use Rattle.std.proofs.Math.ListN.{length-map}
use borrow.Author.Count.{below_more}
use Rattle.indexmap.proofs.SetLemmas.{map-remove}
use Rattle.explore.specs.Broken.{Breaks}
use Rattle.explore.specs.MoveViews.{move_of}
use Rattle.explore.proofs.shrinking.fewer.Goals as goal

pub loop-at-preserved : goal.loop-at-preserved
loop-at-preserved c =
    let same : c.deref.result.now ≡ remove c.args.moves.now c.loop-at.at =
    c.deref.ensures.value ∙ c.remove.ensures.items ∙ ap (λ moves. remove moves c.loop-at.at) c.in_ok-left.ensures.items
    in
    below_more (λ k. Breaks c.args.task.now (remove (map move_of c.args.moves.now) k) None) c.loop-at.at c.loop-at.invariant
    (subst (λ moves. Breaks c.args.task.now moves None) (ap (λ moves. map move_of moves) same ∙ map-remove move_of c.args.moves.now c.loop-at.at)
    (c.in_ok-still_breaks.ensures.no c.if-branch.false))

pub returns-clause-tight : goal.returns-clause-tight
returns-clause-tight c = λ i below. c.loop-at.invariant i (omega (arith, length-map c.args.moves.now move_of))
