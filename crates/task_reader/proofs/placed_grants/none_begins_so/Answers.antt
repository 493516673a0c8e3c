use Rattle.std.proofs.Common.{◌≡◌, ◌-◌, ◌≤◌, drop, map, length, sym, ◌∙◌, arith}
use Rattle.std.proofs.lemmas.List.{length-map, length-drop}
use Rattle.task_reader.proofs.ApartLaws.{at-most-one}
use Rattle.task_reader.proofs.placed_grants.none_begins_so.Goals as goal

pub returns : goal.returns
returns c =
    let places = c.args.places.now in
    let rest = drop (c.loop-at.at - 1) places in
    let long : length (map (λ p. p.now) rest) ≡ length rest = length-map rest (λ p. p.now) in
    let count : length rest ≡ length places - (c.loop-at.at - 1) = length-drop (c.loop-at.at - 1) places in
    let past = c.loop-at-test.false in
    let few : length (map (λ p. p.now) rest) ≤ 1 = omega arith in
    sym (c.loop-at.invariant ∙ at-most-one (map (λ p. p.now) rest) few)
