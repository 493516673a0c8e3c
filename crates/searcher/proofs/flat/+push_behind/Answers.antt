use Rattle.std.proofs.Common.{◌-◌, length, take, drop, ap, sym, ◌∙◌, subst, arith}
use Rattle.std.specs.Option.{option_map}
use Rattle.std.proofs.lemmas.List.{length-drop, length-take}
use Rattle.task.specs.Views.{start_of, starts_of}
use Rattle.certificate.specs.Growths.{grown_by}
use Rattle.certificate.specs.GrowthViews.{Grows}
use Rattle.searcher.specs.Flat.{next_behind, points_behind}
use Rattle.certificate.proofs.Growths.{by_keeps}
use Rattle.searcher.proofs.Behind.{next_grown}
use Rattle.searcher.proofs.flat.+push_behind.Goals as goal

pub push_behind-requires : goal.push_behind-requires
push_behind-requires t c =
    let turns = c.args.turns.now in
    let shorter = length-take (length turns - 1) (drop 1 turns) in
    let behind = length-drop 1 turns in
    (omega (arith, shorter, behind, c.in-len1-up.len_at_least, c.decreases), by_keeps _ c.args.cert.now c.push_start.new.cert c.in_ok-push_start-in-Some.ensures ∙ c.requires)

pub returns-in_ok-push_start-in-Some : goal.returns-in_ok-push_start-in-Some
returns-in_ok-push_start-in-Some t c =
    let plan = c.args.task.now in
    let next =
    ap (next_behind plan c.args.name.now) (sym c.starts.ensures.starts) ∙ sym c.next_behind.ensures.value ∙ ap (option_map (λ s. start_of s.now)) c.in-Some.is in
    let left = take (length c.args.turns.now - 1) (drop 1 c.args.turns.now) in
    let grown = next_grown plan c.args.turns.now c.args.name.now (start_of c.in-Some.start.now) c.args.cert.now c.push_start.new.cert c.in-len1-up.len_at_least next
    c.in_ok-push_start-in-Some.ensures in
    let named = ap (λ name. grown_by (points_behind plan (starts_of left) name) c.push_start.new.cert) c.program_name.ensures in
    subst (Grows c.push_behind.result c.push_behind.new.cert) (named ∙ sym grown) c.push_behind.ensures
