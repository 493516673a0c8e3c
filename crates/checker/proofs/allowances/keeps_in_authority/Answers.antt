use Rattle.std.proofs.Common.{rules, tests}
use Rattle.std.proofs.lemmas.Iterator.{YieldsList-from_slice}
use Rattle.std.specs.Prelude.{Bool, map}
use Rattle.std.specs.List.{list_all}
use Rattle.certificate.specs.Bounds.{Ceiling, End}
use Rattle.certificate.specs.Views.{ceiling_of, held_end_of}
use Rattle.checker.specs.AllowanceViews.{allowance_of}
use Rattle.rights.specs.Sides.{other_side}
use Rattle.rules.specs.Authority.{is_widest, keeps_ceiling, may_come, stays_in}
use Rattle.rules.specs.Channels.{channel_at}
use Rattle.checker.proofs.Folds.{all_seen}
use Rattle.checker.proofs.allowances.keeps_in_authority.Goals as goal

pub returns-in-Ceilings : goal.returns-in-Ceilings
returns-in-Ceilings c =
    let ceilings = c.args.allowance.now.ceilings.now in
    let all = all_seen (keeps_ceiling c.args.allowance.now.wide c.args.task.now.grants) ceiling_of ceilings _ _ _ c.all.ensures.ran (YieldsList-from_slice ceilings cc)
    (λ x b q k. search (rules, tests)) in
    search (rules, tests)

pub returns-in-Moves : goal.returns-in-Moves
returns-in-Moves c =
    let ceilings = c.args.allowance.now.ceilings.now in
    let stays : Ceiling → Bool = λ source. list_all (stays_in source) (map ceiling_of ceilings) in
    let all = all_seen stays ceiling_of ceilings _ _ _ c.all-in-Moves.ensures.ran (YieldsList-from_slice ceilings cc) (λ x b q k. search (rules, tests)) in
    search (rules, tests)

pub returns-in-Received : goal.returns-in-Received
returns-in-Received c =
    let ends = c.args.allowance.now.ends.now in
    let comes : End → Bool = λ held. may_come c.args.allowance.now.wide (allowance_of c.args.allowance.now) (channel_at c.args.cert.now held.class (other_side held.side)) in
    let all = all_seen comes held_end_of ends _ _ _ c.all-in-Received.ensures.ran (YieldsList-from_slice ends cc) (λ x b q k. search (rules, tests)) in
    search (rules, tests)

pub returns-in-Sent : goal.returns-in-Sent
returns-in-Sent c =
    let ends = c.args.allowance.now.ends.now in
    let widest : End → Bool = λ held. is_widest (channel_at c.args.cert.now held.class held.side) in
    let all = all_seen widest held_end_of ends _ _ _ c.all-in-Sent.ensures.ran (YieldsList-from_slice ends cc) (λ x b q k. search (rules, tests)) in
    search (rules, tests)
