use Rattle.std.proofs.Common.{◌+◌, ◌++◌, ◌∷◌, [], List, map, drop, ap, sym, ◌∙◌, append_assoc, append-nil}
use Rattle.std.proofs.lemmas.List.{at_drop_all, at_drop_more, map-append}
use Rattle.task_reader.specs.declared.written.WrittenGrant.{WrittenGrant as GrantCode}
use Rattle.task_reader.specs.Written.{names_of_grants}
use Rattle.task_reader.specs.WrittenViews.{grants_seen}
use Rattle.task_reader.proofs.readers.grant_names.Goals as goal

pub loop-grant-preserved : goal.loop-grant-preserved
loop-grant-preserved c =
    let grants = c.args.grants.now in
    let i = c.loop-grant.grant-index in
    let item = c.grant-item.result in
    let names = c.loop-grant.names.items in
    let left = names_of_grants (grants_seen (drop (i + 1) grants)) in
    c.loop-grant.invariant
    ∙ ap (λ rest. map (λ n. n.now) names ++ rest)
    (at_drop_more (λ (gs : List GrantCode). names_of_grants (grants_seen gs)) grants i item c.loop-grant-test.true ∙ ap (λ (g : GrantCode). g.name.now ∷ left) (sym c.grant-item.is))
    ∙ sym (append_assoc (map (λ n. n.now) names) (item.name.now ∷ []) left)
    ∙ ap (λ more. more ++ left) (sym (ap (map (λ n. n.now)) c.in_ok-push.ensures.items ∙ map-append (λ n. n.now) names (item.name ∷ [])))

pub returns : goal.returns
returns c =
    sym (c.loop-grant.invariant
    ∙ ap (λ rest. map (λ n. n.now) c.loop-grant.names.items ++ rest)
    (at_drop_all (λ (gs : List GrantCode). names_of_grants (grants_seen gs)) c.args.grants.now c.loop-grant.grant-index c.loop-grant-test.false)
    ∙ append-nil (map (λ n. n.now) c.loop-grant.names.items))
