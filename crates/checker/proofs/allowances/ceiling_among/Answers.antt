use Rattle.std.proofs.Common.{◌∙◌, ap, map, sym, rules, tests}
use Rattle.std.proofs.lemmas.Iterator.{YieldsList-from_slice}
use Rattle.std.specs.Prelude.{option_map}
use Rattle.std.specs.Str.{bytes_eq}
use Rattle.certificate.specs.Bounds.{Ceiling}
use Rattle.certificate.specs.Views.{ceiling_of}
use Rattle.checker.proofs.Folds.{find_seen}
use Rattle.checker.proofs.Found.{rights_found, rights_of}
use Rattle.checker.proofs.allowances.ceiling_among.Goals as goal

pub returns-in-None : goal.returns-in-None
returns-in-None c =
    let ceilings = c.args.ceilings.now in
    let found = find_seen (λ (d : Ceiling). bytes_eq d.grant c.args.grant.now) ceiling_of ceilings _ _ _ c.find.ensures.ran (YieldsList-from_slice ceilings cc)
    (λ x b q k. search (rules, tests)) in
    c.empty.ensures ∙ ap rights_of (ap (option_map (λ x. ceiling_of x.now)) (sym c.in-None.is) ∙ found) ∙ rights_found c.args.grant.now (map ceiling_of ceilings)

pub returns-in-Some : goal.returns-in-Some
returns-in-Some c =
    let ceilings = c.args.ceilings.now in
    let found = find_seen (λ (d : Ceiling). bytes_eq d.grant c.args.grant.now) ceiling_of ceilings _ _ _ c.find.ensures.ran (YieldsList-from_slice ceilings cc)
    (λ x b q k. search (rules, tests)) in
    c.rights.ensures ∙ ap rights_of (ap (option_map (λ x. ceiling_of x.now)) (sym c.in-Some.is) ∙ found) ∙ rights_found c.args.grant.now (map ceiling_of ceilings)
