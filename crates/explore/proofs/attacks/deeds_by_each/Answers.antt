use Rattle.std.proofs.Common.{List, [], ◌∷◌, ◌∙◌, ap, arith, length, length-append, subst, sym, map}
use Rattle.std.proofs.Math.ListN.{length-map}
use Rattle.std.proofs.lemmas.List.{map-append}
use Rattle.explore.specs.declared.attacks.ByNumber.{ByNumber}
use Rattle.explore.specs.Attacks.{AreTriedByEach, IsTriedBy}
use Rattle.explore.specs.DeedViews.{deeds_in}
use Rattle.explore.proofs.Trying.{tried_more}
use Rattle.explore.proofs.attacks.deeds_by_each.Goals as goal

pub loop-number-preserved : goal.loop-number-preserved
loop-number-preserved c =
    let before : List ByNumber = c.loop-number.by_number.items in
    let deeds : ByNumber = c.in_ok-deeds_by.field-0 in
    let items = c.in_ok-push.ensures.items in
    record {
      numbers = omega (arith, ap length items, length-append before (deeds ∷ []));
      calls =
          subst AreTriedByEach (sym (ap (map deeds_in) items ∙ map-append deeds_in before (deeds ∷ [])))
          (tried_more (map deeds_in before) (deeds_in deeds) c.loop-number.invariant.calls
          (subst (λ n. IsTriedBy n (deeds_in deeds)) (sym (length-map before deeds_in ∙ c.loop-number.invariant.numbers)) c.in_ok-deeds_by.ensures));
    }
