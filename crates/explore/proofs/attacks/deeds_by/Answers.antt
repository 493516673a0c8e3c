use Rattle.std.proofs.Common.{◌≡◌, ◌++◌, ◌∙◌, ap, List, refl, subst, sym}
use Rattle.instruction_set.specs.Programs.{Instruction}
use Rattle.explore.specs.Attacks.{GoBy, limits_by}
use Rattle.explore.proofs.Trying.{go_append}
use Rattle.explore.proofs.attacks.deeds_by.Goals as goal

pub returns : goal.returns
returns c =
    let plain : List Instruction = c.take-plain.result.items in
    let named : List Instruction = c.growing.inside.deeds.items in
    let limits : c.in_ok-limits.limits.items ≡ limits_by c.args.number = c.in_ok-limits.ensures in
    record {
      go =
          go_append c.args.number (plain ++ named) c.in_ok-limits.limits.items
          (go_append c.args.number plain named (subst (λ n. GoBy n plain) (c.add_uses.ensures ∙ c.add_plain.ensures) c.take-plain.ensures.taken)
          (subst (λ n. GoBy n named) (c.growing.view_is ∙ c.loop-name.invariant) c.growing.invariant))
          (subst (GoBy c.args.number) (sym limits) (refl, (refl, tt)));
      others = plain ++ named;
      limits = ap (λ limits. (plain ++ named) ++ limits) limits;
    }
