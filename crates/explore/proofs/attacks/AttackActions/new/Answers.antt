use Rattle.std.proofs.Common.{◌≡◌, true, false, ◌∙◌, ap, arith, map, refl, subst, sym}
use Rattle.std.specs.Prelude.{not}
use Rattle.std.specs.List.{list_all}
use Rattle.std.proofs.Math.ListN.{length-map}
use Rattle.task.specs.Plans.{NamedProgram, none_marked}
use Rattle.explore.specs.Attacks.{AreTried}
use Rattle.explore.specs.DeedViews.{deeds_in}
use Rattle.explore.proofs.attacks.AttackActions.new.Goals as goal

pub returns-then-none_marked : goal.returns-then-none_marked
returns-then-none_marked c =
    let all : none_marked c.args.task.now ≡ true =
    ap (list_all (λ (p : NamedProgram). not p.marked)) (sym c.programs.ensures.programs) ∙ sym c.none_marked.ensures ∙ c.if-none_marked.true
    in
    subst (λ deeds. AreTried c.args.task.now (map deeds_in deeds)) (sym c.new.ensures.items)
    (record { nothing = λ on. refl; numbers = λ off. absurd cc; calls = λ n below. absurd (omega arith) })

pub returns : goal.returns
returns c =
    let some : none_marked c.args.task.now ≡ false =
    ap (list_all (λ (p : NamedProgram). not p.marked)) (sym c.programs.ensures.programs) ∙ sym c.none_marked.ensures ∙ c.if-none_marked.false
    in
    record { nothing = λ on. absurd cc; numbers = λ off. length-map c.in_ok-by_number.by_number.items deeds_in ∙ c.in_ok-by_number.ensures.numbers; calls = c.in_ok-by_number.ensures.calls }
