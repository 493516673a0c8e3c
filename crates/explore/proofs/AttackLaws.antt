-- How runs of attackers are told.
use Rattle.std.proofs.Common.{◌≡◌, ◌++◌, ◌∙◌, List, Some, None, ap, append_assoc, refl, subst, sym, ℕ}
use Rattle.std.specs.Prelude.{Option, codes}
use Rattle.std.specs.Fmt.{decimal}
use Rattle.simulator.specs.Lines.{ShownStep}
use Rattle.simulator.specs.Traces.{acted_text}
use Rattle.task.specs.Plans.{Plan}
use Rattle.texts.proofs.PageLaws.{adds_both}
use Rattle.texts.specs.PageViews.{Adds}
use Rattle.texts.specs.declared.pages.Page.{Page}
use Rattle.explore.specs.DeedTexts.{OwnStepsAreTraced, done_text}

-- A step without an attacker is told as a trace tells it.
done_so : (plan : Plan) (acted : Option ShownStep) → done_text plan None acted ≡ acted_text plan acted
done_so plan None = refl
done_so plan (Some a) = refl

pub own_steps : OwnStepsAreTraced
own_steps = λ plan line. ap (λ text. decimal line.process ++ text ++ codes "\n") (done_so plan line.acted)

-- four parts of a text, of which the second begins with the end of a line
pub run_added : (p q r s t : Page) (schedule trace broken last : List ℕ) → Adds p q schedule → Adds q r (codes "\n" ++ trace) → Adds r s broken → Adds s t last
    → Adds p t ((schedule ++ codes "\n") ++ (trace ++ (broken ++ last)))
run_added p q r s t schedule trace broken last first second third fourth =
    subst (λ (text : List ℕ). Adds p t text)
    (ap (λ text. schedule ++ text) (append_assoc (codes "\n") trace (broken ++ last)) ∙ sym (append_assoc schedule (codes "\n") (trace ++ (broken ++ last))))
    (adds_both p q t schedule ((codes "\n" ++ trace) ++ (broken ++ last)) first
    (adds_both q r t (codes "\n" ++ trace) (broken ++ last) second (adds_both r s t broken last third fourth)))
