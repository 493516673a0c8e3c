use Rattle.std.proofs.Common.{◌≡◌, ◌∷◌, [], sym, subst}
use Rattle.std.specs.Prelude.{option_map}
use Rattle.texts.specs.Parts.{Begins, parts}
use Rattle.texts.proofs.PartLaws.{begins_some}
use Rattle.simulator.proofs.LinesRead.{faulty-line, unended-line}
use Rattle.simulator.proofs.schedule.first_event.Goals as goal

pub returns-in_err-rest : goal.returns-in_err-rest
returns-in_err-rest c =
    let text = c.args.text.now in
    let only : parts 10 text ≡ c.first_part.result.0.now ∷ [] =
    subst (λ o. Begins (parts 10 text) 10 c.first_part.result.0.now (option_map (λ rest. rest.now) o)) c.in_err-rest.was c.first_part.ensures.parts
    in
    let fault = unended-line text c.first_part.result.0.now c.requires only in
    rw c.from_residual.ensures fault

pub returns-in_err-event : goal.returns-in_err-event
returns-in_err-event c =
    let text = c.args.text.now in
    let more : parts 10 text ≡ c.first_part.result.0.now ∷ parts 10 c.in_ok-rest.rest.now =
    begins_some (λ rest. rest.now) (parts 10 text) 10 c.first_part.result.0.now c.first_part.result.1 c.in_ok-rest.rest c.first_part.ensures.parts c.in_ok-rest.was
    in
    let fault = faulty-line text c.first_part.result.0.now c.in_ok-rest.rest.now more (sym c.in_err-event.ensures) in
    rw c.from_residual-in_err-event.ensures fault
