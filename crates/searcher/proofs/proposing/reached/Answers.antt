use Rattle.std.proofs.Common.{◌≡◌, true, false, sym, ◌∙◌, ap}
use Rattle.std.specs.Prelude.{not}
use Rattle.std.specs.List.{list_all}
use Rattle.task.specs.Plans.{NamedProgram}
use Rattle.searcher.proofs.proposing.reached.Goals as goal

-- either no program is marked, or some is
pub returns-then-none_marked-clause-marked : goal.returns-then-none_marked-clause-marked
returns-then-none_marked-clause-marked c = λ marked.
    let is : true ≡ false = sym c.if-none_marked.true ∙ c.none_marked.ensures ∙ ap (list_all (λ (p : NamedProgram). not p.marked)) c.programs.ensures.programs ∙ marked in
    absurd cc

pub returns-clause-unmarked : goal.returns-clause-unmarked
returns-clause-unmarked c = λ trusted.
    let is : false ≡ true = sym c.if-none_marked.false ∙ c.none_marked.ensures ∙ ap (list_all (λ (p : NamedProgram). not p.marked)) c.programs.ensures.programs ∙ trusted in
    absurd cc
