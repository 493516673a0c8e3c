use Rattle.std.proofs.Common.{◌≡◌, true, false, sym, ◌∙◌, ap}
use Rattle.std.specs.Prelude.{not}
use Rattle.std.specs.List.{list_all}
use Rattle.task.specs.Plans.{NamedProgram, none_marked}
use Rattle.searcher.proofs.proposing.propose.Goals as goal

-- here some program is marked
clash : (c : goal.After-found) → none_marked c.args.task.now ≡ true → ⊥
clash c trusted =
    let is : false ≡ true = sym c.if-none_marked.false ∙ c.none_marked.ensures ∙ ap (list_all (λ (p : NamedProgram). not p.marked)) c.programs.ensures.programs ∙ trusted in absurd cc

pub returns-clause-version : goal.returns-clause-version
returns-clause-version c = λ trusted. absurd (clash c trusted)

pub returns-clause-short : goal.returns-clause-short
returns-clause-short c = λ trusted. absurd (clash c trusted)
