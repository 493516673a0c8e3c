use Rattle.std.proofs.Common.{◌≡◌, rules, tests}
use Rattle.std.proofs.lemmas.Iterator.{YieldsList-from_slice}
use Rattle.std.specs.List.{list_any}
use Rattle.instruction_set.specs.Views.{code_of, instruction_of}
use Rattle.rules.specs.Expansions.{names_point}
use Rattle.checker.proofs.Folds.{any_seen}
use Rattle.checker.proofs.points.is_named.Goals as goal

pub returns-else-point-eq0 : goal.returns-else-point-eq0
returns-else-point-eq0 c =
    let any : c.any.result ≡ list_any (names_point c.args.point) (code_of c.args.code.now) =
    any_seen (names_point c.args.point) instruction_of c.args.code.now _ _ _ c.any.ensures.ran (YieldsList-from_slice c.args.code.now cc) (λ x b q k. search (rules, tests)) in
    search (rules, tests)
