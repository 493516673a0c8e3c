use Rattle.std.proofs.Common.{◌≡◌, ℕ, List, ◌++◌, Bor}
use Rattle.std.specs.Prelude.{IfSome, MatchOption, Option, Some, None}
use Rattle.std.proofs.lemmas.Bool.Decides.{Decides-eqb}
use Rattle.std.proofs.lemmas.Slice.Eq.{strip_prefix_is}
use mathlib.Core.Logic.{◌≢◌}
use Rattle.answers.proofs.showing.behind.Goals as goal

if_there : (s p : List ℕ) (r : Option (Bor (List ℕ))) → MatchOption r ((rest : List ℕ) → s ≢ p ++ rest) (λ x. s ≡ p ++ x.now) → IfSome r (λ x. s ≡ p ++ x.now)
if_there s p None is = tt
if_there s p (Some x) is = is

pub returns : goal.returns
returns c =
    if_there c.args.text.now c.args.words.now c.strip_prefix.result
    (strip_prefix_is Decides-eqb c.args.text.now c.args.words.now c.strip_prefix.result c.strip_prefix.ensures.cases)
