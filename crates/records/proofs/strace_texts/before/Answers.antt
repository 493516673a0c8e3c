use Rattle.std.proofs.Common.{◌≡◌, ℕ, List, ◌++◌, Bor}
use Rattle.std.specs.Prelude.{IfSome, MatchOption, Option, Some, None}
use Rattle.std.proofs.lemmas.Bool.Decides.{Decides-eqb}
use Rattle.std.proofs.lemmas.Slice.Eq.{strip_suffix_is}
use mathlib.Core.Logic.{◌≢◌}
use Rattle.records.proofs.strace_texts.before.Goals as goal

if_there : (s p : List ℕ) (r : Option (Bor (List ℕ))) → MatchOption r ((front : List ℕ) → s ≢ front ++ p) (λ x. s ≡ x.now ++ p) → IfSome r (λ x. s ≡ x.now ++ p)
if_there s p None is = tt
if_there s p (Some x) is = is

pub returns : goal.returns
returns c =
    if_there c.args.text.now c.args.ending.now c.strip_suffix.result
    (strip_suffix_is Decides-eqb c.args.text.now c.args.ending.now c.strip_suffix.result c.strip_suffix.ensures.cases)
