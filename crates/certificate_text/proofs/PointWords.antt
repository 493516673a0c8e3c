-- A word of three parts or more is no point of a program.
use Rattle.std.proofs.Common.{◌≡◌, ℕ, Bool, true, false, List, [], ◌∷◌, ◌++◌, refl, ap, ◌∙◌}
use Rattle.std.specs.Prelude.{cond, Err, ◌==◌}
use Rattle.texts.specs.Parts.{parts, parts_from}
use Rattle.certificate_text.specs.Faults.{Syntax}
use Rattle.certificate_text.specs.Words.{point_of_program}

three_from : (program point text begun : List ℕ) → point_of_program (program ∷ point ∷ parts_from 58 text begun) ≡ Err Syntax
three_from program point [] begun = refl
three_from program point (b ∷ text) begun = go (b == 58) (three_from program point text (begun ++ b ∷ []))
  where
    go : (ends : Bool) → point_of_program (program ∷ point ∷ parts_from 58 text (begun ++ b ∷ [])) ≡ Err Syntax →
        point_of_program (program ∷ point ∷ cond ends (begun ∷ parts_from 58 text []) (parts_from 58 text (begun ++ b ∷ []))) ≡ Err Syntax
    go true rest = refl
    go false rest = rest

pub three_parts : (word program point rest : List ℕ) → parts 58 word ≡ program ∷ point ∷ parts 58 rest → point_of_program (parts 58 word) ≡ Err Syntax
three_parts word program point rest is = ap point_of_program is ∙ three_from program point rest []
