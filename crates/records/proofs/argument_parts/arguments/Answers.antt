use Rattle.std.proofs.Common.{List, ℕ, Bor, map, ap, ◌∙◌}
use Rattle.texts.specs.Parts.{joined}
use Rattle.records.proofs.PartLaws.{joined-last}
use Rattle.records.proofs.argument_parts.arguments.Goals as goal

pub returns : goal.returns
returns c =
    ap (λ (ps : List (Bor (List ℕ))). joined 44 (map (λ part. part.now) ps)) c.in_ok-push-2.ensures.items ∙ joined-last c.loop-at.parts.items _ ∙ c.loop-at.invariant
