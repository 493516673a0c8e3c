-- Where a call passes nothing, it uses no channel.
use Rattle.std.proofs.Common.{◌≡◌, true, List, [], ◌∷◌, map, refl, ap, ◌∙◌}
use Rattle.std.specs.Prelude.{◌&&◌}
use Rattle.certificate.specs.Bounds.{Bound, Certificate}
use Rattle.rules.specs.Channels.{all_have_channels, has_channel}
use Rattle.rules.specs.Needs.{Need, Nothing}
use Rattle.rules.specs.Slots.{OpenSlot}
use Rattle.rules.specs.Uses.{passing_in, use_of}

pub nothing_passed : (c : Certificate) (b : Bound) (n : Need) → n.passed ≡ Nothing → (slots : List OpenSlot) → all_have_channels c (map (use_of b n) slots) ≡ true
nothing_passed c b n nothing [] = refl
nothing_passed c b n nothing (slot ∷ slots) =
    ap (λ passed. has_channel c (use_of b n slot) (passing_in b passed) && all_have_channels c (map (use_of b n) slots)) nothing
    ∙ nothing_passed c b n nothing slots
