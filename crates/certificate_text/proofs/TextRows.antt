-- Certificates have their texts, and these are read as them, by computation.
use Rattle.std.proofs.Common.{◌≡◌, ap, arith, refl}
use Rattle.std.specs.List.{slice_index_or}
use Rattle.std.specs.Prelude.{[], ◌∷◌, codes, length, Ok}
use Rattle.certificate.specs.Bounds.{Off, Version, One, Two, Three, Four, Certificate}
use Rattle.certificate.specs.Growth.{asked_of_last, with_last, empty, open_bound, taken, distinct_behind, above_blocks, above_channels, may_bound_register, may_bound_slot, all_from, on_last}
use Rattle.certificate.specs.Lines.{register_lines, slot_lines}
use Rattle.std.specs.Fmt.{digits}
use Rattle.certificate_text.specs.Texts.{certificate_text, line_text}
use Rattle.certificate_text.specs.Readings.{certificate_of_text, line_of_text, read_behind}
use Rattle.certificate_text.proofs.Samples.{at_main, authority_lines, channel_lines, further_lines, text, three_blocks, three_points, with_authority, with_channels, with_further}

three_points_text : certificate_text three_points ≡ three_blocks
unfolding digits line_text register_lines slot_lines
three_points_text = refl

of_261_bytes : length three_blocks ≡ 261
of_261_bytes = refl

three_points_read : certificate_of_text three_blocks ≡ Ok three_points
unfolding certificate_of_text read_behind line_of_text taken distinct_behind above_blocks above_channels may_bound_register may_bound_slot all_from on_last
three_points_read = refl

with_channels_text : certificate_text with_channels ≡ text channel_lines
unfolding digits line_text register_lines slot_lines
with_channels_text = refl

with_channels_read : certificate_of_text (text channel_lines) ≡ Ok with_channels
unfolding certificate_of_text read_behind line_of_text taken distinct_behind above_blocks above_channels may_bound_register may_bound_slot all_from on_last
with_channels_read = refl

nothing_read : certificate_of_text (text (codes "capcert 1" ∷ codes "end" ∷ [])) ≡ Ok (empty One)
unfolding certificate_of_text read_behind line_of_text taken distinct_behind above_blocks above_channels may_bound_register may_bound_slot all_from on_last
nothing_read = refl

nothing_of_version_2_read : certificate_of_text (text (codes "capcert 2" ∷ codes "end" ∷ [])) ≡ Ok (empty Two)
unfolding certificate_of_text read_behind line_of_text taken distinct_behind above_blocks above_channels may_bound_register may_bound_slot all_from on_last
nothing_of_version_2_read = refl

-- a block without lines is another certificate than none
abbrev empty_block : Version → Certificate
empty_block version = record { version = version; points = at_main 0 (open_bound Off) ∷ []; channels = []; authorities = [] }

empty_block_text : certificate_text (empty_block One) ≡ text (codes "capcert 1" ∷ codes "at main 0 off" ∷ codes "end" ∷ [])
unfolding digits line_text register_lines slot_lines
empty_block_text = refl

empty_block_read : certificate_of_text (text (codes "capcert 1" ∷ codes "at main 0 off" ∷ codes "end" ∷ [])) ≡ Ok (empty_block One)
unfolding certificate_of_text read_behind line_of_text taken distinct_behind above_blocks above_channels may_bound_register may_bound_slot all_from on_last
empty_block_read = refl

-- the same block in version 2
block_of_version_2_text : certificate_text (empty_block Two) ≡ text (codes "capcert 2" ∷ codes "at main 0 off" ∷ codes "end" ∷ [])
unfolding digits line_text register_lines slot_lines
block_of_version_2_text = refl

block_of_version_2_read : certificate_of_text (text (codes "capcert 2" ∷ codes "at main 0 off" ∷ codes "end" ∷ [])) ≡ Ok (empty_block Two)
unfolding certificate_of_text read_behind line_of_text taken distinct_behind above_blocks above_channels may_bound_register may_bound_slot all_from on_last
block_of_version_2_read = refl

-- version 3, with an authority and without
with_authority_text : certificate_text with_authority ≡ text authority_lines
unfolding digits line_text register_lines slot_lines
with_authority_text = refl

with_authority_read : certificate_of_text (text authority_lines) ≡ Ok with_authority
unfolding certificate_of_text read_behind line_of_text taken distinct_behind above_blocks above_channels may_bound_register may_bound_slot all_from on_last asked_of_last with_last
with_authority_read = refl

nothing_of_version_3_read : certificate_of_text (text (codes "capcert 3" ∷ codes "end" ∷ [])) ≡ Ok (empty Three)
unfolding certificate_of_text read_behind
nothing_of_version_3_read = refl

-- an authority without lines is another certificate than none
empty_authority_read : certificate_of_text (text (codes "capcert 3" ∷ codes "auth main" ∷ codes "end" ∷ []))
    ≡ Ok (record (empty Three) { authorities = (record { program = codes "main"; ceilings = []; holds = [] }) ∷ [] })
unfolding certificate_of_text read_behind line_of_text taken distinct_behind asked_of_last with_last
empty_authority_read = refl

-- version 4, with further rights and without
with_further_text : certificate_text with_further ≡ text further_lines
unfolding digits line_text register_lines slot_lines
with_further_text = refl

with_further_read : certificate_of_text (text further_lines) ≡ Ok with_further
unfolding certificate_of_text read_behind line_of_text taken distinct_behind above_blocks above_channels may_bound_register may_bound_slot all_from on_last asked_of_last with_last
with_further_read = refl

nothing_of_version_4_read : certificate_of_text (text (codes "capcert 4" ∷ codes "end" ∷ [])) ≡ Ok (empty Four)
unfolding certificate_of_text read_behind
nothing_of_version_4_read = refl

-- Certificates that differ in their version alone have different texts.
versions_differ : (c : Certificate) → certificate_text (record c { version = One }) ≡ certificate_text (record c { version = Two }) → ⊥
versions_differ c same =
    let ninth : 49 ≡ 50 = ap (λ text. slice_index_or text 8 0) same in
    absurd (omega (arith, ninth))
