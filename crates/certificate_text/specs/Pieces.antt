-- The text of a certificate in pieces, one for each register, slot, block and channel, and for each authority and its parts. (own)
use Rattle.std.specs.Prelude.{◌+◌, ℕ, List, [], ◌∷◌, ◌++◌, if◌then◌else◌}
use Rattle.std.specs.List.{flat_map}
use Rattle.certificate.specs.Bounds.{Interval, Slot, PointBound, ChannelBound, Ceiling, End, Authority, Version}
use Rattle.certificate.specs.Lines.{Line, Bounds_register, Bounds_slot, Bounds_channel, Bounds_grant, Holds_end, authority_lines, block_lines, is_closed, is_full}
use Rattle.certificate_text.specs.Texts.{ended_line, line_text}

abbrev pub line_ended : Version → Line → List ℕ
line_ended version line = ended_line (line_text version line)

abbrev pub register_text : Version → ℕ → Interval → List ℕ
register_text version n i = if is_full i then [] else line_ended version (Bounds_register n i)

abbrev pub slot_text : Version → ℕ → Slot → List ℕ
slot_text version n s = if is_closed s then [] else line_ended version (Bounds_slot n s)

abbrev pub block_text : Version → PointBound → List ℕ
block_text version b = flat_map (line_ended version) (block_lines b)

abbrev pub channel_text : Version → ChannelBound → List ℕ
channel_text version channel = line_ended version (Bounds_channel channel)

abbrev pub ceiling_text : Version → Ceiling → List ℕ
ceiling_text version ceiling = line_ended version (Bounds_grant ceiling)

abbrev pub end_text : Version → End → List ℕ
end_text version held = line_ended version (Holds_end held)

abbrev pub authority_text : Version → Authority → List ℕ
authority_text version a = flat_map (line_ended version) (authority_lines a)

-- the texts of numbered things, one after another
unfoldable pub in_order : {A : Type 0} → (ℕ → A → List ℕ) → ℕ → List A → List ℕ
in_order text n [] = []
in_order text n (x ∷ xs) = text n x ++ in_order text (n + 1) xs
