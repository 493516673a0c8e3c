-- The text of a certificate is that of its pieces.
use Rattle.std.proofs.Common.{◌≡◌, ℕ, ◌+◌, Bool, true, false, cond, List, [], ◌∷◌, ◌++◌, map, refl, ap, sym, ◌∙◌, append_assoc}
use Rattle.std.specs.List.{flat_map}
use Rattle.certificate.specs.Bounds.{Interval, Slot, PointBound, ChannelBound, Ceiling, End, Authority, Version, Certificate}
use Rattle.certificate.specs.Lines.{Begins_authority, Begins_block, Bounds_channel, Bounds_grant, Bounds_register, Bounds_slot, Holds_end, authority_lines, block_lines, is_closed, is_full}
use Rattle.certificate.specs.Lines.{lines_of, register_lines, rest_lines, slot_lines}
use Rattle.certificate_text.specs.Pieces.{authority_text, block_text, ceiling_text, channel_text, end_text, in_order, line_ended, register_text, slot_text}
use Rattle.certificate_text.specs.Texts.{certificate_text, ended_line, first_line, end_line}

pub flat-more : {A : Type 0} (f : A → List ℕ) (xs ys : List A) → flat_map f (xs ++ ys) ≡ flat_map f xs ++ flat_map f ys
flat-more f [] ys = refl
flat-more f (x ∷ xs) ys = ap (λ rest. f x ++ rest) (flat-more f xs ys) ∙ sym (append_assoc (f x) (flat_map f xs) (flat_map f ys))

module _ (version : Version) where
  pub registers-text : (n : ℕ) (intervals : List Interval) → in_order (register_text version) n intervals ≡ flat_map (line_ended version) (register_lines n intervals)
  unfolding in_order register_lines
  registers-text n [] = refl
  registers-text n (i ∷ intervals) = go (is_full i) (registers-text (n + 1) intervals)
    where
      go : (full : Bool) → in_order (register_text version) (n + 1) intervals ≡ flat_map (line_ended version) (register_lines (n + 1) intervals) →
          cond full [] (line_ended version (Bounds_register n i)) ++ in_order (register_text version) (n + 1) intervals ≡ flat_map (line_ended version)
          (cond full (register_lines (n + 1) intervals) (Bounds_register n i ∷ register_lines (n + 1) intervals))
      go true rest = rest
      go false rest = ap (λ text. line_ended version (Bounds_register n i) ++ text) rest

  pub slots-text : (n : ℕ) (slots : List Slot) → in_order (slot_text version) n slots ≡ flat_map (line_ended version) (slot_lines n slots)
  unfolding in_order slot_lines
  slots-text n [] = refl
  slots-text n (s ∷ slots) = go (is_closed s) (slots-text (n + 1) slots)
    where
      go : (closed : Bool) → in_order (slot_text version) (n + 1) slots ≡ flat_map (line_ended version) (slot_lines (n + 1) slots) →
          cond closed [] (line_ended version (Bounds_slot n s))
          ++ in_order (slot_text version) (n + 1) slots ≡ flat_map (line_ended version)
          (cond closed (slot_lines (n + 1) slots) (Bounds_slot n s ∷ slot_lines (n + 1) slots))
      go true rest = rest
      go false rest = ap (λ text. line_ended version (Bounds_slot n s) ++ text) rest

  pub block-text : (b : PointBound) → line_ended version (Begins_block b.program b.point b.bound.mode)
      ++ (in_order (register_text version) 0 b.bound.registers ++ in_order (slot_text version) 0 b.bound.slots) ≡ block_text version b
  block-text b =
      ap (λ rest. line_ended version (Begins_block b.program b.point b.bound.mode) ++ rest)
      (ap (λ text. text ++ in_order (slot_text version) 0 b.bound.slots) (registers-text 0 b.bound.registers)
      ∙ ap (λ text. flat_map (line_ended version) (register_lines 0 b.bound.registers) ++ text) (slots-text 0 b.bound.slots)
      ∙ sym (flat-more (line_ended version) (register_lines 0 b.bound.registers) (slot_lines 0 b.bound.slots)))

  pub blocks-text : (n : ℕ) (points : List PointBound) → in_order (λ n. block_text version) n points ≡ flat_map (line_ended version) (flat_map block_lines points)
  unfolding in_order
  blocks-text n [] = refl
  blocks-text n (b ∷ points) = ap (λ rest. block_text version b ++ rest) (blocks-text (n + 1) points) ∙ sym (flat-more (line_ended version) (block_lines b) (flat_map block_lines points))

  pub channels-text : (n : ℕ) (channels : List ChannelBound) → in_order (λ n. channel_text version) n channels ≡ flat_map (line_ended version) (map Bounds_channel channels)
  unfolding in_order
  channels-text n [] = refl
  channels-text n (channel ∷ channels) = ap (λ rest. channel_text version channel ++ rest) (channels-text (n + 1) channels)

  pub ceilings-text : (n : ℕ) (ceilings : List Ceiling) → in_order (λ n. ceiling_text version) n ceilings ≡ flat_map (line_ended version) (map Bounds_grant ceilings)
  unfolding in_order
  ceilings-text n [] = refl
  ceilings-text n (ceiling ∷ ceilings) = ap (λ rest. ceiling_text version ceiling ++ rest) (ceilings-text (n + 1) ceilings)

  pub ends-text : (n : ℕ) (holds : List End) → in_order (λ n. end_text version) n holds ≡ flat_map (line_ended version) (map Holds_end holds)
  unfolding in_order
  ends-text n [] = refl
  ends-text n (held ∷ holds) = ap (λ rest. end_text version held ++ rest) (ends-text (n + 1) holds)

  pub authority-text : (a : Authority) → line_ended version (Begins_authority a.program)
      ++ (in_order (λ n. ceiling_text version) 0 a.ceilings ++ in_order (λ n. end_text version) 0 a.holds) ≡ authority_text version a
  authority-text a =
      ap (λ rest. line_ended version (Begins_authority a.program) ++ rest)
      (ap (λ text. text ++ in_order (λ n. end_text version) 0 a.holds) (ceilings-text 0 a.ceilings)
      ∙ ap (λ text. flat_map (line_ended version) (map Bounds_grant a.ceilings) ++ text) (ends-text 0 a.holds)
      ∙ sym (flat-more (line_ended version) (map Bounds_grant a.ceilings) (map Holds_end a.holds)))

  pub authorities-text : (n : ℕ) (authorities : List Authority) → in_order (λ n. authority_text version) n authorities ≡ flat_map (line_ended version) (flat_map authority_lines authorities)
  unfolding in_order
  authorities-text n [] = refl
  authorities-text n (a ∷ authorities) =
      ap (λ rest. authority_text version a ++ rest) (authorities-text (n + 1) authorities) ∙ sym (flat-more (line_ended version) (authority_lines a) (flat_map authority_lines authorities))

pub whole-text : (c : Certificate) → ended_line (first_line c.version)
    ++ (in_order (λ n. block_text c.version) 0 c.points
    ++ (in_order (λ n. channel_text c.version) 0 c.channels ++ (in_order (λ n. authority_text c.version) 0 c.authorities ++ ended_line end_line))) ≡ certificate_text c
whole-text c =
    let version = c.version in
    let blocks = flat_map block_lines c.points in
    let channels = map Bounds_channel c.channels in
    let authorities = flat_map authority_lines c.authorities in
    ap (λ rest. ended_line (first_line c.version) ++ rest)
    ((λ i. blocks-text version 0 c.points i ++ (channels-text version 0 c.channels i ++ (authorities-text version 0 c.authorities i ++ ended_line end_line)))
    ∙ ap (λ rest. flat_map (line_ended version) blocks ++ rest)
    (sym (append_assoc (flat_map (line_ended version) channels) (flat_map (line_ended version) authorities) (ended_line end_line))
    ∙ ap (λ text. text ++ ended_line end_line) (sym (flat-more (line_ended version) channels authorities)))
    ∙ sym (append_assoc (flat_map (line_ended version) blocks) (flat_map (line_ended version) (rest_lines c)) (ended_line end_line))
    ∙ ap (λ text. text ++ ended_line end_line) (sym (flat-more (line_ended version) blocks (rest_lines c))))
    ∙ sym (append_assoc (ended_line (first_line c.version)) (flat_map (line_ended version) (lines_of c)) (ended_line end_line))
