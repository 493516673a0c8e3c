-- Rows of what stands where in a text.
use Rattle.std.proofs.Common.{◌≡◌, ◌<◌, ℕ, ◌-◌, ◌^◌, List, [], ◌∷◌, ◌++◌, Bool, true, false, refl, sym, ap, ◌∙◌, arith}
use Rattle.std.specs.Prelude.{codes, min, nat_lt, None, Some, if◌then◌else◌}
use Rattle.std.specs.Fmt.{decimal}
use Rattle.std.specs.List.{flat_map}
use Rattle.task_text.specs.FaultLines.{more_line, placed_line}
use Rattle.task_text.specs.FaultViews.{AddsFaultLines}
use Rattle.texts.specs.declared.pages.Page.{Page}
use Rattle.task_text.specs.Instructions.{line_there, text_there}
use Rattle.task_text.specs.NearWords.{is_one_of, meant_of}
use Rattle.task_text.specs.Places.{part, place_at}
use Rattle.task_text.specs.RightWords.{right_words}

-- a byte of the second line, the line feed before it, and the end
second_line : place_at (codes "a\nbc") 3 ≡ (2, 2)
second_line = refl

line_feed : place_at (codes "a\nbc") 1 ≡ (1, 2)
line_feed = refl

text_end : place_at (codes "a\nbc") 9 ≡ (2, 3)
text_end = refl

-- a part, and none where the offsets aren't in order
part_there : part (codes "abcd") 1 3 ≡ codes "bc"
part_there = refl

part_out_of_order : part (codes "abcd") 3 1 ≡ []
part_out_of_order = refl

-- the text of an instruction, and its line
text_of_instruction : text_there (codes "halt\n\nend") (Some (6, 9)) ≡ codes "end"
text_of_instruction = refl

line_of_instruction : line_there (codes "x\n\nhalt") (3 ∷ 4 ∷ []) 7 (Some (1, 2)) ≡ 3
line_of_instruction = refl

-- a further right is a word of a task that asks for further rights alone, and is meant there alone
further_word : is_one_of (right_words true) (codes "EVENT") ≡ true
further_word = refl

no_further_word : is_one_of (right_words false) (codes "EVENT") ≡ false
no_further_word = refl

further_word_meant : meant_of (right_words true) (codes "CAP_MMAP_R") ≡ Some (codes "MMAP_R")
further_word_meant = refl

no_further_word_meant : meant_of (right_words false) (codes "CAP_MMAP_R") ≡ None
no_further_word_meant = refl

-- a line of how many more, and none where there are no more
more_faults : more_line 12 ≡ codes "faults that are left out: " ++ decimal 12 ++ codes "\n"
more_faults = refl

no_more_faults : more_line 0 ≡ []
no_more_faults = refl

-- Whatever the faults are, what is told of them begins a line of its own: nothing else is added.
abbrev first : List ℕ → ℕ
first [] = 0
first (byte ∷ text) = byte

unlike : (a b : ℕ) → a < b → a ≡ b → ⊥
unlike a b below same = absurd (omega arith)

told_of : (file : List ℕ) (faults : List (ℕ × List ℕ)) (more : ℕ) → flat_map (placed_line file) faults ++ more_line more ≡ codes "x" → ⊥
told_of file [] more is = go (nat_lt 0 more) is
  where
    go : (some : Bool) → (if some then codes "faults that are left out: " ++ decimal (min more (2 ^ 32 - 1)) ++ codes "\n" else []) ≡ codes "x" → ⊥
    go true is = unlike 102 120 (omega arith) (ap first is)
    go false is = unlike 0 120 (omega arith) (ap first is)
told_of file (fault ∷ faults) more is = unlike 108 120 (omega arith) (ap first is)

another_text : (file : List ℕ) (before after : Page) → after.is_short ≡ false → before.bytes.items ≡ [] → after.bytes.items ≡ codes "x" → AddsFaultLines file before after → ⊥
another_text file before after whole empty is adds =
    told_of file adds.faults adds.more
    (ap (λ text. text ++ (flat_map (placed_line file) adds.faults ++ more_line adds.more)) (sym empty) ∙ sym (adds.tells.adds whole) ∙ is)
