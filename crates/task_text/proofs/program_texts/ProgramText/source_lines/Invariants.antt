use Rattle.std.proofs.Common.{◌≡◌, map}
use Rattle.task_text.specs.Places.{place_at}
use Rattle.task_text.specs.PlaceViews.{place_seen}
use Rattle.task_text.specs.SourceViews.{line_shown, texts_in}
use Rattle.texts.specs.LineViews.{line_of}
use Rattle.task_text.proofs.program_texts.ProgramText.source_lines.Given as goal

-- the cursor stands where it says, and all of the lines so far is shown
abbrev pub invariant-loop-line : goal.invariant-loop-line
invariant-loop-line l =
    (place_seen l.cursor.place ≡ place_at l.file l.cursor.offset)
    × (map line_shown l.list.items ≡ texts_in (map line_of l.yielded))
    × (goal.iterator-loop-line).can_next l.line-iterator
    × (goal.iterator-loop-line).is_finite l.line-iterator
