-- What the code's frames stand for, and when they can be read.
use Rattle.std.specs.Prelude.{All, List, length}
use Rattle.std.specs.List.{AllPairs}
use Rattle.page.specs.declared.board.Frame.{Frame}
use Rattle.page.specs.declared.frames.TextLine.{TextLine}
use Rattle.page.specs.Layout.{Apart, Area, FitsIn, Letters}

abbrev pub area_of : Frame → Area
area_of f = record { left = f.left; top = f.top; width = f.width; height = f.block.height }

abbrev pub letters_of : Frame → TextLine → Letters
letters_of f line = record { count = length line.letters.items; indent = f.indent; more = f.more; baseline = line.baseline }

abbrev pub FramesApart : Frame → Frame → Type 0
FramesApart f g = Apart (area_of f) (area_of g)

-- each two frames of the boxes and the panels lie apart
pub record LieApart (boxes panels : List Frame) : Type 0 where
  pub boxes_apart : AllPairs FramesApart boxes
  pub panels_apart : AllPairs FramesApart panels
  pub both_apart : All (λ f. All (FramesApart f) panels) boxes

-- each line of letters ends before its frame does
abbrev pub LettersFit : List Frame → Type 0
LettersFit frames = All (λ f. All (λ line. FitsIn (area_of f) (letters_of f line)) f.block.lines.items) frames
