-- Frames below each other.
use Rattle.std.proofs.Common.{◌≡◌, ◌+◌, ◌*◌, ◌<◌, ◌≤◌, ◌⊎◌, inl, inr, ℕ, All, Bool, true, false, length, refl, arith}
use Rattle.std.specs.List.{AllPairs, slice_index_or}
use Rattle.page.specs.declared.board.Board.{Board}
use Rattle.page.specs.declared.board.Frame.{Frame}
use Rattle.page.specs.declared.frames.TextLine.{TextLine}
use Rattle.page.specs.Layout.{FitsIn}
use Rattle.page.specs.FrameViews.{FramesApart, LettersFit, LieApart, area_of, letters_of}

-- The frames of a board lie apart, and their letters inside them.
one-board : (b : Board) → AllPairs FramesApart b.frames.items
one-board b i j d before within = inr (inl (b.stacked i j d before within))

pub board-fits : (b : Board) → LettersFit b.frames.items
board-fits b k d small = lines (slice_index_or b.frames.items k d)
  where
    lines : (f : Frame) → All (λ (line : TextLine). FitsIn (area_of f) (letters_of f line)) f.block.lines.items
    lines f m e within =
        let few = f.block.fits m e within in
        let room = f.fits in
        (fits (length (slice_index_or f.block.lines.items m e).letters.items) f.block.room (f.indent + f.more) f.width few room, f.block.inside m e within)
      where
        fits : (n room more width : ℕ) → n ≤ room → 2 * more + 15 * room ≤ 2 * width → 2 * more + 15 * n ≤ 2 * width
        fits n room more width few h = omega (arith, few, h)

-- Two boards lie apart if one stands beside the other or begins below it.
pub boards-apart : (a b : Board) → (a.strip.left + a.strip.width ≤ b.strip.left) ⊎ (a.below ≤ b.strip.start) → LieApart a.frames.items b.frames.items
boards-apart a b apart = record { boxes_apart = one-board a; panels_apart = one-board b; both_apart = λ k d small m e within. go k d small m e within apart }
  where
    go : (k : ℕ) (d : Frame) → k < length a.frames.items → (m : ℕ) (e : Frame) → m < length b.frames.items → (a.strip.left + a.strip.width ≤ b.strip.left) ⊎ (a.below ≤ b.strip.start)
        → FramesApart (slice_index_or a.frames.items k d) (slice_index_or b.frames.items m e)
    go k d small m e within (inl beside) =
        let one = a.column k d small in
        let other = b.column m e within in
        inl (inl (omega (arith, one, other, beside)))
    go k d small m e within (inr below) =
        let one = a.within k d small in
        let other = b.within m e within in
        inr (inl (omega (arith, one, other, below)))

pub beside-or-below : (wide : Bool) (right left below start beside : ℕ) → right ≤ beside → (wide ≡ true → left ≡ beside) → (wide ≡ false → below ≤ start)
    → (right ≤ left) ⊎ (below ≤ start)
beside-or-below true right left below start beside within at other = let is = at refl in inl (omega (arith, within, is))
beside-or-below false right left below start beside within at other = inr (other refl)
