-- How a task's programs are listed, with what is observed on them. (own)
use Rattle.std.specs.Prelude.{◌≡◌, ◌++◌, ℕ, Bool, List, [], ◌∷◌, codes, length, min}
use Rattle.std.specs.Fmt.{decimal}
use Rattle.std.specs.List.{range_with_len}
use Rattle.certificate.specs.Bounds.{Certificate}
use Rattle.explain.specs.Observed.{Headed, program_observed, program_warned, task_observed}
use Rattle.explain.specs.Telling.{point_with_line}
use Rattle.explain.specs.Wording.{joined_points}
use Rattle.remarks.specs.Ways.{points}
use Rattle.task.specs.Plans.{Plan, program_name, programs_of_plan}
use Rattle.texts.specs.Bytes.{space}
use Rattle.texts.specs.Parts.{parts}

-- Each of some things is told, in their order, and nothing else.
pub data InOrder {X : Type 0} (Tells : X → List ℕ → Type 0) : List X → List ℕ → Type 0 where
  no_more : InOrder Tells [] []
  one_more : (x : X) {xs : List X} {text behind : List ℕ} → Tells x text → InOrder Tells xs behind → InOrder Tells (x ∷ xs) (text ++ behind)

-- ## Lines that are folded
-- these words, with a blank between each two, or the end of a line and four blanks
pub data FoldsWords : List (List ℕ) → List ℕ → Type 0 where
  last_word : (word : List ℕ) → FoldsWords (word ∷ []) word
  goes_on : (word : List ℕ) {words : List (List ℕ)} {text : List ℕ} → FoldsWords words text → FoldsWords (word ∷ words) (word ++ (codes " " ++ text))
  breaks : (word : List ℕ) {words : List (List ℕ)} {text : List ℕ} → FoldsWords words text → FoldsWords (word ∷ words) (word ++ (codes "\n    " ++ text))

abbrev pub Folds : List ℕ → List ℕ → Type 0
Folds line text = FoldsWords (parts space line) text

-- ## What is observed
-- A remark has a line, which is folded: words, the points, if there are any, and what is said behind them.
pub record TellsRemark (indent : List ℕ) (h : Headed) (text : List ℕ) : Type 0 where
  pub words : List ℕ
  pub joint : List ℕ
  pub more : List ℕ
  pub lines : List ℕ
  pub folds : Folds (indent ++ (codes "remark: " ++ (words ++ (joined_points joint h.1 ++ more)))) lines
  pub is_text : text ≡ lines ++ codes "\n"

-- the first of the points, as a number of 8 bits
abbrev pub first_point : List ℕ → ℕ
first_point [] = 0
first_point (point ∷ points) = min point 255

-- A warning has a line with its point, words, and the part of docs/FREEBSD.md that says more.
abbrev pub warning_text : List ℕ → ℕ → List ℕ → Headed → List ℕ
warning_text program line words h =
    codes "  FreeBSD: " ++ (point_with_line program (first_point h.1) line ++ (codes ": " ++ (words ++ (codes " (FREEBSD.md#" ++ (h.0 ++ codes ")\n")))))

abbrev pub TellsWarning : List ℕ → Headed → List ℕ → Type 0
TellsWarning program h text = (line : ℕ) × (words : List ℕ) × (text ≡ warning_text program line words h)

-- ## Programs
-- A point has its number, its line in the file and its instruction as it is written; the mode before that, and what may be open behind it, are told where a bound says so.
abbrev pub listed_point : ℕ → ℕ → List ℕ → List ℕ → List ℕ → List ℕ
listed_point point line mode written numbers =
    codes "  " ++ (decimal point ++ (codes " line " ++ (decimal line ++ (mode ++ (codes ": " ++ (written ++ (codes "\n" ++ numbers)))))))

abbrev pub TellsPoint : ℕ → List ℕ → Type 0
TellsPoint point text =
    (line : ℕ) × (mode : List ℕ) × (written : List ℕ) × (numbers : List ℕ) × (text ≡ listed_point point line mode written numbers)

-- A program has its name, what it may hold in the mode, where that is told, its points, the remarks on it and the warnings.
pub record TellsProgram (plan : Plan) (c bounds : Certificate) (has_cert : Bool) (program : ℕ) (text : List ℕ) : Type 0 where
  pub authority : List ℕ
  pub of_points : List ℕ
  pub tells_points : InOrder TellsPoint (points (programs_of_plan plan program)) of_points
  pub remarks : List ℕ
  pub tells_remarks : InOrder (TellsRemark (codes "  ")) (program_observed plan c program has_cert) remarks
  pub warnings : List ℕ
  pub tells_warnings : InOrder (TellsWarning (program_name plan program)) (program_warned plan bounds program) warnings
  pub is_text : text ≡ program_name plan program ++ (codes "\n" ++ (authority ++ (of_points ++ (remarks ++ warnings))))

-- All programs of a task, and then the remarks on the task: with the bounds of a certificate, if there is one. Warnings go by bounds of their own.
pub record Lists (plan : Plan) (c bounds : Certificate) (has_cert : Bool) (text : List ℕ) : Type 0 where
  pub programs : List ℕ
  pub tells_programs : InOrder (TellsProgram plan c bounds has_cert) (range_with_len 0 (length plan.programs)) programs
  pub remarks : List ℕ
  pub tells_remarks : InOrder (TellsRemark []) (task_observed plan c has_cert) remarks
  pub is_text : text ≡ programs ++ remarks
