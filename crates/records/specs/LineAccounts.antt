-- Which lines of a record its entries account for. (own)
use Rattle.std.specs.Prelude.{◌≡◌, ◌==◌, ◌<◌, ◌^◌, ◌-◌, ◌&&◌, ◌||◌, ℕ, Bool, true, false, List, [], ◌∷◌, Option, Some, None, codes, length, map, nat_eq, nat_le, nat_lt}
use Rattle.std.specs.List.{list_all, list_any, slice_get, starts_with}
use Rattle.std.proofs.Math.Bool.{not}
use Rattle.records.specs.Calls.{RecordedCalls}
use Rattle.texts.specs.Lines.{Line}

-- a call of an entry begins or ends in the line of this number
abbrev pub is_end_of : ℕ → RecordedCalls → Bool
is_end_of line calls = list_any (λ entry. (entry.span.first == line) || (entry.span.last == line)) calls

abbrev pub is_listed : ℕ → List ℕ → Bool
is_listed line lines = list_any (λ n. n == line) lines

-- a line is among those that aren't understood, or among those that say nothing of a call
abbrev pub is_in_lists : ℕ → List ℕ → List ℕ → Bool
is_in_lists line misread silent = is_listed line misread || is_listed line silent

-- a line is one of so many, which are counted from 1
abbrev pub is_line_of : ℕ → ℕ → Bool
is_line_of count line = nat_lt 0 line && nat_le line count

-- Both lists have the lines, of so many, in which no call of an entry begins or ends, and no others. 32 bits hold the numbers.
abbrev pub ListTheOthers : ℕ → RecordedCalls → List ℕ → List ℕ → Type 0
ListTheOthers count calls misread silent =
    count < 2 ^ 32 → (line : ℕ) → is_in_lists line misread silent ≡ (is_line_of count line && not (is_end_of line calls))

-- ## Lines that say nothing of a call
-- a bracket opens in it, as behind the name of a call
abbrev pub has_bracket : List ℕ → Bool
has_bracket line = list_any (λ byte. byte == 40) line

-- it is of a stack
abbrev pub is_of_stack : List ℕ → Bool
is_of_stack line = starts_with nat_eq line (codes " > ")

-- what stands in a line of a signal, of the end of a process, of a call that is cut off, and in a remark (strace(1), truss(1))
abbrev pub quiet_marks : List (List ℕ)
quiet_marks =
    codes "--- " ∷ codes "+++ " ∷ codes "<unfinished ...>" ∷ codes "strace: " ∷ codes "SIGNAL " ∷ codes "process exit" ∷ codes "process killed" ∷ []

-- a mark stands somewhere in a line
abbrev pub stands_in : List ℕ → List ℕ → Bool
stands_in [] mark = starts_with nat_eq [] mark
stands_in (byte ∷ line) mark = starts_with nat_eq (byte ∷ line) mark || stands_in line mark

-- A line may say nothing of a call only if it has no bracket; if it is of a stack; or if it has such a mark.
abbrev pub may_be_quiet : List ℕ → Bool
may_be_quiet line = not (has_bracket line) || (is_of_stack line || list_any (stands_in line) quiet_marks)

abbrev pub is_quiet : Option (List ℕ) → Bool
is_quiet None = false
is_quiet (Some line) = may_be_quiet line

-- Each of these lines, which are counted from 1, may. 32 bits hold the numbers.
abbrev pub are_quiet : List (List ℕ) → List ℕ → Bool
are_quiet lines silent = list_all (λ n. is_quiet (slice_get lines (n - 1))) silent

abbrev pub AreQuiet : List Line → List ℕ → Type 0
AreQuiet lines silent = length lines < 2 ^ 32 → are_quiet (map (λ (line : Line). line.text) lines) silent ≡ true
