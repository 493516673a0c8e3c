-- What is told of the faults of a file, and what they add to a page.
use Rattle.std.specs.Prelude.{ℕ, ◌≡◌, ◌≤◌, ◌++◌, List, length, map}
use Rattle.std.specs.List.{flat_map}
use Rattle.std.specs.List.Sorted.{IsNonDecreasingBy}
use Rattle.task_text.specs.FaultLines.{Fault, fault_at, more_line, most_told, placed_line}
use Rattle.texts.specs.PageViews.{Adds}
use Rattle.task_text.specs.declared.faults.Line.{Line}
use Rattle.task_text.specs.declared.faults.TextFault.{TextFault}
use Rattle.task_text.specs.declared.faults.TextFaults.{TextFaults}
use Rattle.texts.specs.declared.pages.Page.{Page}

-- the offset of a line, and what is told there
abbrev pub fault_of : Line → ℕ × List ℕ
fault_of line = (line.offset, line.text.bytes.items)

abbrev pub fault_seen : TextFault → Fault
fault_seen fault = record { line = fault.line; column = fault.column; words = fault.words.items }

-- Each fault is told at an offset of the file, in the order of the text, no more than are told. Some are left out only where so many are told.
pub record AreFaultsOf (file : List ℕ) (found : TextFaults) : Type 0 where
  pub faults : List (ℕ × List ℕ)
  pub placed : map fault_seen found.told.items ≡ map (fault_at file) faults
  pub few : length faults ≤ most_told
  pub ordered : IsNonDecreasingBy (λ fault. fault.0) faults
  pub left_out : (found.left_out ≡ 0 → ⊥) → length faults ≡ most_told

-- A line was added for each of some faults, in the order of the text, no more than are told, and a line of how many more there are, if there are any; and
-- nothing else, unless memory is refused by now. Some are left out only where so many are told.
pub record AddsFaultLines (file : List ℕ) (before after : Page) : Type 0 where
  pub faults : List (ℕ × List ℕ)
  pub more : ℕ
  pub few : length faults ≤ most_told
  pub ordered : IsNonDecreasingBy (λ fault. fault.0) faults
  pub left_out : (more ≡ 0 → ⊥) → length faults ≡ most_told
  pub tells : Adds before after (flat_map (placed_line file) faults ++ more_line more)
