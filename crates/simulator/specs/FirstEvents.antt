-- What a schedule's text begins with.
use Rattle.std.specs.Prelude.{◌≡◌, ◌<◌, ◌++◌, ◌∷◌, ℕ, List, length, true, Some, Err}
use Rattle.std.specs.List.{list_all}
use Rattle.texts.specs.Bytes.{is_digit, line_feed}
use Rattle.texts.specs.Numbers.{number_of}
use Rattle.texts.specs.Parts.{parts}
use Rattle.kernel.specs.Answers.{Event}
use Rattle.simulator.specs.Schedules.{event_of_line, events_from}

-- a number and the byte that ends it, and then the rest
pub record BeginsWithNumber (text : List ℕ) (end number : ℕ) (rest : List ℕ) : Type 0 where
  pub word : List ℕ
  pub text_is : text ≡ word ++ end ∷ rest
  pub digits : list_all is_digit word ≡ true
  pub value : number_of word ≡ Some number

-- the line of an event, and then the rest
pub record BeginsWithEvent (text : List ℕ) (e : Event) (rest : List ℕ) : Type 0 where
  pub line : List ℕ
  pub parts_are : parts line_feed text ≡ line ∷ parts line_feed rest
  pub event : event_of_line line ≡ Some e
  pub shorter : length rest < length text

-- a line that is no event, or that isn't ended
abbrev pub BeginsWithFault : List ℕ → Type 0
BeginsWithFault text = (n : ℕ) → events_from n (parts line_feed text) ≡ Err n
