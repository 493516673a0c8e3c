-- The program's words, and what they ask for. (own)
use Rattle.std.specs.Prelude.{◌≡◌, ◌==◌, ℕ, Bool, false, List, [], ◌∷◌, codes}
use Rattle.std.specs.List.{list_any}

-- the example; to run a task over a schedule; to check a task's certificate; to tell what it says of the task's grants; to
-- propose a certificate of a task; to write out what a certificate leaves to be carried
pub data Order : Type 0 where
  Example : Order
  Run : (task schedule : List ℕ) → Order
  Check : (task certificate : List ℕ) → Order
  Report : (task certificate : List ℕ) → Order
  Search : (task : List ℕ) → Order
  Expand : (task certificate : List ℕ) → Order

-- the words that ask for it: none; `run TASK SCHEDULE`; `check TASK CERT`; `report TASK CERT`; `search TASK`; `expand TASK CERT`
abbrev pub order_words : Order → List (List ℕ)
order_words Example = []
order_words (Run task schedule) = codes "run" ∷ task ∷ schedule ∷ []
order_words (Check task certificate) = codes "check" ∷ task ∷ certificate ∷ []
order_words (Report task certificate) = codes "report" ∷ task ∷ certificate ∷ []
order_words (Search task) = codes "search" ∷ task ∷ []
order_words (Expand task certificate) = codes "expand" ∷ task ∷ certificate ∷ []

abbrev pub hyphen : ℕ
hyphen = 45

-- the word begins with `-`
abbrev pub is_dashed : List ℕ → Bool
is_dashed [] = false
is_dashed (b ∷ word) = b == hyphen

-- The words ask for it, and none begins with `-`.
pub record AsksFor (words : List (List ℕ)) (order : Order) : Type 0 where
  pub line : words ≡ order_words order
  pub undashed : list_any is_dashed words ≡ false
