use Rattle.std.proofs.Common.{◌≡◌, ◌≤◌, take}
use Rattle.std.specs.List.{count_by}
use Rattle.page.specs.Letters.{begins_letter}
use Rattle.page.proofs.listings.first_letters.Given as goal

-- the letters so far
abbrev pub invariant-loop-at : goal.invariant-loop-at
invariant-loop-at l = record { counted : l.letters ≡ count_by begins_letter (take l.at l.text); few : l.letters ≤ l.limit }
