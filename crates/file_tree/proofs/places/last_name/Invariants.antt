use Rattle.std.proofs.Common.{◌≡◌, true, drop}
use Rattle.file_tree.specs.PlaceViews.{is_one_name}
use Rattle.file_tree.proofs.places.last_name.Given as goal

-- there is no `/` in what is read
abbrev pub invariant-loop-at : goal.invariant-loop-at
invariant-loop-at l = is_one_name (drop l.at l.text) ≡ true
