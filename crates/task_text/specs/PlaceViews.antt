-- Places as the code keeps them.
use Rattle.std.specs.Prelude.{◌≡◌, ℕ, List}
use Rattle.task_text.specs.Places.{place_at}
use Rattle.task_text.specs.declared.places.Cursor.{Cursor}
use Rattle.task_text.specs.declared.places.Place.{Place}

abbrev pub place_seen : Place → ℕ × ℕ
place_seen place = (place.line, place.column)

-- a cursor tells where the byte at its offset stands
abbrev pub StandsIn : List ℕ → Cursor → Type 0
StandsIn file cursor = place_seen cursor.place ≡ place_at file cursor.offset
