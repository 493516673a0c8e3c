-- What the moves that are played again stand for.
use Rattle.syscalls.specs.Views.{event_of}
use Rattle.explore.specs.Attacks.{act_by}
use Rattle.explore.specs.Broken.{Move}
use Rattle.review.specs.declared.played.Played.{Played}

-- its event, and what its process does at it
abbrev pub move_played : Played → Move
move_played played = (event_of played.event, act_by played.deed)
