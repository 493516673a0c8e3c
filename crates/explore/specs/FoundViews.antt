-- What a search answers.
use Rattle.std.specs.Prelude.{map, Some}
use Rattle.syscalls.specs.Views.{event_of}
use Rattle.task.specs.Plans.{Plan}
use Rattle.explore.specs.declared.exploring.Explored.{Explored}
use Rattle.explore.specs.declared.exploring.Explored.TheVariants.{Breaks as Found, Attacked, Ended, Bounded}
use Rattle.explore.specs.declared.exploring.FoundAttack.{FoundAttack}
use Rattle.explore.specs.declared.exploring.FoundRun.{FoundRun}
use Rattle.explore.specs.Broken.{Breaks, IsRefuted, IsTight, own_moves}
use Rattle.explore.specs.BreachViews.{breach_of}
use Rattle.explore.specs.MoveViews.{move_of}

-- In every run of its events the last step breaks that, so the task is neither sandboxed nor confined; and no event can be left out.
pub record IsFound (plan : Plan) (found : FoundRun) : Type 0 where
  pub breaks : Breaks plan (own_moves (map event_of found.events.items)) (Some (breach_of found.breach))
  pub refuted : IsRefuted plan (own_moves (map event_of found.events.items))
  pub tight : IsTight plan (own_moves (map event_of found.events.items))

-- So of its moves, in which attackers do what they like; so the task isn't confined.
pub record IsAttacked (plan : Plan) (found : FoundAttack) : Type 0 where
  pub breaks : Breaks plan (map move_of found.moves.items) (Some (breach_of found.breach))
  pub refuted : IsRefuted plan (map move_of found.moves.items)
  pub tight : IsTight plan (map move_of found.moves.items)

-- Where nothing is found, nothing is claimed.
abbrev pub IsExplored : Plan → Explored → Type 0
IsExplored plan (Found found) = IsFound plan found
IsExplored plan (Attacked found) = IsAttacked plan found
IsExplored plan (Ended states) = Unit {0}
IsExplored plan (Bounded states) = Unit {0}
