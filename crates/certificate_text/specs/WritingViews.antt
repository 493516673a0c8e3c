-- What a writer has taken when a text was written to it.
use Rattle.std.specs.Prelude.{◌≡◌, ◌++◌, ◌<◌, ℕ, List, Option, Result, Ok, Err}
use Rattle.rights.specs.declared.stops.Stop.{Stop}
use Rattle.rights.specs.declared.stops.Stop.TheVariants.{Memory, Device, Spent}
use Rattle.rights.specs.Output.{Took, TookFront}

-- It has taken the text and has not failed; or it has failed, and has taken a beginning of the text. Nothing else stops.
abbrev pub Writes : Result (Unit {0}) Stop → (before after : Option (List ℕ)) (faults failed : ℕ) (text : List ℕ) → Type 0
Writes (Ok _) before after faults failed text = Took before after text × (failed ≡ faults)
Writes (Err Device) before after faults failed text = TookFront before after text × (faults < failed)
Writes (Err Memory) before after faults failed text = ⊥
Writes (Err Spent) before after faults failed text = ⊥

-- Of what was gathered and a text behind it, it has taken a beginning, and the rest is gathered now.
pub record HandsOn (before after : Option (List ℕ)) (old new text : List ℕ) : Type 0 where
  pub handed : List ℕ
  pub took : Took before after handed
  pub whole : handed ++ new ≡ old ++ text

-- It has not failed, and has taken what is no longer gathered; or it has failed, and has taken a beginning of what was gathered and
-- of the text behind it. Nothing else stops.
abbrev pub Gathers : Result (Unit {0}) Stop → (before after : Option (List ℕ)) (faults failed : ℕ) (old new text : List ℕ) → Type 0
Gathers (Ok _) before after faults failed old new text = HandsOn before after old new text × (failed ≡ faults)
Gathers (Err Device) before after faults failed old new text = TookFront before after (old ++ text) × (faults < failed)
Gathers (Err Memory) before after faults failed old new text = ⊥
Gathers (Err Spent) before after faults failed old new text = ⊥
