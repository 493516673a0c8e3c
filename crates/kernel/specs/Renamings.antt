-- Worlds that differ only in the numbers of descriptions and pairs, which nothing shows. (own)
use Rattle.std.specs.Prelude.{◌≡◌, ℕ, List, [], ◌∷◌, Option, Some, None}
use Rattle.fd_table.specs.Descriptions.{Object, At_node, At_end, Descriptor, Message, IfHeld, EachPassed}
use Rattle.fd_table.specs.OpenFiles.{OpenFiles}
use Rattle.kernel.specs.World.{World, Choice, IsFresh}
use Rattle.kernel.specs.Answers.{Event}
use Rattle.kernel.specs.Steps.{Programs, step}
use Rattle.kernel.specs.WellFormed.{ArePrograms, IsWellFormed}

-- other numbers for descriptions and pairs, each with its way back
pub record Renaming : Type 0 where
  pub description : ℕ → ℕ
  pub pair : ℕ → ℕ
  pub description_back : ℕ → ℕ
  pub pair_back : ℕ → ℕ
  pub description_there : (n : ℕ) → description (description_back n) ≡ n
  pub description_here : (n : ℕ) → description_back (description n) ≡ n
  pub pair_there : (n : ℕ) → pair (pair_back n) ≡ n
  pub pair_here : (n : ℕ) → pair_back (pair n) ≡ n

abbrev pub renamed_object : Renaming → Object → Object
renamed_object f (At_node n access) = At_node n access
renamed_object f (At_end pair side class) = At_end (f.pair pair) side class

abbrev pub renamed_descriptor : Renaming → Descriptor → Descriptor
renamed_descriptor f d = record d { description = f.description d.description }

abbrev pub renamed_entry : Renaming → Option Descriptor → Option Descriptor
renamed_entry f None = None
renamed_entry f (Some d) = Some (renamed_descriptor f d)

abbrev pub renamed_message : Renaming → Message → Message
renamed_message f m = record m { passed = renamed_entry f m.passed }

abbrev pub renamed_messages : Renaming → List Message → List Message
renamed_messages f [] = []
renamed_messages f (m ∷ messages) = renamed_message f m ∷ renamed_messages f messages

-- The description of a number is the same under its other number: of the same object, in the same state.
pub record SameObject (f : Renaming) (w v : OpenFiles) (n : ℕ) : Type 0 where
  pub object : v.objects (f.description n) ≡ renamed_object f (w.objects n)
  pub state : v.states (f.description n) ≡ w.states n

-- what holds of each description that messages name
abbrev pub EachNamed : (ℕ → Type 0) → List Message → Type 0
EachNamed Named messages = EachPassed (λ d. Named d.description) messages

-- Entries and messages are the same under the other numbers, and so is each description that is named. The bound on the
-- pairs with messages may be another.
pub record SameFiles (f : Renaming) (w v : OpenFiles) : Type 0 where
  pub table : (p n : ℕ) → v.table p n ≡ renamed_entry f (w.table p n)
  pub queue : (pair side : ℕ) → v.queue (f.pair pair) side ≡ renamed_messages f (w.queue pair side)
  pub entries : (p n : ℕ) → IfHeld (λ d. SameObject f w v d.description) (w.table p n)
  pub messages : (pair side : ℕ) → EachNamed (SameObject f w v) (w.queue pair side)

pub record DiffersInNumbers (w v : World) : Type 0 where
  pub renaming : Renaming
  pub tree : v.tree ≡ w.tree
  pub processes : v.processes ≡ w.processes
  pub files : SameFiles renaming w.files v.files

-- The lines are the same, and the next worlds differ only so again.
pub record StepsAlike (programs : Programs) (w v : World) (e : Event) (j k : Choice) : Type 0 where
  pub line : (step programs v e k).acted ≡ (step programs w e j).acted
  pub next : DiffersInNumbers (step programs w e j).world (step programs v e k).world

-- Whatever fresh numbers are chosen in each of two such worlds.
abbrev pub NumbersDoNotMatter : Type 0
NumbersDoNotMatter =
    (programs : Programs) (w v : World) (e : Event) (j k : Choice)
    → ArePrograms programs
    → IsWellFormed programs w
    → IsWellFormed programs v
    → DiffersInNumbers w v
    → IsFresh w.files j
    → IsFresh v.files k
    → StepsAlike programs w v e j k

-- what differs only in numbers from what differs only in numbers does so itself
abbrev pub NumbersAreIgnoredTwice : Type 0
NumbersAreIgnoredTwice = (u v w : World) → DiffersInNumbers u v → DiffersInNumbers v w → DiffersInNumbers u w
