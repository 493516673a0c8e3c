-- What a success leaves: that nothing but one part of the world is changed.
use Rattle.std.proofs.Common.{◌≡◌, ◌<◌, ℕ, Bool, true, List, [], ◌∷◌, refl, sym, ◌∙◌, map, length}
use Rattle.std.specs.Prelude.{Option, Some, None, Ok}
use Rattle.file_tree.specs.Nodes.{Kind, Node, node, child_of}
use Rattle.rights.specs.Operations.{Operation}
use Rattle.file_tree.specs.Changes.{filled}
use Rattle.file_tree.specs.Places.{at_name}
use Rattle.file_tree.specs.Refusals.{created, create_fault}
use Rattle.file_tree.proofs.TreeLaws.{child_by_place, filled_length, filled_same}
use Rattle.syscalls.proofs.Tests.{below}
use Rattle.fd_table.specs.Descriptions.{Access, Message, Descriptor, State}
use Rattle.fd_table.specs.Filled.{with_state, Opens}
use Rattle.fd_table.specs.OpenFiles.{OpenFiles, Alike, SameDescription, SameDescriptions}
use Rattle.kernel.specs.World.{World, Choice}
use Rattle.kernel.specs.Answers.{Effect, TreeChange, TableChange, Same_table, Set_entry, Clear_entry, New_file, New_pair, New_process, QueueChange, Make, Set_state, Answer, Gives, same}
use Rattle.kernel.specs.Changes.{tree_after, files_after}
use Rattle.syscalls.specs.declared.effects.Effects.{Effects}
use Rattle.syscalls.specs.declared.effects.Effects.TheVariants as effects
use Rattle.syscalls.specs.declared.outcomes.Besides.{Besides}
use Rattle.syscalls.specs.declared.outcomes.Besides.TheVariants as besides
use Rattle.syscalls.specs.declared.outcomes.Success.{Success}
use Rattle.syscalls.specs.Shows.{Shown, shown, shown_at}
use Rattle.syscalls.specs.AnswerViews.{Meets, Succeeds, Suits, IsBesides, IsIdle}
use Rattle.syscalls.specs.Views.{AreThere, IsSuccess, effects_in}

same_description : (f : OpenFiles) (o : Option Descriptor) → SameDescription f f o
same_description f None = tt
same_description f (Some d) = (refl, refl)

same_descriptions : (f : OpenFiles) (messages : List Message) → SameDescriptions f f messages
same_descriptions f [] = tt
same_descriptions f (m ∷ messages) = (same_description f m.passed, same_descriptions f messages)

pub alike_refl : (f : OpenFiles) → IsIdle f → Alike f f
alike_refl f idle = record {
  table = λ p n. refl;
  queue = λ pair side. refl;
  entries = λ p n. same_description f (f.table p n);
  messages = λ pair side. same_descriptions f (f.queue pair side);
  idle = idle;
}

-- a choice where nothing is chosen
pub any_choice : Choice
any_choice = record { first = 0; second = 0; pair = 0 }

-- what a call came to that succeeds, and did this, or nothing
pub meets_with : {w : World} {p : ℕ} {t : List Node} {f : OpenFiles} {a : Answer} {success : Success} {value : ℕ} {b : Besides} {does : Effects} →
    IsSuccess success value b does → AreThere t does → Succeeds w p t f value b (effects_in t does) a → Meets w p t f (Ok success) a
meets_with is there succeeds = rw (is.value, is.besides, is.effects) (succeeds, there)

pub meets : {w : World} {p : ℕ} {t : List Node} {f : OpenFiles} {a : Answer} {success : Success} {value : ℕ} {b : Besides} →
    IsSuccess success value b effects.Nothing → Succeeds w p t f value b [] a → Meets w p t f (Ok success) a
meets is succeeds = meets_with is tt succeeds

-- what was done to a node whose content alone was changed, and that it is still there
pub filled_shows : (t after : List Node) (n : ℕ) (content : List ℕ) (op : Operation) → n < length t → after ≡ filled t n content →
    shown_at op (node t n).place ∷ [] ≡ shown_at op (node after n).place ∷ []
filled_shows t after n content op there is = rw (is, filled_same t n content there) refl

pub filled_there : (t after : List Node) (n : ℕ) (content : List ℕ) → n < length t → after ≡ filled t n content → n < length after
filled_there t after n content there is = rw (is, filled_length t n content) there

-- a change of the tree alone
pub tree_succeeds : (w : World) (p : ℕ) (t : List Node) (value : ℕ) (shows : List Shown) (a : Answer) (change : TreeChange) (effects : List Effect) →
    IsIdle w.files → a ≡ Gives value (record same { tree = change }) effects → map shown effects ≡ shows → t ≡ tree_after w.tree change →
    Succeeds w p t w.files value besides.Nothing shows a
unfolding files_after
tree_succeeds w p t value shows a change effects idle is prints tree = record {
  change = record same { tree = change };
  effects = effects;
  choice = any_choice;
  is = is;
  prints = prints;
  suits = tt;
  makes = record { process = λ s value. refl; children = λ s. refl };
  tree = tree;
  files = alike_refl w.files idle;
}

-- a node that is made
pub made_is : (t : List Node) (d : ℕ) (name : List ℕ) (kind : Kind) → created t d name kind [] ≡ tree_after t (Make (at_name (node t d).place name) kind)
unfolding created
made_is t d name kind = refl

-- a free name may be made where there is room
pub free_creates : (t : List Node) (d : ℕ) (name : List ℕ) → (node t d).linked ≡ true → child_of t d name ≡ None → length t < 1024 → create_fault t d name ≡ None
unfolding create_fault
free_creates t d name linked absent room =
    rw linked (rw (sym (child_by_place t d name linked) ∙ absent) (rw (below (length t) 1024 room) refl))

-- a change of a description's state alone
pub state_succeeds : (w : World) (p : ℕ) (f : OpenFiles) (value : ℕ) (shows : List Shown) (a : Answer) (n : ℕ) (state : State)
    (effects : List Effect) → a ≡ Gives value (record same { state = Set_state n state }) effects → map shown effects ≡ shows →
    Alike (with_state w.files n state) f → Succeeds w p w.tree f value besides.Nothing shows a
unfolding files_after
state_succeeds w p f value shows a n state effects is prints files = record {
  change = record same { state = Set_state n state };
  effects = effects;
  choice = any_choice;
  is = is;
  prints = prints;
  suits = tt;
  makes = record { process = λ s value. refl; children = λ s. refl };
  tree = refl;
  files = files;
}

-- no change
pub same_succeeds : (w : World) (p : ℕ) (value : ℕ) (shows : List Shown) (a : Answer) (effects : List Effect) → IsIdle w.files →
    a ≡ Gives value same effects → map shown effects ≡ shows → Succeeds w p w.tree w.files value besides.Nothing shows a
unfolding files_after
same_succeeds w p value shows a effects idle is prints = record {
  change = same;
  effects = effects;
  choice = any_choice;
  is = is;
  prints = prints;
  suits = tt;
  makes = record { process = λ s value. refl; children = λ s. refl };
  tree = refl;
  files = alike_refl w.files idle;
}

-- a change of the tree and of a description's state
pub write_succeeds : (w : World) (p : ℕ) (t : List Node) (f : OpenFiles) (value : ℕ) (shows : List Shown) (a : Answer) (change : TreeChange) (n : ℕ)
    (state : State) (effects : List Effect) → a ≡ Gives value (record same { tree = change; state = Set_state n state }) effects →
    map shown effects ≡ shows → t ≡ tree_after w.tree change → Alike (with_state w.files n state) f → Succeeds w p t f value besides.Nothing shows a
unfolding files_after
write_succeeds w p t f value shows a change n state effects is prints tree files = record {
  change = record same { tree = change; state = Set_state n state };
  effects = effects;
  choice = any_choice;
  is = is;
  prints = prints;
  suits = tt;
  makes = record { process = λ s value. refl; children = λ s. refl };
  tree = tree;
  files = files;
}

-- The change makes neither a pair nor a child.
abbrev pub IsOrdinary : TableChange → Type 0
IsOrdinary (New_pair first second class) = ⊥
IsOrdinary New_process = ⊥
IsOrdinary _ = Unit {0}

ordinary_besides : (table : TableChange) → IsOrdinary table → IsBesides besides.Nothing (record same { table = table })
ordinary_besides Same_table ordinary = record { process = λ s value. refl; children = λ s. refl }
ordinary_besides (Set_entry number d) ordinary = record { process = λ s value. refl; children = λ s. refl }
ordinary_besides (Clear_entry number) ordinary = record { process = λ s value. refl; children = λ s. refl }
ordinary_besides (New_file number n access append rights fcntls) ordinary = record { process = λ s value. refl; children = λ s. refl }
ordinary_besides (New_pair first second class) ordinary = absurd ordinary
ordinary_besides New_process ordinary = absurd ordinary

-- a change of the table alone, of entries that there are
pub entry_succeeds : (w : World) (p : ℕ) (f : OpenFiles) (value : ℕ) (shows : List Shown) (a : Answer) (change : TableChange)
    (effects : List Effect) → Suits w.files any_choice change → IsOrdinary change → a ≡ Gives value (record same { table = change }) effects →
    map shown effects ≡ shows → Alike (files_after w.files p (length w.processes) any_choice (record same { table = change })) f →
    Succeeds w p w.tree f value besides.Nothing shows a
entry_succeeds w p f value shows a change effects suits ordinary is prints files = record {
  change = record same { table = change };
  effects = effects;
  choice = any_choice;
  is = is;
  prints = prints;
  suits = suits;
  makes = ordinary_besides change ordinary;
  tree = refl;
  files = files;
}

-- a file or directory that is opened, with a change of the tree or without
pub open_succeeds : (w : World) (p : ℕ) (t : List Node) (f : OpenFiles) (value : ℕ) (shows : List Shown) (a : Answer) (change : TreeChange)
    (number n : ℕ) (access : Access) (append : Bool) (rights fcntls : ℕ) (effects : List Effect) →
    a ≡ Gives value (record same { tree = change; table = New_file number n access append rights fcntls }) effects → map shown effects ≡ shows →
    t ≡ tree_after w.tree change → Opens w.files f p number n access append rights fcntls → Succeeds w p t f value besides.Nothing shows a
unfolding files_after
open_succeeds w p t f value shows a change number n access append rights fcntls effects is prints tree opens = record {
  change = record same { tree = change; table = New_file number n access append rights fcntls };
  effects = effects;
  choice = record { first = opens.description; second = 0; pair = 0 };
  is = is;
  prints = prints;
  suits = opens.fresh;
  makes = record { process = λ s value. refl; children = λ s. refl };
  tree = tree;
  files = opens.alike;
}

-- a change of a queue alone, which takes a message
pub queue_succeeds : (w : World) (p : ℕ) (f : OpenFiles) (value : ℕ) (shows : List Shown) (a : Answer) (change : QueueChange)
    (effects : List Effect) → a ≡ Gives value (record same { queue = change }) effects → map shown effects ≡ shows →
    Alike (files_after w.files p (length w.processes) any_choice (record same { queue = change })) f → Succeeds w p w.tree f value besides.Nothing shows a
queue_succeeds w p f value shows a change effects is prints files = record {
  change = record same { queue = change };
  effects = effects;
  choice = any_choice;
  is = is;
  prints = prints;
  suits = tt;
  makes = record { process = λ s value. refl; children = λ s. refl };
  tree = refl;
  files = files;
}

-- a message that is taken with its descriptor
pub take_succeeds : (w : World) (p : ℕ) (f : OpenFiles) (value : ℕ) (shows : List Shown) (a : Answer) (queue : QueueChange) (number : ℕ)
    (d : Descriptor) → a ≡ Gives value (record same { queue = queue; table = Set_entry number d }) [] → [] ≡ shows →
    Alike (files_after w.files p (length w.processes) any_choice (record same { queue = queue; table = Set_entry number d })) f →
    Succeeds w p w.tree f value besides.Nothing shows a
take_succeeds w p f value shows a queue number d is prints files = record {
  change = record same { queue = queue; table = Set_entry number d };
  effects = [];
  choice = any_choice;
  is = is;
  prints = prints;
  suits = tt;
  makes = record { process = λ s value. refl; children = λ s. refl };
  tree = refl;
  files = files;
}
