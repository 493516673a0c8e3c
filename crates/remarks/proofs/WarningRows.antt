-- Rows of paths that may lead out, of calls that take numbers, and of asking for the mode, each with one that isn't warned of.
use Rattle.std.proofs.Common.{◌≡◌, ℕ, true, false, List, [], ◌∷◌, refl}
use Rattle.std.specs.Prelude.{codes}
use Rattle.rights.specs.Operations.{Operation, Read as Read_bytes, Remove}
use Rattle.rights.specs.Sets.{read_right}
use Rattle.file_tree.specs.Nodes.{Node, File, Link}
use Rattle.file_tree.specs.Places.{path_components}
use Rattle.lookup.specs.Paths.{last_component}
use Rattle.certificate.specs.Bounds.{Bound, Off, Any_node, Slot, Open, Closed}
use Rattle.instruction_set.specs.Programs.{Halt, Invoke, Cap_getmode, Dup, Read, Renameat, Socketpair, Number}
use Rattle.remarks.specs.Warnings.{calls_ahead, goes_on_entering, leads_out, takes_beyond, takes_one_beyond}
use Rattle.remarks.specs.Ways.{rounds}
use Rattle.task.specs.Plans.{NamedProgram, Plan, plan_with, unmarked}

-- ## Paths
abbrev file : Node
file = record { kind = File; place = codes "in" ∷ []; linked = true; content = [] }

abbrev link : Node
link = record { kind = Link; place = codes "a" ∷ codes "away" ∷ []; linked = true; content = [] }

abbrev with_nodes : List Node → List NamedProgram → Plan
with_nodes nodes programs = plan_with nodes [] programs []

up_leads_out : leads_out (with_nodes (file ∷ link ∷ []) []) (codes "a/../in") ≡ true
up_leads_out = refl

link_leads_out : leads_out (with_nodes (file ∷ link ∷ []) []) (codes "away") ≡ true
link_leads_out = refl

name_stays : leads_out (with_nodes (file ∷ link ∷ []) []) (codes "a/in") ≡ false
name_stays = refl

-- A rename may give a link the name `x`; where there is no link, none has it.
abbrev renaming : NamedProgram
renaming = unmarked (codes "main") (Invoke (Renameat (Number 0) (codes "away") (Number 0) (codes "b/x")) 1 ∷ Halt ∷ [])

moved_leads_out : leads_out (with_nodes (file ∷ link ∷ []) (renaming ∷ [])) (codes "x/passwd") ≡ true
unfolding last_component path_components
moved_leads_out = refl

other_name_stays : leads_out (with_nodes (file ∷ link ∷ []) (renaming ∷ [])) (codes "b/in") ≡ false
unfolding last_component path_components
other_name_stays = refl

no_link_is_moved : leads_out (with_nodes (file ∷ []) (renaming ∷ [])) (codes "x/passwd") ≡ false
no_link_is_moved = refl

-- An untrusted program may give it any, where it lies in a grant that lists removing.
abbrev taken_over : List ℕ → List Operation → Plan
taken_over name operations =
    plan_with (file ∷ link ∷ []) (record { name = codes "work"; path = name ∷ []; operations = operations } ∷ [])
    (record { name = codes "main"; code = Halt ∷ []; marked = true } ∷ []) []

any_name_leads_out : leads_out (taken_over (codes "a") (Remove ∷ [])) (codes "in") ≡ true
any_name_leads_out = refl

nothing_is_removed : leads_out (taken_over (codes "a") (Read_bytes ∷ [])) (codes "in") ≡ false
nothing_is_removed = refl

link_lies_elsewhere : leads_out (taken_over (codes "b") (Remove ∷ [])) (codes "in") ≡ false
link_lies_elsewhere = refl

-- ## Numbers
abbrev opened : Slot
opened = Open (record { target = Any_node; least = read_right; greatest = read_right; least_fcntls = 0; greatest_fcntls = 0 })

abbrev bound : Slot → Slot → Bound
bound first second = record { mode = Off; registers = []; slots = first ∷ second ∷ [] }

two_of_one : takes_one_beyond (bound opened Closed) Socketpair ≡ true
two_of_one = refl

one_of_one : takes_one_beyond (bound opened Closed) (Dup (Number 0)) ≡ false
one_of_one = refl

two_of_two : takes_one_beyond (bound Closed Closed) Socketpair ≡ false
two_of_two = refl

two_of_none : takes_one_beyond (bound opened opened) Socketpair ≡ false
two_of_none = refl

none_left : takes_beyond (bound opened opened) Socketpair ≡ true
none_left = refl

one_left : takes_beyond (bound opened Closed) Socketpair ≡ false
one_left = refl

-- ## Asking for the mode
asking_goes_on : goes_on_entering (calls_ahead (Invoke Cap_getmode 1 ∷ Invoke (Read (Number 0)) 2 ∷ Halt ∷ [])) (Invoke Cap_getmode 1) ≡ true
unfolding rounds
asking_goes_on = refl

asking_ends : goes_on_entering (calls_ahead (Invoke Cap_getmode 2 ∷ Invoke (Read (Number 0)) 2 ∷ Halt ∷ [])) (Invoke Cap_getmode 2) ≡ false
unfolding rounds
asking_ends = refl
