-- When a tree refuses a change for want of memory alone.
use Rattle.std.proofs.Common.{◌≡◌, ◌≢◌, ◌⊎◌, inl, inr, ℕ, Bool, true, false, List, cond, refl, ap, sym, subst, ◌∙◌}
use Rattle.std.specs.Prelude.{◌||◌, ◌&&◌, not, Option, Some, None}
use Rattle.file_tree.specs.Nodes.{Node, node, has_below, child_of}
use Rattle.file_tree.specs.Places.{at_name, begins, same_place}
use Rattle.file_tree.specs.Refusals.{ChangeFault, Exists, NotEmpty, Full, IntoItself, Gone, is_root, remove_fault, rename_fault}
use Rattle.file_tree.specs.WellFormed.{IsTree}
use Rattle.file_tree.specs.declared.faults.TreeFault.{TreeFault}
use Rattle.file_tree.specs.declared.faults.TreeFault.TheVariants as fault
use Rattle.file_tree.specs.Views.{TellsTreeFault}
use Rattle.file_tree.proofs.BelowLaws.{free_empty}
use Rattle.syscalls.proofs.Renaming.{free_place}

-- nothing is refused
pub untold : (o : Option ChangeFault) (e : TreeFault) → o ≡ None → TellsTreeFault o e → e ≡ fault.Memory
untold o fault.Exists none tells =
    let no : None ≡ Some Exists = sym none ∙ tells (λ same. absurd cc) in
    absurd cc
untold o fault.NotEmpty none tells =
    let no : None ≡ Some NotEmpty = sym none ∙ tells (λ same. absurd cc) in
    absurd cc
untold o fault.Full none tells =
    let no : None ≡ Some Full = sym none ∙ tells (λ same. absurd cc) in
    absurd cc
untold o fault.IntoItself none tells =
    let no : None ≡ Some IntoItself = sym none ∙ tells (λ same. absurd cc) in
    absurd cc
untold o fault.Gone none tells =
    let no : None ≡ Some Gone = sym none ∙ tells (λ same. absurd cc) in
    absurd cc
untold o fault.Memory none tells = refl

-- a removal is refused of a directory that holds something, or else for want of memory
only_full : (b : Bool) (e : TreeFault) → e ≢ fault.NotEmpty → TellsTreeFault (cond b (Some NotEmpty) None) e → e ≡ fault.Memory
only_full false e other tells = untold None e refl tells
only_full true fault.Exists other tells =
    let no : Some NotEmpty ≡ Some Exists = tells (λ same. absurd cc) in
    absurd cc
only_full true fault.NotEmpty other tells = absurd (other refl)
only_full true fault.Full other tells =
    let no : Some NotEmpty ≡ Some Full = tells (λ same. absurd cc) in
    absurd cc
only_full true fault.IntoItself other tells =
    let no : Some NotEmpty ≡ Some IntoItself = tells (λ same. absurd cc) in
    absurd cc
only_full true fault.Gone other tells =
    let no : Some NotEmpty ≡ Some Gone = tells (λ same. absurd cc) in
    absurd cc
only_full true fault.Memory other tells = refl

pub removal : (t : List Node) (n : ℕ) (e : TreeFault) → (node t n).linked ≡ true → e ≢ fault.NotEmpty → TellsTreeFault (remove_fault t n) e → e ≡ fault.Memory
unfolding remove_fault
removal t n e linked other tells =
    let full = is_root (node t n).place || has_below t (node t n).place in
    only_full full e other (subst (λ o. TellsTreeFault o e) (ap (λ b. cond (not b) (Some Gone) (cond full (Some NotEmpty) None)) linked) tells)

-- a renaming to a place that isn't below the node, the same over an empty place
only_into : (b : Bool) (e : TreeFault) → e ≢ fault.IntoItself → TellsTreeFault (cond b (Some IntoItself) None) e → e ≡ fault.Memory
only_into false e other tells = untold None e refl tells
only_into true fault.Exists other tells =
    let no : Some IntoItself ≡ Some Exists = tells (λ same. absurd cc) in
    absurd cc
only_into true fault.NotEmpty other tells =
    let no : Some IntoItself ≡ Some NotEmpty = tells (λ same. absurd cc) in
    absurd cc
only_into true fault.Full other tells =
    let no : Some IntoItself ≡ Some Full = tells (λ same. absurd cc) in
    absurd cc
only_into true fault.IntoItself other tells = absurd (other refl)
only_into true fault.Gone other tells =
    let no : Some IntoItself ≡ Some Gone = tells (λ same. absurd cc) in
    absurd cc
only_into true fault.Memory other tells = refl

-- the tests of a renaming
abbrev renames : Bool → Bool → Bool → Bool → Option ChangeFault
renames gone own into full = cond gone (Some Gone) (cond own None (cond into (Some IntoItself) (cond full (Some NotEmpty) None)))

both : (a b : Bool) → a ≡ true → b ≡ true → not (a && b) ≡ false
both true true one two = refl
both true false one two = absurd cc
both false b one two = absurd cc

to_empty : (own into full : Bool) (e : TreeFault) → full ≡ false → e ≢ fault.IntoItself → TellsTreeFault (renames false own into full) e → e ≡ fault.Memory
to_empty true into full e empty other tells = untold None e refl tells
to_empty false true false e empty other tells = only_into true e other tells
to_empty false false false e empty other tells = untold None e refl tells
to_empty false into true e empty other tells = absurd cc

to_other : (own into full : Bool) (e : TreeFault) → into ≡ false → e ≢ fault.NotEmpty → TellsTreeFault (renames false own into full) e → e ≡ fault.Memory
to_other true into full e apart other tells = untold None e refl tells
to_other false false full e apart other tells = only_full full e other tells
to_other false true full e apart other tells = absurd cc

-- into a free name, and over another node
pub into_free : (t : List Node) (n d : ℕ) (name : List ℕ) (e : TreeFault) → IsTree t → (node t n).linked ≡ true → (node t d).linked ≡ true →
    child_of t d name ≡ None → e ≢ fault.IntoItself → TellsTreeFault (rename_fault t n d name) e → e ≡ fault.Memory
unfolding rename_fault
into_free t n d name e tree linked held free other tells =
    let to = at_name (node t d).place name in
    to_empty (same_place to (node t n).place) (begins (node t n).place to) (has_below t to) e (free_empty t tree to (free_place t d name held free)) other
    (subst (λ b. TellsTreeFault (renames b (same_place to (node t n).place) (begins (node t n).place to) (has_below t to)) e) (both (node t n).linked (node t d).linked linked held) tells)

pub over_node : (t : List Node) (n d : ℕ) (name : List ℕ) (e : TreeFault) → (node t n).linked ≡ true → (node t d).linked ≡ true →
    begins (node t n).place (at_name (node t d).place name) ≡ false → e ≢ fault.NotEmpty → TellsTreeFault (rename_fault t n d name) e →
    e ≡ fault.Memory
unfolding rename_fault
over_node t n d name e linked held apart other tells =
    let to = at_name (node t d).place name in
    to_other (same_place to (node t n).place) (begins (node t n).place to) (has_below t to) e apart other
    (subst (λ b. TellsTreeFault (renames b (same_place to (node t n).place) (begins (node t n).place to) (has_below t to)) e) (both (node t n).linked (node t d).linked linked held) tells)

-- what is left of the faults beside one of these and want of memory
pub but_full : (e : TreeFault) → (e ≡ fault.Exists) ⊎ ((e ≡ fault.Full) ⊎ ((e ≡ fault.IntoItself) ⊎ (e ≡ fault.Gone))) → (e ≢ fault.NotEmpty) × (e ≢ fault.Memory)
but_full e (inl is) =
    ((λ no. let same : fault.Exists ≡ fault.NotEmpty = sym is ∙ no in absurd cc), (λ no. let same : fault.Exists ≡ fault.Memory = sym is ∙ no in absurd cc))
but_full e (inr (inl is)) =
    ((λ no. let same : fault.Full ≡ fault.NotEmpty = sym is ∙ no in absurd cc), (λ no. let same : fault.Full ≡ fault.Memory = sym is ∙ no in absurd cc))
but_full e (inr (inr (inl is))) =
    ((λ no. let same : fault.IntoItself ≡ fault.NotEmpty = sym is ∙ no in absurd cc), (λ no. let same : fault.IntoItself ≡ fault.Memory = sym is ∙ no in absurd cc))
but_full e (inr (inr (inr is))) =
    ((λ no. let same : fault.Gone ≡ fault.NotEmpty = sym is ∙ no in absurd cc), (λ no. let same : fault.Gone ≡ fault.Memory = sym is ∙ no in absurd cc))

pub but_into : (e : TreeFault) → (e ≡ fault.Exists) ⊎ ((e ≡ fault.NotEmpty) ⊎ ((e ≡ fault.Full) ⊎ (e ≡ fault.Gone))) → (e ≢ fault.IntoItself) × (e ≢ fault.Memory)
but_into e (inl is) =
    ((λ no. let same : fault.Exists ≡ fault.IntoItself = sym is ∙ no in absurd cc), (λ no. let same : fault.Exists ≡ fault.Memory = sym is ∙ no in absurd cc))
but_into e (inr (inl is)) =
    ((λ no. let same : fault.NotEmpty ≡ fault.IntoItself = sym is ∙ no in absurd cc), (λ no. let same : fault.NotEmpty ≡ fault.Memory = sym is ∙ no in absurd cc))
but_into e (inr (inr (inl is))) =
    ((λ no. let same : fault.Full ≡ fault.IntoItself = sym is ∙ no in absurd cc), (λ no. let same : fault.Full ≡ fault.Memory = sym is ∙ no in absurd cc))
but_into e (inr (inr (inr is))) =
    ((λ no. let same : fault.Gone ≡ fault.IntoItself = sym is ∙ no in absurd cc), (λ no. let same : fault.Gone ≡ fault.Memory = sym is ∙ no in absurd cc))
