-- Removing a node: when the tree does it, and when the model answers so.
use Rattle.std.proofs.Common.{◌≡◌, ℕ, Bool, true, false, refl, ap, sym, subst, ◌∙◌, List, [], cond, arith}
use Rattle.std.specs.Prelude.{not, ◌||◌, Option, Some, None}
use Rattle.rights.specs.Errors.{ENOTEMPTY, ENOTDIR, EPERM}
use Rattle.rights.specs.Errors as causes
use Rattle.file_tree.specs.Places.{at_name}
use Rattle.file_tree.specs.Nodes.{Node, node, is_dir, has_below}
use Rattle.file_tree.specs.Refusals.{ChangeFault, NotEmpty, Gone, remove_fault, is_root}
use Rattle.file_tree.specs.WellFormed.{IsTree}
use Rattle.file_tree.specs.declared.faults.TreeFault.{TreeFault}
use Rattle.file_tree.specs.declared.faults.TreeFault.TheVariants as fault
use Rattle.file_tree.specs.Views.{TellsTreeFault}
use Rattle.file_tree.proofs.KeptByRemove.{may_remove}
use Rattle.file_tree.proofs.BelowLaws.{file_empty}
use Rattle.file_tree.proofs.PlaceLaws.{at_name_length, longer_place}
use Rattle.lookup.specs.Promises.{HasName}
use Rattle.process.specs.State.{ProcessState}
use Rattle.kernel.specs.World.{World}
use Rattle.kernel.specs.Answers.{Event, Answer, Fails, unless}
use Rattle.kernel.specs.Calls.{unlinks_as}
use Rattle.syscalls.proofs.Tests.{passes, fails}

-- whether a node may be removed as what it is, a directory or not, before it is asked whether it is empty
abbrev pub removed_as : Bool → Bool → Answer → Answer
removed_as is_directory true rest = unless is_directory ENOTDIR causes.Path rest
removed_as is_directory false rest = unless (not is_directory) EPERM causes.Path rest

-- the model's tests, with the kind's first
abbrev pub rest_of : Bool → Bool → Answer → Answer
rest_of true full rest = unless (not full) ENOTEMPTY causes.Path rest
rest_of false full rest = rest

pub unlinked_is : (w : World) (p : ℕ) (s : ProcessState) (e : Event) (directory : Bool) (n : ℕ) (rest : Answer) →
    unlinks_as w p s e directory n rest ≡ removed_as (is_dir (node w.tree n).kind) directory
    (rest_of directory (has_below w.tree (node w.tree n).place) rest)
unlinked_is w p s e true n rest = refl
unlinked_is w p s e false n rest = refl

fits : (is_directory directory : Bool) (rest : Answer) → is_directory ≡ directory → removed_as is_directory directory rest ≡ rest
fits is_directory true rest is = passes _ _ _ _ is
fits is_directory false rest is = passes _ _ _ _ (ap not is)

pub removes : (w : World) (p : ℕ) (s : ProcessState) (e : Event) (directory : Bool) (n : ℕ) (rest : Answer) →
    is_dir (node w.tree n).kind ≡ directory → remove_fault w.tree n ≡ None → unlinks_as w p s e directory n rest ≡ rest
removes w p s e directory n rest is allowed =
    unlinked_is w p s e directory n rest ∙ fits _ directory _ is ∙ at directory
  where
    empty : has_below w.tree (node w.tree n).place ≡ false
    empty = (may_remove w.tree n allowed).empty

    at : (d : Bool) → rest_of d (has_below w.tree (node w.tree n).place) rest ≡ rest
    at true = passes _ _ _ _ (ap not empty)
    at false = refl

-- a node under a name isn't the root
under_name : (t : List Node) (n : ℕ) (name : List ℕ) → HasName t n name → is_root (node t n).place ≡ false
under_name t n name named = rw named.place (longer_place [] (at_name (node t named.parent).place name) (rw (at_name_length (node t named.parent).place name) (omega arith)))

full : (a b c : Bool) (t : List Node) → a ≡ true → b ≡ false → (cond (not a) (Some Gone) (cond (b || c) (Some NotEmpty) None)) ≡ Some NotEmpty → c ≡ true
full a b true t linked root is = refl
full a b false t linked root is = absurd cc

pub is_full : (t : List Node) (n : ℕ) (name : List ℕ) → (node t n).linked ≡ true → HasName t n name → remove_fault t n ≡ Some NotEmpty → has_below t (node t n).place ≡ true
unfolding remove_fault
is_full t n name linked named is = full (node t n).linked _ _ t linked (under_name t n name named) is

pub refuses_full : (w : World) (p : ℕ) (s : ProcessState) (e : Event) (directory : Bool) (n : ℕ) (name : List ℕ) (rest : Answer) → IsTree w.tree →
    (node w.tree n).linked ≡ true → HasName w.tree n name → is_dir (node w.tree n).kind ≡ directory → remove_fault w.tree n ≡ Some NotEmpty →
    unlinks_as w p s e directory n rest ≡ Fails ENOTEMPTY causes.Path
refuses_full w p s e directory n name rest tree linked named is refused =
    unlinked_is w p s e directory n rest ∙ fits _ directory _ is ∙ at directory is
  where
    below : has_below w.tree (node w.tree n).place ≡ true
    below = is_full w.tree n name linked named refused

    at : (d : Bool) → is_dir (node w.tree n).kind ≡ d → rest_of d (has_below w.tree (node w.tree n).place) rest ≡ Fails ENOTEMPTY causes.Path
    at true is = fails _ _ _ _ (ap not below)
    at false is =
        let no : false ≡ true = sym (file_empty w.tree tree n linked is) ∙ below in
        absurd cc

pub told_full : (o : Option ChangeFault) (e : TreeFault) → TellsTreeFault o e → e ≡ fault.NotEmpty → o ≡ Some NotEmpty
told_full o e tells is = subst (TellsTreeFault o) is tells (λ same. absurd cc)
