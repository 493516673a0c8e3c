-- A fork.
use Rattle.std.proofs.Common.{◌≡◌, ◌<◌, ◌≤◌, arith, ℕ, true, false, not, List, [], length, refl, ap, subst, sym, ◌∙◌}
use Rattle.std.specs.Prelude.{None}
use Rattle.std.proofs.lemmas.Option.{slice_get_past}
use Rattle.rights.specs.Errors.{EAGAIN, Full, Refused}
use Rattle.process.specs.State.{ProcessState}
use Rattle.file_tree.specs.Nodes.{Node}
use Rattle.fd_table.specs.OpenFiles.{OpenFiles, Alike}
use Rattle.fd_table.specs.Filled.{with_row}
use Rattle.instruction_set.specs.Programs.{Fork}
use Rattle.kernel.specs.World.{World}
use Rattle.kernel.specs.Answers.{Event, Fails, Gives, same, New_process}
use Rattle.kernel.specs.Calls.{answer}
use Rattle.kernel.specs.Changes.{files_after}
use Rattle.kernel.specs.Steps.{Programs}
use Rattle.kernel.specs.WellFormed.{Numbering, HasNone, IsWorld}
use Rattle.syscalls.specs.declared.outcomes.Besides.TheVariants as besides
use Rattle.syscalls.specs.AnswerViews.{Succeeds}
use Rattle.syscalls.specs.Shows.{Shown}
use Rattle.syscalls.specs.Views.{world_with}
use Rattle.syscalls.proofs.Keeping.{any_choice}
use Rattle.syscalls.proofs.Tests.{passes, fails, below, not_below}

module _ (w : World) (p : ℕ) (s : ProcessState) (e : Event) (n : ℕ) (counts : length w.processes ≡ n) where
  -- too many were made
  pub full : 16 ≤ n → answer w p s e Fork ≡ Fails EAGAIN Full
  unfolding answer
  full many = fails _ _ _ _ (not_below (length w.processes) 16 (subst (λ m. 16 ≤ m) (sym counts) many))

  fits : n < 16 → length w.processes < 16
  fits few = subst (λ m. m < 16) (sym counts) few

  -- the kernel refuses
  pub refused : n < 16 → e.refuse ≡ true → answer w p s e Fork ≡ Fails EAGAIN Refused
  unfolding answer
  refused few is = passes _ _ _ _ (below (length w.processes) 16 (fits few)) ∙ fails _ _ _ _ (ap not is)

  -- a child is made
  pub forks : (left : OpenFiles) (shows : List Shown) → n < 16 → e.refuse ≡ false → [] ≡ shows → Alike (with_row w.files n (w.files.table p)) left →
      Succeeds w p w.tree left n besides.Child shows (answer w p s e Fork)
  unfolding answer files_after
  forks left shows few is prints alike = record {
    change = record same { table = New_process };
    effects = [];
    choice = any_choice;
    is =
        passes _ _ _ _ (below (length w.processes) 16 (fits few)) ∙ passes _ _ _ _ (ap not is)
        ∙ ap (λ m. Gives m (record same { table = New_process }) []) counts;
    prints = prints;
    suits = tt;
    makes = record { process = λ x value. refl; children = λ x. refl };
    tree = refl;
    files = subst (λ m. Alike (with_row w.files m (w.files.table p)) left) (sym counts) alike;
  }

-- nobody has the child's number yet
pub unmade : (programs : Programs) (t : List Node) (f : OpenFiles) (processes : List ProcessState) (numbering : Numbering) → IsWorld programs numbering (world_with t f processes) →
    (n : ℕ) → f.table (length processes) n ≡ None
unmade programs t f processes numbering good =
    subst (λ o. HasNone o (f.table (length processes))) (slice_get_past processes (length processes) (at_most (length processes))) (good.gone (length processes))
  where
    at_most : (n : ℕ) → n ≤ n
    at_most n = grind (arith)
