-- A new pair.
use Rattle.std.proofs.Common.{◌≡◌, ◌≢◌, ◌+◌, ◌-◌, ◌<◌, arith, ℕ, true, false, not, List, [], refl, ap, subst, ◌∙◌}
use Rattle.std.specs.Prelude.{Option, Some, None}
use Rattle.rights.specs.Errors.{EMFILE, ENFILE, Full, Refused}
use Rattle.process.specs.State.{ProcessState}
use Rattle.file_tree.specs.Nodes.{Node}
use Rattle.fd_table.specs.Descriptions.{PairClass}
use Rattle.fd_table.specs.OpenFiles.{OpenFiles, lowest_free, lowest_from}
use Rattle.fd_table.specs.Filled.{Entry, IsFreeAt, Pairs}
use Rattle.instruction_set.specs.Programs.{Socketpair}
use Rattle.kernel.specs.World.{World}
use Rattle.kernel.specs.Answers.{Event, Answer, Fails, Gives, same, New_pair, at_number}
use Rattle.kernel.specs.Calls.{answer, own_class, pair_at, unrefused}
use Rattle.kernel.specs.Changes.{files_after}
use Rattle.syscalls.specs.declared.outcomes.Besides.TheVariants as besides
use Rattle.syscalls.specs.AnswerViews.{Succeeds}
use Rattle.syscalls.specs.Shows.{Shown}
use Rattle.syscalls.specs.Views.{world_with}
use Rattle.syscalls.proofs.Numbers.{lowest_is_free}
use Rattle.syscalls.proofs.Tests.{passes, fails}

module _ (f : OpenFiles) (p : ℕ) where
  abbrev pub second_from : ℕ → Option ℕ
  second_from first = lowest_from (15 - first) (first + 1) (f.table p)

  -- both numbers are free, and they differ
  pub first_free : (first : ℕ) → p < 16 → lowest_free (f.table p) ≡ Some first → IsFreeAt f p first
  first_free first low is = let (above, under, free) = lowest_is_free 16 0 first (f.table p) is in (low, under, free)

  pub second_free : (first second : ℕ) → p < 16 → first < 16 → second_from first ≡ Some second → IsFreeAt f p second × (first < second)
  second_free first second low few is = let (above, under, free) = lowest_is_free (15 - first) (first + 1) second (f.table p) is in ((low, omega arith, free), omega arith)

module _ (t : List Node) (f : OpenFiles) (processes : List ProcessState) (p : ℕ) (s : ProcessState) (e : Event) where
  abbrev pub w : World
  w = world_with t f processes

  abbrev made : ℕ → ℕ → Answer
  made first second = Gives first (record same { table = New_pair first second (own_class s) }) []

  with_first : (first : ℕ) → lowest_free (f.table p) ≡ Some first → answer w p s e Socketpair ≡ at_number (second_from f p first) (λ second. unrefused w p s e ENFILE (made first second))
  unfolding answer
  with_first first is = ap (pair_at w p s e) is

  with_second : (first second : ℕ) → lowest_free (f.table p) ≡ Some first → second_from f p first ≡ Some second → answer w p s e Socketpair ≡ unrefused w p s e ENFILE (made first second)
  unfolding at_number
  with_second first second one two = with_first first one ∙ ap (λ o. at_number o (λ second. unrefused w p s e ENFILE (made first second))) two

  -- no number is free, or one alone
  pub no_first : lowest_free (f.table p) ≡ None → answer w p s e Socketpair ≡ Fails EMFILE Full
  unfolding answer
  no_first is = ap (pair_at w p s e) is

  pub no_second : (first : ℕ) → lowest_free (f.table p) ≡ Some first → second_from f p first ≡ None → answer w p s e Socketpair ≡ Fails EMFILE Full
  unfolding at_number
  no_second first one two = with_first first one ∙ ap (λ o. at_number o (λ second. unrefused w p s e ENFILE (made first second))) two

  -- the kernel refuses
  pub refused : (first second : ℕ) → lowest_free (f.table p) ≡ Some first → second_from f p first ≡ Some second → e.refuse ≡ true → answer w p s e Socketpair ≡ Fails ENFILE Refused
  refused first second one two is = with_second first second one two ∙ fails _ _ _ _ (ap not is)

  -- a pair is made
  pub pairs : (first second : ℕ) (left : OpenFiles) (shows : List Shown) → lowest_free (f.table p) ≡ Some first → second_from f p first ≡ Some second →
      e.refuse ≡ false → [] ≡ shows → (class : PairClass) → class ≡ own_class s →
      Pairs f left class (Some (record { process = p; number = first })) (Some (record { process = p; number = second })) →
      Succeeds w p t left first (besides.Second second) shows (answer w p s e Socketpair)
  unfolding files_after
  pairs first second left shows one two is prints class made_there left_so =
      let y = subst (λ x. Pairs f left x (Some (record { process = p; number = first })) (Some (record { process = p; number = second }))) made_there left_so in
      record {
        change = record same { table = New_pair first second (own_class s) };
        effects = [];
        choice = record { first = y.first; second = y.second; pair = y.pair };
        is = with_second first second one two ∙ passes _ _ _ _ (ap not is);
        prints = prints;
        suits = (y.first_fresh, y.second_fresh, y.apart, y.unused);
        makes = record { process = λ x value. refl; children = λ x. refl };
        tree = refl;
        files = y.alike;
      }

abbrev entry_of : ℕ → ℕ → Entry
entry_of p n = record { process = p; number = n }

pub entries_apart : (p a b : ℕ) → a < b → entry_of p a ≢ entry_of p b
entries_apart p a b less same = numbers_apart (ap (λ (e : Entry). e.number) same)
  where
    numbers_apart : a ≡ b → ⊥
    numbers_apart is = omega arith
