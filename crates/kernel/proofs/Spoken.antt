-- What a process is about to do is of the language that programs and deeds are of, in every run.
use Rattle.std.proofs.Common.{◌≡◌, ℕ, zero, suc, Bool, true, false, List, [], ◌∷◌, length, sym, inl, inr, subst}
use Rattle.std.specs.Prelude.{Option, Some, None}
use Rattle.std.specs.List.{slice_get}
use Rattle.rights.proofs.Tests.{both_left, both_right}
use Rattle.process.specs.State.{Deed, ProcessState, handed_to}
use Rattle.instruction_set.specs.Languages.{are_spoken, is_spoken, speaks}
use Rattle.instruction_set.specs.Programs.{Instruction, Invoke, Syscall}
use Rattle.kernel.specs.World.{World, Choice}
use Rattle.kernel.specs.Answers.{Event}
use Rattle.kernel.specs.Hostile.{Act, Own, Does, IsSpoken, about}
use Rattle.kernel.specs.Steps.{Programs, executed, next_instruction, step, stepped, stepped_at, stepped_by}
use Rattle.kernel.specs.Walks.{call_in, under_way}
use Rattle.kernel.proofs.Deeds.{IsLike, after_keeps, changed_keeps, each_executed}
use Rattle.kernel.proofs.Hostile.{handed_cases}

abbrev pub IsSpokenDeed : Bool → Option Deed → Type 0
IsSpokenDeed wide None = Unit {0}
IsSpokenDeed wide (Some deed) = is_spoken wide deed.instruction ≡ true

abbrev pub IsSpokenNext : Bool → Option ProcessState → Type 0
IsSpokenNext wide None = Unit {0}
IsSpokenNext wide (Some s) = IsSpokenDeed wide s.kept

abbrev pub AreSpokenNext : Bool → World → Type 0
AreSpokenNext wide w = (p : ℕ) → IsSpokenNext wide (slice_get w.processes p)

module _ (wide : Bool) (w : World) (are : AreSpokenNext wide w) (e : Event) (choice : Choice) where
  module _ (s : ProcessState) (own : IsSpokenDeed wide s.kept) where
    like_spoken : (t : ProcessState) → IsLike s t → IsSpokenDeed wide t.kept
    like_spoken t like = elim like.kept [
      | inl same ↦ subst (IsSpokenDeed wide) (sym same) own
      | inr none ↦ subst (IsSpokenDeed wide) (sym none) tt
    ]

    executed_spoken : (i : Instruction) → AreSpokenNext wide (executed w e choice s i).world
    executed_spoken i = each_executed w e choice s (λ q o. IsSpokenNext wide o) are like_spoken like_spoken i

    at_spoken : (o : Option Instruction) → AreSpokenNext wide (stepped_at w e choice s o).world
    unfolding stepped_at
    at_spoken None = are
    at_spoken (Some i) = λ q.
        after_keeps (IsSpokenNext wide) e.process (length w.processes) (executed w e choice s i).world.processes q s.kept (executed w e choice s i).outcome
        (λ deed t is. tt) (executed_spoken i q)

    by_spoken : (programs : Programs) (alive : Bool) → AreSpokenNext wide (stepped_by programs w e choice s alive).world
    unfolding stepped_by
    by_spoken programs false = are
    by_spoken programs true = at_spoken (next_instruction s.kept (slice_get (programs s.program) s.point))

  pub step_spoken : (programs : Programs) → AreSpokenNext wide (step programs w e choice).world
  unfolding step stepped
  step_spoken programs = go (slice_get w.processes e.process) (are e.process)
    where
      go : (o : Option ProcessState) → IsSpokenNext wide o → AreSpokenNext wide (stepped programs w e choice o).world
      go None is = are
      go (Some s) is = by_spoken s is programs s.alive

pub about_spoken : (wide : Bool) (w : World) (p : ℕ) (act : Act) → IsSpoken wide act → AreSpokenNext wide w → AreSpokenNext wide (about w p act)
about_spoken wide w p Own spoken are = are
about_spoken wide w p (Does deed) spoken are = λ q.
    changed_keeps (IsSpokenNext wide) w.processes p (handed_to deed) q
    (λ s is. handed_cases (λ t. IsSpokenDeed wide t.kept) deed s (λ hostile. spoken) is) (are q)

-- an instruction of a program of the language is of it
abbrev IsSpokenAt : Bool → Option Instruction → Type 0
IsSpokenAt wide None = Unit {0}
IsSpokenAt wide (Some i) = is_spoken wide i ≡ true

spoken_at : (wide : Bool) (code : List Instruction) (n : ℕ) → are_spoken wide code ≡ true → IsSpokenAt wide (slice_get code n)
spoken_at wide [] n are = tt
spoken_at wide (i ∷ code) zero are = both_left (is_spoken wide i) (are_spoken wide code) are
spoken_at wide (i ∷ code) (suc n) are = spoken_at wide code n (both_right (is_spoken wide i) (are_spoken wide code) are)

next_spoken : (wide : Bool) (kept : Option Deed) (here : Option Instruction) → IsSpokenDeed wide kept → IsSpokenAt wide here → IsSpokenAt wide (next_instruction kept here)
next_spoken wide None here deed code = code
next_spoken wide (Some d) here deed code = deed

called_spoken : (wide : Bool) (o : Option Instruction) (call : Syscall) → IsSpokenAt wide o → call_in o ≡ Some call → speaks wide call ≡ true
called_spoken wide (Some (Invoke own otherwise)) call spoken is = let same : own ≡ call = cc in subst (λ c. speaks wide c ≡ true) same spoken
called_spoken wide None call spoken is = absurd cc
called_spoken wide (Some i) call spoken is = absurd cc

-- and so is the call of a process
pub call_spoken : (wide : Bool) (programs : Programs) (s : ProcessState) (call : Syscall) → are_spoken wide (programs s.program) ≡ true → IsSpokenDeed wide s.kept
    → under_way programs s ≡ Some call → speaks wide call ≡ true
unfolding under_way
call_spoken wide programs s call code deed is =
    called_spoken wide (next_instruction s.kept (slice_get (programs s.program) s.point)) call
    (next_spoken wide s.kept (slice_get (programs s.program) s.point) deed (spoken_at wide (programs s.program) s.point code)) is
