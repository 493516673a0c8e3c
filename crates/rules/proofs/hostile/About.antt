-- The invariant of a world in which a process is about to do anything.
use Rattle.std.proofs.Common.{◌≡◌, ℕ, Bool, true, false, List, [], ◌∷◌, refl, ap, sym, ◌∙◌, subst}
use Rattle.std.specs.Prelude.{Option, Some, None}
use Rattle.std.specs.List.{slice_get}
use Rattle.process.specs.State.{Deed, ProcessState, handed_to, is_hostile}
use Rattle.fd_table.specs.Descriptions.{PairClass, Initial, Made_at, Made_by, Descriptor, Message, IfHeld, EachPassed}
use Rattle.certificate.specs.Bounds.{Certificate}
use Rattle.kernel.specs.World.{World}
use Rattle.kernel.specs.Steps.{changed_at, handed}
use Rattle.kernel.specs.Hostile.{Act, Own, Does, IsAct, about}
use Rattle.kernel.proofs.Deeds.{changed_keeps}
use Rattle.kernel.proofs.Hostile.{about_well_formed, handed_cases, rests_now}
use Rattle.kernel.proofs.Marks.{about_marked}
use Rattle.task.specs.Plans.{Plan, programs_of_plan}
use Rattle.rules.proofs.worlds.Invariant.{Carries, IfAlive, Invariant, IsCarried, IsLiving, LivesBy, is_free, marks, bounds}
use Rattle.rules.proofs.worlds.Walks.{rests}

module _ (plan : Plan) (certificate : Certificate) (w : World) (processes : List ProcessState) where
  abbrev with_them : World
  with_them = record w { processes = processes }

  -- what is asked doesn't depend on the processes, and not on what one is to do next
  same_lives : (free : Bool) (q : ℕ) (s t : ProcessState) → t.program ≡ s.program → t.point ≡ s.point → t.mode ≡ s.mode → t.registers ≡ s.registers
      → LivesBy plan certificate free w q s → LivesBy plan certificate free with_them q t
  same_lives true q s t program point mode registers is = rw program is
  same_lives false q s t program point mode registers is = record { bound = is.bound; at = rw (program, point) is.at; is = rw (mode, registers) is.is }

  same_carries : (class : PairClass) (side : ℕ) (d : Descriptor) → Carries plan certificate w class side d → Carries plan certificate with_them class side d
  same_carries (Initial n) side d is = is
  same_carries (Made_at program point) side d is = is
  same_carries (Made_by program) side d is = is

  same_messages : (classes : ℕ → PairClass) (pair side : ℕ) (messages : List Message) → EachPassed (IsCarried (bounds plan certificate) w classes pair side) messages
      → EachPassed (IsCarried (bounds plan certificate) with_them classes pair side) messages
  same_messages classes pair side [] all = tt
  same_messages classes pair side (m ∷ messages) all = (one m.passed all.0, same_messages classes pair side messages all.1)
    where
      one : (o : Option Descriptor) → IfHeld (IsCarried (bounds plan certificate) w classes pair side) o → IfHeld (IsCarried (bounds plan certificate) with_them classes pair side) o
      one None is = tt
      one (Some d) is = (is.0, same_carries (classes pair) side d is.1)

  same_living : (q : ℕ) (o : Option ProcessState) → IfAlive (IsLiving plan (bounds plan certificate) w q) o → IfAlive (IsLiving plan (bounds plan certificate) with_them q) o
  same_living q None living = tt
  same_living q (Some s) living = λ alive.
      let old : IsLiving plan (bounds plan certificate) w q s = living alive in
      record { asked = same_lives (is_free s) q s s refl refl refl refl old.asked; walker = record { walks = old.walker.walks } }

pub invariant_about : (plan : Plan) (certificate : Certificate) (w : World) (p : ℕ) (act : Act) → IsAct (programs_of_plan plan) w p act → Invariant plan (bounds plan certificate) w
    → Invariant plan (bounds plan certificate) (about w p act)
invariant_about plan certificate w p Own is inv = inv
invariant_about plan certificate w p (Does deed) is inv = record {
  formed = about_well_formed (programs_of_plan plan) w p (Does deed) inv.formed is;
  marked = about_marked (marks plan) w p (Does deed) inv.marked;
  classes = inv.classes;
  living = λ q.
      changed_keeps (IfAlive (IsLiving plan (bounds plan certificate) (handed w p deed) q)) w.processes p (handed_to deed) q
      (λ s living. handed_cases (λ t. IfAlive (IsLiving plan (bounds plan certificate) (handed w p deed) q) (Some t)) deed s (λ hostile. kept q s hostile living) living)
      (same_living plan certificate w (changed_at w.processes p (handed_to deed)) q (slice_get w.processes q) (inv.living q));
  ends = inv.ends;
  carried = λ pair side.
      same_messages plan certificate w (changed_at w.processes p (handed_to deed)) inv.classes pair side (w.files.queue pair side) (inv.carried pair side);
  clear = inv.clear;
}
  where
    kept : (q : ℕ) (s : ProcessState) → is_hostile s ≡ true → IfAlive (IsLiving plan (bounds plan certificate) (handed w p deed) q) (Some s)
        → IfAlive (IsLiving plan (bounds plan certificate) (handed w p deed) q) (Some (record s { kept = Some deed }))
    kept q s hostile living = λ alive.
        let old : IsLiving plan (bounds plan certificate) (handed w p deed) q s = living alive in
        record {
          asked =
              same_lives plan certificate (handed w p deed) (changed_at w.processes p (handed_to deed)) (is_free s) q s (record s { kept = Some deed }) refl refl refl refl old.asked;
          walker =
              rests plan w.tree w.files.objects (w.files.table q) (record s { kept = Some deed })
              (rests_now (programs_of_plan plan) deed s hostile);
        }
