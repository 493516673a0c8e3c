-- The call that needs a further right, behind its first test.
use Rattle.std.proofs.Common.{◌≡◌, ℕ, [], ap, sym, ◌∙◌}
use Rattle.std.specs.Prelude.{◌&&◌, ◌||◌, false, not, bit_or}
use Rattle.rights.specs.Uses.{acts_beneath, companions_of, reaches_globally}
use Rattle.file_tree.specs.Nodes.{is_dir, node}
use Rattle.fd_table.specs.Descriptions.{Descriptor}
use Rattle.instruction_set.specs.Programs.{Operand, Use}
use Rattle.process.specs.State.{ProcessState}
use Rattle.kernel.specs.World.{World}
use Rattle.kernel.specs.Answers.{Answer, Event, at_object, through, value_of}
use Rattle.kernel.specs.Calls.{answer, effects_of_use, used}
use Rattle.syscalls.proofs.Tests.{passes}

-- what it does through a descriptor
abbrev pub through_descriptor : World → ℕ → ProcessState → Event → ℕ → Descriptor → Answer
through_descriptor w p s e right d =
    at_object (w.files.objects d.description)
    (λ n access. used w p s e (not (acts_beneath right) || is_dir (node w.tree n).kind) (effects_of_use right (node w.tree n).place))
    (λ pair side. used w p s e (not (acts_beneath right)) [])

pub goes_through : (w : World) (p : ℕ) (s : ProcessState) (e : Event) (x : Operand) (right need : ℕ) → (s.mode && reaches_globally right) ≡ false →
    need ≡ bit_or (companions_of right) right → answer w p s e (Use x right) ≡ through need (w.files.table p (value_of s x)) (through_descriptor w p s e right)
unfolding answer
goes_through w p s e x right need outside is =
    passes _ _ _ _ (ap not outside) ∙ ap (λ need. through need (w.files.table p (value_of s x)) (through_descriptor w p s e right)) (sym is)
