-- What the front message of a queue carries, where the invariant holds.
use Rattle.std.proofs.Common.{◌≡◌, ℕ, true, List, ◌∷◌, subst}
use Rattle.std.specs.Prelude.{None}
use Rattle.process.specs.State.{ProcessState}
use Rattle.certificate.specs.Bounds.{Certificate}
use Rattle.fd_table.specs.Descriptions.{Message, IfHeld, EachPassed}
use Rattle.kernel.specs.World.{World, Choice}
use Rattle.kernel.specs.Answers.{Same_queue, Change}
use Rattle.kernel.specs.Changes.{changed}
use Rattle.kernel.specs.Steps.{with_process, halted}
use Rattle.kernel.specs.WellFormed.{IsWellFormed}
use Rattle.task.specs.Plans.{Plan, programs_of_plan}
use Rattle.rules.proofs.worlds.Invariant.{Carries, Invariant, bounds}
use Rattle.rules.proofs.frames.Frames.{bounds_persist}
use Rattle.rules.proofs.frames.ChangeKinds.{Acts, frame_process, frame_halted, frame_changed}
use Rattle.rules.proofs.frames.PairClasses.{IsNamed, message_named}

module _ (plan : Plan) (certificate : Certificate) (w : World) (p : ℕ) (s : ProcessState) (choice : Choice) (acts : Acts plan w p s choice) (inv : Invariant plan (bounds plan certificate) w) where
  -- what the front message of a queue carries is named, and is as its channel says
  pub front_carried : (pair side : ℕ) (m : Message) (messages : List Message) → w.files.queue pair side ≡ m ∷ messages
      → IfHeld (λ d. IsNamed w choice inv.classes d × Carries plan certificate w (inv.classes pair) side d) m.passed
  front_carried pair side m messages is =
      (subst (EachPassed (λ d. IsNamed w choice inv.classes d × Carries plan certificate w (inv.classes pair) side d)) is
      (message_named plan w p s choice acts (bounds plan certificate) inv pair side)).0
