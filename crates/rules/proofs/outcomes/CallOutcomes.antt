-- Where the success of each call leads.
use Rattle.std.proofs.Common.{◌≡◌, ℕ, Bool, true, false, List, inl, inr, refl}
use Rattle.std.specs.Prelude.{◌-◌, Option, Some, if◌then◌else◌}
use Rattle.rights.specs.Limits.{most_bytes, most_processes}
use Rattle.process.specs.State.{ProcessState}
use Rattle.instruction_set.specs.Programs.{Operand, Read, Write, Lseek, Ftruncate, Fsync, Fstat, Fcntl_getfl, Fcntl_setfl, Fstatat, Stat, Mkdirat, Mkdir, Unlinkat, Unlink, Cap_enter}
use Rattle.instruction_set.specs.Programs.{Cap_getmode, Fork, Use as Call_use, Invoke}
use Rattle.rights.specs.Uses.{acts_beneath}
use Rattle.kernel.specs.Answers.{value_of}
use Rattle.task.specs.Plans.{Plan}
use Rattle.certificate.specs.Bounds.{On, Certificate}
use Rattle.certificate.specs.Describes.{Node_at, Seen}
use Rattle.rules.specs.Intervals.{only}
use Rattle.rules.specs.Outcomes.{from_to, mode_interval}
use Rattle.rules.proofs.points.Stands.{Stands}
use Rattle.rules.proofs.outcomes.Outcomes.{GoesOn, to_next, succeeds, gives_value, gives_beneath}

the_one : {A : Type 0} (b : Bool) (x y : A) → b ≡ true → (if b then x else y) ≡ x
the_one true x y is = refl
the_one false x y is = absurd cc

the_other : {A : Type 0} (b : Bool) (x y : A) → b ≡ false → (if b then x else y) ≡ y
the_other true x y is = absurd cc
the_other false x y is = refl

module _ (plan : Plan) (certificate : Certificate) (s : ProcessState) (table : ℕ → Option Seen) where
  -- ## Calls that give a value alone
  pub leads_read :
      (x : Operand) (otherwise : ℕ) (known : Stands plan certificate s table (Invoke (Read x) otherwise)) (d : Seen) → table (value_of s x) ≡ Some d
      → GoesOn plan certificate s known.bound (from_to 0 256)
  leads_read x otherwise known d here =
      gives_value plan certificate s table (Read x) otherwise known x d (from_to 0 256) here refl

  pub leads_write :
      (x v : Operand) (otherwise : ℕ) (known : Stands plan certificate s table (Invoke (Write x v) otherwise)) (d : Seen) → table (value_of s x) ≡ Some d
      → GoesOn plan certificate s known.bound (only 1)
  leads_write x v otherwise known d here =
      gives_value plan certificate s table (Write x v) otherwise known x d (only 1) here refl

  pub leads_lseek :
      (x v : Operand) (otherwise : ℕ) (known : Stands plan certificate s table (Invoke (Lseek x v) otherwise)) (d : Seen) → table (value_of s x) ≡ Some d
      → GoesOn plan certificate s known.bound (from_to 0 most_bytes)
  leads_lseek x v otherwise known d here =
      gives_value plan certificate s table (Lseek x v) otherwise known x d (from_to 0 most_bytes) here refl

  pub leads_ftruncate :
      (x v : Operand) (otherwise : ℕ) (known : Stands plan certificate s table (Invoke (Ftruncate x v) otherwise)) (d : Seen) → table (value_of s x) ≡ Some d
      → GoesOn plan certificate s known.bound (only 0)
  leads_ftruncate x v otherwise known d here =
      gives_value plan certificate s table (Ftruncate x v) otherwise known x d (only 0) here refl

  pub leads_fsync :
      (x : Operand) (otherwise : ℕ) (known : Stands plan certificate s table (Invoke (Fsync x) otherwise)) (d : Seen) → table (value_of s x) ≡ Some d
      → GoesOn plan certificate s known.bound (only 0)
  leads_fsync x otherwise known d here =
      gives_value plan certificate s table (Fsync x) otherwise known x d (only 0) here refl

  pub leads_fstat :
      (x : Operand) (otherwise : ℕ) (known : Stands plan certificate s table (Invoke (Fstat x) otherwise)) (d : Seen) → table (value_of s x) ≡ Some d
      → GoesOn plan certificate s known.bound (from_to 1 3)
  leads_fstat x otherwise known d here =
      gives_value plan certificate s table (Fstat x) otherwise known x d (from_to 1 3) here refl

  pub leads_getfl :
      (x : Operand) (otherwise : ℕ) (known : Stands plan certificate s table (Invoke (Fcntl_getfl x) otherwise)) (d : Seen) → table (value_of s x) ≡ Some d
      → GoesOn plan certificate s known.bound (from_to 0 3)
  leads_getfl x otherwise known d here =
      gives_value plan certificate s table (Fcntl_getfl x) otherwise known x d (from_to 0 3) here refl

  pub leads_setfl :
      (x v : Operand) (otherwise : ℕ) (known : Stands plan certificate s table (Invoke (Fcntl_setfl x v) otherwise)) (d : Seen) → table (value_of s x) ≡ Some d
      → GoesOn plan certificate s known.bound (only 0)
  leads_setfl x v otherwise known d here =
      gives_value plan certificate s table (Fcntl_setfl x v) otherwise known x d (only 0) here refl

  -- ## Calls that need a further right, and those of them that act on a node alone
  pub leads_use :
      (x : Operand) (right otherwise : ℕ) (known : Stands plan certificate s table (Invoke (Call_use x right) otherwise)) (d : Seen) → table (value_of s x) ≡ Some d
      → acts_beneath right ≡ false → GoesOn plan certificate s known.bound (only 0)
  leads_use x right otherwise known d here apart =
      gives_value plan certificate s table (Call_use x right) otherwise known x d (only 0) here (the_other (acts_beneath right) _ _ apart)

  pub leads_use_at :
      (x : Operand) (right otherwise : ℕ) (known : Stands plan certificate s table (Invoke (Call_use x right) otherwise)) (d : Seen) (place : List (List ℕ))
      → table (value_of s x) ≡ Some d → d.subject ≡ Node_at place → GoesOn plan certificate s known.bound (only 0)
  leads_use_at x right otherwise known d place here node = go (acts_beneath right) refl
    where
      go : (b : Bool) → acts_beneath right ≡ b → GoesOn plan certificate s known.bound (only 0)
      go true beneath =
          gives_beneath plan certificate s table (Call_use x right) otherwise known x d place (only 0) here node (the_one (acts_beneath right) _ _ beneath)
      go false apart = leads_use x right otherwise known d here apart

  -- ## Calls on names
  pub leads_fstatat :
      (x : Operand) (path : List ℕ) (otherwise : ℕ) (known : Stands plan certificate s table (Invoke (Fstatat x path) otherwise)) (d : Seen)
      (place : List (List ℕ))
      → table (value_of s x) ≡ Some d → d.subject ≡ Node_at place → GoesOn plan certificate s known.bound (from_to 1 2)
  leads_fstatat x path otherwise known d place here node =
      gives_beneath plan certificate s table (Fstatat x path) otherwise known x d place (from_to 1 2) here node refl

  pub leads_mkdirat :
      (x : Operand) (path : List ℕ) (otherwise : ℕ) (known : Stands plan certificate s table (Invoke (Mkdirat x path) otherwise)) (d : Seen)
      (place : List (List ℕ))
      → table (value_of s x) ≡ Some d → d.subject ≡ Node_at place → GoesOn plan certificate s known.bound (only 0)
  leads_mkdirat x path otherwise known d place here node =
      gives_beneath plan certificate s table (Mkdirat x path) otherwise known x d place (only 0) here node refl

  pub leads_unlinkat :
      (x : Operand) (path : List ℕ) (directory : Bool) (otherwise : ℕ)
      (known : Stands plan certificate s table (Invoke (Unlinkat x path directory) otherwise)) (d : Seen) (place : List (List ℕ))
      → table (value_of s x) ≡ Some d → d.subject ≡ Node_at place → GoesOn plan certificate s known.bound (only 0)
  leads_unlinkat x path directory otherwise known d place here node =
      gives_beneath plan certificate s table (Unlinkat x path directory) otherwise known x d place (only 0) here node refl

  pub leads_stat : (path : List ℕ) (otherwise : ℕ) (known : Stands plan certificate s table (Invoke (Stat path) otherwise)) → GoesOn plan certificate s known.bound (from_to 1 2)
  leads_stat path otherwise known =
      succeeds plan certificate s table (Stat path) otherwise known (to_next plan certificate s table known.bound (from_to 1 2)) (inl refl)

  pub leads_mkdir : (path : List ℕ) (otherwise : ℕ) (known : Stands plan certificate s table (Invoke (Mkdir path) otherwise)) → GoesOn plan certificate s known.bound (only 0)
  leads_mkdir path otherwise known =
      succeeds plan certificate s table (Mkdir path) otherwise known (to_next plan certificate s table known.bound (only 0)) (inl refl)

  pub leads_unlink :
      (path : List ℕ) (directory : Bool) (otherwise : ℕ) (known : Stands plan certificate s table (Invoke (Unlink path directory) otherwise))
      → GoesOn plan certificate s known.bound (only 0)
  leads_unlink path directory otherwise known =
      succeeds plan certificate s table (Unlink path directory) otherwise known (to_next plan certificate s table known.bound (only 0)) (inl refl)

  -- ## Calls on the process itself
  pub leads_cap_enter : (otherwise : ℕ) (known : Stands plan certificate s table (Invoke Cap_enter otherwise)) → GoesOn plan certificate s (record known.bound { mode = On }) (only 0)
  leads_cap_enter otherwise known =
      succeeds plan certificate s table Cap_enter otherwise known (to_next plan certificate s table (record known.bound { mode = On }) (only 0)) (inl refl)

  pub leads_cap_getmode : (otherwise : ℕ) (known : Stands plan certificate s table (Invoke Cap_getmode otherwise)) → GoesOn plan certificate s known.bound (mode_interval known.bound.mode)
  leads_cap_getmode otherwise known =
      succeeds plan certificate s table Cap_getmode otherwise known (to_next plan certificate s table known.bound (mode_interval known.bound.mode)) (inl refl)

  pub leads_fork_child : (otherwise : ℕ) (known : Stands plan certificate s table (Invoke Fork otherwise)) → GoesOn plan certificate s known.bound (only 0)
  leads_fork_child otherwise known =
      succeeds plan certificate s table Fork otherwise known (to_next plan certificate s table known.bound (only 0)) (inl refl)

  pub leads_fork : (otherwise : ℕ) (known : Stands plan certificate s table (Invoke Fork otherwise)) → GoesOn plan certificate s known.bound (from_to 1 (most_processes - 1))
  leads_fork otherwise known =
      succeeds plan certificate s table Fork otherwise known (to_next plan certificate s table known.bound (from_to 1 (most_processes - 1))) (inr (inl refl))
