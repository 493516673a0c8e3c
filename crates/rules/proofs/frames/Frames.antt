-- What a step of a process leaves of the rest of a world, and the invariant after it.
use Rattle.std.proofs.Common.{◌≡◌, ◌≢◌, Bool, ℕ, ◌+◌, ◌<◌, length, true, false, List, [], ◌∷◌, ◌++◌, inl, inr, refl, ap, sym, ◌∙◌, subst, drop}
use Rattle.std.specs.Prelude.{◌&&◌, Option, Some, None}
use Rattle.std.specs.List.{slice_get}
use Rattle.std.specs.Option.{option_map}
use Rattle.std.specs.Cmp.Derive.{both_true}
use Rattle.std.proofs.Math.Decide.{ℕ_discrete}
use Rattle.std.proofs.lemmas.Bool.{eq-eqb, both_ways}
use Rattle.std.proofs.lemmas.Bool.Decides.{eqb_tells}
use Rattle.rights.specs.Maps.{put, put2}
use Rattle.rights.proofs.Changes.{put-cases}
use Rattle.rights.proofs.Tests.{both_left, both_right}
use Rattle.process.specs.State.{ProcessState}
use Rattle.certificate.specs.Bounds.{Target, In_grant, Any_node, Socket, Unknown, Held, Slot, Closed, Open, Maybe, Certificate}
use Rattle.certificate.specs.Describes.{Holds, target_describes, held_describes, slot_describes, mode_describes, registers_describe, slots_describe}
use Rattle.certificate.proofs.Smaller.{between, from_between}
use Rattle.rights.specs.Classes as classes
use Rattle.fd_table.specs.Descriptions.{PairClass, Initial, Made_at, Made_by, Access, Object, At_node, At_end, Descriptor, Message, IfHeld, EachPassed}
use Rattle.fd_table.specs.OpenFiles.{is_end, IsOther}
use Rattle.kernel.specs.World.{World, Choice, IsFresh}
use Rattle.kernel.specs.Answers.{QueueChange, Same_queue, Push, Pop}
use Rattle.kernel.specs.Changes.{queue_after}
use Rattle.kernel.specs.WellFormed.{EachMessage, IsObject, IsDescriptor, IsWellFormed}
use Rattle.lookup.proofs.UnderWay.{there_if_opened}
use Rattle.kernel.proofs.Brings.{ground, Known}
use Rattle.kernel.proofs.Fresh.{IsApart, known_messages}
use Rattle.kernel.proofs.Marks.{AreMarkedAs}
use Rattle.task.specs.Plans.{Plan, program_name, programs_of_plan}
use Rattle.task.specs.Policies.{grant_holds}
use Rattle.task.specs.KeptLimits.{KeepsGrants}
use Rattle.rules.specs.Channels.{channel_at}
use Rattle.rules.specs.Seen.{subject_of, seen_of, table_seen}
use Rattle.rules.specs.Within.{IsTableWithin, IsWithinAuthority, MayHave, own_authority}
use Rattle.rules.proofs.worlds.Invariant.{Asks, IfAlive, IsLiving, IsOfClass, HasClass, IsCarried, Invariant, IsDescribed, Carries, LivesBy, is_free, line_describes, marks, bounds}
use Rattle.rules.proofs.worlds.Walks.{IsWalkerIn}
use Rattle.rules.proofs.frames.KeptTrees.{KeepsTree, goes_on, clear_stays}
use Rattle.rules.proofs.frames.KeptWalks.{walker_later}

-- What a step of process p leaves, which may change that queue: what old descriptions are of; each node in the grants that
-- hold it; the other processes and their tables; and the other queues.
pub record Keeps (plan : Plan) (w v : World) (choice : Choice) (queue : QueueChange) (p : ℕ) : Type 0 where
  pub objects : (n : ℕ) → n ≢ choice.first → n ≢ choice.second → v.files.objects n ≡ w.files.objects n
  pub tree : KeepsTree plan.grants w.tree v.tree
  pub processes : (q : ℕ) (s : ProcessState) → q ≢ p → slice_get w.processes q ≡ Some s → slice_get v.processes q ≡ Some s
  pub tables : (q : ℕ) (s : ProcessState) → q ≢ p → slice_get w.processes q ≡ Some s → (n : ℕ) → v.files.table q n ≡ w.files.table q n
  pub queues : (pair side : ℕ) → v.files.queue pair side ≡ queue_after w.files.queue queue pair side

-- from a well-formed world, under a fresh choice
pub record Frame (plan : Plan) (w v : World) (choice : Choice) (queue : QueueChange) (p : ℕ) : Type 0 where
  pub formed : IsWellFormed (programs_of_plan plan) w
  pub fresh : IsFresh w.files choice
  pub keeps : Keeps plan w v choice queue p

-- What is asked of a process whose table stays, and of a descriptor whose description does, holds on.
pub record Persists (asks : Asks) (w v : World) : Type 0 where
  pub lives : (q : ℕ) (s : ProcessState) → ((n : ℕ) → v.files.table q n ≡ w.files.table q n) → asks.Lives w q s → asks.Lives v q s
  pub carries : (class : PairClass) (side : ℕ) (d : Descriptor) → v.files.objects d.description ≡ w.files.objects d.description
      → asks.Carries w class side d → asks.Carries v class side d

-- Pairs keep their classes, but for a new one, and each entry has that of its pair.
pub record KeepsClasses (v : World) (choice : Choice) (classes after : ℕ → PairClass) : Type 0 where
  pub same : (pair : ℕ) → pair ≢ choice.pair → after pair ≡ classes pair
  pub ends : (q n : ℕ) → IfHeld (HasClass v.files.objects after) (v.files.table q n)

-- What the acting process owes: what is asked of itself, of a child, and of what it has sent.
abbrev pub IfPushed : (ℕ → ℕ → Descriptor → Type 0) → QueueChange → Type 0
IfPushed P Same_queue = Unit {0}
IfPushed P (Push pair side m) = IfHeld (P pair side) m.passed
IfPushed P (Pop pair side) = Unit {0}

pub record Owes (plan : Plan) (asks : Asks) (w v : World) (classes : ℕ → PairClass) (queue : QueueChange) (p : ℕ) : Type 0 where
  pub own : IfAlive (IsLiving plan asks v p) (slice_get v.processes p)
  pub child : (q : ℕ) → slice_get w.processes q ≡ None → IfAlive (IsLiving plan asks v q) (slice_get v.processes q)
  pub pushed : IfPushed (IsCarried asks v classes) queue

-- ## Queues
each_more : (P : Descriptor → Type 0) (messages : List Message) (m : Message) → EachPassed P messages → IfHeld P m.passed → EachPassed P (messages ++ m ∷ [])
each_more P [] m all last = (last, tt)
each_more P (x ∷ messages) m all last = (all.0, each_more P messages m all.1 last)

each_rest : (P : Descriptor → Type 0) (messages : List Message) → EachPassed P messages → EachPassed P (drop 1 messages)
each_rest P [] all = tt
each_rest P (m ∷ messages) all = all.1

each_put : (P : ℕ → ℕ → Descriptor → Type 0) (queue : ℕ → ℕ → List Message) (r t : ℕ) (messages : List Message)
    → ((pair side : ℕ) → EachPassed (P pair side) (queue pair side)) → EachPassed (P r t) messages → (pair side : ℕ)
    → EachPassed (P pair side) (put2 queue r t messages pair side)
each_put P queue r t messages all new pair side =
    put-cases (λ (row : ℕ → List Message). EachPassed (P pair side) (row side)) queue r (put (queue r) t messages) pair
    (λ same. subst (λ k. EachPassed (P k side) (put (queue r) t messages side)) (sym same)
    (put-cases (EachPassed (P r side)) (queue r) t messages side (λ here. subst (λ k. EachPassed (P r k) messages) (sym here) new) (λ _. all r side)))
    (λ _. all pair side)

each_after : (P : ℕ → ℕ → Descriptor → Type 0) (queue : ℕ → ℕ → List Message) (change : QueueChange) → IfPushed P change
    → ((pair side : ℕ) → EachPassed (P pair side) (queue pair side)) → (pair side : ℕ) → EachPassed (P pair side) (queue_after queue change pair side)
each_after P queue Same_queue pushed all = all
each_after P queue (Push r t m) pushed all = each_put P queue r t (queue r t ++ m ∷ []) all (each_more (P r t) (queue r t) m (all r t) pushed)
each_after P queue (Pop r t) pushed all = each_put P queue r t (drop 1 (queue r t)) all (each_rest (P r t) (queue r t) (all r t))

pub each_known : (Good P Q : Descriptor → Type 0) → ((d : Descriptor) → Good d → P d → Q d) → (messages : List Message) → EachMessage Good messages
    → EachPassed P messages → EachPassed Q messages
each_known Good P Q f [] good all = tt
each_known Good P Q f (m ∷ messages) good all = (one m.passed good.1 all.0, each_known Good P Q f messages good.2 all.1)
  where
    one : (o : Option Descriptor) → IfHeld Good o → IfHeld P o → IfHeld Q o
    one None good is = tt
    one (Some d) good is = f d good is

-- ## The frame
module _ (plan : Plan) (w v : World) (choice : Choice) (queue : QueueChange) (p : ℕ) (frame : Frame plan w v choice queue p) where
  abbrev Apart : ℕ → Type 0
  Apart = IsApart w.files choice

  pub object_stays : (n : ℕ) → IsApart w.files choice n → v.files.objects n ≡ w.files.objects n
  object_stays n apart = frame.keeps.objects n apart.first apart.second

  -- what an entry is of is in the tree
  node_there : (q m : ℕ) (d : Descriptor) (n : ℕ) (access : Access) → w.files.table q m ≡ Some d → w.files.objects d.description ≡ At_node n access → n < length w.tree
  node_there q m d n access here at =
      let formed : IsDescriptor w.tree frame.formed.numbering w.files.objects w.files.states d =
      subst (IfHeld (IsDescriptor w.tree frame.formed.numbering w.files.objects w.files.states)) here (frame.formed.world.entries q m) in
      there_if_opened w.tree n (subst (IsObject w.tree frame.formed.numbering d.description) at formed.object)

  -- ### Classes
  other_pair : (pair side : ℕ) (class : PairClass) → is_end choice.pair side (At_end pair side class) ≡ false → pair ≢ choice.pair
  other_pair pair side class none same =
      both_ways (is_end choice.pair side (At_end pair side class)) none (rw (eq-eqb pair choice.pair same, eq-eqb side side refl) refl)

  of_class_later : (classes after : ℕ → PairClass) → ((pair : ℕ) → pair ≢ choice.pair → after pair ≡ classes pair) → (o : Object)
      → ((side : ℕ) → is_end choice.pair side o ≡ false) → IsOfClass classes o → IsOfClass after o
  of_class_later classes after same (At_node n access) none is = tt
  of_class_later classes after same (At_end pair side class) none is = same pair (other_pair pair side class (none side)) ∙ is

  pub class_later : (classes after : ℕ → PairClass) → ((pair : ℕ) → pair ≢ choice.pair → after pair ≡ classes pair) → (d : Descriptor)
      → IsApart w.files choice d.description → HasClass w.files.objects classes d → HasClass v.files.objects after d
  class_later classes after same d apart is =
      subst (IsOfClass after) (sym (object_stays d.description apart))
      (of_class_later classes after same (w.files.objects d.description) apart.ends is)

  -- ### What is on its way
  pub carried_later : (asks : Asks) → Persists asks w v → (classes after : ℕ → PairClass) → ((pair : ℕ) → pair ≢ choice.pair → after pair ≡ classes pair)
      → (pair side : ℕ) → pair ≢ choice.pair → (d : Descriptor) → IsApart w.files choice d.description → IsCarried asks w classes pair side d
      → IsCarried asks v after pair side d
  carried_later asks persists classes after same pair side other d apart is = (
    class_later classes after same d apart is.0,
    subst (λ c. asks.Carries v c side d) (sym (same pair other))
        (persists.carries (classes pair) side d (object_stays d.description apart) is.1),
  )

  module _ (asks : Asks) (persists : Persists asks w v) (inv : Invariant plan asks w) (after : ℕ → PairClass) (kept : KeepsClasses v choice inv.classes after) where
    old_messages : (pair side : ℕ) → EachPassed (IsCarried asks v after pair side) (w.files.queue pair side)
    old_messages pair side =
        elim (eqb_tells pair choice.pair) [
          | inl same ↦
              let none : w.files.queue pair side ≡ [] = ap (λ k. w.files.queue k side) same.1 ∙ frame.fresh.pair.empty side in
              subst (EachPassed (IsCarried asks v after pair side)) (sym none) tt
          | inr other ↦
              each_known (Known (ground frame.formed.numbering w (IsApart w.files choice))) (IsCarried asks w inv.classes pair side) (IsCarried asks v after pair side)
              (λ d known is. carried_later asks persists inv.classes after kept.same pair side other.1 d known.1 is)
              (w.files.queue pair side)
              (known_messages (programs_of_plan plan) frame.formed.numbering w frame.formed.world choice frame.fresh pair side)
              (inv.carried pair side)
        ]

    -- ### The invariant after a step
    pub next : KeepsGrants plan → IsWellFormed (programs_of_plan plan) v → AreMarkedAs (marks plan) v → Owes plan asks w v after queue p → Invariant plan asks v
    next grants formed marked owes = record {
      formed = formed;
      marked = marked;
      classes = after;
      living = λ q. living q (ℕ_discrete q p) (slice_get w.processes q) refl;
      ends = kept.ends;
      carried = λ pair side.
          subst (EachPassed (IsCarried asks v after pair side)) (sym (frame.keeps.queues pair side))
          (each_after (IsCarried asks v after) w.files.queue queue owes.pushed old_messages pair side);
      clear = λ i g there. clear_stays plan grants w.tree v.tree frame.keeps.tree i g there (inv.clear i g there);
    }
      where
        -- what a process that doesn't act has under way
        walker_goes_on : (q : ℕ) (s : ProcessState) → ((n : ℕ) → v.files.table q n ≡ w.files.table q n)
            → IsWalkerIn plan w.tree w.files.objects (w.files.table q) s → IsWalkerIn plan v.tree v.files.objects (v.files.table q) s
        walker_goes_on q s same is =
            walker_later plan grants w.tree v.tree frame.keeps.tree w.files.objects v.files.objects (w.files.table q) (v.files.table q) s same
            (λ m d here.
            frame.keeps.objects d.description (subst (IsOther choice.first) here (frame.fresh.first.entries q m)) (subst (IsOther choice.second) here (frame.fresh.second.entries q m)))
            (λ m d n access here at. node_there q m d n access here at) is

        goes_on_living : (q : ℕ) (s : ProcessState) → ((n : ℕ) → v.files.table q n ≡ w.files.table q n) → (o : Option ProcessState) → o ≡ Some s
            → IfAlive (IsLiving plan asks w q) o → IfAlive (IsLiving plan asks v q) (Some s)
        goes_on_living q s same None is lives = absurd cc
        goes_on_living q s same (Some r) is lives =
            let one : r ≡ s = cc in
            λ alive.
            let old : IsLiving plan asks w q s = (subst (λ (u : ProcessState). u.alive ≡ true → IsLiving plan asks w q u) one lives) alive in
            record { asked = persists.lives q s same old.asked; walker = walker_goes_on q s same old.walker }

        living : (q : ℕ) → Dec (q ≡ p) → (o : Option ProcessState) → slice_get w.processes q ≡ o → IfAlive (IsLiving plan asks v q) (slice_get v.processes q)
        living q (yes same) o is = subst (λ k. IfAlive (IsLiving plan asks v k) (slice_get v.processes k)) (sym same) owes.own
        living q (no other) None is = owes.child q is
        living q (no other) (Some s) is =
            subst (IfAlive (IsLiving plan asks v q)) (sym (frame.keeps.processes q s other is))
            (goes_on_living q s (frame.keeps.tables q s other is) (slice_get w.processes q) is (inv.living q))

-- ## What a bound says holds on
module _ (plan : Plan) (w v : World) (choice : Choice) (queue : QueueChange) (p : ℕ) (frame : Frame plan w v choice queue p) where
  abbrev holds : Holds
  holds = grant_holds plan.grants

  target_stays : (t : Target) (o : Object) → target_describes (grant_holds plan.grants) t (subject_of plan w.tree o) ≡ true
      → target_describes (grant_holds plan.grants) t (subject_of plan v.tree o) ≡ true
  target_stays (In_grant name) (At_node n access) is = goes_on plan.grants w.tree v.tree frame.keeps.tree n name is
  target_stays (In_grant name) (At_end pair side (Initial number)) is = absurd cc
  target_stays (In_grant name) (At_end pair side (Made_at program point)) is = absurd cc
  target_stays (In_grant name) (At_end pair side (Made_by program)) is = absurd cc
  target_stays Any_node (At_node n access) is = refl
  target_stays Any_node (At_end pair side (Initial number)) is = absurd cc
  target_stays Any_node (At_end pair side (Made_at program point)) is = absurd cc
  target_stays Any_node (At_end pair side (Made_by program)) is = absurd cc
  target_stays (Socket class side) (At_node n access) is = absurd cc
  target_stays (Socket class side) (At_end pair s (Initial number)) is = is
  target_stays (Socket class side) (At_end pair s (Made_at program point)) is = is
  target_stays (Socket class side) (At_end pair s (Made_by program)) is = absurd cc
  target_stays Unknown o is = refl

  pub held_stays : (h : Held) (d : Descriptor) → v.files.objects d.description ≡ w.files.objects d.description
      → held_describes (grant_holds plan.grants) h (seen_of plan w d) ≡ true → held_describes (grant_holds plan.grants) h (seen_of plan v d) ≡ true
  held_stays h d same is =
      let facts = between (grant_holds plan.grants) h (seen_of plan w d) is in
      from_between (grant_holds plan.grants) h (seen_of plan v d) (record {
        target =
            subst (λ o. target_describes (grant_holds plan.grants) h.target (subject_of plan v.tree o) ≡ true) (sym same)
            (target_stays h.target (w.files.objects d.description) facts.target);
        least = facts.least;
        greatest = facts.greatest;
        least_fcntls = facts.least_fcntls;
        greatest_fcntls = facts.greatest_fcntls;
      })

  pub slot_stays : (s : Slot) (o : Option Descriptor) → IsOther choice.first o → IsOther choice.second o
      → slot_describes (grant_holds plan.grants) s (option_map (seen_of plan w) o) ≡ true
      → slot_describes (grant_holds plan.grants) s (option_map (seen_of plan v) o) ≡ true
  slot_stays Closed None one two is = refl
  slot_stays Closed (Some d) one two is = absurd cc
  slot_stays (Open h) None one two is = absurd cc
  slot_stays (Open h) (Some d) one two is = held_stays h d (frame.keeps.objects d.description one two) is
  slot_stays (Maybe h) None one two is = refl
  slot_stays (Maybe h) (Some d) one two is = held_stays h d (frame.keeps.objects d.description one two) is

  -- an entry that stays is as its slot says
  pub entry_stays : (s : Slot) (q m : ℕ) → slot_describes (grant_holds plan.grants) s (table_seen plan w q m) ≡ true
      → slot_describes (grant_holds plan.grants) s (option_map (seen_of plan v) (w.files.table q m)) ≡ true
  entry_stays s q m is = slot_stays s (w.files.table q m) (frame.fresh.first.entries q m) (frame.fresh.second.entries q m) is

  slots_stay : (n : ℕ) (slots : List Slot) (q : ℕ) → ((m : ℕ) → v.files.table q m ≡ w.files.table q m)
      → slots_describe (grant_holds plan.grants) n slots (table_seen plan w q) ≡ true
      → slots_describe (grant_holds plan.grants) n slots (table_seen plan v q) ≡ true
  slots_stay n [] q same is = is
  slots_stay n (s ∷ slots) q same is =
      both_true
      (subst (λ o. slot_describes (grant_holds plan.grants) s (option_map (seen_of plan v) o) ≡ true) (sym (same n))
      (entry_stays s q n (both_left _ (slots_describe (grant_holds plan.grants) (n + 1) slots (table_seen plan w q)) is)))
      (slots_stay (n + 1) slots q same (both_right (slot_describes (grant_holds plan.grants) s (table_seen plan w q n)) _ is))

  pub described_stays : (certificate : Certificate) (q : ℕ) (s : ProcessState) → ((n : ℕ) → v.files.table q n ≡ w.files.table q n)
      → IsDescribed plan certificate w q s → IsDescribed plan certificate v q s
  described_stays certificate q s same inside =
      let b = inside.bound in
      let front = mode_describes b.mode s.mode && registers_describe b.registers s.registers in
      let slots = slots_describe (grant_holds plan.grants) 0 b.slots (table_seen plan w q) in
      record {
        bound = b;
        at = inside.at;
        is = both_true (both_left front slots inside.is) (slots_stay 0 b.slots q same (both_right front slots inside.is));
      }

  line_stays : (line : Option (Option Held)) (d : Descriptor) → v.files.objects d.description ≡ w.files.objects d.description
      → line_describes (grant_holds plan.grants) line (seen_of plan w d) ≡ true
      → line_describes (grant_holds plan.grants) line (seen_of plan v d) ≡ true
  line_stays None d same is = absurd cc
  line_stays (Some None) d same is = absurd cc
  line_stays (Some (Some h)) d same is = held_stays h d same is

  -- what a program may have it may have
  may_stay : (program : ℕ) (certificate : Certificate) (o : Object) (rights : ℕ)
      → MayHave plan.wide plan.grants (own_authority plan certificate program) (program_name plan program) (subject_of plan w.tree o) rights
      → MayHave plan.wide plan.grants (own_authority plan certificate program) (program_name plan program) (subject_of plan v.tree o) rights
  may_stay program certificate (At_node n access) rights is =
      record { name = is.name; holds = goes_on plan.grants w.tree v.tree frame.keeps.tree n is.name is.holds; below = is.below }
  may_stay program certificate (At_end pair side (Initial number)) rights is = is
  may_stay program certificate (At_end pair side (Made_at of point)) rights is = is
  may_stay program certificate (At_end pair side (Made_by of)) rights is = is

  pub within_stays : (certificate : Certificate) (program : ℕ) (d : Descriptor) → v.files.objects d.description ≡ w.files.objects d.description
      → IsWithinAuthority plan certificate w program d → IsWithinAuthority plan certificate v program d
  within_stays certificate program d same is =
      subst (λ o. MayHave plan.wide plan.grants (own_authority plan certificate program) (program_name plan program) (subject_of plan v.tree o) d.rights) (sym same)
      (may_stay program certificate (w.files.objects d.description) d.rights is)

  pub entry_within : (certificate : Certificate) (program : ℕ) (o : Option Descriptor) → IsOther choice.first o → IsOther choice.second o
      → IfHeld (IsWithinAuthority plan certificate w program) o → IfHeld (IsWithinAuthority plan certificate v program) o
  entry_within certificate program None one two is = tt
  entry_within certificate program (Some d) one two is = within_stays certificate program d (frame.keeps.objects d.description one two) is

  -- a row of the world before
  pub row_within : (certificate : Certificate) (program q : ℕ) → IsTableWithin plan certificate w q program → (n : ℕ)
      → IfHeld (IsWithinAuthority plan certificate v program) (w.files.table q n)
  row_within certificate program q is n =
      entry_within certificate program (w.files.table q n) (frame.fresh.first.entries q n) (frame.fresh.second.entries q n) (is n)

  lives_stay : (certificate : Certificate) (free : Bool) (q : ℕ) (s : ProcessState) → ((n : ℕ) → v.files.table q n ≡ w.files.table q n)
      → LivesBy plan certificate free w q s → LivesBy plan certificate free v q s
  lives_stay certificate true q s same is = λ n.
      subst (IfHeld (IsWithinAuthority plan certificate v s.program)) (sym (same n)) (row_within certificate s.program q is n)
  lives_stay certificate false q s same is = described_stays certificate q s same is

  carries_stay : (certificate : Certificate) (class : PairClass) (side : ℕ) (d : Descriptor) → v.files.objects d.description ≡ w.files.objects d.description
      → Carries plan certificate w class side d → Carries plan certificate v class side d
  carries_stay certificate (Initial pair) side d same is = line_stays (channel_at certificate (classes.Initial pair) side) d same is
  carries_stay certificate (Made_at program point) side d same is =
      line_stays (channel_at certificate (classes.Made_at (program_name plan program) point) side) d same is
  carries_stay certificate (Made_by program) side d same is = within_stays certificate program d same is

  pub bounds_persist : (certificate : Certificate) → Persists (bounds plan certificate) w v
  bounds_persist certificate = record {
    lives = λ q s same is. lives_stay certificate (is_free s) q s same is;
    carries = carries_stay certificate;
  }
