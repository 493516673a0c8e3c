-- The invariant holds of a task's first world.
use Rattle.std.proofs.Common.{◌≡◌, ℕ, zero, suc, Bool, true, false, List, [], ◌∷◌, inl, inr, refl, ap, sym, ◌∙◌, subst, replicate, cond}
use Rattle.std.specs.Prelude.{◌==◌, ◌&&◌, ◌||◌, not, Option, Some, None}
use Rattle.std.specs.List.{slice_get, list_all}
use Rattle.std.specs.Cmp.Derive.{both_true}
use Rattle.std.specs.Option.{option_map}
use Rattle.std.proofs.lemmas.Bool.{eq-eqb}
use Rattle.rights.specs.Limits.{register_count}
use Rattle.rights.proofs.Lists.{list_all-slice_get}
use Rattle.rights.specs.Sets.{is_within}
use Rattle.rights.proofs.Tests.{both_left, both_right, not_true}
use Rattle.file_tree.specs.Places.{begins}
use Rattle.file_tree.specs.Nodes.{Node, node}
use Rattle.file_tree.specs.WellFormed.{has_directory}
use Rattle.process.specs.State.{ProcessState}
use Rattle.certificate.specs.Bounds.{Authority, Bound, Certificate, bound_at}
use Rattle.certificate.specs.Describes.{Seen, describes}
use Rattle.fd_table.specs.Descriptions.{Object, At_node, At_end, Descriptor, IfHeld, EachPassed}
use Rattle.instruction_set.specs.Programs.{Instruction}
use Rattle.kernel.specs.World.{World}
use Rattle.kernel.specs.WellFormed.{Numbering, IsObject, IsDescriptor, IsProcessIfMade, IsPoint, IsWellFormed}
use Rattle.kernel.proofs.Marks.{AreMarkedAs}
use Rattle.task.specs.Plans.{Grant, FirstObject, On_node, On_end, FirstDescriptor, Start, Plan, program_name, programs_of_plan}
use Rattle.task.specs.Limits.{is_plan}
use Rattle.task.specs.Policies.{grant_holds, holds_in}
use Rattle.task.specs.Begins.{first_object, first_process, first_world, given_to, with_number}
use Rattle.task.specs.Laws.{IsFirstProcess, IsFirstEntry, IsFirstWorld}
use Rattle.task.proofs.AsGiven.{first_is_first}
use Rattle.task.proofs.FirstWorlds.{first_well_formed}
use Rattle.task.proofs.KeptLimits.{plans_keep_limits}
use Rattle.task.proofs.Trusted.{first_marked}
use Rattle.rules.specs.Points.{instruction_at}
use Rattle.rules.specs.Rules.{Test, first_subject, first_seen, first_table, start_within, starts_within, is_bounded_start, marked_at, is_started}
use Rattle.rules.specs.Rules.{tests, tests_without, least_broken}
use Rattle.rules.specs.Authority.{is_below_ceiling, may_start_on, may_start_with, most_in}
use Rattle.rules.specs.Verdicts.{MeetsRules, found_with, found_at}
use Rattle.rules.proofs.Members.{Among, each_of}
use Rattle.rules.proofs.points.Marked.{FirstAsked, any_at, any_found, first_asked, marked_by_name}
use Rattle.rules.specs.Seen.{subject_of, seen_of, table_seen}
use Rattle.rules.proofs.worlds.Walks.{rests}
use Rattle.rules.specs.Within.{IsTableWithin, IsWithinAuthority, MayHave, own_authority}
use Rattle.rules.proofs.worlds.Invariant.{IfAlive, IsLiving, IsOfClass, HasClass, IsCarried, Invariant, IsDescribed, LivesBy, is_free, marks, bounds}

-- ## What the rules say at point 0
abbrev IsFirstKept : List Test → Type 0
IsFirstKept [] = Unit {0}
IsFirstKept (t ∷ ts) = t.kept ≡ true

first_kept : (ts : List Test) → least_broken ts ≡ None → IsFirstKept ts
first_kept [] none = tt
first_kept (t ∷ ts) none = go t.kept none
  where
    go : (b : Bool) → cond b (least_broken ts) (Some t.rule) ≡ None → b ≡ true
    go true is = refl
    go false is = absurd cc

starts_kept : (plan : Plan) (certificate : Certificate) (program : ℕ) (i : Instruction) (b : Bound)
    → least_broken (tests plan certificate program 0 i b) ≡ None → starts_within plan program 0 b ≡ true
unfolding tests
starts_kept plan certificate program i b none = first_kept (tests plan certificate program 0 i b) none

not_started : (plan : Plan) (certificate : Certificate) (program : ℕ) → least_broken (tests_without plan certificate program 0) ≡ None → is_started plan program ≡ false
unfolding tests_without
not_started plan certificate program none = not_true (is_started plan program) (first_kept (tests_without plan certificate program 0) none)

-- what a first descriptor is of, as a bound sees it, and an entry
object_seen : (plan : Plan) (x : FirstObject) → first_subject plan.nodes x ≡ subject_of plan plan.nodes (first_object x)
object_seen plan (On_node n access) = refl
object_seen plan (On_end pair side) = refl

entry_seen : (plan : Plan) (w : World) → w.tree ≡ plan.nodes → (given : Option FirstDescriptor) (entry : Option Descriptor)
    → IsFirstEntry w.files given entry → option_map (first_seen plan.nodes) given ≡ option_map (seen_of plan w) entry
entry_seen plan w tree None None is = refl
entry_seen plan w tree None (Some d) is = absurd is
entry_seen plan w tree (Some given) None is = absurd is
entry_seen plan w tree (Some given) (Some d) is =
    (λ i. Some (record { subject = object_seen plan given.object i; rights = given.rights; fcntls = given.fcntls }))
    ∙ (λ i.
    Some (record {
      subject = subject_of plan (sym tree i) (sym is.object i);
      rights = sym is.rights i;
      fcntls = sym is.fcntls i;
    }))

-- a descriptor that is given is one of the start's
given_among : (n : ℕ) (ds : List FirstDescriptor) (d : FirstDescriptor) → with_number n ds ≡ Some d → Among d ds
given_among n [] d is = absurd cc
given_among n (x ∷ ds) d is = go (x.number == n) is (given_among n ds d)
  where
    go : (b : Bool) → cond b (Some x) (with_number n ds) ≡ Some d → (with_number n ds ≡ Some d → Among d ds) → Among d (x ∷ ds)
    go true here later = let same : x ≡ d = cc in inl (sym same)
    go false there later = inr (later there)

module _ (plan : Plan) (certificate : Certificate) (valid : is_plan plan ≡ true) (meets : MeetsRules plan certificate) where
  abbrev first : World
  first = first_world plan

  by_name : (program : ℕ) → marks plan program ≡ marked_at plan program
  by_name program = marked_by_name plan (plans_keep_limits plan valid).programs program

  -- a program that a process starts has a bound at point 0, which describes each first process of it that it bounds
  record IsBounded (program : ℕ) : Type 0 where
    bound : Bound
    at : bound_at certificate (program_name plan program) 0 ≡ Some bound
    starts : starts_within plan program 0 bound ≡ true

  bounded : (program : ℕ) (i : Instruction) → instruction_at plan program 0 ≡ Some i → is_started plan program ≡ true → IsBounded program
  unfolding found_at found_with
  bounded program i here is = go (bound_at certificate (program_name plan program) 0) refl
    where
      at_instruction : found_with plan certificate program 0 (Some i) (bound_at certificate (program_name plan program) 0) ≡ None
      at_instruction = subst (λ o. found_with plan certificate program 0 o (bound_at certificate (program_name plan program) 0) ≡ None) here (meets program 0)

      go : (o : Option Bound) → bound_at certificate (program_name plan program) 0 ≡ o → IsBounded program
      go None none =
          let without : found_with plan certificate program 0 (Some i) None ≡ None = subst (λ o. found_with plan certificate program 0 (Some i) o ≡ None) none at_instruction in
          let clash : true ≡ false = sym is ∙ not_started plan certificate program without in absurd cc
      go (Some b) some =
          let kept : found_with plan certificate program 0 (Some i) (Some b) ≡ None = subst (λ o. found_with plan certificate program 0 (Some i) o ≡ None) some at_instruction in
          record { bound = b; at = some; starts = starts_kept plan certificate program i b kept }

  -- ## A first process
  module _ (p : ℕ) (st : Start) (here : slice_get plan.starts p ≡ Some st) where
    first_is : (m : ℕ) → first_table plan.nodes st m ≡ table_seen plan (first_world plan) p m
    first_is m =
        let is = first_is_first plan valid in
        entry_seen plan (first_world plan) is.tree (with_number m st.descriptors) ((first_world plan).files.table p m)
        (subst (λ o. IsFirstEntry (first_world plan).files (given_to o m) ((first_world plan).files.table p m)) here (is.entries p m))

    -- ### That follows its program
    module _ (follows : (marks plan st.program && st.mode) ≡ false) where
      is_bounded : is_bounded_start (marked_at plan st.program) st.program st ≡ true
      is_bounded = both_true (ap not (ap (λ m. m && st.mode) (sym (by_name st.program)) ∙ follows)) (eq-eqb st.program st.program refl)

      own_start : (b : Bound) → starts_within plan st.program 0 b ≡ true → start_within plan b st ≡ true
      own_start b within =
          own (is_bounded_start (marked_at plan st.program) st.program st) is_bounded
          (list_all-slice_get (λ (s : Start). not (is_bounded_start (marked_at plan st.program) st.program s) || start_within plan b s) plan.starts p st within here)
        where
          own : (a : Bool) → a ≡ true → (not a || start_within plan b st) ≡ true → start_within plan b st ≡ true
          own true is h = h
          own false is h = absurd cc

      first_described : (b : Bound) → start_within plan b st ≡ true
          → describes (grant_holds plan.grants) b st.mode (replicate register_count 0) (table_seen plan (first_world plan) p) ≡ true
      first_described b within =
          subst (λ (table : ℕ → Option Seen). describes (grant_holds plan.grants) b st.mode (replicate register_count 0) table ≡ true) (λ i m. first_is m i) within

      first_inside : IsPoint (instruction_at plan st.program 0) → IsDescribed plan certificate (first_world plan) p (first_process plan.programs st)
      first_inside point = go (instruction_at plan st.program 0) refl point
        where
          go : (o : Option Instruction) → instruction_at plan st.program 0 ≡ o → IsPoint o → IsDescribed plan certificate (first_world plan) p (first_process plan.programs st)
          go None at none = absurd none
          go (Some i) at some =
              let b = bounded st.program i at (any_at (is_bounded_start (marked_at plan st.program) st.program) plan.starts p st here is_bounded) in
              record { bound = b.bound; at = b.at; is = first_described b.bound (own_start b.bound b.starts) }

    -- ### That doesn't: it holds what its program may have
    module _ (free : (marks plan st.program && st.mode) ≡ true) (asked : FirstAsked plan certificate st.program) where
      abbrev a : Authority
      a = own_authority plan certificate st.program

      may_start : list_all (may_start_with plan.wide plan a) st.descriptors ≡ true
      may_start =
          own (st.mode && (st.program == st.program)) (both_true (both_right (marks plan st.program) st.mode free) (eq-eqb st.program st.program refl))
          (list_all-slice_get (λ (s : Start). not (s.mode && (s.program == st.program)) || list_all (may_start_with plan.wide plan a) s.descriptors) plan.starts p st asked.starts here)
        where
          own : (b : Bool) → b ≡ true → (not b || list_all (may_start_with plan.wide plan a) st.descriptors) ≡ true → list_all (may_start_with plan.wide plan a) st.descriptors ≡ true
          own true is h = h
          own false is h = absurd cc

      may_have : (x : FirstObject) (rights : ℕ) → may_start_on plan.wide plan a rights x ≡ true
          → MayHave plan.wide plan.grants a (program_name plan st.program) (subject_of plan plan.nodes (first_object x)) rights
      may_have (On_node n access) rights may =
          let place = (node plan.nodes n).place in
          let found = any_found (is_below_ceiling plan.wide a rights place) plan.grants may in
          let g : Grant = found.element in
          record {
            name = g.name;
            holds =
                subst (λ o. holds_in o place ≡ true) (sym ((plans_keep_limits plan valid).grants.found found.number g found.there))
                (both_left _ (is_within rights (most_in plan.wide a g.name)) found.passes);
            below = both_right (begins g.path place) _ found.passes;
          }
      may_have (On_end pair side) rights may = may

      first_within : IsTableWithin plan certificate (first_world plan) p st.program
      first_within n =
          let is = first_is_first plan valid in
          entry (with_number n st.descriptors) refl ((first_world plan).files.table p n)
          (subst (λ o. IsFirstEntry (first_world plan).files (given_to o n) ((first_world plan).files.table p n)) here (is.entries p n))
        where
          entry : (given : Option FirstDescriptor) → with_number n st.descriptors ≡ given → (o : Option Descriptor) → IsFirstEntry (first_world plan).files given o
              → IfHeld (IsWithinAuthority plan certificate (first_world plan) st.program) o
          entry None at None is = tt
          entry None at (Some d) is = absurd is
          entry (Some given) at None is = absurd is
          entry (Some given) at (Some d) is =
              let one = each_of (may_start_with plan.wide plan a) st.descriptors may_start given (given_among n st.descriptors given at) in
              let tree = (first_is_first plan valid).tree in
              subst (λ r. MayHave plan.wide plan.grants a (program_name plan st.program) (subject_of plan (first_world plan).tree ((first_world plan).files.objects d.description)) r) (sym is.rights)
              (subst (λ o. MayHave plan.wide plan.grants a (program_name plan st.program) (subject_of plan (first_world plan).tree o) given.rights) (sym is.object)
              (subst (λ t. MayHave plan.wide plan.grants a (program_name plan st.program) (subject_of plan t (first_object given.object)) given.rights) (sym tree)
              (may_have given.object given.rights one)))

    first_asks : IsPoint (instruction_at plan st.program 0) → (free : Bool) → (marks plan st.program && st.mode) ≡ free
        → LivesBy plan certificate free (first_world plan) p (first_process plan.programs st)
    first_asks point true free = go (instruction_at plan st.program 0) refl point
      where
        go : (o : Option Instruction) → instruction_at plan st.program 0 ≡ o → IsPoint o → LivesBy plan certificate true (first_world plan) p (first_process plan.programs st)
        go None at none = absurd none
        go (Some i) at some =
            first_within free
            (first_asked plan certificate st.program (sym (by_name st.program) ∙ both_left (marks plan st.program) st.mode free) i at (meets st.program 0))
    first_asks point false follows = first_inside follows point

  inside : (p : ℕ) (start : Option Start) → slice_get plan.starts p ≡ start → (o : Option ProcessState) → IsProcessIfMade (programs_of_plan plan) o
      → IsFirstProcess plan.programs start o → IfAlive (IsLiving plan (bounds plan certificate) (first_world plan) p) o
  inside p start here None made is = tt
  inside p None here (Some s) made is = absurd is
  inside p (Some st) here (Some s) made is = λ alive.
      let placed : IsPoint (instruction_at plan s.program s.point) = made.placed in
      record {
        asked =
            subst (λ (t : ProcessState). LivesBy plan certificate (is_free t) (first_world plan) p t) (sym is)
            (first_asks p st here (subst (λ (t : ProcessState). IsPoint (instruction_at plan t.program t.point)) is placed) (marks plan st.program && st.mode) refl);
        walker =
            rests plan (first_world plan).tree (first_world plan).files.objects ((first_world plan).files.table p) s
            (ap (λ (t : ProcessState). t.walk) is);
      }

  first_marks : AreMarkedAs (marks plan) (first_world plan)
  unfolding first_world
  first_marks p = first_marked plan.programs plan.starts p

  -- ## Ends
  class_given : (tree : List Node) (numbering : Numbering) (description : ℕ) (o : Object) → IsObject tree numbering description o → IsOfClass numbering.class o
  class_given tree numbering description (At_node n access) is = tt
  class_given tree numbering description (At_end pair side class) is = is.3

  end_given : (numbering : Numbering) (o : Option Descriptor)
      → IfHeld (IsDescriptor (first_world plan).tree numbering (first_world plan).files.objects (first_world plan).files.states) o
      → IfHeld (HasClass (first_world plan).files.objects numbering.class) o
  end_given numbering None is = tt
  end_given numbering (Some d) is = class_given (first_world plan).tree numbering d.description ((first_world plan).files.objects d.description) is.object

  pub first_invariant : Invariant plan (bounds plan certificate) (first_world plan)
  first_invariant =
      let formed : IsWellFormed (programs_of_plan plan) (first_world plan) = (first_well_formed plan valid).1.formed in
      let is : IsFirstWorld plan (first_world plan) = first_is_first plan valid in
      record {
        formed = formed;
        marked = first_marks;
        classes = formed.numbering.class;
        living = λ p. inside p (slice_get plan.starts p) refl (slice_get (first_world plan).processes p) (formed.world.processes p) (is.processes p);
        ends = λ p n. end_given formed.numbering ((first_world plan).files.table p n) (formed.world.entries p n);
        carried = λ pair side. subst (EachPassed (IsCarried (bounds plan certificate) (first_world plan) formed.numbering.class pair side)) (sym (is.queues pair side)) tt;
        clear = λ i g there. subst (λ t. has_directory t g.path ≡ true) (sym is.tree) ((plans_keep_limits plan valid).grants.directory i g there);
      }
