-- What parts of calls may come to that a process of a marked program makes in the mode.
use Rattle.std.proofs.Common.{◌≡◌, ◌≢◌, ◌<◌, ℕ, Bool, true, false, List, [], ◌∷◌, length, inl, inr, refl, ap, sym, subst}
use Rattle.std.specs.Prelude.{◌&&◌, not, Option, Some, None, if◌then◌else◌}
use Rattle.rights.specs.Classes as classes
use Rattle.rights.specs.Needs.{openat_needs}
use Rattle.rights.specs.Opens.{OpenRequest, open_request}
use Rattle.rights.specs.Operations.{operations_of_rights, Operation, Read as Reads, Write as Writes, Create as Creates}
use Rattle.rights.specs.Sets.{all_rights, all_commands, is_within, ftruncate_right, create_right}
use Rattle.rights.proofs.Subsets.{is_within-trans}
use Rattle.file_tree.specs.Nodes.{Kind, File, Dir, Link, Node, node}
use Rattle.file_tree.specs.Places.{at_name}
use Rattle.lookup.specs.Answers.{Found_node, Found_free, Not_found}
use Rattle.lookup.specs.Answers as lookups
use Rattle.lookup.specs.Paths.{last_component}
use Rattle.process.specs.State.{ProcessState}
use Rattle.instruction_set.specs.Programs.{Syscall}
use Rattle.rights.specs.Sides.{other_side}
use Rattle.fd_table.specs.Descriptions.{PairClass, Initial, Made_at, Made_by, At_end, Descriptor, Message, IfHeld}
use Rattle.certificate.specs.Bounds.{Certificate}
use Rattle.kernel.specs.World.{World, Choice}
use Rattle.certificate.specs.Describes.{End_of, Node_at, Own_end, Subject}
use Rattle.kernel.specs.Answers.{Answer, Event, Gives, Set_entry, same}
use Rattle.kernel.specs.Calls.{opened, opened_as, pair_at, read_byte, read_end, receive_end, received}
use Rattle.kernel.specs.Calls.{sent_end, truncates}
use Rattle.kernel.specs.Walks.{under_way}
use Rattle.task.specs.Plans.{Plan, program_name, programs_of_plan}
use Rattle.task.specs.Policies.{grant_holds}
use Rattle.task.specs.Sandboxed.{Allowed, AreAllowed}
use Rattle.rules.specs.Authority.{authority_at}
use Rattle.rules.proofs.Members.{Among}
use Rattle.rules.proofs.calls.OpenCalls.{IsBeside, IsReached, deep_truncated, last_node, truncated_place}
use Rattle.rules.proofs.frames.Arrivals.{named_end}
use Rattle.rules.proofs.frames.Bounded.{front_carried}
use Rattle.rules.proofs.frames.PairClasses.{IsNamed}
use Rattle.rules.proofs.hostile.Unsaid.{is_said}
use Rattle.rules.proofs.hostile.Ceilings.{may_do, may_receive, may_send}
use Rattle.rules.proofs.hostile.Confining.{Confines, Roams, SendsThere, does, fails, free, held_formed, held_named, held_of, held_within}
use Rattle.rules.proofs.hostile.Confining.{if_blocked, if_lost, if_number, if_passed, if_so, if_unrefused, tree}
use Rattle.rules.proofs.worlds.Invariant.{Carries, bounds}
use Rattle.rules.specs.Seen.{seen_of, subject_of}
use Rattle.rules.specs.Within.{IsBelowCeiling, IsWithinAuthority, MayHave, own_authority}

-- ## Rights that an open needs
creates_needs : (read write append create trunc : Bool) → create ≡ true → is_within create_right (openat_needs (open_request read write append create trunc)) ≡ true
creates_needs true true true true true is = refl
creates_needs true true true true false is = refl
creates_needs true true true false true is = absurd cc
creates_needs true true true false false is = absurd cc
creates_needs true true false true true is = refl
creates_needs true true false true false is = refl
creates_needs true true false false true is = absurd cc
creates_needs true true false false false is = absurd cc
creates_needs true false true true true is = refl
creates_needs true false true true false is = refl
creates_needs true false true false true is = absurd cc
creates_needs true false true false false is = absurd cc
creates_needs true false false true true is = refl
creates_needs true false false true false is = refl
creates_needs true false false false true is = absurd cc
creates_needs true false false false false is = absurd cc
creates_needs false true true true true is = refl
creates_needs false true true true false is = refl
creates_needs false true true false true is = absurd cc
creates_needs false true true false false is = absurd cc
creates_needs false true false true true is = refl
creates_needs false true false true false is = refl
creates_needs false true false false true is = absurd cc
creates_needs false true false false false is = absurd cc
creates_needs false false true true true is = refl
creates_needs false false true true false is = refl
creates_needs false false true false true is = absurd cc
creates_needs false false true false false is = absurd cc
creates_needs false false false true true is = refl
creates_needs false false false true false is = refl
creates_needs false false false false true is = absurd cc
creates_needs false false false false false is = absurd cc

empties_needs : (read write append create trunc : Bool) → trunc ≡ true → is_within ftruncate_right (openat_needs (open_request read write append create trunc)) ≡ true
empties_needs true true true true true is = refl
empties_needs true true true true false is = absurd cc
empties_needs true true true false true is = refl
empties_needs true true true false false is = absurd cc
empties_needs true true false true true is = refl
empties_needs true true false true false is = absurd cc
empties_needs true true false false true is = refl
empties_needs true true false false false is = absurd cc
empties_needs true false true true true is = refl
empties_needs true false true true false is = absurd cc
empties_needs true false true false true is = refl
empties_needs true false true false false is = absurd cc
empties_needs true false false true true is = refl
empties_needs true false false true false is = absurd cc
empties_needs true false false false true is = refl
empties_needs true false false false false is = absurd cc
empties_needs false true true true true is = refl
empties_needs false true true true false is = absurd cc
empties_needs false true true false true is = refl
empties_needs false true true false false is = absurd cc
empties_needs false true false true true is = refl
empties_needs false true false true false is = absurd cc
empties_needs false true false false true is = refl
empties_needs false true false false false is = absurd cc
empties_needs false false true true true is = refl
empties_needs false false true true false is = absurd cc
empties_needs false false true false true is = refl
empties_needs false false true false false is = absurd cc
empties_needs false false false true true is = refl
empties_needs false false false true false is = absurd cc
empties_needs false false false false true is = refl
empties_needs false false false false false is = absurd cc

-- with fewer rights, and of a program of the same name
pub fewer_may : (plan : Plan) (certificate : Certificate) (w : World) (program : ℕ) (d : Descriptor) (rights : ℕ) → is_within rights d.rights ≡ true → IsWithinAuthority plan certificate w program d
    → IsWithinAuthority plan certificate w program (record d { rights = rights })
fewer_may plan certificate w program d rights less is = go (subject_of plan w.tree (w.files.objects d.description)) is
  where
    go : (x : Subject) → MayHave plan.wide plan.grants (own_authority plan certificate program) (program_name plan program) x d.rights
        → MayHave plan.wide plan.grants (own_authority plan certificate program) (program_name plan program) x rights
    go (Node_at place) is = record { name = is.name; holds = is.holds; below = is_within-trans rights d.rights _ less is.below }
    go (End_of class side) is = is
    go (Own_end of side) is = is

same_name_may : (plan : Plan) (certificate : Certificate) (w : World) (one other : ℕ) (d : Descriptor) → program_name plan one ≡ program_name plan other → IsWithinAuthority plan certificate w one d
    → IsWithinAuthority plan certificate w other d
same_name_may plan certificate w one other d same is =
    subst (λ n. MayHave plan.wide plan.grants (authority_at certificate n) n (subject_of plan w.tree (w.files.objects d.description)) d.rights) same is

-- at a place in each grant that holds the first
pub below_at : (plan : Plan) (certificate : Certificate) (program : ℕ) (from place : List (List ℕ)) (rights : ℕ)
    → IsBelowCeiling plan.wide plan.grants (own_authority plan certificate program) from rights
    → ((name : List ℕ) → grant_holds plan.grants name from ≡ true → grant_holds plan.grants name place ≡ true)
    → IsBelowCeiling plan.wide plan.grants (own_authority plan certificate program) place rights
below_at plan certificate program from place rights is beneath = record { name = is.name; holds = beneath is.name is.holds; below = is.below }

module _ (plan : Plan) (certificate : Certificate) (w : World) (e : Event) (s : ProcessState) (choice : Choice) (known : Roams plan certificate w e.process s choice) where
  abbrev p : ℕ
  p = e.process

  abbrev pub Under : Syscall → Type 0
  Under call = under_way (programs_of_plan plan) s ≡ Some call

  -- what a right of a descriptor lets do, at its place or beneath it
  pub may : (right : ℕ) (operation : Operation) → Among (right, operation) operations_of_rights → (not (is_within right 0) && is_said plan.wide right) ≡ true
      → (from place : List (List ℕ)) (rights : ℕ)
      → IsBelowCeiling plan.wide plan.grants (own_authority plan certificate s.program) from rights → is_within right rights ≡ true
      → ((name : List ℕ) → grant_holds plan.grants name from ≡ true → grant_holds plan.grants name place ≡ true) → Allowed plan.grants operation place
  may = may_do plan certificate s.program known.asked

  module _ (call : Syscall) (here : Under call) where
    abbrev pub May : Answer → Type 0
    May a = Confines plan certificate w e.process s choice known call here a

    -- ## Opening
    module _ (f : OpenRequest) (d : Descriptor) (from : List (List ℕ)) (below : IsBelowCeiling plan.wide plan.grants (own_authority plan certificate s.program) from d.rights)
        (has : is_within (openat_needs f) d.rights ≡ true) where
      may_create : f.create ≡ true → (place : List (List ℕ)) → IsBeside plan.grants from place → Allowed plan.grants Creates place
      may_create creates place beside =
          may create_right Creates (inr (inr (inr (inr (inl refl))))) refl from place d.rights below
          (is_within-trans create_right (openat_needs f) d.rights (creates_needs f.read f.write f.append f.create f.trunc creates) has) beside

      may_empty : (b : Bool) → f.trunc ≡ b → (place : List (List ℕ)) → IsBeside plan.grants from place → AreAllowed plan.grants (truncates b place)
      may_empty false is place beside = tt
      may_empty true is place beside = (
        may ftruncate_right Writes (inr (inr (inl refl))) refl from place d.rights below
            (is_within-trans ftruncate_right (openat_needs f) d.rights (empties_needs f.read f.write f.append f.create f.trunc is) has) beside,
        tt,
      )

      opens_as : (n : ℕ) (kind : Kind) → n < length w.tree → IsBeside plan.grants from (node w.tree n).place → May (opened_as w e.process s e f d.rights d.fcntls n kind)
      opens_as n Link there beside = fails plan certificate w e.process s choice known call here _ _
      opens_as n Dir there beside =
          if_passed plan certificate w e.process s choice known call here _ _ _ _ (λ readable.
          if_number plan certificate w e.process s choice known call here _ _ (λ number.
          if_unrefused plan certificate w e.process s choice known call here e _ _
          (does plan certificate w e.process s choice known call here _ _ _
          (record { allowed = tt; deep = tt; adds = below_at plan certificate s.program from (node w.tree n).place d.rights below beside; sends = tt }))))
      opens_as n File there beside =
          if_number plan certificate w e.process s choice known call here _ _ (λ number.
          if_unrefused plan certificate w e.process s choice known call here e _ _
          (does plan certificate w e.process s choice known call here _ _ _
          (record {
            allowed = may_empty f.trunc refl (node w.tree n).place beside;
            deep = deep_truncated plan w.tree f.trunc n;
            adds =
                subst (λ q. IsBelowCeiling plan.wide plan.grants (own_authority plan certificate s.program) q d.rights) (sym (truncated_place w.tree f.trunc n there))
                (below_at plan certificate s.program from (node w.tree n).place d.rights below beside);
            sends = tt;
          })))

      pub opens : (path : List ℕ) (a : lookups.Finding) → IsReached w.tree path f.create (IsBeside plan.grants from) a → May (opened w e.process s e f d.rights d.fcntls path a)
      opens path (Not_found fault) reached = if_lost plan certificate w e.process s choice known call here e fault
      opens path (Found_node n) reached = opens_as n (node w.tree n).kind reached.0 reached.1
      opens path (Found_free k) reached =
          let place : List (List ℕ) = at_name (node w.tree k).place (last_component path) in
          let made : Node = record { kind = File; place = place; linked = true; content = [] } in
          if_number plan certificate w e.process s choice known call here _ _ (λ number.
          if_passed plan certificate w e.process s choice known call here _ _ _ _ (λ room.
          if_unrefused plan certificate w e.process s choice known call here e _ _
          (does plan certificate w e.process s choice known call here _ _ _
          (record {
            allowed = (may_create reached.0 place reached.1, tt);
            deep = tt;
            adds =
                subst (λ (m : Node). IsBelowCeiling plan.wide plan.grants (own_authority plan certificate s.program) m.place d.rights) (sym (last_node w.tree made))
                (below_at plan certificate s.program from place d.rights below reached.1);
            sends = tt;
          }))))

    -- ## Files
    pub reads : (d : Descriptor) (place : List (List ℕ)) → Allowed plan.grants Reads place → (o : Option ℕ) → May (read_byte w e.process s e d.description place o)
    reads d place allowed None =
        does plan certificate w e.process s choice known call here _ _ _ (record { allowed = (allowed, tt); deep = tt; adds = tt; sends = tt })
    reads d place allowed (Some byte) =
        does plan certificate w e.process s choice known call here _ _ _ (record { allowed = (allowed, tt); deep = tt; adds = tt; sends = tt })

    -- a value alone
    pub gives_value : (value : ℕ) → May (Gives value same [])
    gives_value value = does plan certificate w e.process s choice known call here _ _ _ (record { allowed = tt; deep = tt; adds = tt; sends = tt })

    -- ## Sockets
    pub reads_end : (d : Descriptor) (pair side : ℕ) (messages : List Message) → May (read_end w e.process s e d.description pair side messages)
    reads_end d pair side [] =
        if_so plan certificate w e.process s choice known call here _ _ _ (if_blocked plan certificate w e.process s choice known call here e (w.files.states d.description).nonblock)
        (gives_value 256)
    reads_end d pair side (m ∷ messages) = does plan certificate w e.process s choice known call here _ _ _ (record { allowed = tt; deep = tt; adds = tt; sends = tt })

    pub sends_end : (d : Descriptor) (pair side : ℕ) (message : Message) → IfHeld (SendsThere plan certificate w e.process s choice known pair side) message.passed
        → May (sent_end w e.process s e d.description pair side message)
    sends_end d pair side message there =
        if_passed plan certificate w e.process s choice known call here _ _ _ _ (λ opened.
        if_so plan certificate w e.process s choice known call here _ _ _
        (does plan certificate w e.process s choice known call here _ _ _ (record { allowed = tt; deep = tt; adds = tt; sends = there }))
        (if_blocked plan certificate w e.process s choice known call here e (w.files.states d.description).nonblock))

    -- what it sends is what the pair's other side may be sent
    carries_sent : (n : ℕ) (d passed : Descriptor) → w.files.table e.process n ≡ Some d → IsWithinAuthority plan certificate w s.program passed
        → is_within passed.rights all_rights ≡ true → is_within passed.fcntls all_commands ≡ true
        → (pair side : ℕ) (class : PairClass) → w.files.objects d.description ≡ At_end pair side class → Carries plan certificate w class side passed
    carries_sent n d passed there within_it rights fcntls pair side (Initial i) is =
        may_send plan certificate s.program known.asked (classes.Initial i) side
        (held_of plan certificate w e.process s choice known call here n d there (At_end pair side (Initial i)) is) (seen_of plan w passed) rights fcntls
    carries_sent n d passed there within_it rights fcntls pair side (Made_at program point) is =
        may_send plan certificate s.program known.asked (classes.Made_at (program_name plan program) point) side
        (held_of plan certificate w e.process s choice known call here n d there (At_end pair side (Made_at program point)) is) (seen_of plan w passed) rights fcntls
    carries_sent n d passed there within_it rights fcntls pair side (Made_by program) is =
        same_name_may plan certificate w s.program program passed
        (sym (held_of plan certificate w e.process s choice known call here n d there (At_end pair side (Made_by program)) is)) within_it

    pub sends_there : (n k : ℕ) (d passed : Descriptor) → w.files.table e.process n ≡ Some d → w.files.table e.process k ≡ Some passed
        → (pair side : ℕ) (class : PairClass) → w.files.objects d.description ≡ At_end pair side class → SendsThere plan certificate w e.process s choice known pair side passed
    sends_there n k d passed there also pair side class is =
        let through_end : (pair ≢ choice.pair) × (known.inv.classes pair ≡ class) =
        named_end plan w e.process s choice known.acts (bounds plan certificate) known.inv d pair side class (held_named plan certificate w e.process s choice known call here n d there) is in
        let formed = held_formed plan certificate w e.process s choice known call here k passed also in (
          through_end.0,
          held_named plan certificate w e.process s choice known call here k passed also,
          subst (λ c. Carries plan certificate w c side passed) (sym through_end.1)
              (carries_sent n d passed there (held_within plan certificate w e.process s choice known call here k passed also) formed.rights formed.fcntls pair side class is),
        )

    -- what comes to it its program may have
    comes_within : (n : ℕ) (d c : Descriptor) → w.files.table e.process n ≡ Some d → (pair side : ℕ) (class : PairClass) → w.files.objects d.description ≡ At_end pair side class
        → Carries plan certificate w class (other_side side) c → IsWithinAuthority plan certificate w s.program c
    comes_within n d c there pair side (Initial i) is carried =
        may_receive plan certificate s.program known.asked (classes.Initial i) side
        (held_of plan certificate w e.process s choice known call here n d there (At_end pair side (Initial i)) is) (seen_of plan w c) carried
    comes_within n d c there pair side (Made_at program point) is carried =
        may_receive plan certificate s.program known.asked (classes.Made_at (program_name plan program) point) side
        (held_of plan certificate w e.process s choice known call here n d there (At_end pair side (Made_at program point)) is) (seen_of plan w c) carried
    comes_within n d c there pair side (Made_by program) is carried =
        same_name_may plan certificate w program s.program c (held_of plan certificate w e.process s choice known call here n d there (At_end pair side (Made_by program)) is) carried

    receives_front : (n number : ℕ) (d : Descriptor) → w.files.table e.process n ≡ Some d → (pair side : ℕ) (class : PairClass) → w.files.objects d.description ≡ At_end pair side class
        → (o : Option Descriptor) → IfHeld (λ c. IsNamed w choice known.inv.classes c × Carries plan certificate w (known.inv.classes pair) (other_side side) c) o
        → May (received w e.process s e pair side number o)
    receives_front n number d there pair side class is None carried = fails plan certificate w e.process s choice known call here _ _
    receives_front n number d there pair side class is (Some c) carried =
        let through_end : (pair ≢ choice.pair) × (known.inv.classes pair ≡ class) =
        named_end plan w e.process s choice known.acts (bounds plan certificate) known.inv d pair side class (held_named plan certificate w e.process s choice known call here n d there) is in
        does plan certificate w e.process s choice known call here _ _ _ (record {
          allowed = tt;
          deep = tt;
          adds = (carried.0, comes_within n d c there pair side class is (subst (λ k. Carries plan certificate w k (other_side side) c) through_end.1 carried.1));
          sends = tt;
        })

    pub receives : (n number : ℕ) (d : Descriptor) → w.files.table e.process n ≡ Some d → (pair side : ℕ) (class : PairClass) → w.files.objects d.description ≡ At_end pair side class
        → (messages : List Message) → w.files.queue pair (other_side side) ≡ messages → May (receive_end w e.process s e d.description pair side number messages)
    receives n number d there pair side class is [] empty =
        if_passed plan certificate w e.process s choice known call here _ _ _ _ (λ opened.
        if_blocked plan certificate w e.process s choice known call here e (w.files.states d.description).nonblock)
    receives n number d there pair side class is (m ∷ messages) waiting =
        receives_front n number d there pair side class is m.passed (front_carried plan certificate w e.process s choice known.acts known.inv pair (other_side side) m messages waiting)

    -- a number gets a descriptor that it may have
    pub sets : (value number : ℕ) (d : Descriptor) → IsNamed w choice known.inv.classes d → IsWithinAuthority plan certificate w s.program d
        → May (Gives value (record same { table = Set_entry number d }) [])
    sets value number d named is =
        does plan certificate w e.process s choice known call here _ _ _ (record { allowed = tt; deep = tt; adds = (named, is); sends = tt })

    pub pairs : (o : Option ℕ) → May (pair_at w e.process s e o)
    pairs None = fails plan certificate w e.process s choice known call here _ _
    pairs (Some first) =
        if_number plan certificate w e.process s choice known call here _ _ (λ second.
        if_unrefused plan certificate w e.process s choice known call here e _ _
        (does plan certificate w e.process s choice known call here _ _ _ (record {
          allowed = tt;
          deep = tt;
          adds = ap (λ b. if b then Made_by s.program else Made_at s.program s.point) (free plan certificate w e.process s choice known);
          sends = tt;
        })))
