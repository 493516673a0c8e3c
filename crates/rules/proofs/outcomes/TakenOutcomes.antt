-- Where the success of each call leads that changes a slot, or goes through two.
use Rattle.std.proofs.Common.{◌≡◌, ℕ, true, List, [], ◌∷◌, inl, refl, sym, subst}
use Rattle.std.specs.Prelude.{◌==◌, Option, Some, None, is_some, if◌then◌else◌}
use Rattle.std.specs.List.{flat_map}
use Rattle.rights.specs.Sets.{is_within, all_rights, all_commands}
use Rattle.rights.specs.Classes.{Class, Made_at}
use Rattle.rights.proofs.Subsets.{is_within-refl}
use Rattle.std.proofs.lemmas.Bool.{eqb-true}
use Rattle.rights.proofs.Tests.{both_left, both_right}
use Rattle.certificate.specs.Order.{same_class}
use Rattle.process.specs.State.{ProcessState}
use Rattle.rights.specs.Sides.{other_side}
use Rattle.instruction_set.specs.Programs.{Operand, Open, Openat, Sendfd, Recvfd, Renameat, Dup, Close, Cap_rights_limit, Cap_fcntls_limit, Socketpair, Invoke}
use Rattle.rights.specs.Opens.{OpenRequest}
use Rattle.kernel.specs.Answers.{value_of}
use Rattle.task.specs.Plans.{Plan, program_name}
use Rattle.task.specs.Policies.{grant_holds}
use Rattle.certificate.specs.Bounds.{Target, In_grant, Any_node, Socket, Unknown, Held, Closed, with_slot, Certificate}
use Rattle.certificate.specs.Bounds as bounds
use Rattle.certificate.specs.OrderLaws.{class_is, target-refl}
use Rattle.certificate.specs.Describes.{Subject, Node_at, End_of, Own_end, Seen, Holds, target_describes, held_describes, sends_describes}
use Rattle.certificate.proofs.Smaller.{from_between}
use Rattle.rules.specs.Intervals.{only}
use Rattle.rules.specs.Slots.{OpenSlot, slots_in, free_numbers}
use Rattle.rules.specs.Channels.{channel_at, receives_known}
use Rattle.rules.specs.Outcomes.{Outcome, all_held, unknown_held, target_of_path, beneath_target, with_rights, with_commands, may_be_end, may_be_node, at_pair, takes}
use Rattle.rules.specs.Outcomes.{opens_beneath, comes, receives_at, with_pair}
use Rattle.rules.proofs.Members.{Among, among_flat}
use Rattle.rules.proofs.points.Stands.{Stands, Gone}
use Rattle.rules.proofs.points.Uses.{Through, first_use, through}
use Rattle.rules.proofs.outcomes.Outcomes.{GoesOn, Takes, Limits, node_may, end_may, where_true, subject_is, Beneath, beneath, all_described, unknown_described, next, to_next, at, succeeds}
use Rattle.rules.proofs.outcomes.Outcomes.{goes_through, taken}

-- a descriptor that a call leaves beneath another, with the other's rights
abbrev pub same_rights : Seen → Subject → Seen
same_rights d x = record d { subject = x }

abbrev pub fresh : Subject → Seen
fresh x = record { subject = x; rights = all_rights; fcntls = all_commands }

-- What comes from an end: the line of the other side describes it.
abbrev pub IsComing : Holds → Option (Option Held) → Seen → Type 0
IsComing holds None d = Unit {0}
IsComing holds (Some line) d = sends_describes holds line d ≡ true

module _ (plan : Plan) (certificate : Certificate) (s : ProcessState) (table : ℕ → Option Seen) where
  abbrev holds : Holds
  holds = grant_holds plan.grants

  -- ## Calls that change the slot that they name
  pub leads_close :
      (x : Operand) (otherwise : ℕ) (known : Stands plan certificate s table (Invoke (Close x) otherwise)) (d : Seen) → table (value_of s x) ≡ Some d
      → GoesOn plan certificate s (with_slot known.bound (value_of s x) Closed) (only 0)
  leads_close x otherwise known d here =
      let b = known.bound in
      goes_through plan certificate s table (Close x) otherwise known x d (at plan certificate s table (Close x) otherwise known x d here)
      (λ (t : OpenSlot). next plan certificate s table b (with_slot b t.number Closed) (only 0))
      (to_next plan certificate s table (with_slot b (value_of s x) Closed) (only 0)) refl (inl refl)

  pub leads_rights :
      (x : Operand) (rights otherwise : ℕ) (known : Stands plan certificate s table (Invoke (Cap_rights_limit x rights) otherwise)) (d : Seen)
      → table (value_of s x) ≡ Some d → Limits plan certificate s known.bound (value_of s x) (record d { rights = rights })
  leads_rights x rights otherwise known d here =
      let b = known.bound in
      let call = Cap_rights_limit x rights in
      let g : Gone holds b x (value_of s x) d = at plan certificate s table call otherwise known x d here in
      record {
        held = with_rights g.held rights;
        describes = from_between holds (with_rights g.held rights) (record d { rights = rights }) (record {
          target = g.facts.target;
          least = is_within-refl rights;
          greatest = is_within-refl rights;
          least_fcntls = g.facts.least_fcntls;
          greatest_fcntls = g.facts.greatest_fcntls;
        });
        leads =
            goes_through plan certificate s table call otherwise known x d g
            (λ (t : OpenSlot). next plan certificate s table b (with_slot b t.number (bounds.Open (with_rights t.held rights))) (only 0))
            (to_next plan certificate s table (with_slot b (value_of s x) (bounds.Open (with_rights g.held rights))) (only 0)) refl (inl refl);
      }

  pub leads_commands :
      (x : Operand) (commands otherwise : ℕ) (known : Stands plan certificate s table (Invoke (Cap_fcntls_limit x commands) otherwise)) (d : Seen)
      → table (value_of s x) ≡ Some d → Limits plan certificate s known.bound (value_of s x) (record d { fcntls = commands })
  leads_commands x commands otherwise known d here =
      let b = known.bound in
      let call = Cap_fcntls_limit x commands in
      let g : Gone holds b x (value_of s x) d = at plan certificate s table call otherwise known x d here in
      record {
        held = with_commands g.held commands;
        describes = from_between holds (with_commands g.held commands) (record d { fcntls = commands }) (record {
          target = g.facts.target;
          least = g.facts.least;
          greatest = g.facts.greatest;
          least_fcntls = is_within-refl commands;
          greatest_fcntls = is_within-refl commands;
        });
        leads =
            goes_through plan certificate s table call otherwise known x d g
            (λ (t : OpenSlot). next plan certificate s table b (with_slot b t.number (bounds.Open (with_commands t.held commands))) (only 0))
            (to_next plan certificate s table (with_slot b (value_of s x) (bounds.Open (with_commands g.held commands))) (only 0)) refl (inl refl);
      }

  -- ## Calls that take a number
  pub leads_dup :
      (x : Operand) (otherwise : ℕ) (known : Stands plan certificate s table (Invoke (Dup x) otherwise)) (d : Seen) (k : ℕ) → table (value_of s x) ≡ Some d
      → free_numbers 1 known.bound ≡ Some (k ∷ []) → Takes plan certificate s known.bound k d
  leads_dup x otherwise known d k here numbers =
      let b = known.bound in
      let g : Gone holds b x (value_of s x) d = at plan certificate s table (Dup x) otherwise known x d here in
      record {
        held = g.held;
        describes = from_between holds g.held d g.facts;
        leads =
            goes_through plan certificate s table (Dup x) otherwise known x d g
            (λ (t : OpenSlot). takes plan.grants certificate (program_name plan s.program) s.point b t.held)
            (to_next plan certificate s table (with_slot b k (bounds.Open g.held)) (only k)) refl
            (taken plan certificate s table (Dup x) otherwise known k g.held numbers);
      }

  -- The place that `open` comes to is one that its path's target describes.
  pub leads_open :
      (path : List ℕ) (f : OpenRequest) (otherwise : ℕ) (known : Stands plan certificate s table (Invoke (Open path f) otherwise))
      (place : List (List ℕ)) (k : ℕ)
      → target_describes holds (target_of_path plan.grants path) (Node_at place) ≡ true → free_numbers 1 known.bound ≡ Some (k ∷ [])
      → Takes plan certificate s known.bound k (fresh (Node_at place))
  leads_open path f otherwise known place k is numbers =
      let h : Held = all_held (target_of_path plan.grants path) in
      record {
        held = h;
        describes = all_described holds (target_of_path plan.grants path) (Node_at place) is;
        leads =
            succeeds plan certificate s table (Open path f) otherwise known (to_next plan certificate s table (with_slot known.bound k (bounds.Open h)) (only k))
            (taken plan certificate s table (Open path f) otherwise known k h numbers);
      }

  -- What `openat` comes to lies in each grant that its directory is in.
  pub leads_openat :
      (x : Operand) (path : List ℕ) (f : OpenRequest) (otherwise : ℕ) (known : Stands plan certificate s table (Invoke (Openat x path f) otherwise))
      (d : Seen) (from place : List (List ℕ)) (k : ℕ)
      → table (value_of s x) ≡ Some d → d.subject ≡ Node_at from → ((name : List ℕ) → holds name from ≡ true → holds name place ≡ true)
      → free_numbers 1 known.bound ≡ Some (k ∷ []) → Takes plan certificate s known.bound k (same_rights d (Node_at place))
  leads_openat x path f otherwise known d from place k here node below numbers =
      let b = known.bound in
      let call = Openat x path f in
      let g : Gone holds b x (value_of s x) d = at plan certificate s table call otherwise known x d here in
      let t : Beneath holds g.held.target place = beneath holds g.held.target from place (subject_is holds g.held d (Node_at from) g.facts node) below in
      let h : Held = record g.held { target = t.target } in
      let o : Outcome = to_next plan certificate s table (with_slot b k (bounds.Open h)) (only k) in
      record {
        held = h;
        describes = from_between holds h (same_rights d (Node_at place)) (record {
          target = t.describes;
          least = g.facts.least;
          greatest = g.facts.greatest;
          least_fcntls = g.facts.least_fcntls;
          greatest_fcntls = g.facts.greatest_fcntls;
        });
        leads =
            goes_through plan certificate s table call otherwise known x d g
            (λ (u : OpenSlot). opens_beneath plan.grants certificate (program_name plan s.program) s.point b u.held (beneath_target u.held.target)) o refl
            (subst (λ y. Among o (opens_beneath plan.grants certificate (program_name plan s.program) s.point b g.held y)) (sym t.is)
            (taken plan certificate s table call otherwise known k h numbers));
      }

  -- what comes from a line
  comes_of :
      (otherwise : ℕ) (x : Operand) (known : Stands plan certificate s table (Invoke (Recvfd x) otherwise)) (k : ℕ) (line : Option (Option Held))
      (d : Seen)
      → is_some line ≡ true → IsComing holds line d → free_numbers 1 known.bound ≡ Some (k ∷ [])
      → (h : Held) × (held_describes holds h d ≡ true)
      × Among (to_next plan certificate s table (with_slot known.bound k (bounds.Open h)) (only k)) (comes plan.grants certificate (program_name plan s.program) s.point known.bound line)
  comes_of otherwise x known k None d there coming numbers = absurd cc
  comes_of otherwise x known k (Some None) d there coming numbers = absurd cc
  comes_of otherwise x known k (Some (Some h)) d there coming numbers =
      (h, coming, taken plan certificate s table (Recvfd x) otherwise known k h numbers)

  received_at :
      (otherwise : ℕ) (x : Operand) (known : Stands plan certificate s table (Invoke (Recvfd x) otherwise)) (k : ℕ) (t : Target) (class : Class)
      (side : ℕ) (d : Seen)
      → target_describes holds t (End_of class side) ≡ true → receives_known certificate t ≡ true
      → IsComing holds (channel_at certificate class (other_side side)) d → is_within d.rights all_rights ≡ true → is_within d.fcntls all_commands ≡ true
      → free_numbers 1 known.bound ≡ Some (k ∷ [])
      → (h : Held) × (held_describes holds h d ≡ true)
      × Among (to_next plan certificate s table (with_slot known.bound k (bounds.Open h)) (only k)) (receives_at plan.grants certificate (program_name plan s.program) s.point known.bound t)
  received_at otherwise x known k (In_grant name) class side d is there coming rights fcntls numbers = absurd cc
  received_at otherwise x known k Any_node class side d is there coming rights fcntls numbers = absurd cc
  received_at otherwise x known k (Socket c t) class side d is there coming rights fcntls numbers =
      let classes : class ≡ c = class_is class c (both_left _ (side == t) is) in
      let sides : side ≡ t = eqb-true side t (both_right (same_class class c) _ is) in
      let line : Option (Option Held) = channel_at certificate c (other_side t) in
      comes_of otherwise x known k line d there
      (subst (λ z. IsComing holds (channel_at certificate c (other_side z)) d) sides (subst (λ z. IsComing holds (channel_at certificate z (other_side side)) d) classes coming)) numbers
  received_at otherwise x known k Unknown class side d is there coming rights fcntls numbers =
      (unknown_held, unknown_described holds d rights fcntls, taken plan certificate s table (Recvfd x) otherwise known k unknown_held numbers)

  -- What is received is described by the line of the end's other side, where it has one.
  pub leads_recvfd :
      (x : Operand) (otherwise : ℕ) (known : Stands plan certificate s table (Invoke (Recvfd x) otherwise)) (d : Seen) (class : Class) (side : ℕ)
      (e : Seen) (k : ℕ)
      → table (value_of s x) ≡ Some d → d.subject ≡ End_of class side → IsComing holds (channel_at certificate class (other_side side)) e
      → is_within e.rights all_rights ≡ true → is_within e.fcntls all_commands ≡ true → free_numbers 1 known.bound ≡ Some (k ∷ [])
      → Takes plan certificate s known.bound k e
  leads_recvfd x otherwise known d class side e k here end coming rights fcntls numbers =
      let b = known.bound in
      let way : Through plan certificate b s.mode x (value_of s x) (first_use b (Recvfd x)) d = through plan certificate s table (Recvfd x) otherwise known x d refl here in
      let g : Gone holds b x (value_of s x) d = way.slot in
      let comes_as = received_at otherwise x known k g.held.target class side e (subject_is holds g.held d (End_of class side) g.facts end) way.has.channel coming rights fcntls numbers in
      record {
        held = comes_as.0;
        describes = comes_as.1;
        leads =
            goes_through plan certificate s table (Recvfd x) otherwise known x d g
            (λ (u : OpenSlot). receives_at plan.grants certificate (program_name plan s.program) s.point b u.held.target)
            (to_next plan certificate s table (with_slot b k (bounds.Open comes_as.0)) (only k)) refl comes_as.2;
      }

  -- What comes through a pair that no certificate names comes through a slot of unknown kind.
  own_received_at :
      (otherwise : ℕ) (x : Operand) (known : Stands plan certificate s table (Invoke (Recvfd x) otherwise)) (k : ℕ) (t : Target) (program : List ℕ)
      (side : ℕ) (d : Seen)
      → target_describes holds t (Own_end program side) ≡ true → is_within d.rights all_rights ≡ true → is_within d.fcntls all_commands ≡ true
      → free_numbers 1 known.bound ≡ Some (k ∷ [])
      → (h : Held) × (held_describes holds h d ≡ true)
      × Among (to_next plan certificate s table (with_slot known.bound k (bounds.Open h)) (only k)) (receives_at plan.grants certificate (program_name plan s.program) s.point known.bound t)
  own_received_at otherwise x known k (In_grant name) program side d is rights fcntls numbers = absurd cc
  own_received_at otherwise x known k Any_node program side d is rights fcntls numbers = absurd cc
  own_received_at otherwise x known k (Socket c t) program side d is rights fcntls numbers = absurd cc
  own_received_at otherwise x known k Unknown program side d is rights fcntls numbers =
      (unknown_held, unknown_described holds d rights fcntls, taken plan certificate s table (Recvfd x) otherwise known k unknown_held numbers)

  pub leads_own_recvfd :
      (x : Operand) (otherwise : ℕ) (known : Stands plan certificate s table (Invoke (Recvfd x) otherwise)) (d : Seen) (program : List ℕ) (side : ℕ)
      (e : Seen) (k : ℕ)
      → table (value_of s x) ≡ Some d → d.subject ≡ Own_end program side → is_within e.rights all_rights ≡ true → is_within e.fcntls all_commands ≡ true
      → free_numbers 1 known.bound ≡ Some (k ∷ []) → Takes plan certificate s known.bound k e
  leads_own_recvfd x otherwise known d program side e k here end rights fcntls numbers =
      let b = known.bound in
      let way : Through plan certificate b s.mode x (value_of s x) (first_use b (Recvfd x)) d = through plan certificate s table (Recvfd x) otherwise known x d refl here in
      let g : Gone holds b x (value_of s x) d = way.slot in
      let comes_as = own_received_at otherwise x known k g.held.target program side e (subject_is holds g.held d (Own_end program side) g.facts end) rights fcntls numbers in
      record {
        held = comes_as.0;
        describes = comes_as.1;
        leads =
            goes_through plan certificate s table (Recvfd x) otherwise known x d g
            (λ (u : OpenSlot). receives_at plan.grants certificate (program_name plan s.program) s.point b u.held.target)
            (to_next plan certificate s table (with_slot b k (bounds.Open comes_as.0)) (only k)) refl comes_as.2;
      }

  -- both ends of a new pair
  pub end_described : (program : List ℕ) (point side : ℕ) → held_describes holds (all_held (Socket (Made_at program point) side)) (fresh (End_of (Made_at program point) side)) ≡ true
  end_described program point side =
      all_described holds (Socket (Made_at program point) side) (End_of (Made_at program point) side) (target-refl (Socket (Made_at program point) side))

  pub leads_pair :
      (otherwise : ℕ) (known : Stands plan certificate s table (Invoke Socketpair otherwise)) (first second : ℕ)
      → free_numbers 2 known.bound ≡ Some (first ∷ second ∷ [])
      → GoesOn plan certificate s (with_pair plan.grants certificate (program_name plan s.program) s.point known.bound first second) (only first)
  leads_pair otherwise known first second numbers =
      let b = known.bound in
      let o : Outcome = to_next plan certificate s table (with_pair plan.grants certificate (program_name plan s.program) s.point b first second) (only first) in
      succeeds plan certificate s table Socketpair otherwise known o
      (subst (λ x. Among o (at_pair x (λ n m. next plan certificate s table b (with_pair plan.grants certificate (program_name plan s.program) s.point b n m) (only n)))) (sym numbers) (inl refl))

  -- ## Calls through two slots
  pub leads_sendfd :
      (x y v : Operand) (otherwise : ℕ) (known : Stands plan certificate s table (Invoke (Sendfd x y v) otherwise)) (d passed : Seen) (class : Class)
      (side : ℕ)
      → table (value_of s x) ≡ Some d → table (value_of s y) ≡ Some passed → d.subject ≡ End_of class side → GoesOn plan certificate s known.bound (only 1)
  leads_sendfd x y v otherwise known d passed class side here there end =
      let b = known.bound in
      let call = Sendfd x y v in
      let g : Gone holds b x (value_of s x) d = at plan certificate s table call otherwise known x d here in
      let k : Gone holds b y (value_of s y) passed = at plan certificate s table call otherwise known y passed there in
      let o : Outcome = to_next plan certificate s table b (only 1) in
      let one : OpenSlot → List Outcome = λ (u : OpenSlot). next plan certificate s table b b (only 1) in
      goes_through plan certificate s table call otherwise known x d g
      (λ (t : OpenSlot). if may_be_end t.held.target then flat_map one (slots_in b y) else []) o refl
      (where_true o (may_be_end g.held.target) (flat_map one (slots_in b y)) (end_may holds g.held.target class side (subject_is holds g.held d (End_of class side) g.facts end))
      (among_flat one (record { number = value_of s y; held = k.held }) o (slots_in b y) k.among (inl refl)))

  pub leads_rename :
      (x : Operand) (source : List ℕ) (y : Operand) (to : List ℕ) (otherwise : ℕ)
      (known : Stands plan certificate s table (Invoke (Renameat x source y to) otherwise)) (d e : Seen) (from place : List (List ℕ))
      → table (value_of s x) ≡ Some d → d.subject ≡ Node_at from → table (value_of s y) ≡ Some e → e.subject ≡ Node_at place
      → GoesOn plan certificate s known.bound (only 0)
  leads_rename x source y to otherwise known d e from place here node there target =
      let b = known.bound in
      let call = Renameat x source y to in
      let g : Gone holds b x (value_of s x) d = at plan certificate s table call otherwise known x d here in
      let k : Gone holds b y (value_of s y) e = at plan certificate s table call otherwise known y e there in
      let o : Outcome = to_next plan certificate s table b (only 0) in
      let last : List Outcome = next plan certificate s table b b (only 0) in
      let one : OpenSlot → List Outcome = λ (u : OpenSlot). if may_be_node u.held.target then last else [] in
      goes_through plan certificate s table call otherwise known x d g
      (λ (t : OpenSlot). if may_be_node t.held.target then flat_map one (slots_in b y) else []) o refl
      (where_true o (may_be_node g.held.target) (flat_map one (slots_in b y)) (node_may holds g.held.target from (subject_is holds g.held d (Node_at from) g.facts node))
      (among_flat one (record { number = value_of s y; held = k.held }) o (slots_in b y) k.among
      (where_true o (may_be_node k.held.target) last (node_may holds k.held.target place (subject_is holds k.held e (Node_at place) k.facts target)) (inl refl))))
