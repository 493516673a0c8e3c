-- The success that a call comes to is one of its outcomes, so it leads to a bound.
use Rattle.std.proofs.Common.{◌≡◌, ℕ, ◌+◌, Bool, true, false, List, [], ◌∷◌, inl, inr, refl, sym, subst}
use Rattle.std.specs.Prelude.{Option, Some, cond, if◌then◌else◌}
use Rattle.std.specs.List.{flat_map}
use Rattle.std.specs.Str.{bytes_eq}
use Rattle.rights.specs.Sets.{is_within, all_rights, all_commands}
use Rattle.rights.specs.Classes.{Class}
use Rattle.rights.proofs.Subsets.{is_within-refl, is_within-none}
use Rattle.file_tree.specs.Places.{place_text}
use Rattle.process.specs.State.{ProcessState}
use Rattle.instruction_set.specs.Programs.{Operand, Syscall, Invoke}
use Rattle.kernel.specs.Answers.{value_of}
use Rattle.task.specs.Plans.{Grant, Plan, program_name}
use Rattle.task.specs.Policies.{grant_holds}
use Rattle.certificate.specs.Bounds.{Interval, with_interval, Target, In_grant, Any_node, Socket, Unknown, Held, with_slot, Bound, Certificate}
use Rattle.certificate.specs.Bounds as bounds
use Rattle.certificate.specs.Describes.{Subject, Node_at, End_of, Seen, Holds, target_describes, held_describes}
use Rattle.certificate.proofs.Smaller.{Between, from_between}
use Rattle.rules.specs.Intervals.{only}
use Rattle.rules.specs.Slots.{OpenSlot, slots_in, free_numbers}
use Rattle.rules.specs.Outcomes.{Outcome, all_held, unknown_held, target_of_path, beneath_target, may_be_end, may_be_node, at_lowest, leads_on, takes, successes_of}
use Rattle.rules.proofs.Members.{Among, among_flat}
use Rattle.rules.proofs.points.Asked.{Leads}
use Rattle.rules.proofs.points.AskedCalls.{AskedCall}
use Rattle.rules.proofs.points.Stands.{Stands, Gone, gone}
use Rattle.rules.proofs.points.Uses.{said}

-- The process goes on to the next point, where register 0 is in an interval.
abbrev pub GoesOn : Plan → Certificate → ProcessState → Bound → Interval → Type 0
GoesOn plan certificate s after i =
    Leads certificate (program_name plan s.program) (record { point = s.point + 1; bound = with_interval after 0 i })

-- It has a new descriptor then, of this number, that a slot describes.
pub record Takes (plan : Plan) (certificate : Certificate) (s : ProcessState) (b : Bound) (k : ℕ) (d : Seen) : Type 0 where
  pub held : Held
  pub describes : held_describes (grant_holds plan.grants) held d ≡ true
  pub leads : GoesOn plan certificate s (with_slot b k (bounds.Open held)) (only k)

-- The same of a descriptor that is limited.
pub record Limits (plan : Plan) (certificate : Certificate) (s : ProcessState) (b : Bound) (n : ℕ) (d : Seen) : Type 0 where
  pub held : Held
  pub describes : held_describes (grant_holds plan.grants) held d ≡ true
  pub leads : GoesOn plan certificate s (with_slot b n (bounds.Open held)) (only 0)

-- ## What may be a node, and what may be an end
pub node_may : (holds : Holds) (t : Target) (place : List (List ℕ)) → target_describes holds t (Node_at place) ≡ true → may_be_node t ≡ true
node_may holds (In_grant name) place is = refl
node_may holds Any_node place is = refl
node_may holds (Socket class side) place is = absurd cc
node_may holds Unknown place is = refl

pub end_may : (holds : Holds) (t : Target) (class : Class) (side : ℕ) → target_describes holds t (End_of class side) ≡ true → may_be_end t ≡ true
end_may holds (In_grant name) class side is = absurd cc
end_may holds Any_node class side is = absurd cc
end_may holds (Socket c s) class side is = refl
end_may holds Unknown class side is = refl

pub where_true : (o : Outcome) (c : Bool) (rest : List Outcome) → c ≡ true → Among o rest → Among o (if c then rest else [])
where_true o true rest is there = there
where_true o false rest is there = absurd cc

pub subject_is : (holds : Holds) (h : Held) (d : Seen) (x : Subject) → Between holds h d → d.subject ≡ x → target_describes holds h.target x ≡ true
subject_is holds h d x facts is = subst (λ y. target_describes holds h.target y ≡ true) is facts.target

-- ## What a new descriptor is bound by
-- What is opened beneath a node's slot, in each grant that the node is in.
pub record Beneath (holds : Holds) (t : Target) (place : List (List ℕ)) : Type 0 where
  pub target : Target
  pub is : beneath_target t ≡ Some target
  pub describes : target_describes holds target (Node_at place) ≡ true

pub beneath :
    (holds : Holds) (t : Target) (from place : List (List ℕ)) → target_describes holds t (Node_at from) ≡ true
    → ((name : List ℕ) → holds name from ≡ true → holds name place ≡ true) → Beneath holds t place
beneath holds (In_grant name) from place is below = record { target = In_grant name; is = refl; describes = below name is }
beneath holds Any_node from place is below = record { target = Any_node; is = refl; describes = refl }
beneath holds (Socket class side) from place is below = absurd cc
beneath holds Unknown from place is below = record { target = Any_node; is = refl; describes = refl }

-- a new description's descriptor has all rights and commands
pub all_described :
    (holds : Holds) (t : Target) (x : Subject) → target_describes holds t x ≡ true
    → held_describes holds (all_held t) (record { subject = x; rights = all_rights; fcntls = all_commands }) ≡ true
all_described holds t x is =
    from_between holds (all_held t) (record { subject = x; rights = all_rights; fcntls = all_commands })
    (record {
      target = is;
      least = is_within-refl all_rights;
      greatest = is_within-refl all_rights;
      least_fcntls = is_within-refl all_commands;
      greatest_fcntls = is_within-refl all_commands;
    })

pub unknown_described : (holds : Holds) (d : Seen) → is_within d.rights all_rights ≡ true → is_within d.fcntls all_commands ≡ true → held_describes holds unknown_held d ≡ true
unknown_described holds d rights fcntls = from_between holds unknown_held d (record {
  target = refl;
  least = is_within-none d.rights;
  greatest = rights;
  least_fcntls = is_within-none d.fcntls;
  greatest_fcntls = fcntls;
})

-- What `open` finds lies in the grant whose path it was given, if it does so for each grant with that path.
pub path_described :
    (holds : Holds) (grants : List Grant) (path : List ℕ) (place : List (List ℕ))
    → ((g : Grant) → Among g grants → bytes_eq (place_text g.path) path ≡ true → holds g.name place ≡ true)
    → target_describes holds (target_of_path grants path) (Node_at place) ≡ true
path_described holds [] path place at = refl
path_described holds (g ∷ grants) path place at = go (bytes_eq (place_text g.path) path) refl (path_described holds grants path place (λ h there. at h (inr there)))
  where
    go :
        (c : Bool) → bytes_eq (place_text g.path) path ≡ c → target_describes holds (target_of_path grants path) (Node_at place) ≡ true
        → target_describes holds (cond c (In_grant g.name) (target_of_path grants path)) (Node_at place) ≡ true
    go true same rest = at g (inl refl) same
    go false other rest = rest

-- ## Each call
module _ (plan : Plan) (certificate : Certificate) (s : ProcessState) (table : ℕ → Option Seen) where
  abbrev pub name : List ℕ
  name = program_name plan s.program

  abbrev pub next : Bound → Bound → Interval → List Outcome
  next b after i = leads_on plan.grants certificate name s.point b after i

  abbrev pub to_next : Bound → Interval → Outcome
  to_next after i = record { point = s.point + 1; bound = with_interval after 0 i }

  module _ (call : Syscall) (otherwise : ℕ) (known : Stands plan certificate s table (Invoke call otherwise)) where
    abbrev pub outs : List Outcome
    outs = successes_of plan.grants certificate name s.point known.bound call

    pub at : (x : Operand) (d : Seen) → table (value_of s x) ≡ Some d → Gone (grant_holds plan.grants) known.bound x (value_of s x) d
    at x d here = gone plan certificate s table (Invoke call otherwise) known x d here

    pub succeeds : (o : Outcome) → Among o outs → Leads certificate name o
    succeeds o there =
        let all : AskedCall plan certificate s.program s.point known.bound call otherwise = said plan certificate s table call otherwise known in
        all.successes o there

    -- through the slot that an operand names
    pub goes_through :
        (x : Operand) (d : Seen) (g : Gone (grant_holds plan.grants) known.bound x (value_of s x) d) (rest : OpenSlot → List Outcome) (o : Outcome)
        → outs ≡ flat_map rest (slots_in known.bound x) → Among o (rest (record { number = value_of s x; held = g.held })) → Leads certificate name o
    goes_through x d g rest o is there =
        succeeds o (subst (Among o) (sym is) (among_flat rest (record { number = value_of s x; held = g.held }) o (slots_in known.bound x) g.among there))

    -- a call that gives a value alone
    pub gives_value :
        (x : Operand) (d : Seen) (i : Interval) → table (value_of s x) ≡ Some d
        → outs ≡ flat_map (λ (t : OpenSlot). next known.bound known.bound i) (slots_in known.bound x) → GoesOn plan certificate s known.bound i
    gives_value x d i here is =
        goes_through x d (at x d here) (λ (t : OpenSlot). next known.bound known.bound i) (to_next known.bound i) is (inl refl)

    -- beneath a node's slot
    pub gives_beneath :
        (x : Operand) (d : Seen) (place : List (List ℕ)) (i : Interval) → table (value_of s x) ≡ Some d → d.subject ≡ Node_at place
        → outs ≡ flat_map (λ (t : OpenSlot). if may_be_node t.held.target then next known.bound known.bound i else []) (slots_in known.bound x)
        → GoesOn plan certificate s known.bound i
    gives_beneath x d place i here node is =
        let g : Gone (grant_holds plan.grants) known.bound x (value_of s x) d = at x d here in
        goes_through x d g (λ (t : OpenSlot). if may_be_node t.held.target then next known.bound known.bound i else []) (to_next known.bound i) is
        (where_true (to_next known.bound i) (may_be_node g.held.target) (next known.bound known.bound i)
        (node_may (grant_holds plan.grants) g.held.target place
        (subject_is (grant_holds plan.grants) g.held d (Node_at place) g.facts node)) (inl refl))

    -- the lowest free number is taken
    pub taken :
        (k : ℕ) (h : Held) → free_numbers 1 known.bound ≡ Some (k ∷ [])
        → Among (to_next (with_slot known.bound k (bounds.Open h)) (only k)) (takes plan.grants certificate name s.point known.bound h)
    taken k h numbers =
        let P : Option (List ℕ) → Type 0 = λ o.
        Among (to_next (with_slot known.bound k (bounds.Open h)) (only k)) (at_lowest o (λ n. next known.bound (with_slot known.bound n (bounds.Open h)) (only n))) in
        subst P (sym numbers) (inl refl)
