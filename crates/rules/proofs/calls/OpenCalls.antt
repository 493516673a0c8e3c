-- `open` and `openat` owe what they should.
use Rattle.std.proofs.Common.{◌≡◌, ℕ, ◌<◌, Bool, true, false, List, [], ◌∷◌, ◌++◌, length, inl, inr, refl, ap, sym, ◌∙◌, subst}
use Rattle.std.specs.Prelude.{Some}
use Rattle.rights.specs.Opens.{OpenRequest}
use Rattle.rights.specs.Sets.{all_rights, all_commands}
use Rattle.rights.specs.Operations.{Write as Writes, Create as Creates}
use Rattle.file_tree.specs.Nodes.{Kind, File, Dir, Link, Node, node}
use Rattle.file_tree.specs.Places.{at_name}
use Rattle.file_tree.proofs.PlaceLaws.{begins_append}
use Rattle.file_tree.proofs.TreeLaws.{filled_same}
use Rattle.lookup.specs.Answers.{Follow, Finding, Found_node, Found_free, Not_found}
use Rattle.lookup.specs.Answers as lookups
use Rattle.lookup.specs.Paths.{last_component}
use Rattle.lookup.specs.Promises.{IsFollowed}
use Rattle.process.specs.State.{ProcessState}
use Rattle.fd_table.specs.Descriptions.{Access}
use Rattle.fd_table.specs.OpenFiles.{lowest_free}
use Rattle.instruction_set.specs.Programs.{Operand, Syscall, Open, Openat, Invoke}
use Rattle.certificate.specs.Bounds.{with_slot, Certificate}
use Rattle.certificate.specs.Bounds as slots
use Rattle.certificate.specs.Describes.{Seen, Node_at, held_describes, target_describes}
use Rattle.kernel.specs.World.{World, Choice}
use Rattle.kernel.specs.Answers.{Event, Effect, TreeChange, Same_tree, Make, New_file, Same_queue, Same_state, Change, Gives, does}
use Rattle.kernel.specs.Calls.{answer, last_if, opened, opened_as, truncated, truncates, access_for}
use Rattle.kernel.specs.Changes.{tree_after, given}
use Rattle.kernel.specs.Walks.{lookups_of}
use Rattle.task.specs.Plans.{Grant, Plan}
use Rattle.task.specs.Policies.{grant_holds}
use Rattle.task.specs.Sandboxed.{Allowed, AreAllowed}
use Rattle.rules.specs.Demands.{demands}
use Rattle.rules.specs.Needs.{operation_if}
use Rattle.rules.specs.Intervals.{only}
use Rattle.rules.specs.Outcomes.{target_of_path}
use Rattle.rules.specs.Seen.{subject_of, seen_of, table_seen}
use Rattle.rules.proofs.Members.{Among}
use Rattle.rules.proofs.bounds.IntervalLaws.{only_fits}
use Rattle.rules.proofs.frames.KeptTrees.{IsDeepChange}
use Rattle.rules.proofs.frames.OwnTables.{file_slots}
use Rattle.rules.proofs.frames.GrantPlaces.{holds_on}
use Rattle.rules.proofs.findings.Findings.{FoundBeneath, FoundOpened}
use Rattle.rules.proofs.outcomes.Outcomes.{Takes}
use Rattle.rules.proofs.outcomes.TakenOutcomes.{leads_open, leads_openat}
use Rattle.rules.proofs.points.Taken.{number_taken}
use Rattle.rules.proofs.points.Uses.{said}
use Rattle.rules.proofs.calls.Owing.{Standing}
use Rattle.rules.proofs.calls.OwedCalls.{OwedBy, owed_fails, owed_unless, owed_number}
use Rattle.rules.proofs.calls.OwedTests.{owed_through, allowed_through, owed_outside, never_on, owed_directory, owed_lost}
use Rattle.rules.proofs.calls.OwedLookups.{owed_beneath, owed_opening}
use Rattle.rules.proofs.calls.OwedChanges.{owed_change, own_described}

abbrev opening : TreeChange → ℕ → ℕ → Access → Bool → ℕ → ℕ → Change
opening tree number n access append rights fcntls =
    record { tree = tree; table = New_file number n access append rights fcntls; queue = Same_queue; state = Same_state; enters = false }

-- a descriptor of a node at this place
abbrev at_node : List (List ℕ) → ℕ → ℕ → Seen
at_node place rights fcntls = record { subject = Node_at place; rights = rights; fcntls = fcntls }

-- What a lookup finds, or where what it would make comes to stand.
abbrev pub IsReached : List Node → List ℕ → Bool → (List (List ℕ) → Type 0) → lookups.Finding → Type 0
IsReached t path create Reaches (Found_node n) = (n < length t) × Reaches (node t n).place
IsReached t path create Reaches (Found_free d) = (create ≡ true) × Reaches (at_name (node t d).place (last_component path))
IsReached t path create Reaches (Not_found fault) = Unit {0}

-- a node's place stays when its file is emptied, and a new node has its own
pub truncated_place : (t : List Node) (b : Bool) (n : ℕ) → n < length t → (node (tree_after t (truncated b n)) n).place ≡ (node t n).place
truncated_place t true n there = ap (λ (m : Node). m.place) (filled_same t n [] there)
truncated_place t false n there = refl

pub last_node : (t : List Node) (m : Node) → node (t ++ m ∷ []) (length t) ≡ m
last_node [] m = refl
last_node (x ∷ t) m = last_node t m

pub deep_truncated : (plan : Plan) (t : List Node) (b : Bool) (n : ℕ) → IsDeepChange plan.grants t (truncated b n)
deep_truncated plan t true n = tt
deep_truncated plan t false n = tt

module _ (plan : Plan) (certificate : Certificate) (w : World) (e : Event) (s : ProcessState) (choice : Choice) (call : Syscall) (otherwise : ℕ)
    (known : Standing plan certificate w e.process s choice (Invoke call otherwise)) where
  -- a number gets a new file
  owed_file :
      (number n : ℕ) (access : Access) (append : Bool) (rights fcntls : ℕ) (tree : TreeChange) (effects : List Effect) (place : List (List ℕ))
      → IsDeepChange plan.grants w.tree tree → (s.mode ≡ true → AreAllowed plan.grants effects) → (node (tree_after w.tree tree) n).place ≡ place
      → Takes plan certificate s known.stands.bound number (at_node place rights fcntls)
      → OwedBy plan certificate w e.process s choice call otherwise known (Gives number (opening tree number n access append rights fcntls) effects)
  owed_file number n access append rights fcntls tree effects place deep allowed stands takes =
      let p = e.process in
      let holds = grant_holds plan.grants in
      let change : Change = opening tree number n access append rights fcntls in
      owed_change plan certificate w p s choice call otherwise known number change effects allowed (record {
        deep = deep;
        named = tt;
        own = λ alive.
            own_described plan certificate w p s choice call otherwise known number change (with_slot known.stands.bound number (slots.Open takes.held)) (only number)
            s.registers refl refl takes.leads (only_fits number) (record {
              mode = known.stands.inside.mode;
              registers = known.stands.inside.registers;
              slots =
                  file_slots plan w p s choice known.acts (given s number change) change deep number n access append rights fcntls refl takes.held
                  (subst (λ q. held_describes holds takes.held (at_node q rights fcntls) ≡ true) (sym stands) takes.describes)
                  known.stands.bound.slots known.stands.inside.slots;
            });
        child = tt;
        pushed = tt;
      })

  -- What is found is opened with these rights and commands.
  module _ (may : (demands call).never_fails ≡ false) (rights fcntls : ℕ) (Reaches : List (List ℕ) → Type 0)
      (takes : (place : List (List ℕ)) (number : ℕ) → Reaches place → lowest_free (w.files.table e.process) ≡ Some number
      → Takes plan certificate s known.stands.bound number (at_node place rights fcntls))
      (f : OpenRequest)
      (creates : s.mode ≡ true → f.create ≡ true → (place : List (List ℕ)) → Reaches place → Allowed plan.grants Creates place)
      (writes : s.mode ≡ true → f.trunc ≡ true → (place : List (List ℕ)) → Reaches place → Allowed plan.grants Writes place) where
    truncating : (b : Bool) → f.trunc ≡ b → (place : List (List ℕ)) → Reaches place → s.mode ≡ true → AreAllowed plan.grants (truncates b place)
    truncating true is place reaches on = (writes on is place reaches, tt)
    truncating false is place reaches on = tt

    owed_opened_as : (n : ℕ) (kind : Kind) → n < length w.tree → Reaches (node w.tree n).place
        → OwedBy plan certificate w e.process s choice call otherwise known (opened_as w e.process s e f rights fcntls n kind)
    owed_opened_as n Link there reaches = owed_fails plan certificate w e.process s choice call otherwise known may _ _ tt
    owed_opened_as n Dir there reaches =
        let p = e.process in
        owed_unless plan certificate w p s choice call otherwise known may _ _ _ _ tt (λ readable.
        owed_number plan certificate w p s choice call otherwise known may (lowest_free (w.files.table p)) _ (λ number free.
        owed_unless plan certificate w p s choice call otherwise known may _ _ _ _ tt (λ goes.
        owed_file number n (access_for w p s e f) f.append rights fcntls Same_tree [] (node w.tree n).place tt (λ on. tt) refl
        (takes (node w.tree n).place number reaches free))))
    owed_opened_as n File there reaches =
        let p = e.process in
        owed_number plan certificate w p s choice call otherwise known may (lowest_free (w.files.table p)) _ (λ number free.
        owed_unless plan certificate w p s choice call otherwise known may _ _ _ _ tt (λ goes.
        owed_file number n (access_for w p s e f) f.append rights fcntls (truncated f.trunc n) (truncates f.trunc (node w.tree n).place) (node w.tree n).place
        (deep_truncated plan w.tree f.trunc n) (truncating f.trunc refl (node w.tree n).place reaches) (truncated_place w.tree f.trunc n there)
        (takes (node w.tree n).place number reaches free)))

    pub owed_opened : (path : List ℕ) (a : lookups.Finding) → IsReached w.tree path f.create Reaches a
        → OwedBy plan certificate w e.process s choice call otherwise known (opened w e.process s e f rights fcntls path a)
    owed_opened path (Not_found fault) reached = owed_lost plan certificate w e s choice call otherwise known may fault
    owed_opened path (Found_node n) reached = owed_opened_as n (node w.tree n).kind reached.0 reached.1
    owed_opened path (Found_free d) reached =
        let p = e.process in
        let place : List (List ℕ) = at_name (node w.tree d).place (last_component path) in
        let made : Node = record { kind = File; place = place; linked = true; content = [] } in
        owed_number plan certificate w p s choice call otherwise known may (lowest_free (w.files.table p)) _ (λ number free.
        owed_unless plan certificate w p s choice call otherwise known may _ _ _ _ tt (λ room.
        owed_unless plan certificate w p s choice call otherwise known may _ _ _ _ tt (λ goes.
        owed_file number (length w.tree) (access_for w p s e f) f.append rights fcntls (Make place File) (does Creates place) place tt
        (λ on. (creates on reached.0 place reached.1, tt)) (ap (λ (m : Node). m.place) (last_node w.tree made))
        (takes place number reached.1 free))))

-- ## What lookups reach
-- A name is found free only by a call that may create it.
pub free_made : (t : List Node) (d : ℕ) (create : Bool) → (last_if create ≡ Follow → IsFollowed t (Found_free d)) → create ≡ true
free_made t d true followed = refl
free_made t d false followed = absurd (followed refl)

-- in each grant that a place is in
abbrev pub IsBeside : List Grant → List (List ℕ) → List (List ℕ) → Type 0
IsBeside grants from place = (name : List ℕ) → grant_holds grants name from ≡ true → grant_holds grants name place ≡ true

pub reached_beneath : (grants : List Grant) (t : List Node) (start : ℕ) (path : List ℕ) (create : Bool) (a : lookups.Finding)
    → FoundBeneath grants t start path (last_if create) a → IsReached t path create (IsBeside grants (node t start).place) a
reached_beneath grants t start path create (Found_node n) found = (found.found.there.there, found.within)
reached_beneath grants t start path create (Found_free d) found =
    let place = (node t d).place in (
      free_made t d create found.found.followed,
      λ name held. holds_on grants name place (at_name place (last_component path)) (found.within name held) (begins_append place (last_component path ∷ [])),
    )
reached_beneath grants t start path create (Not_found fault) found = tt

-- in the grant of the path
abbrev IsOpened : List Grant → List ℕ → List (List ℕ) → Type 0
IsOpened grants path place = target_describes (grant_holds grants) (target_of_path grants path) (Node_at place) ≡ true

reached_opened : (grants : List Grant) (t : List Node) (path : List ℕ) (create : Bool) → create ≡ false → (a : lookups.Finding)
    → FoundOpened grants t path (last_if create) a → IsReached t path create (IsOpened grants path) a
reached_opened grants t path create none (Found_node n) found = (found.found.there.there, found.targeted)
reached_opened grants t path create none (Found_free d) found =
    absurd (let both : true ≡ false = sym (free_made t d create found.found.followed) ∙ none in cc)
reached_opened grants t path create none (Not_found fault) found = tt

among_create : (create trunc : Bool) → create ≡ true → Among Creates (operation_if create Creates ++ operation_if trunc Writes)
among_create true trunc is = inl refl
among_create false trunc is = absurd cc

among_write : (create trunc : Bool) → trunc ≡ true → Among Writes (operation_if create Creates ++ operation_if trunc Writes)
among_write create false is = absurd cc
among_write true true is = inr (inl refl)
among_write false true is = inl refl

module _ (plan : Plan) (certificate : Certificate) (w : World) (e : Event) (s : ProcessState) (choice : Choice) where
  pub owed_openat : (x : Operand) (path : List ℕ) (f : OpenRequest) (otherwise : ℕ) (known : Standing plan certificate w e.process s choice (Invoke (Openat x path f) otherwise))
      → OwedBy plan certificate w e.process s choice (Openat x path f) otherwise known (answer w e.process s e (Openat x path f))
  unfolding answer lookups_of
  owed_openat x path f otherwise known =
      let call = Openat x path f in
      let p = e.process in
      owed_through plan certificate w e s choice call otherwise known x refl refl _ (λ slot. refl) _ (λ d opened.
      owed_directory plan certificate w e s choice call otherwise known refl d.description _ (λ n access is dir.
      let from : List (List ℕ) = (node w.tree n).place in
      let node_is : (seen_of plan w d).subject ≡ Node_at from = ap (subject_of plan w.tree) is in
      owed_beneath plan certificate w e s choice call otherwise known x path (last_if f.create) refl d opened.held n access is dir _ (λ a found.
      owed_opened plan certificate w e s choice call otherwise known refl d.rights d.fcntls (IsBeside plan.grants from)
      (λ place number reaches free.
      leads_openat plan certificate s (table_seen plan w p) x path f otherwise known.stands (seen_of plan w d) from place number opened.there node_is reaches
      (number_taken plan certificate s (seen_of plan w) (w.files.table p) call otherwise known.stands refl number free))
      f
      (λ on made place reaches.
      (allowed_through plan certificate w e s choice call otherwise known x d opened n access is (λ slot. refl) Creates (λ slot. among_create f.create f.trunc made)
      (λ slot. refl) place reaches on).0)
      (λ on made place reaches.
      (allowed_through plan certificate w e s choice call otherwise known x d opened n access is (λ slot. refl) Writes (λ slot. among_write f.create f.trunc made)
      (λ slot. refl) place reaches on).0)
      path a (reached_beneath plan.grants w.tree n path f.create a found))))

  pub owed_open : (path : List ℕ) (f : OpenRequest) (otherwise : ℕ) (known : Standing plan certificate w e.process s choice (Invoke (Open path f) otherwise))
      → OwedBy plan certificate w e.process s choice (Open path f) otherwise known (answer w e.process s e (Open path f))
  unfolding answer lookups_of
  owed_open path f otherwise known =
      let call = Open path f in
      let p = e.process in
      let none_made : f.create ≡ false = (said plan certificate s (table_seen plan w p) call otherwise known.stands).global_names in
      owed_outside plan certificate w e s choice call otherwise known refl _
      (owed_opening plan certificate w e s choice call otherwise known path (last_if f.create) refl _ (λ a found.
      owed_opened plan certificate w e s choice call otherwise known refl all_rights all_commands (IsOpened plan.grants path)
      (λ place number reaches free.
      leads_open plan certificate s (table_seen plan w p) path f otherwise known.stands place number reaches
      (number_taken plan certificate s (seen_of plan w) (w.files.table p) call otherwise known.stands refl number free))
      f
      (λ on made place reaches. absurd (never_on plan certificate w e s choice call otherwise known refl on))
      (λ on made place reaches. absurd (never_on plan certificate w e s choice call otherwise known refl on))
      path a (reached_opened plan.grants w.tree path f.create none_made a found)))
