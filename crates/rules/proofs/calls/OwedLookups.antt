-- Lookups of a call owe what they should, where what is found does; and so does a call that leaves them under way.
use Rattle.std.proofs.Common.{◌≡◌, ℕ, true, false, List, refl, ap, sym, ◌∙◌, subst}
use Rattle.std.specs.Prelude.{Option, Some, None}
use Rattle.file_tree.specs.Nodes.{node, is_dir, is_link}
use Rattle.file_tree.specs.WellFormed.{IsTree}
use Rattle.lookup.specs.Answers.{Beneath, Global, Last, Keep, LookupFault, No_entry}
use Rattle.lookup.specs.Answers as lookups
use Rattle.lookup.specs.Walks.{WalkState}
use Rattle.lookup.proofs.PlaceLaws.{directory_kind, no_directory_link}
use Rattle.process.specs.State.{ProcessState, Walking, One, Two}
use Rattle.instruction_set.specs.Programs.{Operand, Syscall, Invoke}
use Rattle.fd_table.specs.Descriptions.{Access, At_node, Descriptor}
use Rattle.certificate.specs.Bounds.{Certificate}
use Rattle.kernel.specs.World.{World, Choice}
use Rattle.kernel.specs.Answers.{Event, Answer, Walks, value_of}
use Rattle.kernel.specs.Calls.{looks, looks_twice}
use Rattle.std.specs.List.{slice_get}
use Rattle.kernel.specs.Steps.{answered, next_instruction, with_process}
use Rattle.kernel.specs.Walks.{FitsIfWalking, From_root, From_directory, From_directories, IfOne, IfTwo, call_in, lookups_of, under_way}
use Rattle.kernel.proofs.KeptWalks.{call_here, walk_fits}
use Rattle.kernel.proofs.Looking.{looks_any, looks_twice_any}
use Rattle.task.specs.Plans.{Plan, programs_of_plan}
use Rattle.task.specs.Policies.{grant_holds}
use Rattle.rules.specs.Demands.{demands}
use Rattle.rules.specs.Seen.{table_seen}
use Rattle.rules.proofs.worlds.Walks.{IsBeside, StartsBeside, WalkIn, WalksIn}
use Rattle.rules.proofs.worlds.Invariant.{IfAlive, IsLiving, bounds}
use Rattle.rules.proofs.bounds.Describing.{from_described}
use Rattle.rules.proofs.findings.Findings.{Found, FoundBeneath, FoundOpened}
use Rattle.rules.proofs.findings.FoundIn.{IsWalkBeneath, begun_beneath, fault_beneath, first_beneath, later_beneath}
use Rattle.rules.proofs.findings.LooksIn.{looks_beneath, looks_both}
use Rattle.rules.proofs.findings.OpenedPaths.{IsWalkOpening, first_opening, later_opening}
use Rattle.rules.proofs.calls.Owing.{Standing, leaves_process, lives_described}
use Rattle.rules.proofs.calls.OwedCalls.{OwedBy, owed_by}
use Rattle.rules.proofs.calls.OwedTests.{owed_lost}

module _ (plan : Plan) (certificate : Certificate) (w : World) (e : Event) (s : ProcessState) (choice : Choice) (call : Syscall) (otherwise : ℕ)
    (known : Standing plan certificate w e.process s choice (Invoke call otherwise)) where
  abbrev Owes : Answer → Type 0
  Owes a = OwedBy plan certificate w e.process s choice call otherwise known a

  abbrev row : ℕ → Option Descriptor
  row = w.files.table e.process

  abbrev walking_on : Walking → ProcessState
  walking_on walking = record s { walk = Some walking }

  tree : IsTree w.tree
  tree = known.acts.formed.world.tree

  -- ## What the call has under way
  next_here : next_instruction s.kept (slice_get (programs_of_plan plan s.program) s.point) ≡ Some (Invoke call otherwise)
  next_here = subst (λ o. next_instruction o (slice_get (programs_of_plan plan s.program) s.point) ≡ Some (Invoke call otherwise)) (sym known.rests) known.here

  call_under : under_way (programs_of_plan plan) s ≡ Some call
  call_under = call_here (programs_of_plan plan) s (Invoke call otherwise) next_here

  fitting : FitsIfWalking w.tree w.files.objects row s (Some call) s.walk
  fitting = walk_fits (programs_of_plan plan) w known.acts.formed.walks e.process s call known.acts.made call_under

  within : WalksIn plan.grants w.tree w.files.objects row s (Some call) s.walk
  within =
      let lives : IsLiving plan (bounds plan certificate) w e.process s =
      (subst (IfAlive (IsLiving plan (bounds plan certificate) w e.process)) known.acts.made (known.inv.living e.process)) known.alive in
      subst (λ o. WalksIn plan.grants w.tree w.files.objects row s o s.walk) call_under lives.walker.walks

  call_on : (o : Option Walking) → under_way (programs_of_plan plan) (record s { walk = o }) ≡ Some call
  unfolding under_way
  call_on o = ap call_in next_here

  -- The process goes on with what is under way, and stays at its point.
  owed_walks : (walking : Walking) → WalkIn plan.grants w.tree w.files.objects row (walking_on walking) (lookups_of call) walking → Owes (Walks walking)
  unfolding answered
  owed_walks walking is =
      let t : ProcessState = walking_on walking in
      owed_by plan certificate w e.process s choice call otherwise known (Walks walking) (record {
        allowed = λ on. tt;
        unrefused = tt;
        leaves =
            leaves_process plan certificate w e.process s choice known.acts known.inv t
            (λ alive. record {
              asked =
                  lives_described plan certificate (with_process w e.process t) e.process t known.follows (record {
                    bound = known.stands.bound;
                    at = known.stands.at;
                    is = from_described (grant_holds plan.grants) known.stands.bound s.mode s.registers (table_seen plan w e.process) known.stands.inside;
                  });
              walker = record {
                walks =
                    subst (λ o. WalksIn plan.grants w.tree w.files.objects row t o (Some walking)) (sym (call_on (Some walking))) is;
              };
            });
      })

  -- ## Beneath a directory
  pub owed_beneath : (x : Operand) (path : List ℕ) (last : Last) → lookups_of call ≡ From_directory x path last → (d : Descriptor) → row (value_of s x) ≡ Some d
      → (n : ℕ) (access : Access) → w.files.objects d.description ≡ At_node n access → is_dir (node w.tree n).kind ≡ true → (rest : lookups.Finding → Answer)
      → ((a : lookups.Finding) → FoundBeneath plan.grants w.tree n path last a → Owes (rest a)) → Owes (looks w e.process s e n Beneath path last rest)
  owed_beneath = looks_beneath plan w e.process s e call tree fitting within Owes owed_walks

  -- ## In the global name space
  under_opening : (path : List ℕ) (last : Last) → lookups_of call ≡ From_root path last → (o : Option Walking)
      → FitsIfWalking w.tree w.files.objects row s (Some call) o → WalksIn plan.grants w.tree w.files.objects row s (Some call) o
      → IfOne (IsWalkOpening plan known.acts.grants w tree known.inv.clear path last) o
  under_opening path last asks None fits is = tt
  under_opening path last asks (Some (One walk)) fits is = (rw asks at fits, rw asks at is)
  under_opening path last asks (Some (Two one other)) fits is = tt

  -- what `open` knows of it
  pub owed_opening : (path : List ℕ) (last : Last) → lookups_of call ≡ From_root path last → (rest : lookups.Finding → Answer)
      → ((a : lookups.Finding) → FoundOpened plan.grants w.tree path last a → Owes (rest a)) → Owes (looks w e.process s e 0 Global path last rest)
  owed_opening path last asks rest owed =
      looks_any Owes w e.process s e 0 Global path last rest (FoundOpened plan.grants w.tree path last)
      (IsWalkOpening plan known.acts.grants w tree known.inv.clear path last)
      (under_opening path last asks s.walk fitting within)
      (first_opening plan known.acts.grants w tree known.inv.clear path last)
      (later_opening plan known.acts.grants w tree known.inv.clear path last)
      owed
      (λ walk is. owed_walks (One walk) (rw asks is.1))

  pub owed_globally : (path : List ℕ) (last : Last) → lookups_of call ≡ From_root path last → (rest : lookups.Finding → Answer)
      → ((a : lookups.Finding) → Found w.tree last a → Owes (rest a)) → Owes (looks w e.process s e 0 Global path last rest)
  owed_globally path last asks rest owed = owed_opening path last asks rest (λ a is. owed a is.found)

  -- ## Beneath two directories
  pub owed_twice : (may : (demands call).never_fails ≡ false) (x : Operand) (from : List ℕ) (y : Operand) (to : List ℕ) → lookups_of call ≡ From_directories x from y to
      → (d : Descriptor) → row (value_of s x) ≡ Some d → (n : ℕ) (access : Access) → w.files.objects d.description ≡ At_node n access → is_dir (node w.tree n).kind ≡ true
      → (k : Descriptor) → row (value_of s y) ≡ Some k → (m : ℕ) (second : Access) → w.files.objects k.description ≡ At_node m second → is_dir (node w.tree m).kind ≡ true
      → (rest : lookups.Finding → lookups.Finding → Answer)
      → ((a b : lookups.Finding) → FoundBeneath plan.grants w.tree n from Keep a → FoundBeneath plan.grants w.tree m to Keep b → Owes (rest a b))
      → Owes (looks_twice w e.process s e n from m to rest)
  owed_twice may = looks_both plan w e.process s e call tree fitting within Owes owed_walks (owed_lost plan certificate w e s choice call otherwise known may)
