-- Whatever call a process of a marked program makes in the mode, it does only what the program's authority allows.
use Rattle.std.proofs.Common.{◌≡◌, ℕ, Bool, true, false, List, inl, inr, refl}
use Rattle.std.specs.Prelude.{◌==◌, not, Option, Some, None, bit_or, if◌then◌else◌}
use Rattle.std.specs.Cmp.Derive.{both_true}
use Rattle.std.specs.List.{slice_get}
use Rattle.rights.specs.Needs.{Second, needs_of}
use Rattle.rights.specs.Opens.{OpenRequest, no_request}
use Rattle.rights.specs.Operations.{operations_of_rights, Operation, Look, Read as Reads, Write as Writes, Create as Creates, Remove as Removes}
use Rattle.rights.specs.Sets.{is_within, read_right, write_right, ftruncate_right, fstat_right, fstatat_right, mkdirat_right, unlinkat_right}
use Rattle.rights.specs.Sets.{renameat_source_right, renameat_target_right}
use Rattle.rights.specs.Uses.{companions_of, operation_of_use}
use Rattle.rights.proofs.Subsets.{IsIn-or_right, is_within-from_members, is_within-trans}
use Rattle.file_tree.specs.Nodes.{node}
use Rattle.file_tree.specs.Places.{at_name}
use Rattle.lookup.specs.Answers.{Keep, Follow, Found_node, Found_free, Not_found}
use Rattle.lookup.specs.Answers as lookups
use Rattle.lookup.specs.Paths.{last_component}
use Rattle.process.specs.State.{ProcessState}
use Rattle.instruction_set.specs.Programs.{Operand, Syscall, Open, Openat, Read, Write, Sendfd, Recvfd, Lseek, Ftruncate, Fsync, Fstat, Fcntl_getfl, Fcntl_setfl, Fstatat, Stat, Mkdirat, Mkdir}
use Rattle.instruction_set.specs.Programs.{Unlinkat, Unlink, Renameat, Dup, Close, Cap_rights_limit, Cap_fcntls_limit, Cap_enter, Cap_getmode, Socketpair, Fork, Use, called}
use Rattle.rights.specs.Sides.{other_side}
use Rattle.fd_table.specs.Descriptions.{At_node, Descriptor}
use Rattle.fd_table.specs.OpenFiles.{lowest_free}
use Rattle.certificate.specs.Bounds.{Certificate}
use Rattle.kernel.specs.World.{World, Choice}
use Rattle.kernel.specs.Answers.{Answer, Effect, Event, Gives, gives, granted, value_of}
use Rattle.kernel.specs.Calls.{answer, effects_by, last_if, made_directory, moves, renamed_free, existing, renamed_over, renamed_to, stats_at, unlinks, unlinks_as}
use Rattle.kernel.specs.Walks.{lookups_of}
use Rattle.task.specs.Plans.{Plan, programs_of_plan}
use Rattle.task.specs.Policies.{grant_holds}
use Rattle.task.specs.Sandboxed.{Allowed, AreAllowed}
use Rattle.rules.proofs.Members.{Among, each_of}
use Rattle.rules.proofs.calls.OpenCalls.{reached_beneath}
use Rattle.rules.proofs.findings.Findings.{FoundBeneath}
use Rattle.rules.proofs.findings.LooksIn.{looks_beneath, looks_both}
use Rattle.rules.proofs.frames.GrantPlaces.{IsDeepIn, deep_held, deep_move, deep_of}
use Rattle.kernel.proofs.Spoken.{call_spoken}
use Rattle.rules.proofs.hostile.Ceilings.{moves_in_one}
use Rattle.rules.proofs.hostile.Unsaid.{beside_among, said_by_wide}
use Rattle.rules.proofs.hostile.Confining.{Confines, Roams, by_object, does, fails, fitting, held_named, held_of, held_within, if_directory, if_file, if_held, if_lost, if_number}
use Rattle.rules.proofs.hostile.Confining.{if_passed, if_socket, if_through, if_unrefused, never_outside, tree, walks, within}
use Rattle.rules.proofs.hostile.Parts.{May, Under, fewer_may, gives_value, may, opens, pairs, reads, reads_end, receives, sends_end, sends_there, sets}
use Rattle.rules.proofs.points.Known.{OneGrant}
use Rattle.rules.specs.Within.{IsBelowCeiling, own_authority}

module _ (plan : Plan) (certificate : Certificate) (w : World) (e : Event) (s : ProcessState) (choice : Choice) (known : Roams plan certificate w e.process s choice) where
  abbrev Allows : Operation → List (List ℕ) → Type 0
  Allows operation place = Allowed plan.grants operation place

  -- the descriptor of an operand is below a ceiling
  abbrev Below : ℕ → ℕ → Type 0
  Below n rights = IsBelowCeiling plan.wide plan.grants (own_authority plan certificate s.program) (node w.tree n).place rights

  -- ## Lookups beneath a directory
  module _ (x : Operand) (path : List ℕ) (f : OpenRequest) (here : Under plan certificate w e s choice known (Openat x path f)) where
    openat_may : May plan certificate w e s choice known (Openat x path f) here (answer w e.process s e (Openat x path f))
    unfolding answer lookups_of
    openat_may =
        let call = Openat x path f in
        if_through plan certificate w e.process s choice known call here x _ _ (λ d there has.
        if_directory plan certificate w e.process s choice known call here e d.description _ (λ n access is dir.
        looks_beneath plan w e.process s e call (tree plan certificate w e.process s choice known call here) (fitting plan certificate w e.process s choice known call here)
        (within plan certificate w e.process s choice known call here) (Confines plan certificate w e.process s choice known call here)
        (walks plan certificate w e.process s choice known call here) x path (last_if f.create) refl d there n access is dir _ (λ a found.
        opens plan certificate w e s choice known call here f d (node w.tree n).place
        (held_of plan certificate w e.process s choice known call here (value_of s x) d there (At_node n access) is) has path a
        (reached_beneath plan.grants w.tree n path f.create a found))))

  module _ (x : Operand) (path : List ℕ) (here : Under plan certificate w e s choice known (Fstatat x path)) where
    looks_at : (n : ℕ) (rights : ℕ) → Below n rights → is_within fstatat_right rights ≡ true → (a : lookups.Finding) → FoundBeneath plan.grants w.tree n path Follow a
        → May plan certificate w e s choice known (Fstatat x path) here (stats_at w e.process s e a)
    looks_at n rights below has (Not_found fault) found = let call = Fstatat x path in if_lost plan certificate w e.process s choice known call here e fault
    looks_at n rights below has (Found_free k) found = let call = Fstatat x path in fails plan certificate w e.process s choice known call here _ _
    looks_at n rights below has (Found_node m) found =
        let call = Fstatat x path in
        does plan certificate w e.process s choice known call here _ _ _ (record {
          allowed = (
            may plan certificate w e s choice known fstatat_right Look (inr (inr (inr (inr (inr (inl refl)))))) refl (node w.tree n).place (node w.tree m).place rights below has
                found.within,
            tt,
          );
          deep = tt;
          adds = tt;
          sends = tt;
        })

    fstatat_may : May plan certificate w e s choice known (Fstatat x path) here (answer w e.process s e (Fstatat x path))
    unfolding answer lookups_of
    fstatat_may =
        let call = Fstatat x path in
        if_through plan certificate w e.process s choice known call here x _ _ (λ d there has.
        if_directory plan certificate w e.process s choice known call here e d.description _ (λ n access is dir.
        looks_beneath plan w e.process s e call (tree plan certificate w e.process s choice known call here) (fitting plan certificate w e.process s choice known call here)
        (within plan certificate w e.process s choice known call here) (Confines plan certificate w e.process s choice known call here)
        (walks plan certificate w e.process s choice known call here) x path Follow refl d there n access is dir _
        (looks_at n d.rights (held_of plan certificate w e.process s choice known call here (value_of s x) d there (At_node n access) is) (is_within-trans fstatat_right _ d.rights refl has))))

  module _ (x : Operand) (path : List ℕ) (here : Under plan certificate w e s choice known (Mkdirat x path)) where
    makes_at : (n : ℕ) (rights : ℕ) → Below n rights → is_within mkdirat_right rights ≡ true → (a : lookups.Finding) → FoundBeneath plan.grants w.tree n path Keep a
        → May plan certificate w e s choice known (Mkdirat x path) here (made_directory w e.process s e path a)
    makes_at n rights below has (Not_found fault) found = let call = Mkdirat x path in if_lost plan certificate w e.process s choice known call here e fault
    makes_at n rights below has (Found_node m) found = let call = Mkdirat x path in fails plan certificate w e.process s choice known call here _ _
    makes_at n rights below has (Found_free k) found =
        let call = Mkdirat x path in
        let place = at_name (node w.tree k).place (last_component path) in
        if_passed plan certificate w e.process s choice known call here _ _ _ _ (λ room.
        if_unrefused plan certificate w e.process s choice known call here e _ _
        (does plan certificate w e.process s choice known call here _ _ _ (record {
          allowed = (
            may plan certificate w e s choice known mkdirat_right Creates (inr (inr (inr (inr (inr (inr (inl refl))))))) refl (node w.tree n).place place rights below has
                (λ name held. deep_held plan.grants name place (found.deep refl name held)),
            tt,
          );
          deep = tt;
          adds = tt;
          sends = tt;
        })))

    mkdirat_may : May plan certificate w e s choice known (Mkdirat x path) here (answer w e.process s e (Mkdirat x path))
    unfolding answer lookups_of
    mkdirat_may =
        let call = Mkdirat x path in
        if_through plan certificate w e.process s choice known call here x _ _ (λ d there has.
        if_directory plan certificate w e.process s choice known call here e d.description _ (λ n access is dir.
        looks_beneath plan w e.process s e call (tree plan certificate w e.process s choice known call here) (fitting plan certificate w e.process s choice known call here)
        (within plan certificate w e.process s choice known call here) (Confines plan certificate w e.process s choice known call here)
        (walks plan certificate w e.process s choice known call here) x path Keep refl d there n access is dir _
        (makes_at n d.rights (held_of plan certificate w e.process s choice known call here (value_of s x) d there (At_node n access) is) (is_within-trans mkdirat_right _ d.rights refl has))))

  module _ (x : Operand) (path : List ℕ) (directory : Bool) (here : Under plan certificate w e s choice known (Unlinkat x path directory)) where
    kind_may : (b : Bool) (m : ℕ) (rest : Answer) → May plan certificate w e s choice known (Unlinkat x path directory) here rest
        → May plan certificate w e s choice known (Unlinkat x path directory) here (unlinks_as w e.process s e b m rest)
    kind_may true m rest confines =
        let call = Unlinkat x path directory in
        if_passed plan certificate w e.process s choice known call here _ _ _ _ (λ dir. if_passed plan certificate w e.process s choice known call here _ _ _ _ (λ empty. confines))
    kind_may false m rest confines = let call = Unlinkat x path directory in if_passed plan certificate w e.process s choice known call here _ _ _ _ (λ file. confines)

    removes_at : (n : ℕ) (rights : ℕ) → Below n rights → is_within unlinkat_right rights ≡ true → (a : lookups.Finding) → FoundBeneath plan.grants w.tree n path Keep a
        → May plan certificate w e s choice known (Unlinkat x path directory) here (unlinks w e.process s e directory a)
    removes_at n rights below has (Not_found fault) found = let call = Unlinkat x path directory in if_lost plan certificate w e.process s choice known call here e fault
    removes_at n rights below has (Found_free k) found = let call = Unlinkat x path directory in fails plan certificate w e.process s choice known call here _ _
    removes_at n rights below has (Found_node m) found =
        let call = Unlinkat x path directory in
        let place = (node w.tree m).place in
        kind_may directory m _
        (does plan certificate w e.process s choice known call here _ _ _ (record {
          allowed = (
            may plan certificate w e s choice known unlinkat_right Removes (inr (inr (inr (inr (inr (inr (inr (inl refl)))))))) refl (node w.tree n).place place rights below has
                (λ name held. deep_held plan.grants name place (found.deep refl name held)),
            tt,
          );
          deep = deep_of plan.grants below.name place (found.deep refl below.name below.holds);
          adds = tt;
          sends = tt;
        }))

    unlinkat_may : May plan certificate w e s choice known (Unlinkat x path directory) here (answer w e.process s e (Unlinkat x path directory))
    unfolding answer lookups_of
    unlinkat_may =
        let call = Unlinkat x path directory in
        if_through plan certificate w e.process s choice known call here x _ _ (λ d there has.
        if_directory plan certificate w e.process s choice known call here e d.description _ (λ n access is dir.
        looks_beneath plan w e.process s e call (tree plan certificate w e.process s choice known call here) (fitting plan certificate w e.process s choice known call here)
        (within plan certificate w e.process s choice known call here) (Confines plan certificate w e.process s choice known call here)
        (walks plan certificate w e.process s choice known call here) x path Keep refl d there n access is dir _
        (removes_at n d.rights (held_of plan certificate w e.process s choice known call here (value_of s x) d there (At_node n access) is) (is_within-trans unlinkat_right _ d.rights refl has))))

  -- ## `renameat`
  module _ (x : Operand) (from : List ℕ) (y : Operand) (to : List ℕ) (here : Under plan certificate w e s choice known (Renameat x from y to)) where
    abbrev MayMove : Answer → Type 0
    MayMove a = May plan certificate w e s choice known (Renameat x from y to) here a

    module _ (target : Descriptor) (n m : ℕ) (rights : ℕ) (source : Below n rights) (moves_out : is_within renameat_source_right rights ≡ true) (into : Below m target.rights)
        (moves_into : is_within renameat_target_right target.rights ≡ true) where
      one : OneGrant plan.grants (node w.tree n).place (node w.tree m).place
      one =
          moves_in_one plan certificate s.program known.asked (node w.tree n).place (node w.tree m).place rights target.rights source moves_out into moves_into

      abbrev Source : lookups.Finding → Type 0
      Source a = FoundBeneath plan.grants w.tree n from Keep a

      abbrev Target : lookups.Finding → Type 0
      Target a = FoundBeneath plan.grants w.tree m to Keep a

      abbrev DeepInto : List (List ℕ) → Type 0
      DeepInto place = (name : List ℕ) → grant_holds plan.grants name (node w.tree m).place ≡ true → IsDeepIn plan.grants name place

      leaves : (k : ℕ) → Source (Found_node k) → Allows Removes (node w.tree k).place
      leaves k found =
          may plan certificate w e s choice known renameat_source_right Removes (inr (inr (inr (inr (inr (inr (inr (inr (inl refl))))))))) refl (node w.tree n).place
          (node w.tree k).place rights source moves_out (λ name held. deep_held plan.grants name (node w.tree k).place (found.deep refl name held))

      arrives_at : (place : List (List ℕ)) → DeepInto place → Allows Creates place
      arrives_at place deep =
          may plan certificate w e s choice known renameat_target_right Creates (inr (inr (inr (inr (inr (inr (inr (inr (inr (inl refl)))))))))) refl (node w.tree m).place place
          target.rights into moves_into (λ name held. deep_held plan.grants name place (deep name held))

      replaces : (place : List (List ℕ)) → DeepInto place → is_within unlinkat_right target.rights ≡ true → Allows Removes place
      replaces place deep has =
          may plan certificate w e s choice known unlinkat_right Removes (inr (inr (inr (inr (inr (inr (inr (inl refl)))))))) refl (node w.tree m).place place target.rights into has
          (λ name held. deep_held plan.grants name place (deep name held))

      -- the node goes to a place in the same grant
      moved : (k : ℕ) (place : List (List ℕ)) (effects : List Effect) → Source (Found_node k) → DeepInto place → AreAllowed plan.grants effects
          → MayMove (Gives 0 (moves w e.process s e k place) effects)
      moved k place effects found deep allowed =
          let call = Renameat x from y to in
          does plan certificate w e.process s choice known call here _ _ _ (record {
            allowed = allowed;
            deep = deep_move plan.grants one.name (node w.tree k).place place (found.deep refl one.name one.holds_source) (deep one.name one.holds_target);
            adds = tt;
            sends = tt;
          })

      to_free : (k : ℕ) (place : List (List ℕ)) → Source (Found_node k) → DeepInto place → MayMove (renamed_free w e.process s e k place)
      to_free k place found deep =
          let call = Renameat x from y to in
          if_passed plan certificate w e.process s choice known call here _ _ _ _ (λ apart. moved k place _ found deep (leaves k found, (arrives_at place deep, tt)))

      to_node : (k j : ℕ) → Source (Found_node k) → DeepInto (node w.tree j).place → is_within unlinkat_right target.rights ≡ true → MayMove (renamed_over w e.process s e k j)
      to_node k j found deep has =
          let call = Renameat x from y to in
          let place = (node w.tree j).place in
          if_passed plan certificate w e.process s choice known call here _ _ _ _ (λ apart.
          if_passed plan certificate w e.process s choice known call here _ _ _ _ (λ dirs.
          if_passed plan certificate w e.process s choice known call here _ _ _ _ (λ files.
          if_passed plan certificate w e.process s choice known call here _ _ _ _ (λ empty.
          moved k place _ found deep (replaces place deep has, (leaves k found, (arrives_at place deep, tt)))))))

      unless_same : (k j : ℕ) (same_one : Bool) → Source (Found_node k) → Target (Found_node j)
          → MayMove (if same_one then gives 0 else granted (needs_of (called (Renameat x from y to)) no_request Second true) target (renamed_over w e.process s e k j))
      unless_same k j true found place = gives_value plan certificate w e s choice known (Renameat x from y to) here 0
      unless_same k j false found place =
          let call = Renameat x from y to in
          if_passed plan certificate w e.process s choice known call here _ _ _ _ (λ has. to_node k j found (place.deep refl) (is_within-trans unlinkat_right _ target.rights refl has))

      goes_to : (k : ℕ) → Source (Found_node k) → (b : lookups.Finding) → Target b → MayMove (renamed_to w e.process s e (Renameat x from y to) target k to b)
      goes_to k found (Not_found fault) place = let call = Renameat x from y to in if_lost plan certificate w e.process s choice known call here e fault
      goes_to k found (Found_free j) place = to_free k (at_name (node w.tree j).place (last_component to)) found (place.deep refl)
      goes_to k found (Found_node j) place = unless_same k j (k == j) found place

      comes_from : (a b : lookups.Finding) → Source a → Target b
          → MayMove (existing a (λ k. renamed_to w e.process s e (Renameat x from y to) target k to b))
      comes_from (Not_found fault) b found place = let call = Renameat x from y to in if_lost plan certificate w e.process s choice known call here e fault
      comes_from (Found_free k) b found place = let call = Renameat x from y to in fails plan certificate w e.process s choice known call here _ _
      comes_from (Found_node k) b found place = goes_to k found b place

    renameat_may : MayMove (answer w e.process s e (Renameat x from y to))
    unfolding answer lookups_of
    renameat_may =
        let call = Renameat x from y to in
        if_held plan certificate w e.process s choice known call here (w.files.table e.process (value_of s x)) _ (λ d there.
        if_held plan certificate w e.process s choice known call here (w.files.table e.process (value_of s y)) _ (λ target other.
        if_passed plan certificate w e.process s choice known call here _ _ _ _ (λ has.
        if_passed plan certificate w e.process s choice known call here _ _ _ _ (λ has_too.
        if_directory plan certificate w e.process s choice known call here e d.description _ (λ n access is dir.
        if_directory plan certificate w e.process s choice known call here e target.description _ (λ m second is_too also.
        looks_both plan w e.process s e call (tree plan certificate w e.process s choice known call here) (fitting plan certificate w e.process s choice known call here)
        (within plan certificate w e.process s choice known call here) (Confines plan certificate w e.process s choice known call here)
        (walks plan certificate w e.process s choice known call here) (if_lost plan certificate w e.process s choice known call here e) x from y to refl d there n access is dir target other m second
        is_too also _
        (comes_from target n m d.rights (held_of plan certificate w e.process s choice known call here (value_of s x) d there (At_node n access) is)
        (is_within-trans renameat_source_right _ d.rights refl has)
        (held_of plan certificate w e.process s choice known call here (value_of s y) target other (At_node m second) is_too)
        (is_within-trans renameat_target_right _ target.rights refl has_too))))))))

  -- what a call does that needs a further right
  module _ (x : Operand) (right : ℕ) (here : Under plan certificate w e s choice known (Use x right)) where
    use_allowed : (n rights : ℕ) → Below n rights → is_within (bit_or (companions_of right) right) rights ≡ true
        → (o : Option Operation) → operation_of_use right ≡ o → AreAllowed plan.grants (effects_by o (node w.tree n).place)
    use_allowed n rights below has None is = tt
    use_allowed n rights below has (Some operation) is =
        let one : Among (right, operation) operations_of_rights = beside_among operations_of_rights right operation is in
        let some : not (is_within right 0) ≡ true = each_of (λ (row : ℕ × Operation). not (is_within row.0 0)) operations_of_rights refl (right, operation) one in
        let wide : plan.wide ≡ true = call_spoken plan.wide (programs_of_plan plan) s (Use x right) known.code known.next here in
        let own : is_within right (bit_or (companions_of right) right) ≡ true =
        is_within-from_members right (bit_or (companions_of right) right) (λ k in_right. IsIn-or_right (companions_of right) right k in_right) in (
          may plan certificate w e s choice known right operation one (both_true some (said_by_wide plan.wide right wide)) (node w.tree n).place (node w.tree n).place rights below
              (is_within-trans right (bit_or (companions_of right) right) rights own has) (λ name held. held),
          tt,
        )

  -- ## Every call
  pub answer_may : (call : Syscall) (here : Under plan certificate w e s choice known call) → May plan certificate w e s choice known call here (answer w e.process s e call)
  unfolding answer
  answer_may (Open path f) here = let call = Open path f in never_outside plan certificate w e.process s choice known call here e _
  answer_may (Openat x path f) here = openat_may x path f here
  answer_may (Read x) here =
      let call = Read x in
      if_through plan certificate w e.process s choice known call here x _ _ (λ d there has.
      by_object plan certificate w e.process s choice known call here (w.files.objects d.description) _ _
      (λ n access is.
      if_passed plan certificate w e.process s choice known call here _ _ _ _ (λ file.
      if_passed plan certificate w e.process s choice known call here _ _ _ _ (λ readable.
      reads plan certificate w e s choice known call here d (node w.tree n).place
      (may plan certificate w e s choice known read_right Reads (inl refl) refl (node w.tree n).place (node w.tree n).place d.rights
      (held_of plan certificate w e.process s choice known call here (value_of s x) d there (At_node n access) is) has (λ name held. held))
      (slice_get (node w.tree n).content (w.files.states d.description).offset))))
      (λ pair side class is. reads_end plan certificate w e s choice known call here d pair side (w.files.queue pair (other_side side))))
  answer_may (Write x v) here =
      let call = Write x v in
      if_through plan certificate w e.process s choice known call here x _ _ (λ d there has.
      by_object plan certificate w e.process s choice known call here (w.files.objects d.description) _ _
      (λ n access is.
      if_passed plan certificate w e.process s choice known call here _ _ _ _ (λ file.
      if_passed plan certificate w e.process s choice known call here _ _ _ _ (λ writable.
      if_passed plan certificate w e.process s choice known call here _ _ _ _ (λ room.
      if_unrefused plan certificate w e.process s choice known call here e _ _
      (does plan certificate w e.process s choice known call here _ _ _ (record {
        allowed = (
          may plan certificate w e s choice known write_right Writes (inr (inl refl)) refl (node w.tree n).place (node w.tree n).place d.rights
              (held_of plan certificate w e.process s choice known call here (value_of s x) d there (At_node n access) is) has (λ name held. held),
          tt,
        );
        deep = tt;
        adds = tt;
        sends = tt;
      }))))))
      (λ pair side class is. if_unrefused plan certificate w e.process s choice known call here e _ _ (sends_end plan certificate w e s choice known call here d pair side _ tt)))
  answer_may (Sendfd x y v) here =
      let call = Sendfd x y v in
      if_held plan certificate w e.process s choice known call here (w.files.table e.process (value_of s x)) _ (λ d there.
      if_held plan certificate w e.process s choice known call here (w.files.table e.process (value_of s y)) _ (λ passed also.
      if_passed plan certificate w e.process s choice known call here _ _ _ _ (λ has.
      if_socket plan certificate w e.process s choice known call here e d.description _ (λ pair side class is.
      sends_end plan certificate w e s choice known call here d pair side _
      (sends_there plan certificate w e s choice known call here (value_of s x) (value_of s y) d passed there also pair side class is)))))
  answer_may (Recvfd x) here =
      let call = Recvfd x in
      if_through plan certificate w e.process s choice known call here x _ _ (λ d there has.
      if_socket plan certificate w e.process s choice known call here e d.description _ (λ pair side class is.
      if_number plan certificate w e.process s choice known call here (lowest_free (w.files.table e.process)) _ (λ number.
      receives plan certificate w e s choice known call here (value_of s x) number d there pair side class is (w.files.queue pair (other_side side)) refl)))
  answer_may (Lseek x v) here =
      let call = Lseek x v in
      if_through plan certificate w e.process s choice known call here x _ _ (λ d there has.
      if_file plan certificate w e.process s choice known call here e d.description _ (λ n access is.
      if_passed plan certificate w e.process s choice known call here _ _ _ _
      (λ low. does plan certificate w e.process s choice known call here _ _ _ (record { allowed = tt; deep = tt; adds = tt; sends = tt }))))
  answer_may (Ftruncate x v) here =
      let call = Ftruncate x v in
      if_through plan certificate w e.process s choice known call here x _ _ (λ d there has.
      if_file plan certificate w e.process s choice known call here e d.description _ (λ n access is.
      if_passed plan certificate w e.process s choice known call here _ _ _ _ (λ writable.
      if_passed plan certificate w e.process s choice known call here _ _ _ _ (λ low.
      does plan certificate w e.process s choice known call here _ _ _ (record {
        allowed = (
          may plan certificate w e s choice known ftruncate_right Writes (inr (inr (inl refl))) refl (node w.tree n).place (node w.tree n).place d.rights
              (held_of plan certificate w e.process s choice known call here (value_of s x) d there (At_node n access) is) has (λ name held. held),
          tt,
        );
        deep = tt;
        adds = tt;
        sends = tt;
      })))))
  answer_may (Fsync x) here =
      let call = Fsync x in
      if_through plan certificate w e.process s choice known call here x _ _ (λ d there has.
      by_object plan certificate w e.process s choice known call here (w.files.objects d.description) _ _ (λ n access is. gives_value plan certificate w e s choice known call here 0)
      (λ pair side class is. fails plan certificate w e.process s choice known call here _ _))
  answer_may (Fstat x) here =
      let call = Fstat x in
      if_through plan certificate w e.process s choice known call here x _ _ (λ d there has.
      by_object plan certificate w e.process s choice known call here (w.files.objects d.description) _ _
      (λ n access is.
      does plan certificate w e.process s choice known call here _ _ _ (record {
        allowed = (
          may plan certificate w e s choice known fstat_right Look (inr (inr (inr (inl refl)))) refl (node w.tree n).place (node w.tree n).place d.rights
              (held_of plan certificate w e.process s choice known call here (value_of s x) d there (At_node n access) is) has (λ name held. held),
          tt,
        );
        deep = tt;
        adds = tt;
        sends = tt;
      }))
      (λ pair side class is. gives_value plan certificate w e s choice known call here 3))
  answer_may (Fcntl_getfl x) here =
      let call = Fcntl_getfl x in
      if_through plan certificate w e.process s choice known call here x _ _
      (λ d there has. if_passed plan certificate w e.process s choice known call here _ _ _ _ (λ also. gives_value plan certificate w e s choice known call here _))
  answer_may (Fcntl_setfl x v) here =
      let call = Fcntl_setfl x v in
      if_through plan certificate w e.process s choice known call here x _ _ (λ d there has.
      if_passed plan certificate w e.process s choice known call here _ _ _ _ (λ also.
      if_passed plan certificate w e.process s choice known call here _ _ _ _
      (λ flags. does plan certificate w e.process s choice known call here _ _ _ (record { allowed = tt; deep = tt; adds = tt; sends = tt }))))
  answer_may (Fstatat x path) here = fstatat_may x path here
  answer_may (Stat path) here = let call = Stat path in never_outside plan certificate w e.process s choice known call here e _
  answer_may (Mkdirat x path) here = mkdirat_may x path here
  answer_may (Mkdir path) here = let call = Mkdir path in never_outside plan certificate w e.process s choice known call here e _
  answer_may (Unlinkat x path directory) here = unlinkat_may x path directory here
  answer_may (Unlink path directory) here = let call = Unlink path directory in never_outside plan certificate w e.process s choice known call here e _
  answer_may (Renameat x from y to) here = renameat_may x from y to here
  answer_may (Dup x) here =
      let call = Dup x in
      if_held plan certificate w e.process s choice known call here (w.files.table e.process (value_of s x)) _ (λ d there.
      if_number plan certificate w e.process s choice known call here (lowest_free (w.files.table e.process)) _ (λ number.
      sets plan certificate w e s choice known call here number number d (held_named plan certificate w e.process s choice known call here (value_of s x) d there)
      (held_within plan certificate w e.process s choice known call here (value_of s x) d there)))
  answer_may (Close x) here =
      let call = Close x in
      if_held plan certificate w e.process s choice known call here (w.files.table e.process (value_of s x)) _
      (λ d there. does plan certificate w e.process s choice known call here _ _ _ (record { allowed = tt; deep = tt; adds = tt; sends = tt }))
  answer_may (Cap_rights_limit x rights) here =
      let call = Cap_rights_limit x rights in
      if_held plan certificate w e.process s choice known call here (w.files.table e.process (value_of s x)) _ (λ d there.
      if_passed plan certificate w e.process s choice known call here _ _ _ _ (λ less.
      let named = held_named plan certificate w e.process s choice known call here (value_of s x) d there in
      sets plan certificate w e s choice known call here 0 (value_of s x) (record d { rights = rights }) (record { apart = named.apart; class = named.class })
      (fewer_may plan certificate w s.program d rights less (held_within plan certificate w e.process s choice known call here (value_of s x) d there))))
  answer_may (Cap_fcntls_limit x commands) here =
      let call = Cap_fcntls_limit x commands in
      if_held plan certificate w e.process s choice known call here (w.files.table e.process (value_of s x)) _ (λ d there.
      if_passed plan certificate w e.process s choice known call here _ _ _ _ (λ less.
      let named = held_named plan certificate w e.process s choice known call here (value_of s x) d there in
      sets plan certificate w e s choice known call here 0 (value_of s x) (record d { fcntls = commands }) (record { apart = named.apart; class = named.class })
      (held_within plan certificate w e.process s choice known call here (value_of s x) d there)))
  answer_may Cap_enter here = let call = Cap_enter in does plan certificate w e.process s choice known call here _ _ _ (record { allowed = tt; deep = tt; adds = tt; sends = tt })
  answer_may Cap_getmode here = let call = Cap_getmode in gives_value plan certificate w e s choice known call here _
  answer_may Socketpair here = let call = Socketpair in pairs plan certificate w e s choice known call here (lowest_free (w.files.table e.process))
  answer_may (Use x right) here =
      let call = Use x right in
      if_passed plan certificate w e.process s choice known call here _ _ _ _ (λ outside.
      if_through plan certificate w e.process s choice known call here x _ _ (λ d there has.
      by_object plan certificate w e.process s choice known call here (w.files.objects d.description) _ _
      (λ n access is. if_passed plan certificate w e.process s choice known call here _ _ _ _ (λ fits.
      if_unrefused plan certificate w e.process s choice known call here e _ _
      (does plan certificate w e.process s choice known call here _ _ _ (record {
        allowed =
            use_allowed x right here n d.rights (held_of plan certificate w e.process s choice known call here (value_of s x) d there (At_node n access) is) has
            (operation_of_use right) refl;
        deep = tt;
        adds = tt;
        sends = tt;
      }))))
      (λ pair side class is. if_passed plan certificate w e.process s choice known call here _ _ _ _ (λ fits.
      if_unrefused plan certificate w e.process s choice known call here e _ _
      (does plan certificate w e.process s choice known call here _ _ _ (record { allowed = tt; deep = tt; adds = tt; sends = tt }))))))
  answer_may Fork here =
      let call = Fork in
      if_passed plan certificate w e.process s choice known call here _ _ _ _
      (λ room. if_unrefused plan certificate w e.process s choice known call here e _ _
      (does plan certificate w e.process s choice known call here _ _ _ (record { allowed = tt; deep = tt; adds = tt; sends = tt })))
