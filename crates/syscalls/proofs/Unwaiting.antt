-- A call that looks something up never waits.
use Rattle.std.proofs.Common.{◌≡◌, ℕ, Bool, true, false, List, refl, subst, cond}
use Rattle.std.specs.Prelude.{◌==◌, Option, Some, None}
use Rattle.rights.specs.Errors.{Errno, Cause}
use Rattle.rights.specs.Opens.{OpenRequest}
use Rattle.file_tree.specs.Nodes.{Kind, File, Dir, Link, node}
use Rattle.lookup.specs.Answers.{Way, Last, LookupFault, Finding, Found_node, Found_free, Not_found}
use Rattle.lookup.specs.Walks.{first_handled, handled}
use Rattle.process.specs.State.{ProcessState, Walking, One, Two}
use Rattle.instruction_set.specs.Programs.{Syscall, Open, Openat, Fstatat, Stat, Mkdirat, Mkdir, Unlinkat, Unlink, Renameat}
use Rattle.fd_table.specs.Descriptions.{Access, Object, At_node, At_end, Descriptor}
use Rattle.kernel.specs.World.{World}
use Rattle.kernel.specs.Answers.{Event, Effect, Change, Answer, Fails, Waits, Gives, Walks, unless, held, at_object, at_number, lookup_fails}
use Rattle.kernel.specs.Calls.{answer, in_directory, looks, looks_twice, made_directory, opened, opened_as, existing, renamed_to, stats_at, unlinks}
use Rattle.kernel.specs.Walks.{No_path, lookups_of}
use Rattle.kernel.proofs.Looking.{any_event, any_one, any_two, fault_any, looks_any, looks_twice_any}

unfoldable Goes : Answer → Type 0
Goes (Fails errno cause) = Unit {0}
Goes Waits = ⊥
Goes (Gives value change effects) = Unit {0}
Goes (Walks walking) = Unit {0}

goes-fails : (errno : Errno) (cause : Cause) → Goes (Fails errno cause)
unfolding Goes
goes-fails errno cause = tt

goes-gives : (value : ℕ) (change : Change) (effects : List Effect) → Goes (Gives value change effects)
unfolding Goes
goes-gives value change effects = tt

goes-walks : (walking : Walking) → Goes (Walks walking)
unfolding Goes
goes-walks walking = tt

never_waits : Goes Waits → ⊥
unfolding Goes
never_waits h = h

goes-unless : (test : Bool) (errno : Errno) (cause : Cause) (rest : Answer) → Goes rest → Goes (unless test errno cause rest)
unfolding unless
goes-unless true errno cause rest goes = goes
goes-unless false errno cause rest goes = goes-fails errno cause

goes-if : (test : Bool) (a b : Answer) → Goes a → Goes b → Goes (cond test a b)
goes-if true a b first second = first
goes-if false a b first second = second

goes-held : (o : Option Descriptor) (rest : Descriptor → Answer) → ((d : Descriptor) → Goes (rest d)) → Goes (held o rest)
unfolding held
goes-held None rest goes = goes-fails _ _
goes-held (Some d) rest goes = goes d

goes-object : (o : Object) (on_node : ℕ → Access → Answer) (on_end : ℕ → ℕ → Answer) → ((n : ℕ) (access : Access) → Goes (on_node n access)) →
    ((pair side : ℕ) → Goes (on_end pair side)) → Goes (at_object o on_node on_end)
unfolding at_object
goes-object (At_node n access) on_node on_end nodes ends = nodes n access
goes-object (At_end pair side class) on_node on_end nodes ends = ends pair side

goes-number : (o : Option ℕ) (rest : ℕ → Answer) → ((n : ℕ) → Goes (rest n)) → Goes (at_number o rest)
unfolding at_number
goes-number None rest goes = goes-fails _ _
goes-number (Some n) rest goes = goes n

module _ (w : World) (p : ℕ) (s : ProcessState) (e : Event) where
  goes-lookup_fails : (fault : LookupFault) → Goes (lookup_fails fault)
  goes-lookup_fails = fault_any Goes w p s e goes-fails

  goes-directory : (description : ℕ) (rest : ℕ → Answer) → ((n : ℕ) → Goes (rest n)) → Goes (in_directory w p s e description rest)
  goes-directory description rest goes = goes-object _ _ _ (λ n access. goes-unless _ _ _ _ (goes n)) (λ pair side. goes-fails _ _)

  goes-looks : (start : ℕ) (way : Way) (path : List ℕ) (last : Last) (rest : Finding → Answer) → ((found : Finding) → Goes (rest found)) → Goes (looks w p s e start way path last rest)
  goes-looks start way path last rest goes =
      looks_any Goes w p s e start way path last rest (λ found. Unit {0}) (λ walk. Unit {0}) (any_one s.walk) (any_event (first_handled w.tree start path way last))
      (λ walk is. any_event (handled w.tree walk)) (λ found is. goes found) (λ walk is. goes-walks (One walk))

  goes-looks_twice : (n : ℕ) (from : List ℕ) (m : ℕ) (to : List ℕ) (rest : Finding → Finding → Answer) → ((found place : Finding) → Goes (rest found place)) →
      Goes (looks_twice w p s e n from m to rest)
  goes-looks_twice n from m to rest goes =
      looks_twice_any Goes w p s e goes-lookup_fails n from m to rest (λ found. Unit {0}) (λ found. Unit {0}) (λ walk. Unit {0}) (λ walk. Unit {0}) (any_two s.walk)
      (λ none. tt) (λ none. tt) tt tt (λ walk is. any_event (handled w.tree walk)) (λ walk is. any_event (handled w.tree walk)) (λ found place is also. goes found place)
      (λ one other first second. goes-walks (Two one other))

  goes-opened_as : (f : OpenRequest) (rights fcntls n : ℕ) (kind : Kind) → Goes (opened_as w p s e f rights fcntls n kind)
  goes-opened_as f rights fcntls n Link = goes-fails _ _
  goes-opened_as f rights fcntls n Dir = goes-unless _ _ _ _ (goes-number _ _ (λ number. goes-unless _ _ _ _ (goes-gives _ _ _)))
  goes-opened_as f rights fcntls n File = goes-number _ _ (λ number. goes-unless _ _ _ _ (goes-gives _ _ _))

  goes-opened : (f : OpenRequest) (rights fcntls : ℕ) (path : List ℕ) (found : Finding) → Goes (opened w p s e f rights fcntls path found)
  goes-opened f rights fcntls path (Not_found fault) = goes-lookup_fails fault
  goes-opened f rights fcntls path (Found_free d) = goes-number _ _ (λ number. goes-unless _ _ _ _ (goes-unless _ _ _ _ (goes-gives _ _ _)))
  goes-opened f rights fcntls path (Found_node n) = goes-opened_as f rights fcntls n (node w.tree n).kind

  goes-stats : (found : Finding) → Goes (stats_at w p s e found)
  goes-stats (Not_found fault) = goes-lookup_fails fault
  goes-stats (Found_free d) = goes-fails _ _
  goes-stats (Found_node n) = goes-gives _ _ _

  goes-made : (path : List ℕ) (found : Finding) → Goes (made_directory w p s e path found)
  goes-made path (Not_found fault) = goes-lookup_fails fault
  goes-made path (Found_node n) = goes-fails _ _
  goes-made path (Found_free d) = goes-unless _ _ _ _ (goes-unless _ _ _ _ (goes-gives _ _ _))

  goes-unlinks : (directory : Bool) (found : Finding) → Goes (unlinks w p s e directory found)
  goes-unlinks directory (Not_found fault) = goes-lookup_fails fault
  goes-unlinks directory (Found_free d) = goes-fails _ _
  goes-unlinks true (Found_node n) = goes-unless _ _ _ _ (goes-unless _ _ _ _ (goes-gives _ _ _))
  goes-unlinks false (Found_node n) = goes-unless _ _ _ _ (goes-gives _ _ _)

  goes-renamed_to : (call : Syscall) (target : Descriptor) (n : ℕ) (path : List ℕ) (found : Finding) → Goes (renamed_to w p s e call target n path found)
  goes-renamed_to call target n path (Not_found fault) = goes-lookup_fails fault
  goes-renamed_to call target n path (Found_free d) = goes-unless _ _ _ _ (goes-gives _ _ _)
  goes-renamed_to call target n path (Found_node m) =
      goes-if (n == m) _ _ (goes-gives _ _ _)
      (goes-unless _ _ _ _ (goes-unless _ _ _ _ (goes-unless _ _ _ _ (goes-unless _ _ _ _ (goes-unless _ _ _ _ (goes-gives _ _ _))))))

  goes-existing : (found : Finding) (rest : ℕ → Answer) → ((n : ℕ) → Goes (rest n)) → Goes (existing found rest)
  goes-existing (Not_found fault) rest goes = goes-lookup_fails fault
  goes-existing (Found_free d) rest goes = goes-fails _ _
  goes-existing (Found_node n) rest goes = goes n

  waiting : (a : Answer) → Goes a → a ≡ Waits → ⊥
  waiting a goes is = never_waits (subst Goes is goes)

  pub looks_nothing : (call : Syscall) → answer w p s e call ≡ Waits → lookups_of call ≡ No_path
  unfolding answer lookups_of
  looks_nothing (Open path f) is = absurd (waiting _ (goes-unless _ _ _ _ (goes-looks _ _ _ _ _ (goes-opened f _ _ path))) is)
  looks_nothing (Openat x path f) is =
      absurd (waiting _ (goes-held _ _ (λ d. goes-unless _ _ _ _ (goes-directory _ _ (λ n. goes-looks _ _ _ _ _ (goes-opened f _ _ path))))) is)
  looks_nothing (Fstatat x path) is = absurd (waiting _ (goes-held _ _ (λ d. goes-unless _ _ _ _ (goes-directory _ _ (λ n. goes-looks _ _ _ _ _ goes-stats)))) is)
  looks_nothing (Stat path) is = absurd (waiting _ (goes-unless _ _ _ _ (goes-looks _ _ _ _ _ goes-stats)) is)
  looks_nothing (Mkdirat x path) is = absurd (waiting _ (goes-held _ _ (λ d. goes-unless _ _ _ _ (goes-directory _ _ (λ n. goes-looks _ _ _ _ _ (goes-made path))))) is)
  looks_nothing (Mkdir path) is = absurd (waiting _ (goes-unless _ _ _ _ (goes-looks _ _ _ _ _ (goes-made path))) is)
  looks_nothing (Unlinkat x path directory) is =
      absurd (waiting _ (goes-held _ _ (λ d. goes-unless _ _ _ _ (goes-directory _ _ (λ n. goes-looks _ _ _ _ _ (goes-unlinks directory))))) is)
  looks_nothing (Unlink path directory) is = absurd (waiting _ (goes-unless _ _ _ _ (goes-looks _ _ _ _ _ (goes-unlinks directory))) is)
  looks_nothing (Renameat x from y to) is =
      absurd (waiting _ (goes-held _ _ (λ d. goes-held _ _ (λ target. goes-unless _ _ _ _ (goes-unless _ _ _ _ (goes-directory _ _ (λ n. goes-directory _ _ (λ m.
      goes-looks_twice _ _ _ _ _ (λ source place. goes-existing source _ (λ k. goes-renamed_to (Renameat x from y to) target k to place))))))))) is)
  looks_nothing call is = refl
