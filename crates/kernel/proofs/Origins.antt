-- What each call makes and sends, and where that comes from.
use Rattle.std.proofs.Common.{◌≡◌, ℕ, zero, suc, ◌+◌, Bool, true, false, List, [], ◌∷◌, refl, subst, ap, sym, ◌∙◌}
use Rattle.std.specs.Prelude.{◌-◌, not, Option, Some, None, is_some, cond}
use Rattle.std.proofs.lemmas.Bool.{cond_both}
use Rattle.rights.specs.Errors.{Errno, Cause}
use Rattle.rights.specs.Sets.{all_rights, all_commands}
use Rattle.rights.proofs.Subsets.{is_within-refl}
use Rattle.rights.specs.Opens.{OpenRequest}
use Rattle.file_tree.specs.Nodes.{Kind, File, Dir, Link, node}
use Rattle.lookup.specs.Answers.{Way, Last, LookupFault, Escape, No_entry, Not_dir, Loop, Too_long, Bad_last, Found_node, Found_free, Not_found}
use Rattle.lookup.specs.Answers as lookups
use Rattle.lookup.specs.Walks.{first_handled, handled}
use Rattle.process.specs.State.{ProcessState, Walking, One, Two}
use Rattle.instruction_set.specs.Programs.{Syscall, Open, Openat, Read, Write, Sendfd, Recvfd, Lseek, Ftruncate, Fsync, Fstat, Fcntl_getfl, Fcntl_setfl, Fstatat, Stat, Mkdirat, Mkdir}
use Rattle.instruction_set.specs.Programs.{Unlinkat, Unlink, Renameat, Dup, Close, Cap_rights_limit, Cap_fcntls_limit, Cap_enter, Cap_getmode, Socketpair, Fork, Use}
use Rattle.rights.specs.Sides.{other_side}
use Rattle.fd_table.specs.Descriptions.{Access, PairClass, Object, At_node, At_end, Descriptor, Message, descriptor_of, IfHeld}
use Rattle.fd_table.specs.OpenFiles.{lowest_from, lowest_free}
use Rattle.kernel.specs.World.{World}
use Rattle.kernel.specs.Answers.{Event, Effect, TableChange, Same_table, Set_entry, Clear_entry, New_file, New_pair, New_process, QueueChange, Same_queue, Push, Pop, Change}
use Rattle.kernel.specs.Answers.{Answer, Fails, Waits, Gives, Walks, unless, held, at_object, at_number, lookup_fails}
use Rattle.kernel.specs.Calls.{looks, looks_twice, answer, opened, opened_as, read_byte, read_end, write_node, sent_end, received, receive_end, stats_at, made_directory}
use Rattle.kernel.specs.Calls.{unlinks_as, unlinks, renamed_over, renamed_to, existing, pair_at, blocked, in_directory, at_file, used}
use Rattle.kernel.proofs.Looking.{any_event, any_one, any_two, fault_any, looks_any, looks_twice_any}
use Rattle.kernel.specs.Origins.{front_of, arriving_at, arriving, IsNoWider, IsMade, was_opened, was_opened_beneath, was_paired, was_duplicated, was_received}
use Rattle.kernel.specs.Origins.{was_limited, was_limited_in_commands, IsEndOf, IsEnd, IsSent, by_sendfd}

-- a number that is found free is
unheld : (o : Option Descriptor) → is_some o ≡ false → o ≡ None
unheld None is = refl
unheld (Some d) is = absurd cc

lowest_unheld : (count n : ℕ) (row : ℕ → Option Descriptor) (k : ℕ) → lowest_from count n row ≡ Some k → row k ≡ None
unfolding lowest_from
lowest_unheld zero n row k is = absurd cc
lowest_unheld (suc count) n row k is =
    cond_both (is_some (row n)) (lowest_from count (n + 1) row) (Some n) (λ o. o ≡ Some k → row k ≡ None)
    (λ taken rest. lowest_unheld count (n + 1) row k rest)
    (λ free here. let same : n ≡ k = cc in subst (λ m. row m ≡ None) same (unheld (row n) free)) is

not_on : (mode : Bool) → not mode ≡ true → mode ≡ false
not_on true outside = absurd cc
not_on false outside = refl

within-refl : (d : Descriptor) (o : Option Descriptor) → o ≡ Some d → (description : ℕ) → IsNoWider (descriptor_of description d.rights d.fcntls) o
within-refl d o is description = subst (IsNoWider (descriptor_of description d.rights d.fcntls)) (sym is) (is_within-refl d.rights, is_within-refl d.fcntls)

within-itself : (d : Descriptor) (o : Option Descriptor) → o ≡ Some d → IsNoWider d o
within-itself d o is = subst (IsNoWider d) (sym is) (is_within-refl d.rights, is_within-refl d.fcntls)

module _ (w : World) (p : ℕ) (s : ProcessState) where
  -- What a success of the call may change of the table and of the queues.
  abbrev pub MayTable : Syscall → TableChange → Type 0
  MayTable call Same_table = Unit {0}
  MayTable call (Set_entry number d) = IsMade w p s number d call
  MayTable call (Clear_entry number) = Unit {0}
  MayTable call (New_file number n access append rights fcntls) = (description : ℕ) → IsMade w p s number (descriptor_of description rights fcntls) call
  MayTable call (New_pair first second class) =
      (description : ℕ) → IsMade w p s first (descriptor_of description all_rights all_commands) call × IsMade w p s second (descriptor_of description all_rights all_commands) call
  MayTable call New_process = call ≡ Fork

  abbrev pub MayQueue : Syscall → QueueChange → Type 0
  MayQueue call Same_queue = Unit {0}
  MayQueue call (Push pair side m) = IfHeld (λ d. IsSent w p s pair side d call) m.passed
  MayQueue call (Pop pair side) = Unit {0}

  unfoldable pub Fair : Syscall → Answer → Type 0
  Fair call (Fails errno cause) = Unit {0}
  Fair call Waits = Unit {0}
  Fair call (Gives value change effects) = MayTable call change.table × MayQueue call change.queue
  Fair call (Walks walking) = Unit {0}

  fails : (call : Syscall) (errno : Errno) (cause : Cause) → Fair call (Fails errno cause)
  unfolding Fair
  fails call errno cause = tt

  waits : (call : Syscall) → Fair call Waits
  unfolding Fair
  waits call = tt

  walks : (call : Syscall) (walking : Walking) → Fair call (Walks walking)
  unfolding Fair
  walks call walking = tt

  gives : (call : Syscall) (value : ℕ) (change : Change) (effects : List Effect) → MayTable call change.table → MayQueue call change.queue → Fair call (Gives value change effects)
  unfolding Fair
  gives call value change effects table queue = (table, queue)

  fair-unless : (call : Syscall) (test : Bool) (errno : Errno) (cause : Cause) (rest : Answer) → (test ≡ true → Fair call rest) → Fair call (unless test errno cause rest)
  unfolding unless
  fair-unless call true errno cause rest fair = fair refl
  fair-unless call false errno cause rest fair = fails call errno cause

  fair-if : (call : Syscall) (test : Bool) (a b : Answer) → Fair call a → Fair call b → Fair call (cond test a b)
  fair-if call true a b first second = first
  fair-if call false a b first second = second

  fair-held : (call : Syscall) (o : Option Descriptor) (rest : Descriptor → Answer) → ((d : Descriptor) → o ≡ Some d → Fair call (rest d)) → Fair call (held o rest)
  unfolding held
  fair-held call None rest fair = fails call _ _
  fair-held call (Some d) rest fair = fair d refl

  fair-object : (call : Syscall) (o : Object) (on_node : ℕ → Access → Answer) (on_end : ℕ → ℕ → Answer) →
      ((n : ℕ) (access : Access) → o ≡ At_node n access → Fair call (on_node n access)) →
      ((pair side : ℕ) (class : PairClass) → o ≡ At_end pair side class → Fair call (on_end pair side)) → Fair call (at_object o on_node on_end)
  unfolding at_object
  fair-object call (At_node n access) on_node on_end nodes ends = nodes n access refl
  fair-object call (At_end pair side class) on_node on_end nodes ends = ends pair side class refl

  fair-number : (call : Syscall) (o : Option ℕ) (rest : ℕ → Answer) → ((n : ℕ) → o ≡ Some n → Fair call (rest n)) → Fair call (at_number o rest)
  unfolding at_number
  fair-number call None rest fair = fails call _ _
  fair-number call (Some n) rest fair = fair n refl

  fair-lookup_fails : (call : Syscall) (fault : LookupFault) → Fair call (lookup_fails fault)
  fair-lookup_fails call Escape = fails call _ _
  fair-lookup_fails call No_entry = fails call _ _
  fair-lookup_fails call Not_dir = fails call _ _
  fair-lookup_fails call Loop = fails call _ _
  fair-lookup_fails call Too_long = fails call _ _
  fair-lookup_fails call Bad_last = fails call _ _

  -- a number that is free is
  free : (number : ℕ) → lowest_free (w.files.table p) ≡ Some number → w.files.table p number ≡ None
  free number is = lowest_unheld 16 0 (w.files.table p) number is

  module _ (e : Event) where
    fair-blocked : (call : Syscall) (nonblock : Bool) → Fair call (blocked w p s e nonblock)
    fair-blocked call nonblock = fair-if call nonblock _ _ (fails call _ _) (waits call)

    -- what is opened with these rights and commands, by calls that may make it so
    module _ (call : Syscall) (rights fcntls : ℕ) (may : (number description : ℕ) → w.files.table p number ≡ None → IsMade w p s number (descriptor_of description rights fcntls) call) where
      fair-opened_as : (f : OpenRequest) (n : ℕ) (kind : Kind) → Fair call (opened_as w p s e f rights fcntls n kind)
      fair-opened_as f n Link = fails call _ _
      fair-opened_as f n Dir =
          fair-unless call _ _ _ _ (λ _. fair-number call _ _ (λ number is. fair-unless call _ _ _ _ (λ _. gives call _ _ _ (λ k. may number k (free number is)) tt)))
      fair-opened_as f n File =
          fair-number call _ _ (λ number is. fair-unless call _ _ _ _ (λ _. gives call _ _ _ (λ k. may number k (free number is)) tt))

      fair-opened : (f : OpenRequest) (path : List ℕ) (found : lookups.Finding) → Fair call (opened w p s e f rights fcntls path found)
      fair-opened f path (Not_found fault) = fair-lookup_fails call fault
      fair-opened f path (Found_free k) =
          fair-number call _ _ (λ number is. fair-unless call _ _ _ _ (λ _. fair-unless call _ _ _ _ (λ _. gives call _ _ _ (λ k. may number k (free number is)) tt)))
      fair-opened f path (Found_node n) = fair-opened_as f n (node w.tree n).kind

    fair-byte : (call : Syscall) (d : Descriptor) (place : List (List ℕ)) (o : Option ℕ) → Fair call (read_byte w p s e d.description place o)
    fair-byte call d place None = gives call _ _ _ tt tt
    fair-byte call d place (Some byte) = gives call _ _ _ tt tt

    fair-read_end : (call : Syscall) (d : Descriptor) (pair side : ℕ) (messages : List Message) → Fair call (read_end w p s e d.description pair side messages)
    fair-read_end call d pair side [] = fair-if call _ _ _ (fair-blocked call _) (gives call _ _ _ tt tt)
    fair-read_end call d pair side (m ∷ messages) = gives call _ _ _ tt tt

    -- a message with what it carries
    fair-sent : (call : Syscall) (d : Descriptor) (pair side : ℕ) (message : Message) → IfHeld (λ d. IsSent w p s pair side d call) message.passed →
        Fair call (sent_end w p s e d.description pair side message)
    fair-sent call d pair side message sent =
        fair-unless call _ _ _ _ (λ _. fair-if call _ _ _ (gives call _ _ _ tt sent) (fair-blocked call _))

    fair-received : (call : Syscall) (pair side number : ℕ) (o : Option Descriptor) →
        ((d : Descriptor) → o ≡ Some d → IsMade w p s number d call) → Fair call (received w p s e pair side number o)
    fair-received call pair side number None may = fails call _ _
    fair-received call pair side number (Some d) may = gives call _ _ _ (may d refl) tt

    fair-receive_end : (call : Syscall) (d : Descriptor) (pair side number : ℕ) (messages : List Message) →
        ((carried : Descriptor) → front_of messages ≡ Some carried → IsMade w p s number carried call) →
        Fair call (receive_end w p s e d.description pair side number messages)
    fair-receive_end call d pair side number [] may = fair-unless call _ _ _ _ (λ _. fair-blocked call _)
    fair-receive_end call d pair side number (m ∷ messages) may = fair-received call pair side number m.passed may

    fair-write_node : (call : Syscall) (d : Descriptor) (n : ℕ) (access : Access) (byte : ℕ) → Fair call (write_node w p s e d.description n access byte)
    fair-write_node call d n access byte =
        fair-unless call _ _ _ _ (λ _. fair-unless call _ _ _ _ (λ _. fair-unless call _ _ _ _ (λ _. fair-unless call _ _ _ _ (λ _. gives call _ _ _ tt tt))))

    fair-looks : (call : Syscall) (start : ℕ) (way : Way) (path : List ℕ) (last : Last) (rest : lookups.Finding → Answer) →
        ((found : lookups.Finding) → Fair call (rest found)) → Fair call (looks w p s e start way path last rest)
    fair-looks call start way path last rest fair =
        looks_any (Fair call) w p s e start way path last rest (λ found. Unit {0}) (λ walk. Unit {0}) (any_one s.walk) (any_event (first_handled w.tree start path way last))
        (λ walk is. any_event (handled w.tree walk)) (λ found is. fair found) (λ walk is. walks call (One walk))

    fair-looks_twice : (call : Syscall) (n : ℕ) (from : List ℕ) (m : ℕ) (to : List ℕ) (rest : lookups.Finding → lookups.Finding → Answer) →
        ((found place : lookups.Finding) → Fair call (rest found place)) → Fair call (looks_twice w p s e n from m to rest)
    fair-looks_twice call n from m to rest fair =
        looks_twice_any (Fair call) w p s e (fault_any (Fair call) w p s e (fails call)) n from m to rest (λ found. Unit {0}) (λ found. Unit {0}) (λ walk. Unit {0}) (λ walk. Unit {0}) (any_two s.walk)
        (λ none. tt) (λ none. tt) tt tt (λ walk is. any_event (handled w.tree walk)) (λ walk is. any_event (handled w.tree walk)) (λ found place is also. fair found place)
        (λ one other first second. walks call (Two one other))

    fair-looked_at : (call : Syscall) (found : lookups.Finding) → Fair call (stats_at w p s e found)
    fair-looked_at call (Not_found fault) = fair-lookup_fails call fault
    fair-looked_at call (Found_free d) = fails call _ _
    fair-looked_at call (Found_node n) = gives call _ _ _ tt tt

    fair-made_directory : (call : Syscall) (path : List ℕ) (found : lookups.Finding) → Fair call (made_directory w p s e path found)
    fair-made_directory call path (Not_found fault) = fair-lookup_fails call fault
    fair-made_directory call path (Found_node n) = fails call _ _
    fair-made_directory call path (Found_free d) = fair-unless call _ _ _ _ (λ _. fair-unless call _ _ _ _ (λ _. gives call _ _ _ tt tt))

    fair-unlinked_as : (call : Syscall) (directory : Bool) (n : ℕ) (rest : Answer) → Fair call rest → Fair call (unlinks_as w p s e directory n rest)
    fair-unlinked_as call true n rest fair = fair-unless call _ _ _ _ (λ _. fair-unless call _ _ _ _ (λ _. fair))
    fair-unlinked_as call false n rest fair = fair-unless call _ _ _ _ (λ _. fair)

    fair-unlinked : (call : Syscall) (directory : Bool) (found : lookups.Finding) → Fair call (unlinks w p s e directory found)
    fair-unlinked call directory (Not_found fault) = fair-lookup_fails call fault
    fair-unlinked call directory (Found_free d) = fails call _ _
    fair-unlinked call directory (Found_node n) = fair-unlinked_as call directory n _ (gives call _ _ _ tt tt)

    fair-renamed_over : (call : Syscall) (n m : ℕ) → Fair call (renamed_over w p s e n m)
    fair-renamed_over call n m =
        fair-unless call _ _ _ _ (λ _. fair-unless call _ _ _ _ (λ _. fair-unless call _ _ _ _ (λ _. fair-unless call _ _ _ _ (λ _. gives call _ _ _ tt tt))))

    fair-renamed_to : (call : Syscall) (target : Descriptor) (n : ℕ) (path : List ℕ) (found : lookups.Finding) → Fair call (renamed_to w p s e call target n path found)
    fair-renamed_to call target n path (Not_found fault) = fair-lookup_fails call fault
    fair-renamed_to call target n path (Found_free d) = fair-unless call _ _ _ _ (λ _. gives call _ _ _ tt tt)
    fair-renamed_to call target n path (Found_node m) =
        fair-if call _ _ _ (gives call _ _ _ tt tt) (fair-unless call _ _ _ _ (λ _. fair-renamed_over call n m))

    fair-existing : (call : Syscall) (found : lookups.Finding) (rest : ℕ → Answer) → ((n : ℕ) → Fair call (rest n)) → Fair call (existing found rest)
    fair-existing call (Not_found fault) rest fair = fair-lookup_fails call fault
    fair-existing call (Found_free d) rest fair = fails call _ _
    fair-existing call (Found_node n) rest fair = fair n

    fair-used : (call : Syscall) (fits : Bool) (effects : List Effect) → Fair call (used w p s e fits effects)
    fair-used call fits effects = fair-unless call _ _ _ _ (λ _. fair-unless call _ _ _ _ (λ _. gives call _ _ _ tt tt))

    -- a descriptor's directory and file
    fair-directory : (call : Syscall) (d : Descriptor) (rest : ℕ → Answer) → ((n : ℕ) → Fair call (rest n)) → Fair call (in_directory w p s e d.description rest)
    fair-directory call d rest fair =
        fair-object call _ _ _ (λ n access is. fair-unless call _ _ _ _ (λ _. fair n)) (λ pair side class is. fails call _ _)

    fair-file : (call : Syscall) (d : Descriptor) (rest : ℕ → Access → Answer) → ((n : ℕ) (access : Access) → Fair call (rest n access)) → Fair call (at_file w p s e d.description rest)
    fair-file call d rest fair =
        fair-object call _ _ _ (λ n access is. fair-unless call _ _ _ _ (λ _. fair n access)) (λ pair side class is. fails call _ _)

    -- a pair, with all rights
    fair-pair : (o : Option ℕ) → o ≡ lowest_free (w.files.table p) → Fair Socketpair (pair_at w p s e o)
    fair-pair None is = fails Socketpair _ _
    fair-pair (Some first) is =
        fair-number Socketpair _ _ (λ second also. fair-unless Socketpair _ _ _ _ (λ _. gives Socketpair _ _ _
        (λ k. (was_paired (free first (sym is)) (refl, refl), was_paired (lowest_unheld (15 - first) (first + 1) (w.files.table p) second also) (refl, refl))) tt))

    -- Every call.
    pub fair : (call : Syscall) → Fair call (answer w p s e call)
    unfolding answer
    fair (Open path f) =
        fair-unless (Open path f) _ _ _ _ (λ outside.
        fair-looks (Open path f) _ _ _ _ _ (fair-opened (Open path f) all_rights all_commands
        (λ number k none. was_opened none (not_on s.mode outside) (refl, refl)) f path))
    fair (Openat x path f) =
        fair-held (Openat x path f) _ _ (λ d is. fair-unless (Openat x path f) _ _ _ _ (λ _. fair-directory (Openat x path f) d _ (λ n.
        fair-looks (Openat x path f) _ _ _ _ _
        (fair-opened (Openat x path f) d.rights d.fcntls (λ number k none. was_opened_beneath none (within-refl d _ is k)) f path))))
    fair (Read x) =
        fair-held (Read x) _ _ (λ d is. fair-unless (Read x) _ _ _ _ (λ _. fair-object (Read x) _ _ _
        (λ n access at. fair-unless (Read x) _ _ _ _ (λ _. fair-unless (Read x) _ _ _ _ (λ _. fair-byte (Read x) d _ _)))
        (λ pair side class at. fair-read_end (Read x) d pair side _)))
    fair (Write x v) =
        fair-held (Write x v) _ _ (λ d is. fair-unless (Write x v) _ _ _ _ (λ _. fair-object (Write x v) _ _ _
        (λ n access at. fair-write_node (Write x v) d n access _)
        (λ pair side class at. fair-unless (Write x v) _ _ _ _ (λ _. fair-sent (Write x v) d pair side _ tt))))
    fair (Sendfd x y v) =
        fair-held (Sendfd x y v) _ _ (λ d is. fair-held (Sendfd x y v) _ _ (λ passed also.
        fair-unless (Sendfd x y v) _ _ _ _ (λ _. fair-object (Sendfd x y v) _ _ _ (λ n access at. fails (Sendfd x y v) _ _)
        (λ pair side class at. fair-sent (Sendfd x y v) d pair side _
        (by_sendfd (subst (λ o. IsEnd w o pair side) (sym is) (subst (λ o. IsEndOf o pair side) (sym at) (refl, refl))) (within-itself passed _ also))))))
    fair (Recvfd x) =
        fair-held (Recvfd x) _ _ (λ d is. fair-unless (Recvfd x) _ _ _ _ (λ _. fair-object (Recvfd x) _ _ _ (λ n access at. fails (Recvfd x) _ _)
        (λ pair side class at. fair-number (Recvfd x) _ _ (λ number none.
        fair-receive_end (Recvfd x) d pair side number (w.files.queue pair (other_side side)) (λ carried here.
        was_received (free number none) (within-itself carried _ (ap (arriving w) is ∙ ap (arriving_at w) at ∙ here)))))))
    fair (Lseek x v) =
        fair-held (Lseek x v) _ _ (λ d is. fair-unless (Lseek x v) _ _ _ _ (λ _. fair-file (Lseek x v) d _ (λ n access. fair-unless (Lseek x v) _ _ _ _ (λ _. gives (Lseek x v) _ _ _ tt tt))))
    fair (Ftruncate x v) =
        fair-held (Ftruncate x v) _ _ (λ d is. fair-unless (Ftruncate x v) _ _ _ _ (λ _. fair-file (Ftruncate x v) d _ (λ n access.
        fair-unless (Ftruncate x v) _ _ _ _ (λ _. fair-unless (Ftruncate x v) _ _ _ _ (λ _. gives (Ftruncate x v) _ _ _ tt tt)))))
    fair (Fsync x) =
        fair-held (Fsync x) _ _ (λ d is. fair-unless (Fsync x) _ _ _ _ (λ _. fair-object (Fsync x) _ _ _ (λ n access at. gives (Fsync x) _ _ _ tt tt) (λ pair side class at. fails (Fsync x) _ _)))
    fair (Fstat x) =
        fair-held (Fstat x) _ _ (λ d is. fair-unless (Fstat x) _ _ _ _
        (λ _. fair-object (Fstat x) _ _ _ (λ n access at. gives (Fstat x) _ _ _ tt tt) (λ pair side class at. gives (Fstat x) _ _ _ tt tt)))
    fair (Fcntl_getfl x) =
        fair-held (Fcntl_getfl x) _ _ (λ d is. fair-unless (Fcntl_getfl x) _ _ _ _ (λ _. fair-unless (Fcntl_getfl x) _ _ _ _ (λ _. gives (Fcntl_getfl x) _ _ _ tt tt)))
    fair (Fcntl_setfl x v) =
        fair-held (Fcntl_setfl x v) _ _ (λ d is. fair-unless (Fcntl_setfl x v) _ _ _ _ (λ _. fair-unless (Fcntl_setfl x v) _ _ _ _ (λ _.
        fair-unless (Fcntl_setfl x v) _ _ _ _ (λ _. gives (Fcntl_setfl x v) _ _ _ tt tt))))
    fair (Fstatat x path) =
        fair-held (Fstatat x path) _ _ (λ d is. fair-unless (Fstatat x path) _ _ _ _
        (λ _. fair-directory (Fstatat x path) d _ (λ n. fair-looks (Fstatat x path) _ _ _ _ _ (fair-looked_at (Fstatat x path)))))
    fair (Stat path) = fair-unless (Stat path) _ _ _ _ (λ _. fair-looks (Stat path) _ _ _ _ _ (fair-looked_at (Stat path)))
    fair (Mkdirat x path) =
        fair-held (Mkdirat x path) _ _ (λ d is. fair-unless (Mkdirat x path) _ _ _ _
        (λ _. fair-directory (Mkdirat x path) d _ (λ n. fair-looks (Mkdirat x path) _ _ _ _ _ (fair-made_directory (Mkdirat x path) path))))
    fair (Mkdir path) = fair-unless (Mkdir path) _ _ _ _ (λ _. fair-looks (Mkdir path) _ _ _ _ _ (fair-made_directory (Mkdir path) path))
    fair (Unlinkat x path directory) =
        fair-held (Unlinkat x path directory) _ _ (λ d is. fair-unless (Unlinkat x path directory) _ _ _ _ (λ _.
        fair-directory (Unlinkat x path directory) d _ (λ n. fair-looks (Unlinkat x path directory) _ _ _ _ _ (fair-unlinked (Unlinkat x path directory) directory))))
    fair (Unlink path directory) = fair-unless (Unlink path directory) _ _ _ _ (λ _. fair-looks (Unlink path directory) _ _ _ _ _ (fair-unlinked (Unlink path directory) directory))
    fair (Renameat x from y to) =
        let call : Syscall = Renameat x from y to in
        fair-held call _ _ (λ d is. fair-held call _ _ (λ target also.
        fair-unless call _ _ _ _ (λ _. fair-unless call _ _ _ _ (λ _.
        fair-directory call d _ (λ n. fair-directory call target _ (λ m.
        fair-looks_twice call _ _ _ _ _ (λ source place.
        fair-existing call source _ (λ k. fair-renamed_to call target k to place))))))))
    fair (Dup x) =
        fair-held (Dup x) _ _ (λ d is. fair-number (Dup x) _ _ (λ number none.
        gives (Dup x) _ _ _ (was_duplicated (free number none) (within-itself d _ is)) tt))
    fair (Close x) = fair-held (Close x) _ _ (λ d is. gives (Close x) _ _ _ tt tt)
    fair (Cap_rights_limit x rights) =
        fair-held (Cap_rights_limit x rights) _ _ (λ d is. fair-unless (Cap_rights_limit x rights) _ _ _ _ (λ within.
        gives (Cap_rights_limit x rights) _ _ _
        (was_limited refl (subst (IsNoWider (record d { rights = rights })) (sym is) (within, is_within-refl d.fcntls))) tt))
    fair (Cap_fcntls_limit x commands) =
        fair-held (Cap_fcntls_limit x commands) _ _ (λ d is. fair-unless (Cap_fcntls_limit x commands) _ _ _ _ (λ within.
        gives (Cap_fcntls_limit x commands) _ _ _
        (was_limited_in_commands refl (subst (IsNoWider (record d { fcntls = commands })) (sym is) (is_within-refl d.rights, within))) tt))
    fair Cap_enter = gives Cap_enter _ _ _ tt tt
    fair Cap_getmode = gives Cap_getmode _ _ _ tt tt
    fair Socketpair = fair-pair (lowest_free (w.files.table p)) refl
    fair (Use x right) =
        fair-unless (Use x right) _ _ _ _ (λ _. fair-held (Use x right) _ _ (λ d is. fair-unless (Use x right) _ _ _ _ (λ _. fair-object (Use x right) _ _ _
        (λ n access at. fair-used (Use x right) _ _) (λ pair side class at. fair-used (Use x right) _ _))))
    fair Fork = fair-unless Fork _ _ _ _ (λ _. fair-unless Fork _ _ _ _ (λ _. gives Fork _ _ _ refl tt))

  -- What a success may change.
  pub may_table : (e : Event) (call : Syscall) (value : ℕ) (change : Change) (effects : List Effect) → answer w p s e call ≡ Gives value change effects → MayTable call change.table
  unfolding Fair
  may_table e call value change effects is = (subst (Fair call) is (fair e call)).0

  pub may_queue : (e : Event) (call : Syscall) (value : ℕ) (change : Change) (effects : List Effect) → answer w p s e call ≡ Gives value change effects → MayQueue call change.queue
  unfolding Fair
  may_queue e call value change effects is = (subst (Fair call) is (fair e call)).1
