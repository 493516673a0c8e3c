-- Worlds that differ only in numbers answer alike.
use Rattle.std.proofs.Common.{◌≡◌, ℕ, zero, suc, ◌+◌, ◌-◌, ◌%◌, Bool, true, false, List, [], ◌∷◌, refl, length, ap, sym, ◌∙◌}
use Rattle.std.specs.Prelude.{◌==◌, Option, Some, None, is_some, cond, not, nat_lt}
use Rattle.std.specs.List.{slice_get}
use Rattle.rights.specs.Errors.{Errno, EPIPE, EINVAL, ENFILE, Cause, Refused}
use Rattle.rights.specs.Operations.{Read as Reads, Write as Writes}
use Rattle.rights.specs.Opens.{OpenRequest}
use Rattle.file_tree.specs.Nodes.{Kind, File, Dir, Link, node}
use Rattle.file_tree.specs.Changes.{written}
use Rattle.lookup.specs.Answers.{Way, Last, LookupFault, Escape, No_entry, Not_dir, Loop, Too_long, Bad_last, Beneath, Keep, Found_node, Found_free, Not_found}
use Rattle.lookup.specs.Answers as lookups
use Rattle.lookup.specs.Looks.{lookup_fault}
use Rattle.lookup.specs.Walks.{WalkState, Progress, Done, More, begun, first_handled, handled}
use Rattle.process.specs.State.{ProcessState, Walking, One, Two}
use Rattle.instruction_set.specs.Programs.{Syscall, Open, Openat, Read, Write, Sendfd, Recvfd, Lseek, Ftruncate, Fsync, Fstat, Fcntl_getfl, Fcntl_setfl, Fstatat, Stat, Mkdirat, Mkdir}
use Rattle.instruction_set.specs.Programs.{Unlinkat, Unlink, Renameat, Dup, Close, Cap_rights_limit, Cap_fcntls_limit, Cap_enter, Cap_getmode, Socketpair, Fork, Use}
use Rattle.rights.specs.Sides.{other_side}
use Rattle.fd_table.specs.Descriptions.{Access, Object, At_node, At_end, State, Descriptor, Message, status_number, with_status, IfHeld}
use Rattle.fd_table.specs.OpenFiles.{OpenFiles, is_open, lowest_from, lowest_free}
use Rattle.kernel.specs.World.{World}
use Rattle.kernel.specs.Answers.{Event, Effect, TableChange, Same_table, Set_entry, Clear_entry, New_file, New_pair, New_process, QueueChange, Same_queue, Push, Pop, StateChange}
use Rattle.kernel.specs.Answers.{Same_state, Set_state, Fill, Change, Answer, Fails, Waits, Gives, Walks, same, gives, does, unless, held, at_object, at_number, lookup_fails, value_of}
use Rattle.rights.specs.Limits.{most_messages}
use Rattle.kernel.specs.Calls.{looks, looks_twice, answer, opened, opened_as, read_byte, read_node, read_end, write_node, write_at, write_offset, sent_end, received, receive_end, own_class}
use Rattle.kernel.specs.Calls.{found_last, is_at_last, lost, resumed_one, resumed_both, or_fails, walked, walked_both}
use Rattle.kernel.specs.Calls.{stats_at, made_directory, unlinks, renamed_to, existing, pair_at, blocked, in_directory, at_file, at_socket}
use Rattle.kernel.specs.Renamings.{Renaming, SameObject, SameFiles, renamed_object, renamed_descriptor, renamed_entry, renamed_message, renamed_messages}

-- A change, and an answer, under the other numbers.
abbrev pub renamed_table : Renaming → TableChange → TableChange
renamed_table r Same_table = Same_table
renamed_table r (Set_entry number d) = Set_entry number (renamed_descriptor r d)
renamed_table r (Clear_entry number) = Clear_entry number
renamed_table r (New_file number n access append rights fcntls) = New_file number n access append rights fcntls
renamed_table r (New_pair first second class) = New_pair first second class
renamed_table r New_process = New_process

abbrev pub renamed_queue : Renaming → QueueChange → QueueChange
renamed_queue r Same_queue = Same_queue
renamed_queue r (Push pair side m) = Push (r.pair pair) side (renamed_message r m)
renamed_queue r (Pop pair side) = Pop (r.pair pair) side

abbrev pub renamed_state : Renaming → StateChange → StateChange
renamed_state r Same_state = Same_state
renamed_state r (Set_state n state) = Set_state (r.description n) state

abbrev pub renamed_change : Renaming → Change → Change
renamed_change r change = record {
  tree = change.tree;
  table = renamed_table r change.table;
  queue = renamed_queue r change.queue;
  state = renamed_state r change.state;
  enters = change.enters;
}

abbrev pub renamed_answer : Renaming → Answer → Answer
renamed_answer r (Fails errno cause) = Fails errno cause
renamed_answer r Waits = Waits
renamed_answer r (Gives value change effects) = Gives value (renamed_change r change) effects
renamed_answer r (Walks walking) = Walks walking

-- the second answer is the first under the other numbers
unfoldable pub Matches : Renaming → Answer → Answer → Type 0
Matches r a b = b ≡ renamed_answer r a

-- ## The tests
module _ (r : Renaming) where
  fails : (errno : Errno) (cause : Cause) → Matches r (Fails errno cause) (Fails errno cause)
  unfolding Matches
  fails errno cause = refl

  waits : Matches r Waits Waits
  unfolding Matches
  waits = refl

  walks : (walking : Walking) → Matches r (Walks walking) (Walks walking)
  unfolding Matches
  walks walking = refl

  -- a success whose change is the first's under the other numbers
  given : (value : ℕ) (change : Change) (effects : List Effect) → Matches r (Gives value change effects) (Gives value (renamed_change r change) effects)
  unfolding Matches
  given value change effects = refl

  along_path : (a b c : Answer) → c ≡ b → Matches r a b → Matches r a c
  unfolding Matches
  along_path a b c path is = path ∙ is

  both-unless : (test : Bool) (errno : Errno) (cause : Cause) (a b : Answer) → Matches r a b → Matches r (unless test errno cause a) (unless test errno cause b)
  unfolding unless
  both-unless true errno cause a b is = is
  both-unless false errno cause a b is = fails errno cause

  both-if : (test : Bool) (a b c d : Answer) → Matches r a c → Matches r b d → Matches r (cond test a b) (cond test c d)
  both-if true a b c d first second = first
  both-if false a b c d first second = second

  both-lookup_fails : (fault : LookupFault) → Matches r (lookup_fails fault) (lookup_fails fault)
  both-lookup_fails Escape = fails _ _
  both-lookup_fails No_entry = fails _ _
  both-lookup_fails Not_dir = fails _ _
  both-lookup_fails Loop = fails _ _
  both-lookup_fails Too_long = fails _ _
  both-lookup_fails Bad_last = fails _ _

  both-number : (o : Option ℕ) (rest other : ℕ → Answer) → ((n : ℕ) → o ≡ Some n → Matches r (rest n) (other n)) → Matches r (at_number o rest) (at_number o other)
  unfolding at_number
  both-number None rest other is = fails _ _
  both-number (Some n) rest other is = is n refl

  is_some-same : (o : Option Descriptor) → is_some (renamed_entry r o) ≡ is_some o
  is_some-same None = refl
  is_some-same (Some d) = refl

  free-same : (count n : ℕ) (row other : ℕ → Option Descriptor) → ((k : ℕ) → other k ≡ renamed_entry r (row k)) → lowest_from count n other ≡ lowest_from count n row
  unfolding lowest_from
  free-same zero n row other is = refl
  free-same (suc count) n row other is =
      let taken : is_some (other n) ≡ is_some (row n) = ap is_some (is n) ∙ is_some-same (row n) in
      λ i. cond (taken i) (free-same count (n + 1) row other is i) (Some n)

  length-same : (messages : List Message) → length (renamed_messages r messages) ≡ length messages
  length-same [] = refl
  length-same (m ∷ messages) = ap suc (length-same messages)

-- ## In two such worlds, of one tree and the twin processes
module _ (r : Renaming) (w : World) (g : OpenFiles) (alike : SameFiles r w.files g) (opens : (pair side : ℕ) →
    is_open w.files pair side ≡ is_open g (r.pair pair) side) (p : ℕ) (s : ProcessState) (e : Event) where
  abbrev other : World
  other = record { tree = w.tree; files = g; processes = w.processes }

  both-entry : (n : ℕ) (rest more : Descriptor → Answer) →
      ((d : Descriptor) → SameObject r w.files g d.description → Matches r (rest d) (more (renamed_descriptor r d))) →
      Matches r (held (w.files.table p n) rest) (held (g.table p n) more)
  unfolding held
  both-entry n rest more is = along_path r _ _ _ (ap (λ o. held o more) (alike.table p n)) (go (w.files.table p n) (alike.entries p n))
    where
      go : (o : Option Descriptor) → IfHeld (λ d. SameObject r w.files g d.description) o → Matches r (held o rest) (held (renamed_entry r o) more)
      go None twin = fails r _ _
      go (Some d) twin = is d twin

  both-object : (d : Descriptor) → SameObject r w.files g d.description → (on_node on_other : ℕ → Access → Answer) (on_end on_more : ℕ → ℕ → Answer) →
      ((n : ℕ) (access : Access) → Matches r (on_node n access) (on_other n access)) →
      ((pair side : ℕ) → Matches r (on_end pair side) (on_more (r.pair pair) side)) →
      Matches r (at_object (w.files.objects d.description) on_node on_end) (at_object (g.objects (r.description d.description)) on_other on_more)
  unfolding at_object
  both-object d twin on_node on_other on_end on_more nodes ends =
      along_path r _ _ _ (ap (λ o. at_object o on_other on_more) twin.object) (go (w.files.objects d.description))
    where
      go : (o : Object) → Matches r (at_object o on_node on_end) (at_object (renamed_object r o) on_other on_more)
      go (At_node n access) = nodes n access
      go (At_end pair side class) = ends pair side

  both-free : (rest more : ℕ → Answer) → ((n : ℕ) → Matches r (rest n) (more n)) → Matches r (at_number (lowest_free (w.files.table p)) rest) (at_number (lowest_free (g.table p)) more)
  both-free rest more is =
      along_path r _ _ _ (ap (λ o. at_number o more) (free-same r 16 0 (w.files.table p) (g.table p) (alike.table p)))
      (both-number r (lowest_free (w.files.table p)) rest more (λ n free. is n))

  both-directory : (d : Descriptor) → SameObject r w.files g d.description → (rest more : ℕ → Answer) → ((n : ℕ) → Matches r (rest n) (more n)) →
      Matches r (in_directory w p s e d.description rest) (in_directory other p s e (renamed_descriptor r d).description more)
  both-directory d twin rest more is =
      both-object d twin _ _ _ _ (λ n access. both-unless r _ _ _ _ _ (is n)) (λ pair side. fails r _ _)

  both-file : (d : Descriptor) → SameObject r w.files g d.description → (rest more : ℕ → Access → Answer) →
      ((n : ℕ) (access : Access) → Matches r (rest n access) (more n access)) →
      Matches r (at_file w p s e d.description rest) (at_file other p s e (renamed_descriptor r d).description more)
  both-file d twin rest more is =
      both-object d twin _ _ _ _ (λ n access. both-unless r _ _ _ _ _ (is n access)) (λ pair side. fails r _ _)

  both-socket : (d : Descriptor) → SameObject r w.files g d.description → (rest more : ℕ → ℕ → Answer) →
      ((pair side : ℕ) → Matches r (rest pair side) (more (r.pair pair) side)) →
      Matches r (at_socket w p s e d.description rest) (at_socket other p s e (renamed_descriptor r d).description more)
  both-socket d twin rest more is = both-object d twin _ _ _ _ (λ n access. fails r _ _) is

  both-blocked : (nonblock : Bool) → Matches r (blocked w p s e nonblock) (blocked w p s e nonblock)
  both-blocked true = fails r _ _
  both-blocked false = waits r

  -- ## Reads and writes
  both-byte : (d : Descriptor) → SameObject r w.files g d.description → (place : List (List ℕ)) (o : Option ℕ) →
      Matches r (read_byte w p s e d.description place o) (read_byte other p s e (renamed_descriptor r d).description place o)
  both-byte d twin place None = given r _ _ _
  both-byte d twin place (Some byte) =
      along_path r _ _ _
      (ap (λ (state : State). Gives byte (record same { state = Set_state (r.description d.description) (record state { offset = state.offset + 1 }) }) (does Reads place)) twin.state)
      (given r byte (record same { state = Set_state d.description (record (w.files.states d.description) { offset = (w.files.states d.description).offset + 1 }) }) (does Reads place))

  both-read_node : (d : Descriptor) → SameObject r w.files g d.description → (n : ℕ) (access : Access) →
      Matches r (read_node w p s e d.description n access) (read_node other p s e (renamed_descriptor r d).description n access)
  both-read_node d twin n access =
      both-unless r _ _ _ _ _ (both-unless r _ _ _ _ _
      (along_path r _ _ _
      (ap (λ (state : State). read_byte other p s e (renamed_descriptor r d).description (node w.tree n).place (slice_get (node w.tree n).content state.offset)) twin.state)
      (both-byte d twin (node w.tree n).place (slice_get (node w.tree n).content (w.files.states d.description).offset))))

  both-write_at : (d : Descriptor) → SameObject r w.files g d.description → (n offset byte : ℕ) →
      Matches r (write_at w p s e d.description n offset byte) (write_at other p s e (renamed_descriptor r d).description n offset byte)
  both-write_at d twin n offset byte =
      both-unless r _ _ _ _ _ (both-unless r _ _ _ _ _
      (along_path r _ _ _
      (ap (λ (state : State). Gives 1 (record same {
        tree = Fill n (written (node w.tree n).content offset byte);
        state = Set_state
            (r.description d.description) (record state { offset = offset + 1 });
      }) (does Writes (node w.tree n).place)) twin.state)
      (given r 1 (record same {
        tree = Fill n (written (node w.tree n).content offset byte);
        state = Set_state d.description
            (record (w.files.states d.description) { offset = offset + 1 });
      }) (does Writes (node w.tree n).place))))

  both-write_node : (d : Descriptor) → SameObject r w.files g d.description → (n : ℕ) (access : Access) (byte : ℕ) →
      Matches r (write_node w p s e d.description n access byte) (write_node other p s e (renamed_descriptor r d).description n access byte)
  both-write_node d twin n access byte =
      both-unless r _ _ _ _ _ (both-unless r _ _ _ _ _
      (along_path r _ _ _
      (ap (λ (state : State). write_at other p s e (renamed_descriptor r d).description n (write_offset state (node w.tree n).content) byte) twin.state)
      (both-write_at d twin n (write_offset (w.files.states d.description) (node w.tree n).content) byte)))

  -- ## Pairs
  abbrev send_with : Bool → ℕ → Bool → ℕ → ℕ → Message → Answer
  send_with there count nonblock pair side m =
      unless there EPIPE Refused
      (cond (nat_lt count most_messages) (Gives 1 (record same { queue = Push pair side m }) []) (blocked w p s e nonblock))

  both-sent : (d : Descriptor) → SameObject r w.files g d.description → (pair side : ℕ) (m : Message) →
      Matches r (sent_end w p s e d.description pair side m)
      (sent_end other p s e (renamed_descriptor r d).description (r.pair pair) side (renamed_message r m))
  both-sent d twin pair side m =
      let there : is_open g (r.pair pair) (other_side side) ≡ is_open w.files pair (other_side side) = sym (opens pair (other_side side)) in
      let count : length (g.queue (r.pair pair) side) ≡ length (w.files.queue pair side) = ap length (alike.queue pair side) ∙ length-same r (w.files.queue pair side) in
      along_path r (sent_end w p s e d.description pair side m)
      (send_with (is_open w.files pair (other_side side)) (length (w.files.queue pair side)) (w.files.states d.description).nonblock (r.pair pair) side (renamed_message r m))
      (sent_end other p s e (renamed_descriptor r d).description (r.pair pair) side (renamed_message r m))
      (λ i. send_with (there i) (count i) (twin.state i).nonblock (r.pair pair) side (renamed_message r m))
      (both-unless r _ _ _ _ _ (both-if r (nat_lt (length (w.files.queue pair side)) most_messages) _ _ _ _ (given r 1 _ []) (both-blocked (w.files.states d.description).nonblock)))

  both-read_end : (d : Descriptor) → SameObject r w.files g d.description → (pair side : ℕ) (messages : List Message) →
      Matches r (read_end w p s e d.description pair side messages)
      (read_end other p s e (renamed_descriptor r d).description (r.pair pair) side (renamed_messages r messages))
  both-read_end d twin pair side [] =
      along_path r _ _ _
      (λ i. cond (sym (opens pair (other_side side)) i) (blocked w p s e (twin.state i).nonblock) (gives 256))
      (both-if r (is_open w.files pair (other_side side)) _ _ _ _ (both-blocked (w.files.states d.description).nonblock) (given r 256 _ []))
  both-read_end d twin pair side (m ∷ messages) = given r _ _ _

  both-received : (pair side number : ℕ) (o : Option Descriptor) → Matches r (received w p s e pair side number o) (received other p s e (r.pair pair) side number (renamed_entry r o))
  both-received pair side number None = fails r _ _
  both-received pair side number (Some d) = given r _ _ _

  both-receive_end : (d : Descriptor) → SameObject r w.files g d.description → (pair side number : ℕ) (messages : List Message) →
      Matches r (receive_end w p s e d.description pair side number messages)
      (receive_end other p s e (renamed_descriptor r d).description (r.pair pair) side number (renamed_messages r messages))
  both-receive_end d twin pair side number [] =
      along_path r _ _ _
      (λ i. unless (sym (opens pair (other_side side)) i) EINVAL Refused (blocked w p s e (twin.state i).nonblock))
      (both-unless r _ _ _ _ _ (both-blocked (w.files.states d.description).nonblock))
  both-receive_end d twin pair side number (m ∷ messages) = both-received pair side number m.passed

  -- ## Lookups
  both-opened_as : (f : OpenRequest) (rights fcntls n : ℕ) (kind : Kind) → Matches r (opened_as w p s e f rights fcntls n kind) (opened_as other p s e f rights fcntls n kind)
  both-opened_as f rights fcntls n Link = fails r _ _
  both-opened_as f rights fcntls n Dir = both-unless r _ _ _ _ _ (both-free _ _ (λ number. both-unless r _ _ _ _ _ (given r _ _ _)))
  both-opened_as f rights fcntls n File = both-free _ _ (λ number. both-unless r _ _ _ _ _ (given r _ _ _))

  both-opened : (f : OpenRequest) (rights fcntls : ℕ) (path : List ℕ) (found : lookups.Finding) → Matches r (opened w p s e f rights fcntls path found) (opened other p s e f rights fcntls path found)
  both-opened f rights fcntls path (Not_found fault) = both-lookup_fails r fault
  both-opened f rights fcntls path (Found_free d) = both-free _ _ (λ number. both-unless r _ _ _ _ _ (both-unless r _ _ _ _ _ (given r _ _ _)))
  both-opened f rights fcntls path (Found_node n) = both-opened_as f rights fcntls n (node w.tree n).kind

  both-looks : (start : ℕ) (way : Way) (path : List ℕ) (last : Last) (rest more : lookups.Finding → Answer) →
      ((found : lookups.Finding) → Matches r (rest found) (more found)) →
      Matches r (looks w p s e start way path last rest) (looks other p s e start way path last more)
  unfolding looks
  both-looks start way path last rest more is = by_event (resumed_one s.walk (first_handled w.tree start path way last) (handled w.tree))
    where
      by_event : (event : Progress) → Matches r (walked One rest event) (walked One more event)
      by_event (Done found) = is found
      by_event (More walk) = walks r (One walk)

  both-looks_twice : (n : ℕ) (from : List ℕ) (m : ℕ) (to : List ℕ) (rest more : lookups.Finding → lookups.Finding → Answer) →
      ((found place : lookups.Finding) → Matches r (rest found place) (more found place)) →
      Matches r (looks_twice w p s e n from m to rest) (looks_twice other p s e n from m to more)
  unfolding looks_twice
  both-looks_twice n from m to rest more is = by_walk s.walk
    where
      both-lost : (found : lookups.Finding) → Matches r (lost found) (lost found)
      both-lost (Not_found fault) = both-lookup_fails r fault
      both-lost (Found_node k) = fails r _ _
      both-lost (Found_free k) = fails r _ _

      both-first : (two : WalkState) (event : Progress) → Matches r (walked (λ walk. Two walk two) lost event) (walked (λ walk. Two walk two) lost event)
      both-first two (Done found) = both-lost found
      both-first two (More walk) = walks r (Two walk two)

      both-second : (one : WalkState) (event : Progress) → Matches r (walked (λ walk. Two one walk) lost event) (walked (λ walk. Two one walk) lost event)
      both-second one (Done found) = both-lost found
      both-second one (More walk) = walks r (Two one walk)

      both-walked : (one two : WalkState) → Matches r (walked_both w p s e rest one two) (walked_both other p s e more one two)
      both-walked one two =
          both-if r (not (is_at_last one)) _ _ _ _ (both-first two (handled w.tree one))
          (both-if r (not (is_at_last two)) _ _ _ _ (both-second one (handled w.tree two)) (is (found_last (handled w.tree one)) (found_last (handled w.tree two))))

      both-unlost : (fault : Option LookupFault) (a b : Answer) → Matches r a b → Matches r (or_fails fault a) (or_fails fault b)
      both-unlost None a b matches = matches
      both-unlost (Some fault) a b matches = both-lookup_fails r fault

      first_event : Matches r
          (or_fails (lookup_fault w.tree n from Beneath Keep) (or_fails (lookup_fault w.tree m to Beneath Keep) (walked_both w p s e rest (begun n from Beneath Keep) (begun m to Beneath Keep))))
          (or_fails (lookup_fault w.tree n from Beneath Keep) (or_fails (lookup_fault w.tree m to Beneath Keep) (walked_both other p s e more (begun n from Beneath Keep) (begun m to Beneath Keep))))
      first_event = both-unlost _ _ _ (both-unlost _ _ _ (both-walked (begun n from Beneath Keep) (begun m to Beneath Keep)))

      by_walk : (o : Option Walking) → Matches r
          (resumed_both o
          (or_fails (lookup_fault w.tree n from Beneath Keep) (or_fails (lookup_fault w.tree m to Beneath Keep) (walked_both w p s e rest (begun n from Beneath Keep) (begun m to Beneath Keep))))
          (walked_both w p s e rest))
          (resumed_both o
          (or_fails (lookup_fault w.tree n from Beneath Keep) (or_fails (lookup_fault w.tree m to Beneath Keep) (walked_both other p s e more (begun n from Beneath Keep) (begun m to Beneath Keep))))
          (walked_both other p s e more))
      by_walk None = first_event
      by_walk (Some (One walk)) = first_event
      by_walk (Some (Two one two)) = both-walked one two

  both-looked_at : (found : lookups.Finding) → Matches r (stats_at w p s e found) (stats_at other p s e found)
  both-looked_at (Not_found fault) = both-lookup_fails r fault
  both-looked_at (Found_free d) = fails r _ _
  both-looked_at (Found_node n) = given r _ _ _

  both-made_directory : (path : List ℕ) (found : lookups.Finding) → Matches r (made_directory w p s e path found) (made_directory other p s e path found)
  both-made_directory path (Not_found fault) = both-lookup_fails r fault
  both-made_directory path (Found_node n) = fails r _ _
  both-made_directory path (Found_free d) = both-unless r _ _ _ _ _ (both-unless r _ _ _ _ _ (given r _ _ _))

  both-unlinked : (directory : Bool) (found : lookups.Finding) → Matches r (unlinks w p s e directory found) (unlinks other p s e directory found)
  both-unlinked directory (Not_found fault) = both-lookup_fails r fault
  both-unlinked directory (Found_free d) = fails r _ _
  both-unlinked true (Found_node n) = both-unless r _ _ _ _ _ (both-unless r _ _ _ _ _ (given r _ _ _))
  both-unlinked false (Found_node n) = both-unless r _ _ _ _ _ (given r _ _ _)

  both-renamed_to : (call : Syscall) (target : Descriptor) (n : ℕ) (path : List ℕ) (found : lookups.Finding) →
      Matches r (renamed_to w p s e call target n path found) (renamed_to other p s e call (renamed_descriptor r target) n path found)
  both-renamed_to call target n path (Not_found fault) = both-lookup_fails r fault
  both-renamed_to call target n path (Found_free d) = both-unless r _ _ _ _ _ (given r _ _ _)
  both-renamed_to call target n path (Found_node m) =
      both-if r (n == m) _ _ _ _ (given r 0 _ [])
      (both-unless r _ _ _ _ _ (both-unless r _ _ _ _ _ (both-unless r _ _ _ _ _ (both-unless r _ _ _ _ _ (both-unless r _ _ _ _ _ (given r _ _ _))))))

  both-existing : (found : lookups.Finding) (rest more : ℕ → Answer) → ((n : ℕ) → Matches r (rest n) (more n)) → Matches r (existing found rest) (existing found more)
  both-existing (Not_found fault) rest more is = both-lookup_fails r fault
  both-existing (Found_free d) rest more is = fails r _ _
  both-existing (Found_node n) rest more is = is n

  both-pair_at : (o : Option ℕ) → Matches r (pair_at w p s e o) (pair_at other p s e o)
  both-pair_at None = fails r _ _
  both-pair_at (Some first) =
      along_path r _ _ _
      (ap (λ o. at_number o (λ second. unless (not e.refuse) ENFILE Refused
      (Gives first (record same { table = New_pair first second (own_class s) }) [])))
      (free-same r (15 - first) (first + 1) (w.files.table p) (g.table p) (alike.table p)))
      (both-number r (lowest_from (15 - first) (first + 1) (w.files.table p)) _ _ (λ second free. both-unless r _ _ _ _ _ (given r _ _ _)))

  -- ## Every call
  matches : (call : Syscall) → Matches r (answer w p s e call) (answer other p s e call)
  unfolding answer
  matches (Open path f) = both-unless r _ _ _ _ _ (both-looks _ _ _ _ _ _ (both-opened f _ _ path))
  matches (Openat x path f) =
      both-entry (value_of s x) _ _ (λ d twin. both-unless r _ _ _ _ _ (both-directory d twin _ _ (λ n.
      both-looks _ _ _ _ _ _ (both-opened f d.rights d.fcntls path))))
  matches (Read x) =
      both-entry (value_of s x) _ _ (λ d twin. both-unless r _ _ _ _ _ (both-object d twin _ _ _ _
      (λ n access. both-read_node d twin n access)
      (λ pair side.
      along_path r _ _ _ (ap (read_end other p s e (renamed_descriptor r d).description (r.pair pair) side) (alike.queue pair (other_side side)))
      (both-read_end d twin pair side (w.files.queue pair (other_side side))))))
  matches (Write x v) =
      both-entry (value_of s x) _ _ (λ d twin. both-unless r _ _ _ _ _ (both-object d twin _ _ _ _
      (λ n access. both-write_node d twin n access (value_of s v % 256))
      (λ pair side. both-unless r _ _ _ _ _ (both-sent d twin pair side (record { byte = value_of s v % 256; passed = None })))))
  matches (Sendfd x y v) =
      both-entry (value_of s x) _ _ (λ d twin. both-entry (value_of s y) _ _ (λ passed also. both-unless r _ _ _ _ _
      (both-socket d twin _ _ (λ pair side. both-sent d twin pair side (record { byte = value_of s v % 256; passed = Some passed })))))
  matches (Recvfd x) =
      both-entry (value_of s x) _ _ (λ d twin. both-unless r _ _ _ _ _ (both-socket d twin _ _ (λ pair side. both-free _ _ (λ number.
      along_path r _ _ _ (ap (receive_end other p s e (renamed_descriptor r d).description (r.pair pair) side number) (alike.queue pair (other_side side)))
      (both-receive_end d twin pair side number (w.files.queue pair (other_side side)))))))
  matches (Lseek x v) =
      both-entry (value_of s x) _ _ (λ d twin. both-unless r _ _ _ _ _ (both-file d twin _ _ (λ n access. both-unless r _ _ _ _ _
      (along_path r _ _ _
      (ap (λ (state : State). Gives (value_of s v) (record same { state = Set_state (r.description d.description) (record state { offset = value_of s v }) }) []) twin.state)
      (given r (value_of s v) (record same { state = Set_state d.description (record (w.files.states d.description) { offset = value_of s v }) }) [])))))
  matches (Ftruncate x v) =
      both-entry (value_of s x) _ _ (λ d twin. both-unless r _ _ _ _ _ (both-file d twin _ _ (λ n access.
      both-unless r _ _ _ _ _ (both-unless r _ _ _ _ _ (given r _ _ _)))))
  matches (Fsync x) =
      both-entry (value_of s x) _ _ (λ d twin. both-unless r _ _ _ _ _ (both-object d twin _ _ _ _ (λ n access. given r _ _ _) (λ pair side. fails r _ _)))
  matches (Fstat x) =
      both-entry (value_of s x) _ _ (λ d twin. both-unless r _ _ _ _ _ (both-object d twin _ _ _ _ (λ n access. given r _ _ _) (λ pair side. given r _ _ _)))
  matches (Fcntl_getfl x) =
      both-entry (value_of s x) _ _ (λ d twin. both-unless r _ _ _ _ _ (both-unless r _ _ _ _ _
      (along_path r _ _ _ (ap (λ (state : State). gives (status_number state)) twin.state) (given r (status_number (w.files.states d.description)) _ []))))
  matches (Fcntl_setfl x v) =
      both-entry (value_of s x) _ _ (λ d twin. both-unless r _ _ _ _ _ (both-unless r _ _ _ _ _ (both-unless r _ _ _ _ _
      (along_path r _ _ _
      (ap (λ (state : State). Gives 0 (record same { state = Set_state (r.description d.description) (with_status state (value_of s v)) }) []) twin.state)
      (given r 0 (record same { state = Set_state d.description (with_status (w.files.states d.description) (value_of s v)) }) [])))))
  matches (Fstatat x path) =
      both-entry (value_of s x) _ _ (λ d twin. both-unless r _ _ _ _ _ (both-directory d twin _ _ (λ n. both-looks _ _ _ _ _ _ (both-looked_at))))
  matches (Stat path) = both-unless r _ _ _ _ _ (both-looks _ _ _ _ _ _ (both-looked_at))
  matches (Mkdirat x path) =
      both-entry (value_of s x) _ _ (λ d twin. both-unless r _ _ _ _ _ (both-directory d twin _ _ (λ n. both-looks _ _ _ _ _ _ (both-made_directory path))))
  matches (Mkdir path) = both-unless r _ _ _ _ _ (both-looks _ _ _ _ _ _ (both-made_directory path))
  matches (Unlinkat x path directory) =
      both-entry (value_of s x) _ _ (λ d twin. both-unless r _ _ _ _ _ (both-directory d twin _ _ (λ n. both-looks _ _ _ _ _ _ (both-unlinked directory))))
  matches (Unlink path directory) = both-unless r _ _ _ _ _ (both-looks _ _ _ _ _ _ (both-unlinked directory))
  matches (Renameat x from y target) =
      both-entry (value_of s x) _ _ (λ d twin. both-entry (value_of s y) _ _ (λ into also.
      both-unless r _ _ _ _ _ (both-unless r _ _ _ _ _
      (both-directory d twin _ _ (λ n. both-directory into also _ _ (λ m.
      both-looks_twice _ _ _ _ _ _ (λ source place. both-existing source _ _ (λ k.
      both-renamed_to (Renameat x from y target) into k target place))))))))
  matches (Dup x) = both-entry (value_of s x) _ _ (λ d twin. both-free _ _ (λ number. given r _ _ _))
  matches (Close x) = both-entry (value_of s x) _ _ (λ d twin. given r _ _ _)
  matches (Cap_rights_limit x rights) = both-entry (value_of s x) _ _ (λ d twin. both-unless r _ _ _ _ _ (given r _ _ _))
  matches (Cap_fcntls_limit x commands) = both-entry (value_of s x) _ _ (λ d twin. both-unless r _ _ _ _ _ (given r _ _ _))
  matches Cap_enter = given r _ _ _
  matches Cap_getmode = given r _ _ _
  matches Socketpair =
      along_path r _ _ _ (ap (pair_at other p s e) (free-same r 16 0 (w.files.table p) (g.table p) (alike.table p))) (both-pair_at (lowest_free (w.files.table p)))
  matches (Use x right) =
      both-unless r _ _ _ _ _ (both-entry (value_of s x) _ _ (λ d twin. both-unless r _ _ _ _ _ (both-object d twin _ _ _ _
      (λ n access. both-unless r _ _ _ _ _ (both-unless r _ _ _ _ _ (given r _ _ _)))
      (λ pair side. both-unless r _ _ _ _ _ (both-unless r _ _ _ _ _ (given r _ _ _))))))
  matches Fork = both-unless r _ _ _ _ _ (both-unless r _ _ _ _ _ (given r _ _ _))

  pub same_answer : (call : Syscall) → answer other p s e call ≡ renamed_answer r (answer w p s e call)
  unfolding Matches
  same_answer call = matches call
