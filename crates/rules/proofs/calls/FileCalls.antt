-- Calls that read and write files, and their descriptions, owe what they should.
use Rattle.std.proofs.Common.{◌≡◌, ℕ, ◌+◌, ◌%◌, ◌<◌, Bool, true, false, List, [], ◌∷◌, inl, refl, arith}
use Rattle.std.specs.Prelude.{not, nat_lt, nat_le, length, Option, Some, None, if◌then◌else◌}
use Rattle.std.specs.List.{slice_get}
use Rattle.std.proofs.lemmas.Bool.{leb-true, ltb-true}
use Rattle.rights.specs.Errors.{EBADF, EISDIR, EINVAL, EFBIG, ENOSPC, EPIPE, Full, Refused}
use Rattle.rights.specs.Errors as errors
use Rattle.rights.specs.Limits.{most_bytes, most_messages}
use Rattle.rights.specs.Operations as operations
use Rattle.rights.proofs.Lists.{list_all-slice_get}
use Rattle.file_tree.specs.Nodes.{Kind, File, Dir, Link, node, is_dir, is_link}
use Rattle.file_tree.specs.Changes.{resized, written}
use Rattle.file_tree.specs.WellFormed.{IsTree, is_byte}
use Rattle.file_tree.proofs.KeptByCreate.{limits_of}
use Rattle.process.specs.State.{ProcessState}
use Rattle.certificate.specs.Bounds.{Certificate}
use Rattle.certificate.specs.Describes.{interval_describes}
use Rattle.rights.specs.Sides.{other_side}
use Rattle.fd_table.specs.Descriptions.{Access, At_node, Descriptor, Message, with_status}
use Rattle.fd_table.specs.OpenFiles.{is_open}
use Rattle.instruction_set.specs.Programs.{Operand, Read, Write, Lseek, Ftruncate, Fstat, Fcntl_setfl, Invoke}
use Rattle.kernel.specs.World.{World, Choice}
use Rattle.kernel.specs.Answers.{Event, Same_tree, Fill, Same_queue, Push, Pop, Same_state, Set_state, Gives, same, gives, value_of}
use Rattle.kernel.specs.Calls.{answer, blocked, kind_number, write_offset, read_byte, read_node, read_end, write_node, sent_end}
use Rattle.kernel.specs.WellFormed.{EachMessage}
use Rattle.lookup.proofs.UnderWay.{there_if_opened}
use Rattle.task.specs.Plans.{Plan}
use Rattle.rules.specs.Intervals.{only}
use Rattle.rules.specs.Outcomes.{from_to}
use Rattle.rules.specs.Seen.{seen_of, table_seen}
use Rattle.rules.proofs.bounds.IntervalLaws.{inside_of, only_fits}
use Rattle.rules.proofs.outcomes.CallOutcomes.{leads_read, leads_write, leads_lseek, leads_ftruncate, leads_fstat, leads_setfl}
use Rattle.rules.proofs.calls.Owing.{Standing}
use Rattle.rules.proofs.calls.OwedCalls.{OwedBy, owed_passed, owed_object, owed_unless, owed_value}
use Rattle.rules.proofs.calls.OwedTests.{Opened, no_link, owed_through, allowed_through, owed_unrefused, owed_blocked, owed_file}

-- a byte of a file
byte_small : (w : World) (m offset byte : ℕ) → IsTree w.tree → is_link (node w.tree m).kind ≡ false → slice_get (node w.tree m).content offset ≡ Some byte → byte < 256
byte_small w m offset byte tree no_link here =
    let limits = limits_of (node w.tree m) (tree.limits m (there_if_opened w.tree m no_link)) in
    ltb-true byte 256 (list_all-slice_get is_byte (node w.tree m).content offset byte limits.bytes here)

kind_fits : (k : Kind) → interval_describes (from_to 1 3) (kind_number k) ≡ true
kind_fits File = refl
kind_fits Dir = refl
kind_fits Link = refl

module _ (plan : Plan) (certificate : Certificate) (w : World) (e : Event) (s : ProcessState) (choice : Choice) where
  -- ## `read`
  module _ (x : Operand) (otherwise : ℕ) (known : Standing plan certificate w e.process s choice (Invoke (Read x) otherwise))
      (d : Descriptor) (opened : Opened plan certificate w e s choice (Read x) otherwise known x d) where
    byte_read : (n : ℕ) (access : Access) → w.files.objects d.description ≡ At_node n access → (o : Option ℕ)
        → slice_get (node w.tree n).content (w.files.states d.description).offset ≡ o
        → OwedBy plan certificate w e.process s choice (Read x) otherwise known (read_byte w e.process s e d.description (node w.tree n).place o)
    byte_read n access is None at =
        owed_value plan certificate w e.process s choice (Read x) otherwise known 256 Same_tree Same_queue Same_state _ (from_to 0 256) tt
        (allowed_through plan certificate w e s choice (Read x) otherwise known x d opened n access is (λ slot. refl) operations.Read (λ slot. inl refl)
        (λ slot. refl) (node w.tree n).place (λ name holds. holds)) tt
        (leads_read plan certificate s (table_seen plan w e.process) x otherwise known.stands (seen_of plan w d) opened.there) refl
    byte_read n access is (Some byte) at =
        let old = w.files.states d.description in
        let small : byte < 256 =
        byte_small w n old.offset byte known.acts.formed.world.tree (no_link plan certificate w e s choice (Read x) otherwise known x d opened n access is) at in
        owed_value plan certificate w e.process s choice (Read x) otherwise known byte Same_tree Same_queue
        (Set_state d.description (record old { offset = old.offset + 1 })) _ (from_to 0 256) tt
        (allowed_through plan certificate w e s choice (Read x) otherwise known x d opened n access is (λ slot. refl) operations.Read (λ slot. inl refl)
        (λ slot. refl) (node w.tree n).place (λ name holds. holds)) tt
        (leads_read plan certificate s (table_seen plan w e.process) x otherwise known.stands (seen_of plan w d) opened.there)
        (inside_of (from_to 0 256) byte (omega arith) (omega (arith, small)))

    node_read : (n : ℕ) (access : Access) → w.files.objects d.description ≡ At_node n access
        → OwedBy plan certificate w e.process s choice (Read x) otherwise known (read_node w e.process s e d.description n access)
    node_read n access is =
        owed_unless plan certificate w e.process s choice (Read x) otherwise known refl (not (is_dir (node w.tree n).kind)) EISDIR errors.Kind _ tt (λ no_dir.
        owed_unless plan certificate w e.process s choice (Read x) otherwise known refl access.readable EBADF errors.Access _ tt (λ readable.
        byte_read n access is (slice_get (node w.tree n).content (w.files.states d.description).offset) refl))

    -- nothing is queued, and the other end is open or not
    empty_read : (is_other nonblock : Bool)
        → OwedBy plan certificate w e.process s choice (Read x) otherwise known (if is_other then blocked w e.process s e nonblock else gives 256)
    empty_read true nonblock = owed_blocked plan certificate w e s choice (Read x) otherwise known refl nonblock
    empty_read false nonblock =
        owed_value plan certificate w e.process s choice (Read x) otherwise known 256 Same_tree Same_queue Same_state [] (from_to 0 256) tt (λ on. tt) tt
        (leads_read plan certificate s (table_seen plan w e.process) x otherwise known.stands (seen_of plan w d) opened.there) refl

    end_read : (Good : Descriptor → Type 0) (pair side : ℕ) (messages : List Message) → EachMessage Good messages
        → OwedBy plan certificate w e.process s choice (Read x) otherwise known (read_end w e.process s e d.description pair side messages)
    end_read Good pair side [] good = empty_read (is_open w.files pair (other_side side)) (w.files.states d.description).nonblock
    end_read Good pair side (m ∷ messages) good =
        let small : m.byte < 256 = good.0 in
        owed_value plan certificate w e.process s choice (Read x) otherwise known m.byte Same_tree (Pop pair (other_side side)) Same_state [] (from_to 0 256) tt (λ on. tt) tt
        (leads_read plan certificate s (table_seen plan w e.process) x otherwise known.stands (seen_of plan w d) opened.there)
        (inside_of (from_to 0 256) m.byte (omega arith) (omega (arith, small)))

  pub owed_read : (x : Operand) (otherwise : ℕ) (known : Standing plan certificate w e.process s choice (Invoke (Read x) otherwise))
      → OwedBy plan certificate w e.process s choice (Read x) otherwise known (answer w e.process s e (Read x))
  unfolding answer
  owed_read x otherwise known =
      owed_through plan certificate w e s choice (Read x) otherwise known x refl refl _ (λ slot. refl) _ (λ d opened.
      owed_object plan certificate w e.process s choice (Read x) otherwise known (w.files.objects d.description) _ _
      (node_read x otherwise known d opened)
      (λ pair side class is.
      end_read x otherwise known d opened _ pair side (w.files.queue pair (other_side side)) (known.acts.formed.world.messages pair (other_side side))))

  -- ## `write`
  module _ (x v : Operand) (otherwise : ℕ) (known : Standing plan certificate w e.process s choice (Invoke (Write x v) otherwise))
      (d : Descriptor) (opened : Opened plan certificate w e s choice (Write x v) otherwise known x d) where
    node_written : (n : ℕ) (access : Access) → w.files.objects d.description ≡ At_node n access
        → OwedBy plan certificate w e.process s choice (Write x v) otherwise known (write_node w e.process s e d.description n access (value_of s v % 256))
    node_written n access is =
        let old = w.files.states d.description in
        let content = (node w.tree n).content in
        let offset = write_offset old content in
        owed_unless plan certificate w e.process s choice (Write x v) otherwise known refl (not (is_dir (node w.tree n).kind)) EISDIR errors.Kind _ tt (λ no_dir.
        owed_unless plan certificate w e.process s choice (Write x v) otherwise known refl access.writable EBADF errors.Access _ tt (λ writable.
        owed_unless plan certificate w e.process s choice (Write x v) otherwise known refl (nat_lt offset most_bytes) EFBIG Full _ tt (λ fits.
        owed_unrefused plan certificate w e s choice (Write x v) otherwise known refl ENOSPC _
        (owed_value plan certificate w e.process s choice (Write x v) otherwise known 1 (Fill n (written content offset (value_of s v % 256))) Same_queue
        (Set_state d.description (record old { offset = offset + 1 })) _ (only 1) tt
        (allowed_through plan certificate w e s choice (Write x v) otherwise known x d opened n access is (λ slot. refl) operations.Write (λ slot. inl refl)
        (λ slot. refl) (node w.tree n).place (λ name holds. holds)) tt
        (leads_write plan certificate s (table_seen plan w e.process) x v otherwise known.stands (seen_of plan w d) opened.there) (only_fits 1)))))

    -- a byte alone, where there is room
    byte_sent : (pair side byte : ℕ) (nonblock room : Bool)
        → OwedBy plan certificate w e.process s choice (Write x v) otherwise known
        (if room then Gives 1 (record same { queue = Push pair side (record { byte = byte; passed = None }) }) [] else blocked w e.process s e nonblock)
    byte_sent pair side byte nonblock true =
        owed_value plan certificate w e.process s choice (Write x v) otherwise known 1 Same_tree (Push pair side (record { byte = byte; passed = None })) Same_state [] (only 1) tt (λ on. tt) tt
        (leads_write plan certificate s (table_seen plan w e.process) x v otherwise known.stands (seen_of plan w d) opened.there) (only_fits 1)
    byte_sent pair side byte nonblock false = owed_blocked plan certificate w e s choice (Write x v) otherwise known refl nonblock

    end_written : (pair side : ℕ)
        → OwedBy plan certificate w e.process s choice (Write x v) otherwise known
        (sent_end w e.process s e d.description pair side (record { byte = value_of s v % 256; passed = None }))
    end_written pair side =
        owed_unless plan certificate w e.process s choice (Write x v) otherwise known refl (is_open w.files pair (other_side side)) EPIPE Refused _ tt (λ other.
        byte_sent pair side (value_of s v % 256) (w.files.states d.description).nonblock (nat_lt (length (w.files.queue pair side)) most_messages))

  pub owed_write : (x v : Operand) (otherwise : ℕ) (known : Standing plan certificate w e.process s choice (Invoke (Write x v) otherwise))
      → OwedBy plan certificate w e.process s choice (Write x v) otherwise known (answer w e.process s e (Write x v))
  unfolding answer
  owed_write x v otherwise known =
      owed_through plan certificate w e s choice (Write x v) otherwise known x refl refl _ (λ slot. refl) _ (λ d opened.
      owed_object plan certificate w e.process s choice (Write x v) otherwise known (w.files.objects d.description) _ _
      (node_written x v otherwise known d opened)
      (λ pair side class is.
      owed_unrefused plan certificate w e s choice (Write x v) otherwise known refl ENOSPC _ (end_written x v otherwise known d opened pair side)))

  -- ## Offsets, lengths and flags
  pub owed_lseek : (x v : Operand) (otherwise : ℕ) (known : Standing plan certificate w e.process s choice (Invoke (Lseek x v) otherwise))
      → OwedBy plan certificate w e.process s choice (Lseek x v) otherwise known (answer w e.process s e (Lseek x v))
  unfolding answer
  owed_lseek x v otherwise known =
      let offset = value_of s v in
      owed_through plan certificate w e s choice (Lseek x v) otherwise known x refl refl _ (λ slot. refl) _ (λ d opened.
      owed_file plan certificate w e s choice (Lseek x v) otherwise known refl d.description _ (λ n access is.
      owed_unless plan certificate w e.process s choice (Lseek x v) otherwise known refl (nat_le offset most_bytes) EINVAL Refused _ tt (λ fits.
      owed_value plan certificate w e.process s choice (Lseek x v) otherwise known offset Same_tree Same_queue
      (Set_state d.description (record (w.files.states d.description) { offset = offset })) [] (from_to 0 most_bytes) tt (λ on. tt) tt
      (leads_lseek plan certificate s (table_seen plan w e.process) x v otherwise known.stands (seen_of plan w d) opened.there)
      (inside_of (from_to 0 most_bytes) offset (omega arith) (leb-true offset most_bytes fits)))))

  pub owed_ftruncate : (x v : Operand) (otherwise : ℕ) (known : Standing plan certificate w e.process s choice (Invoke (Ftruncate x v) otherwise))
      → OwedBy plan certificate w e.process s choice (Ftruncate x v) otherwise known (answer w e.process s e (Ftruncate x v))
  unfolding answer
  owed_ftruncate x v otherwise known =
      let size = value_of s v in
      owed_through plan certificate w e s choice (Ftruncate x v) otherwise known x refl refl _ (λ slot. refl) _ (λ d opened.
      owed_file plan certificate w e s choice (Ftruncate x v) otherwise known refl d.description _ (λ n access is.
      owed_unless plan certificate w e.process s choice (Ftruncate x v) otherwise known refl access.writable EINVAL errors.Access _ tt (λ writable.
      owed_unless plan certificate w e.process s choice (Ftruncate x v) otherwise known refl (nat_le size most_bytes) EFBIG Full _ tt (λ fits.
      owed_value plan certificate w e.process s choice (Ftruncate x v) otherwise known 0 (Fill n (resized (node w.tree n).content size)) Same_queue Same_state _ (only 0) tt
      (allowed_through plan certificate w e s choice (Ftruncate x v) otherwise known x d opened n access is (λ slot. refl) operations.Write (λ slot. inl refl)
      (λ slot. refl) (node w.tree n).place (λ name holds. holds)) tt
      (leads_ftruncate plan certificate s (table_seen plan w e.process) x v otherwise known.stands (seen_of plan w d) opened.there) (only_fits 0)))))

  pub owed_setfl : (x v : Operand) (otherwise : ℕ) (known : Standing plan certificate w e.process s choice (Invoke (Fcntl_setfl x v) otherwise))
      → OwedBy plan certificate w e.process s choice (Fcntl_setfl x v) otherwise known (answer w e.process s e (Fcntl_setfl x v))
  unfolding answer
  owed_setfl x v otherwise known =
      let flags = value_of s v in
      owed_through plan certificate w e s choice (Fcntl_setfl x v) otherwise known x refl refl _ (λ slot. refl) _ (λ d opened.
      owed_passed plan certificate w e.process s choice (Fcntl_setfl x v) otherwise known _ _ _ _ opened.way.has.commands
      (owed_unless plan certificate w e.process s choice (Fcntl_setfl x v) otherwise known refl (nat_le flags 3) EINVAL Refused _ tt (λ fits.
      owed_value plan certificate w e.process s choice (Fcntl_setfl x v) otherwise known 0 Same_tree Same_queue
      (Set_state d.description (with_status (w.files.states d.description) flags)) [] (only 0) tt (λ on. tt) tt
      (leads_setfl plan certificate s (table_seen plan w e.process) x v otherwise known.stands (seen_of plan w d) opened.there) (only_fits 0))))

  -- ## `fstat`
  pub owed_fstat : (x : Operand) (otherwise : ℕ) (known : Standing plan certificate w e.process s choice (Invoke (Fstat x) otherwise))
      → OwedBy plan certificate w e.process s choice (Fstat x) otherwise known (answer w e.process s e (Fstat x))
  unfolding answer
  owed_fstat x otherwise known =
      owed_through plan certificate w e s choice (Fstat x) otherwise known x refl refl _ (λ slot. refl) _ (λ d opened.
      owed_object plan certificate w e.process s choice (Fstat x) otherwise known (w.files.objects d.description) _ _
      (λ n access is.
      owed_value plan certificate w e.process s choice (Fstat x) otherwise known (kind_number (node w.tree n).kind) Same_tree Same_queue Same_state _ (from_to 1 3) tt
      (allowed_through plan certificate w e s choice (Fstat x) otherwise known x d opened n access is (λ slot. refl) operations.Look (λ slot. inl refl)
      (λ slot. refl) (node w.tree n).place (λ name holds. holds)) tt
      (leads_fstat plan certificate s (table_seen plan w e.process) x otherwise known.stands (seen_of plan w d) opened.there) (kind_fits (node w.tree n).kind))
      (λ pair side class is.
      owed_value plan certificate w e.process s choice (Fstat x) otherwise known 3 Same_tree Same_queue Same_state [] (from_to 1 3) tt (λ on. tt) tt
      (leads_fstat plan certificate s (table_seen plan w e.process) x otherwise known.stands (seen_of plan w d) opened.there) refl))
