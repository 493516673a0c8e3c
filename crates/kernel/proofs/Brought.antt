-- What each call brings into a well-formed world.
use Rattle.std.proofs.Common.{◌≡◌, ℕ, ◌+◌, ◌-◌, ◌%◌, ◌<◌, ◌≤◌, ◌^◌, Bool, true, false, List, [], ◌∷◌, inl, inr, refl, length, arith, ap, subst, sym}
use Rattle.std.specs.Prelude.{◌==◌, Option, Some, None, nat_lt}
use Rattle.std.specs.List.{slice_get}
use Rattle.std.proofs.lemmas.Bool.{cases_Bool, ltb-true, leb-true}
use Rattle.std.proofs.lemmas.Bool.Decides.{nat_tests}
use Rattle.std.proofs.lemmas.Option.{slice_get_within}
use Rattle.rights.specs.Sets.{is_within, all_rights, all_commands}
use Rattle.rights.specs.Opens.{OpenRequest}
use Rattle.rights.proofs.Lists.{list_all-slice_get}
use Rattle.rights.proofs.Subsets.{is_within-refl, is_within-trans}
use Rattle.rights.proofs.Tests.{both_right, not_true}
use Rattle.file_tree.specs.Nodes.{Kind, File, Dir, Link, Node, node, is_dir, is_link}
use Rattle.rights.specs.Limits.{most_bytes, most_messages}
use Rattle.file_tree.specs.WellFormed.{IsTree, is_byte}
use Rattle.file_tree.proofs.KeptByCreate.{limits_of}
use Rattle.file_tree.proofs.KeptByFill.{filled_is_tree, written_is_tree, resized_is_tree}
use Rattle.lookup.specs.Answers.{Way, Last, Beneath, Follow, Keep, Found_node, Found_free, Not_found}
use Rattle.lookup.specs.Answers as lookups
use Rattle.lookup.specs.Paths.{last_component}
use Rattle.lookup.specs.Promises.{IsLinked, IsFindingThere, HasName, IsUnderName}
use Rattle.process.specs.State.{ProcessState}
use Rattle.instruction_set.specs.Programs.{Syscall, Open, Openat, Read, Write, Sendfd, Recvfd, Lseek, Ftruncate, Fsync, Fstat, Fcntl_getfl, Fcntl_setfl, Fstatat, Stat, Mkdirat, Mkdir}
use Rattle.instruction_set.specs.Programs.{Unlinkat, Unlink, Renameat, Dup, Close, Cap_rights_limit, Cap_fcntls_limit, Cap_enter, Cap_getmode, Socketpair, Fork, Use, is_path}
use Rattle.rights.specs.Sides.{other_side}
use Rattle.fd_table.specs.Descriptions.{Access, Object, At_node, At_end, State, Descriptor, Message, bit_of, status_number, IfHeld}
use Rattle.fd_table.specs.OpenFiles.{is_open, lowest_from, lowest_free}
use Rattle.kernel.specs.World.{World}
use Rattle.rights.specs.Errors.{ENOTDIR}
use Rattle.rights.specs.Errors as errors
use Rattle.kernel.specs.Answers.{Event, TreeChange, Answer, Fails, same, unless, held, at_object, value_of}
use Rattle.kernel.specs.Calls.{last_if, looks, looks_twice, answer, truncated, opened, opened_as, read_byte, read_node, read_end, write_node, write_at, sent_end, received, receive_end}
use Rattle.kernel.specs.Calls.{stats, stats_at, kind_number, made_directory, unlinks, renamed_to, existing, pair_at, blocked, in_directory, at_file, at_socket}
use Rattle.kernel.specs.Changes.{tree_after}
use Rattle.kernel.specs.Steps.{Programs}
use Rattle.kernel.specs.WellFormed.{EachMessage, IsObject, IsWorld}
use Rattle.kernel.proofs.Trees.{made_is_tree, emptied_is_tree, unlinked_is_tree, moved_to_free, opened_kept}
use Rattle.lookup.specs.Paths.{has_path_bytes}
use Rattle.lookup.specs.UnderWay.{IsUnderWay}
use Rattle.lookup.specs.Walks.{WalkState, Progress, Done, More, first_handled, handled}
use Rattle.lookup.proofs.UnderWay.{IsSureProgress, MayMake, Sure, begun_sure, begun_under_way, sure_fault, there_if_opened, under_way_sure}
use Rattle.process.specs.State.{Walking, One, Two}
use Rattle.kernel.specs.Walks.{FitsLookups, FitsIfWalking, IfOne, IfTwo, IsDirectory, IsDirectoryOf, lookups_of, are_paths}
use Rattle.kernel.proofs.FittingWalks.{both_under, directory_under, root_under}
use Rattle.kernel.proofs.Looking.{IsEvent, looks_any, looks_twice_any}
use Rattle.kernel.proofs.Lookups.{moved_over, path_bytes}
use Rattle.kernel.proofs.Brings.{Ground, Known, Brings, Sound, free_low, second_low, directory_kind, file_kind, no_directory, sound-fails, sound-waits, sound-gives, sound-walks, sound-unless}
use Rattle.kernel.proofs.Brings.{sound-if}
use Rattle.kernel.proofs.Brings.{sound-held, sound-object, sound-number, sound-lookup_fails}
use Rattle.kernel.proofs.SmallFacts.{new_node, longer, small_kind, small_bits, small_bit, below, no_truncate_fault, no_put_byte_fault}

-- The ground is a well-formed world, in which each entry and message is known.
pub record Standing (programs : Programs) (g : Ground) : Type 0 where
  pub good : IsWorld programs g.numbering g.world
  pub entries : (p n : ℕ) → IfHeld (Known g) (g.world.files.table p n)
  pub messages : (pair side : ℕ) → EachMessage (Known g) (g.world.files.queue pair side)

module _ (programs : Programs) (g : Ground) (standing : Standing programs g) (p : ℕ) (s : ProcessState) (e : Event) where
  abbrev w : World
  w = g.world

  -- ## Changes that leave most parts as they are
  nothing : (value : ℕ) → value < 2 ^ 32 → Brings g value same
  nothing value small = record { small = small; tree = standing.good.tree; table = tt; queue = tt; state = tt }

  alters : (value : ℕ) (tree : TreeChange) → value < 2 ^ 32 → IsTree (tree_after w.tree tree) → Brings g value (record same { tree = tree })
  alters value tree small is = record { small = small; tree = is; table = tt; queue = tt; state = tt }

  zero_small : 0 < 2 ^ 32
  zero_small = omega arith

  low_small : (n : ℕ) → n < 16 → n < 2 ^ 32
  low_small n low = omega arith

  -- the number of an entry that is there
  entry_low : (n : ℕ) (d : Descriptor) → w.files.table p n ≡ Some d → n < 16
  entry_low n d is =
      elim (cases_Bool (nat_lt n 16)) [
        | inl low ↦ ltb-true n 16 low
        | inr high ↦ (let far : 16 ≤ n = grind (arith, nat_tests) in let none : w.files.table p n ≡ None = standing.good.numbers p n far in cc)
      ]

  -- ## What is at a descriptor
  sound-blocked : (nonblock : Bool) → Sound g (blocked w p s e nonblock)
  sound-blocked nonblock = sound-if g nonblock _ _ (λ _. sound-fails g _ _) (sound-waits g)

  sound-entry : (n : ℕ) (rest : Descriptor → Answer) → ((d : Descriptor) → n < 16 → Known g d → Sound g (rest d)) → Sound g (held (w.files.table p n) rest)
  sound-entry n rest sound = sound-held g (w.files.table p n) rest (standing.entries p n) (λ d is fine. sound d (entry_low n d is) fine)

  sound-directory : (d : Descriptor) (rest : ℕ → Answer) → Known g d →
      ((n : ℕ) → is_link (node w.tree n).kind ≡ false → IsDirectoryOf w.tree (w.files.objects d.description) → Sound g (rest n)) →
      Sound g (in_directory w p s e d.description rest)
  unfolding at_object
  sound-directory d rest fine sound = by_object (w.files.objects d.description) refl fine.0.object
    where
      by_object : (o : Object) → w.files.objects d.description ≡ o → IsObject w.tree g.numbering d.description o →
          Sound g (at_object o (λ n access. unless (is_dir (node w.tree n).kind) ENOTDIR errors.Kind (rest n)) (λ pair side. Fails ENOTDIR errors.Kind))
      by_object (At_node n access) is opened =
          sound-unless g _ _ _ _ (λ dir. sound n opened (subst (IsDirectoryOf w.tree) (sym is) (directory_kind (node w.tree n).kind dir)))
      by_object (At_end pair side class) is opened = sound-fails g _ _

  sound-file : (d : Descriptor) (rest : ℕ → Access → Answer) → Known g d →
      ((n : ℕ) (access : Access) → (node w.tree n).kind ≡ File → Sound g (rest n access)) → Sound g (at_file w p s e d.description rest)
  sound-file d rest fine sound =
      sound-object g d.description (w.files.objects d.description) _ _ fine.0.object
      (λ n access opened. sound-unless g _ _ _ _ (λ file. sound n access (file_kind (node w.tree n).kind file)))
      (λ pair side low. sound-fails g _ _)

  sound-socket : (d : Descriptor) (rest : ℕ → ℕ → Answer) → Known g d → ((pair side : ℕ) → side < 2 → Sound g (rest pair side)) → Sound g (at_socket w p s e d.description rest)
  sound-socket d rest fine sound =
      sound-object g d.description (w.files.objects d.description) _ _ fine.0.object
      (λ n access opened. sound-fails g _ _) sound

  -- ## Files
  file_there : (n : ℕ) → (node w.tree n).kind ≡ File → n < length w.tree
  file_there n file = there_if_opened w.tree n (ap is_link file)

  truncated_is_tree : (trunc : Bool) (n : ℕ) → (node w.tree n).kind ≡ File → IsTree (tree_after w.tree (truncated trunc n))
  truncated_is_tree true n file = filled_is_tree w.tree n [] standing.good.tree file (file_there n file) (omega arith) refl
  truncated_is_tree false n file = standing.good.tree

  -- a byte of a file, at an offset in it
  file_byte : (n offset byte : ℕ) → (node w.tree n).kind ≡ File → slice_get (node w.tree n).content offset ≡ Some byte → (byte < 256) × (offset < most_bytes)
  file_byte n offset byte file here =
      let old = limits_of (node w.tree n) (standing.good.tree.limits n (file_there n file)) in
      let short : length (node w.tree n).content ≤ most_bytes = leb-true (length (node w.tree n).content) most_bytes (rw file at old.content) in
      let within : offset < length (node w.tree n).content = slice_get_within (node w.tree n).content offset byte here in
      (ltb-true byte 256 (list_all-slice_get is_byte (node w.tree n).content offset byte old.bytes here), omega arith)

  sound-byte : (d : Descriptor) (n : ℕ) (place : List (List ℕ)) (o : Option ℕ) → (node w.tree n).kind ≡ File →
      slice_get (node w.tree n).content (w.files.states d.description).offset ≡ o → Sound g (read_byte w p s e d.description place o)
  sound-byte d n place None file here = sound-gives g _ _ _ (nothing 256 (omega arith))
  sound-byte d n place (Some byte) file here =
      let facts = file_byte n (w.files.states d.description).offset byte file here in
      let small : byte < 2 ^ 32 = omega (arith, facts.0) in
      let within : (w.files.states d.description).offset + 1 ≤ most_bytes = omega (arith, facts.1) in
      sound-gives g _ _ _ (record { small = small; tree = standing.good.tree; table = tt; queue = tt; state = within })

  sound-read_node : (d : Descriptor) (n : ℕ) (access : Access) → is_link (node w.tree n).kind ≡ false → Sound g (read_node w p s e d.description n access)
  sound-read_node d n access opened =
      sound-unless g _ _ _ _ (λ no_dir. sound-unless g _ _ _ _ (λ readable.
      sound-byte d n _ (slice_get (node w.tree n).content (w.files.states d.description).offset)
      (no_directory (node w.tree n).kind opened (not_true _ no_dir)) refl))

  sound-write_at : (d : Descriptor) (n offset byte : ℕ) → (node w.tree n).kind ≡ File → byte < 256 → Sound g (write_at w p s e d.description n offset byte)
  sound-write_at d n offset byte file small =
      sound-unless g _ _ _ _ (λ room. sound-unless g _ _ _ _ (λ allowed.
      let low : offset < most_bytes = ltb-true offset most_bytes room in
      let within : offset + 1 ≤ most_bytes = omega arith in
      sound-gives g _ _ _ (record {
        small = omega arith;
        tree = written_is_tree w.tree n offset byte standing.good.tree file (file_there n file) small (no_put_byte_fault offset room);
        table = tt;
        queue = tt;
        state = within;
      })))

  sound-write_node : (d : Descriptor) (n : ℕ) (access : Access) (byte : ℕ) → is_link (node w.tree n).kind ≡ false → byte < 256 → Sound g (write_node w p s e d.description n access byte)
  sound-write_node d n access byte opened small =
      sound-unless g _ _ _ _ (λ no_dir. sound-unless g _ _ _ _ (λ writable.
      sound-write_at d n _ byte (no_directory (node w.tree n).kind opened (not_true _ no_dir)) small))

  -- ## Pairs
  sound-read_end : (d : Descriptor) (pair side : ℕ) (messages : List Message) → EachMessage (Known g) messages → Sound g (read_end w p s e d.description pair side messages)
  sound-read_end d pair side [] fine =
      sound-if g (is_open w.files pair (other_side side)) (blocked w p s e (w.files.states d.description).nonblock) _
      (λ _. sound-blocked (w.files.states d.description).nonblock) (sound-gives g _ _ [] (nothing 256 (omega arith)))
  sound-read_end d pair side (m ∷ messages) fine =
      let low : m.byte < 256 = fine.0 in
      let small : m.byte < 2 ^ 32 = omega arith in
      sound-gives g _ _ _ (record { small = small; tree = standing.good.tree; table = tt; queue = tt; state = tt })

  sound-sent : (d : Descriptor) (pair side : ℕ) (m : Message) → side < 2 → m.byte < 256 → IfHeld (Known g) m.passed → Sound g (sent_end w p s e d.description pair side m)
  sound-sent d pair side m low byte passed =
      sound-unless g _ _ _ _ (λ there.
      sound-if g (nat_lt (length (w.files.queue pair side)) most_messages) _ _
      (λ room. sound-gives g _ _ _ (record {
        small = omega arith;
        tree = standing.good.tree;
        table = tt;
        queue = (low, ltb-true (length (w.files.queue pair side)) most_messages room, byte, passed);
        state = tt;
      }))
      (sound-blocked (w.files.states d.description).nonblock))

  sound-received : (pair side number : ℕ) (o : Option Descriptor) → number < 16 → IfHeld (Known g) o → Sound g (received w p s e pair side number o)
  sound-received pair side number None low fine = sound-fails g _ _
  sound-received pair side number (Some d) low fine =
      sound-gives g _ _ _ (record { small = low_small number low; tree = standing.good.tree; table = (low, fine); queue = tt; state = tt })

  sound-receive_end : (d : Descriptor) (pair side number : ℕ) (messages : List Message) → number < 16 → EachMessage (Known g) messages →
      Sound g (receive_end w p s e d.description pair side number messages)
  sound-receive_end d pair side number [] low fine = sound-unless g _ _ _ _ (λ there. sound-blocked (w.files.states d.description).nonblock)
  sound-receive_end d pair side number (m ∷ messages) low fine = sound-received pair side number m.passed low fine.1

  -- ## Lookups
  sure_event : (path : List ℕ) (way : Way) (last : Last) (event : Progress) → IsSureProgress w.tree path way last event →
      IsEvent (Sure w.tree path last) (IsUnderWay w.tree path way last) event
  sure_event path way last (Done found) sure = sure
  sure_event path way last (More walk) sure = sure

  sound-looks : (start : ℕ) (way : Way) (path : List ℕ) (last : Last) (rest : lookups.Finding → Answer) → is_link (node w.tree start).kind ≡ false →
      IfOne (IsUnderWay w.tree path way last) s.walk → ((walk : WalkState) → IsUnderWay w.tree path way last walk → g.Left (One walk)) →
      ((found : lookups.Finding) → Sure w.tree path last found → Sound g (rest found)) → Sound g (looks w p s e start way path last rest)
  sound-looks start way path last rest opened under left sound =
      looks_any (Sound g) w p s e start way path last rest (Sure w.tree path last) (IsUnderWay w.tree path way last) under
      (sure_event path way last (first_handled w.tree start path way last) (begun_sure w.tree path way last standing.good.tree start opened))
      (λ walk is. sure_event path way last (handled w.tree walk) (under_way_sure w.tree path way last standing.good.tree walk is))
      sound (λ walk is. sound-walks g (One walk) (left walk is))

  sound-looks_twice : (n : ℕ) (from : List ℕ) (m : ℕ) (to : List ℕ) (rest : lookups.Finding → lookups.Finding → Answer) →
      is_link (node w.tree n).kind ≡ false → is_link (node w.tree m).kind ≡ false →
      IfTwo (IsUnderWay w.tree from Beneath Keep) (IsUnderWay w.tree to Beneath Keep) s.walk →
      ((one other : WalkState) → IsUnderWay w.tree from Beneath Keep one → IsUnderWay w.tree to Beneath Keep other → g.Left (Two one other)) →
      ((found place : lookups.Finding) → Sure w.tree from Keep found → Sure w.tree to Keep place → Sound g (rest found place)) →
      Sound g (looks_twice w p s e n from m to rest)
  sound-looks_twice n from m to rest opened also under left sound =
      looks_twice_any (Sound g) w p s e (sound-lookup_fails g) n from m to rest (Sure w.tree from Keep) (Sure w.tree to Keep)
      (IsUnderWay w.tree from Beneath Keep) (IsUnderWay w.tree to Beneath Keep) under
      (begun_under_way w.tree from Beneath Keep standing.good.tree n opened refl)
      (begun_under_way w.tree to Beneath Keep standing.good.tree m also refl)
      (sure_fault w.tree from Beneath Keep standing.good.tree lookups.No_entry) (sure_fault w.tree to Beneath Keep standing.good.tree lookups.No_entry)
      (λ walk is. sure_event from Beneath Keep (handled w.tree walk) (under_way_sure w.tree from Beneath Keep standing.good.tree walk is))
      (λ walk is. sure_event to Beneath Keep (handled w.tree walk) (under_way_sure w.tree to Beneath Keep standing.good.tree walk is))
      sound (λ one other first second. sound-walks g (Two one other) (left one other first second))

  -- What fits the call is under way.
  abbrev IsFit : Syscall → Option Walking → Type 0
  IsFit call o = FitsIfWalking w.tree w.files.objects (w.files.table p) s (Some call) o

  -- a directory's descriptor that is open
  sound-start : (n : ℕ) (rest : Descriptor → Answer) → ((d : Descriptor) → w.files.table p n ≡ Some d → Known g d → Sound g (rest d)) → Sound g (held (w.files.table p n) rest)
  sound-start n rest sound = sound-held g (w.files.table p n) rest (standing.entries p n) (λ d is fine. sound d is fine)

  is_start : (o : Option Descriptor) (d : Descriptor) → o ≡ Some d → IsDirectoryOf w.tree (w.files.objects d.description) → IsDirectory w.tree w.files.objects o
  is_start o d is dir = rw is dir

  sound-opened_as : (f : OpenRequest) (rights fcntls n : ℕ) (kind : Kind) → is_within rights all_rights ≡ true →
      is_within fcntls all_commands ≡ true → (node w.tree n).kind ≡ kind → Sound g (opened_as w p s e f rights fcntls n kind)
  sound-opened_as f rights fcntls n Link all also is = sound-fails g _ _
  sound-opened_as f rights fcntls n Dir all also is =
      sound-unless g _ _ _ _ (λ plain. sound-number g (lowest_free (w.files.table p)) _ (λ number free.
      sound-unless g _ _ _ _ (λ allowed.
      let low : number < 16 = free_low (w.files.table p) number free in
      sound-gives g _ _ _ (record { small = low_small number low; tree = standing.good.tree; table = (low, ap is_link is, all, also); queue = tt; state = tt }))))
  sound-opened_as f rights fcntls n File all also is =
      sound-number g (lowest_free (w.files.table p)) _ (λ number free.
      sound-unless g _ _ _ _ (λ allowed.
      let low : number < 16 = free_low (w.files.table p) number free in
      sound-gives g _ _ _ (record {
        small = low_small number low;
        tree = truncated_is_tree f.trunc n is;
        table = (low, opened_kept w.tree (truncated f.trunc n) n (ap is_link is), all, also);
        queue = tt;
        state = tt;
      })))

  sound-opened : (f : OpenRequest) (rights fcntls : ℕ) (path : List ℕ) (found : lookups.Finding) → is_within rights all_rights ≡ true →
      is_within fcntls all_commands ≡ true → has_path_bytes path ≡ true → MayMake w.tree path found → Sound g (opened w p s e f rights fcntls path found)
  sound-opened f rights fcntls path (Not_found fault) all also bytes may = sound-lookup_fails g fault
  sound-opened f rights fcntls path (Found_free d) all also bytes may =
      sound-number g (lowest_free (w.files.table p)) _ (λ number free.
      sound-unless g _ _ _ _ (λ room. sound-unless g _ _ _ _ (λ allowed.
      let low : number < 16 = free_low (w.files.table p) number free in
      sound-gives g _ _ _ (record {
        small = low_small number low;
        tree = made_is_tree w.tree d (last_component path) File standing.good.tree may.linked may.directory may.absent (may.named bytes) refl (below _ _ room);
        table = (low, ap (λ (m : Node). is_link m.kind) (new_node w.tree _), all, also);
        queue = tt;
        state = tt;
      }))))
  sound-opened f rights fcntls path (Found_node n) all also bytes may = sound-opened_as f rights fcntls n (node w.tree n).kind all also refl

  sound-looked : (n : ℕ) → Sound g (stats w p s e n)
  sound-looked n = sound-gives g _ _ _ (nothing (kind_number (node w.tree n).kind) (small_kind (node w.tree n).kind))

  sound-looked_at : (found : lookups.Finding) → Sound g (stats_at w p s e found)
  sound-looked_at (Not_found fault) = sound-lookup_fails g fault
  sound-looked_at (Found_free d) = sound-fails g _ _
  sound-looked_at (Found_node n) = sound-looked n

  sound-made_directory : (path : List ℕ) (found : lookups.Finding) → has_path_bytes path ≡ true → MayMake w.tree path found → Sound g (made_directory w p s e path found)
  sound-made_directory path (Not_found fault) bytes may = sound-lookup_fails g fault
  sound-made_directory path (Found_node n) bytes may = sound-fails g _ _
  sound-made_directory path (Found_free d) bytes may =
      sound-unless g _ _ _ _ (λ room. sound-unless g _ _ _ _ (λ allowed.
      sound-gives g _ _ _ (alters 0 _ zero_small
      (made_is_tree w.tree d (last_component path) Dir standing.good.tree may.linked may.directory may.absent (may.named bytes) refl (below _ _ room)))))

  under_name : (n : ℕ) (name : List ℕ) → HasName w.tree n name → 0 < length (node w.tree n).place
  under_name n name named = subst (λ place. 0 < length place) (sym named.place) (longer (node w.tree named.parent).place name)

  sound-unlinked : (directory : Bool) (path : List ℕ) (found : lookups.Finding) → IsFindingThere w.tree found → IsUnderName w.tree path found → Sound g (unlinks w p s e directory found)
  sound-unlinked directory path (Not_found fault) there named = sound-lookup_fails g fault
  sound-unlinked directory path (Found_free d) there named = sound-fails g _ _
  sound-unlinked true path (Found_node n) there named =
      let some : 0 < length (node w.tree n).place = under_name n (last_component path) named in
      sound-unless g _ _ _ _ (λ dir. sound-unless g _ _ _ _ (λ empty.
      sound-gives g _ _ _ (alters 0 _ zero_small (emptied_is_tree w.tree n standing.good.tree there.linked some (not_true _ empty)))))
  sound-unlinked false path (Found_node n) there named =
      let some : 0 < length (node w.tree n).place = under_name n (last_component path) named in
      sound-unless g _ _ _ _ (λ leaf.
      sound-gives g _ _ _ (alters 0 _ zero_small (unlinked_is_tree w.tree n standing.good.tree there.linked some (not_true _ leaf))))

  sound-renamed_to : (call : Syscall) (target : Descriptor) (n : ℕ) (path : List ℕ) (found : lookups.Finding) → has_path_bytes path ≡ true → IsLinked w.tree n →
      IsFindingThere w.tree found → MayMake w.tree path found → IsUnderName w.tree path found → Sound g (renamed_to w p s e call target n path found)
  sound-renamed_to call target n path (Not_found fault) bytes linked there may named = sound-lookup_fails g fault
  sound-renamed_to call target n path (Found_free d) bytes linked there may named =
      sound-unless g _ _ _ _ (λ outside.
      sound-gives g _ _ _ (alters 0 _ zero_small
      (moved_to_free w.tree n d (last_component path) standing.good.tree linked.linked may.linked may.directory may.absent (may.named bytes) (not_true _ outside))))
  sound-renamed_to call target n path (Found_node m) bytes linked there may named =
      sound-if g (n == m) _ _ (λ _. sound-gives g _ _ _ (nothing 0 zero_small))
      (sound-unless g _ _ _ _ (λ granted.
      sound-unless g _ _ _ _ (λ outside. sound-unless g _ _ _ _ (λ kinds. sound-unless g _ _ _ _ (λ also. sound-unless g _ _ _ _ (λ empty.
      sound-gives g _ _ _ (alters 0 _ zero_small
      (moved_over w.tree n m (last_component path) standing.good.tree linked.linked there.linked named (not_true _ outside) (not_true _ empty)))))))))

  sound-existing : (found : lookups.Finding) (rest : ℕ → Answer) → IsFindingThere w.tree found → ((n : ℕ) → IsLinked w.tree n → Sound g (rest n)) → Sound g (existing found rest)
  sound-existing (Not_found fault) rest there sound = sound-lookup_fails g fault
  sound-existing (Found_free d) rest there sound = sound-fails g _ _
  sound-existing (Found_node n) rest there sound = sound n there

  sound-pair_at : (o : Option ℕ) → lowest_free (w.files.table p) ≡ o → Sound g (pair_at w p s e o)
  sound-pair_at None free = sound-fails g _ _
  sound-pair_at (Some first) free =
      let low : first < 16 = free_low (w.files.table p) first free in
      sound-number g (lowest_from (15 - first) (first + 1) (w.files.table p)) _ (λ second also.
      sound-unless g _ _ _ _ (λ allowed.
      sound-gives g _ _ _ (record {
        small = low_small first low;
        tree = standing.good.tree;
        table = (low, second_low first second (15 - first) (w.files.table p) (omega arith) also);
        queue = tt;
        state = tt;
      })))

  root_opened : is_link (node w.tree 0).kind ≡ false
  root_opened = ap is_link standing.good.tree.root_kind

  within_all : (set : ℕ) → is_within set set ≡ true
  within_all set = is_within-refl set

  -- ## Every call
  -- What a call leaves under way fits it.
  abbrev Leaves : Syscall → Type 0
  Leaves call = (walking : Walking) → FitsLookups w.tree w.files.objects (w.files.table p) s (lookups_of call) walking → g.Left walking

  pub sound : (call : Syscall) → are_paths (lookups_of call) ≡ true → IsFit call s.walk → Leaves call → Sound g (answer w p s e call)
  unfolding answer lookups_of
  sound (Open path f) valid fits left =
      sound-unless g _ _ _ _ (λ outside.
      sound-looks _ _ _ _ _ root_opened (root_under w.tree w.files.objects (w.files.table p) s (Open path f) path (last_if f.create) s.walk refl fits) (λ walk is. left (One walk) is) (λ found sure.
      sound-opened f all_rights all_commands path found (within_all all_rights) (within_all all_commands) (path_bytes path valid) sure.vacant))
  sound (Openat x path f) valid fits left =
      sound-start (value_of s x) _ (λ d is fine. sound-unless g _ _ _ _ (λ has.
      sound-directory d _ fine (λ n opened dir.
      sound-looks _ _ _ _ _ opened (directory_under w.tree w.files.objects (w.files.table p) s (Openat x path f) x path (last_if f.create) s.walk refl fits)
      (λ walk under. left (One walk) (is_start _ d is dir, under)) (λ found sure.
      sound-opened f d.rights d.fcntls path found fine.0.rights fine.0.fcntls (path_bytes path valid) sure.vacant))))
  sound (Read x) valid fits left =
      sound-entry (value_of s x) _ (λ d low fine. sound-unless g _ _ _ _ (λ has.
      sound-object g d.description (w.files.objects d.description) _ _ fine.0.object
      (λ n access opened. sound-read_node d n access opened)
      (λ pair side low. sound-read_end d pair side (w.files.queue pair (other_side side)) (standing.messages pair (other_side side)))))
  sound (Write x v) valid fits left =
      let byte : value_of s v % 256 < 256 = omega arith in
      sound-entry (value_of s x) _ (λ d low fine. sound-unless g _ _ _ _ (λ has.
      sound-object g d.description (w.files.objects d.description) _ _ fine.0.object
      (λ n access opened. sound-write_node d n access (value_of s v % 256) opened byte)
      (λ pair side low. sound-unless g _ _ _ _ (λ allowed. sound-sent d pair side _ low byte tt))))
  sound (Sendfd x y v) valid fits left =
      let byte : value_of s v % 256 < 256 = omega arith in
      sound-entry (value_of s x) _ (λ d low fine.
      sound-entry (value_of s y) _ (λ passed low also. sound-unless g _ _ _ _ (λ has.
      sound-socket d _ fine (λ pair side low. sound-sent d pair side _ low byte also))))
  sound (Recvfd x) valid fits left =
      sound-entry (value_of s x) _ (λ d low fine. sound-unless g _ _ _ _ (λ has.
      sound-socket d _ fine (λ pair side low.
      sound-number g (lowest_free (w.files.table p)) _ (λ number free.
      sound-receive_end d pair side number (w.files.queue pair (other_side side)) (free_low (w.files.table p) number free) (standing.messages pair (other_side side))))))
  sound (Lseek x v) valid fits left =
      sound-entry (value_of s x) _ (λ d low fine. sound-unless g _ _ _ _ (λ has.
      sound-file d _ fine (λ n access file. sound-unless g _ _ _ _ (λ low.
      let within : value_of s v ≤ most_bytes = leb-true _ _ low in
      let small : value_of s v < 2 ^ 32 = omega arith in
      sound-gives g _ _ _ (record { small = small; tree = standing.good.tree; table = tt; queue = tt; state = within })))))
  sound (Ftruncate x v) valid fits left =
      sound-entry (value_of s x) _ (λ d low fine. sound-unless g _ _ _ _ (λ has.
      sound-file d _ fine (λ n access file. sound-unless g _ _ _ _ (λ writable. sound-unless g _ _ _ _ (λ low.
      sound-gives g _ _ _ (alters 0 _ zero_small
      (resized_is_tree w.tree n (value_of s v) standing.good.tree file (file_there n file) (no_truncate_fault (value_of s v) low))))))))
  sound (Fsync x) valid fits left =
      sound-entry (value_of s x) _ (λ d low fine. sound-unless g _ _ _ _ (λ has.
      sound-object g d.description (w.files.objects d.description) _ _ fine.0.object
      (λ n access opened. sound-gives g _ _ _ (nothing 0 zero_small)) (λ pair side low. sound-fails g _ _)))
  sound (Fstat x) valid fits left =
      sound-entry (value_of s x) _ (λ d low fine. sound-unless g _ _ _ _ (λ has.
      sound-object g d.description (w.files.objects d.description) _ _ fine.0.object
      (λ n access opened. sound-looked n) (λ pair side low. sound-gives g _ _ _ (nothing 3 (omega arith)))))
  sound (Fcntl_getfl x) valid fits left =
      sound-entry (value_of s x) _ (λ d low fine. sound-unless g _ _ _ _ (λ has. sound-unless g _ _ _ _ (λ also.
      let state : State = w.files.states d.description in
      sound-gives g _ _ _ (nothing (status_number state) (small_bits state.append state.nonblock)))))
  sound (Fcntl_setfl x v) valid fits left =
      sound-entry (value_of s x) _ (λ d low fine. sound-unless g _ _ _ _ (λ has. sound-unless g _ _ _ _ (λ also.
      sound-unless g _ _ _ _ (λ flags.
      sound-gives g _ _ _ (record { small = zero_small; tree = standing.good.tree; table = tt; queue = tt; state = fine.0.offset })))))
  sound (Fstatat x path) valid fits left =
      sound-start (value_of s x) _ (λ d is fine. sound-unless g _ _ _ _ (λ has.
      sound-directory d _ fine (λ n opened dir.
      sound-looks _ _ _ _ _ opened (directory_under w.tree w.files.objects (w.files.table p) s (Fstatat x path) x path Follow s.walk refl fits)
      (λ walk under. left (One walk) (is_start _ d is dir, under)) (λ found sure. sound-looked_at found))))
  sound (Stat path) valid fits left =
      sound-unless g _ _ _ _ (λ outside.
      sound-looks _ _ _ _ _ root_opened (root_under w.tree w.files.objects (w.files.table p) s (Stat path) path Follow s.walk refl fits) (λ walk is. left (One walk) is)
      (λ found sure. sound-looked_at found))
  sound (Mkdirat x path) valid fits left =
      sound-start (value_of s x) _ (λ d is fine. sound-unless g _ _ _ _ (λ has.
      sound-directory d _ fine (λ n opened dir.
      sound-looks _ _ _ _ _ opened (directory_under w.tree w.files.objects (w.files.table p) s (Mkdirat x path) x path Keep s.walk refl fits)
      (λ walk under. left (One walk) (is_start _ d is dir, under)) (λ found sure.
      sound-made_directory path found (path_bytes path valid) sure.vacant))))
  sound (Mkdir path) valid fits left =
      sound-unless g _ _ _ _ (λ outside.
      sound-looks _ _ _ _ _ root_opened (root_under w.tree w.files.objects (w.files.table p) s (Mkdir path) path Keep s.walk refl fits) (λ walk is. left (One walk) is) (λ found sure.
      sound-made_directory path found (path_bytes path valid) sure.vacant))
  sound (Unlinkat x path directory) valid fits left =
      sound-start (value_of s x) _ (λ d is fine. sound-unless g _ _ _ _ (λ has.
      sound-directory d _ fine (λ n opened dir.
      sound-looks _ _ _ _ _ opened (directory_under w.tree w.files.objects (w.files.table p) s (Unlinkat x path directory) x path Keep s.walk refl fits)
      (λ walk under. left (One walk) (is_start _ d is dir, under)) (λ found sure.
      sound-unlinked directory path found sure.there (sure.named refl)))))
  sound (Unlink path directory) valid fits left =
      sound-unless g _ _ _ _ (λ outside.
      sound-looks _ _ _ _ _ root_opened (root_under w.tree w.files.objects (w.files.table p) s (Unlink path directory) path Keep s.walk refl fits) (λ walk is. left (One walk) is) (λ found sure.
      sound-unlinked directory path found sure.there (sure.named refl)))
  sound (Renameat x from y target) valid fits left =
      sound-start (value_of s x) _ (λ d is fine.
      sound-start (value_of s y) _ (λ into into_is also.
      sound-unless g _ _ _ _ (λ has. sound-unless g _ _ _ _ (λ may.
      sound-directory d _ fine (λ n opened dir.
      sound-directory into _ also (λ m other into_dir.
      sound-looks_twice _ _ _ _ _ opened other (both_under w.tree w.files.objects (w.files.table p) s (Renameat x from y target) x from y target s.walk refl fits)
      (λ one two first second. left (Two one two) (is_start _ d is dir, is_start _ into into_is into_dir, first, second)) (λ source place sure into_place.
      sound-existing source _ sure.there (λ k linked.
      sound-renamed_to (Renameat x from y target) into k target place (path_bytes target (both_right (is_path from) _ valid)) linked into_place.there into_place.vacant (into_place.named refl)))))))))
  sound (Dup x) valid fits left =
      sound-entry (value_of s x) _ (λ d low fine.
      sound-number g (lowest_free (w.files.table p)) _ (λ number free.
      let there : number < 16 = free_low (w.files.table p) number free in
      sound-gives g _ _ _ (record { small = low_small number there; tree = standing.good.tree; table = (there, fine); queue = tt; state = tt })))
  sound (Close x) valid fits left =
      sound-entry (value_of s x) _ (λ d low fine.
      sound-gives g _ _ _ (record { small = zero_small; tree = standing.good.tree; table = tt; queue = tt; state = tt }))
  sound (Cap_rights_limit x rights) valid fits left =
      sound-entry (value_of s x) _ (λ d low fine. sound-unless g _ _ _ _ (λ within.
      let narrowed : Known g (record d { rights = rights }) = (
        record {
          number = fine.0.number;
          rights = is_within-trans rights d.rights all_rights within fine.0.rights;
          fcntls = fine.0.fcntls;
          object =
              fine.0.object;
          offset = fine.0.offset;
        },
        fine.1,
      ) in
      sound-gives g _ _ _ (record { small = zero_small; tree = standing.good.tree; table = (low, narrowed); queue = tt; state = tt })))
  sound (Cap_fcntls_limit x commands) valid fits left =
      sound-entry (value_of s x) _ (λ d low fine. sound-unless g _ _ _ _ (λ within.
      let narrowed : Known g (record d { fcntls = commands }) = (
        record {
          number = fine.0.number;
          rights = fine.0.rights;
          fcntls = is_within-trans commands d.fcntls all_commands within fine.0.fcntls;
          object = fine.0.object;
          offset = fine.0.offset;
        },
        fine.1,
      ) in
      sound-gives g _ _ _ (record { small = zero_small; tree = standing.good.tree; table = (low, narrowed); queue = tt; state = tt })))
  sound Cap_enter valid fits left = sound-gives g _ _ _ (record { small = zero_small; tree = standing.good.tree; table = tt; queue = tt; state = tt })
  sound Cap_getmode valid fits left = sound-gives g _ _ _ (nothing (bit_of s.mode 1) (small_bit s.mode))
  sound Socketpair valid fits left = sound-pair_at (lowest_free (w.files.table p)) refl
  sound (Use x right) valid fits left =
      sound-unless g _ _ _ _ (λ outside. sound-entry (value_of s x) _ (λ d low fine. sound-unless g _ _ _ _ (λ has.
      sound-object g d.description (w.files.objects d.description) _ _ fine.0.object
      (λ n access opened. sound-unless g _ _ _ _ (λ fit. sound-unless g _ _ _ _ (λ allowed. sound-gives g _ _ _ (nothing 0 zero_small))))
      (λ pair side low. sound-unless g _ _ _ _ (λ fit. sound-unless g _ _ _ _ (λ allowed. sound-gives g _ _ _ (nothing 0 zero_small)))))))
  sound Fork valid fits left =
      sound-unless g _ _ _ _ (λ room. sound-unless g _ _ _ _ (λ allowed.
      let few : length w.processes < 16 = below _ _ room in
      sound-gives g _ _ _ (record { small = low_small (length w.processes) few; tree = standing.good.tree; table = few; queue = tt; state = tt })))
