-- First descriptors, opened one after another under any numbers.
use Rattle.std.proofs.Common.{◌≡◌, inl, inr, ℕ, zero, suc, ◌+◌, ◌<◌, true, false, List, [], ◌∷◌, length, take, drop, ◌-◌, refl, ap, sym, subst, ◌∙◌, arith}
use Rattle.std.specs.Prelude.{◌≢◌, ◌||◌, Option, Some, None, option_map}
use Rattle.std.specs.Option.{IsSome}
use Rattle.std.specs.List.{slice_get, slice_index_or, list_all}
use Rattle.std.proofs.lemmas.Bool.{ltb-true}
use Rattle.std.proofs.Math.Seq.{take-length}
use Rattle.std.proofs.Math.ListN.{length-drop}
use Rattle.rights.specs.Maps.{put2}
use Rattle.rights.proofs.Changes.{put-same}
use Rattle.rights.proofs.Lists.{list_all-slice_get}
use Rattle.rights.proofs.Tests.{both_left, both_right}
use Rattle.fd_table.specs.Descriptions.{Access, At_node, Descriptor, descriptor_of, new_state, IfHeld}
use Rattle.fd_table.specs.declared.descriptors.Entry.{Entry as EntryCode}
use Rattle.fd_table.specs.Views.{entry_seen}
use Rattle.fd_table.specs.Filled.{Entry, IsFreeAt, MayLimit, Opens, with_limit}
use Rattle.fd_table.specs.Openings.{described, with_opened, with_entry, with_table}
use Rattle.fd_table.specs.OpenFiles.{Alike, OpenFiles}
use Rattle.kernel.specs.Renamings.{Renaming, SameObject, SameFiles, renamed_descriptor, renamed_entry, renamed_object}
use Rattle.kernel.proofs.Aimed.{aimed, swap-left}
use Rattle.task.specs.Plans.{FirstObject, On_node, On_end}
use Rattle.task.specs.Limits.{all_apart}
use Rattle.task.specs.Begins.{description_of, end_description, node_description, first_object, object_given, first_entry, first_entries, first_files}
use Rattle.task.proofs.Openings.{at_node}
use Rattle.simulator.specs.declared.owned.OwnedDescriptor.{OwnedDescriptor as OwnedCode}
use Rattle.simulator.specs.OwnedViews.{owned_descriptor_of, owned_descriptors_of}
use Rattle.simulator.specs.Starts.{OwnedDescriptor, given_in, is_owned, owned_differ, are_owned, last_owned, whole_end, whole_or_none, waiting, awaiting, is_opened, is_below, are_among}
use Rattle.simulator.specs.Starts.{HasTable, IsOwnedEnd, Awaits}
use Rattle.simulator.proofs.Numbered.{then_alike, differs, retabled, put-twice, turned_same, described_same, filled_same}
use Rattle.simulator.proofs.Waiting.{Fits, IsOwned, Table, all_dropped, all_owned, apart_dropped, at_place, awaiting_away, awaiting_fits, owned_is, given_fits, given_here, last_away}
use Rattle.simulator.proofs.Waiting.{last_whole, put2-away, put2-here}

drop_at : {A : Type 0} (xs : List A) (k : ℕ) (x : A) → slice_get xs k ≡ Some x → drop k xs ≡ x ∷ drop (suc k) xs
drop_at [] k x is = absurd cc
drop_at (y ∷ xs) zero x is = let same : y ≡ x = cc in ap (λ z. z ∷ xs) same
drop_at (y ∷ xs) (suc k) x is = drop_at xs k x is

-- the one at an index, and those behind it
pub at_index : (owned : List OwnedCode) (k : ℕ) (none : OwnedCode) → k < length owned → slice_get (owned_descriptors_of owned) k ≡ Some (owned_descriptor_of (slice_index_or owned k none))
at_index [] k none low = absurd (omega arith)
at_index (g ∷ owned) zero none low = refl
at_index (g ∷ owned) (suc k) none low = at_index owned k none (omega arith)

pub behind : (owned : List OwnedCode) (k : ℕ) → owned_descriptors_of (drop k owned) ≡ drop k (owned_descriptors_of owned)
behind owned zero = refl
behind [] (suc k) = refl
behind (g ∷ owned) (suc k) = behind owned k

pub rest_of : (owned : List OwnedCode) (k : ℕ) → owned_descriptors_of (take (length owned - (k + 1)) (drop (k + 1) owned)) ≡ drop (suc k) (owned_descriptors_of owned)
rest_of owned k =
    let same : k + 1 ≡ suc k = omega arith in
    ap (λ n. owned_descriptors_of (take n (drop (k + 1) owned))) (sym (length-drop (k + 1) owned)) ∙ ap owned_descriptors_of (take-length (drop (k + 1) owned))
    ∙ behind owned (k + 1) ∙ ap (λ n. drop n (owned_descriptors_of owned)) same

pub next_index : (owned : List OwnedDescriptor) (k : ℕ) → drop (suc k) owned ≡ drop (k + 1) owned
next_index owned k = let same : suc k ≡ k + 1 = omega arith in ap (λ n. drop n owned) same

-- nothing is queued, and the table is another
abbrev with_entries : List OwnedDescriptor → Table → OpenFiles
with_entries owned table = with_table (first_files (given_in owned)) table

no_queue : (owned : List OwnedDescriptor) (table : Table) (pair side : ℕ) → (with_entries owned table).queue pair side ≡ []
unfolding first_files
no_queue owned table pair side = refl

first_state : (owned : List OwnedDescriptor) (n : ℕ) → (first_files (given_in owned)).states n ≡ new_state false
unfolding first_files
first_state owned n = refl

node_object : (owned : List OwnedDescriptor) (p n : ℕ) → n < 16 → (first_files (given_in owned)).objects (node_description p n) ≡ object_given (given_in owned p n)
unfolding first_files
node_object owned p n few = at_node (given_in owned) p n few

-- ## One descriptor, where those before it are open
module _ (owned : List OwnedDescriptor) (valid : are_owned owned ≡ true) (k : ℕ) (g : OwnedDescriptor) (here : slice_get owned k ≡ Some g) where
  abbrev later : List OwnedDescriptor
  later = drop (suc k) owned

  abbrev full : Table
  full = first_entries (given_in owned)

  abbrev waits : Table
  waits = awaiting full (g ∷ later)

  abbrev model : OpenFiles
  model = with_entries owned waits

  rest : drop k owned ≡ g ∷ later
  rest = drop_at owned k g here

  apart : all_apart owned_differ (g ∷ later) ≡ true
  apart = subst (λ xs. all_apart owned_differ xs ≡ true) rest (apart_dropped owned k (all_owned owned valid).1)

  pub as_owned : IsOwned g
  as_owned = owned_is g (list_all-slice_get is_owned owned k g (all_owned owned valid).0 here)

  pub begun : (f : OpenFiles) → Awaits owned (drop k owned) f → Awaits owned (g ∷ later) f
  begun f b = subst (λ xs. Awaits owned xs f) rest b

  own : waits g.process g.given.number ≡ waiting later g.given.object
  unfolding awaiting
  own = put2-here (awaiting full later) g.process g.given.number (waiting later g.given.object)

  -- once it is open it is as it is given
  done : awaiting full later g.process g.given.number ≡ Some (first_entry g.process g.given)
  done =
      awaiting_away full later g (both_left _ (all_apart owned_differ later) apart)
      ∙ ap (option_map (first_entry g.process)) (given_here owned k g (all_owned owned valid).1 here)

  next_table : (q m : ℕ) → awaiting full later q m ≡ put2 waits g.process g.given.number (Some (first_entry g.process g.given)) q m
  unfolding awaiting
  next_table = put-twice (awaiting full later) g.process g.given.number (waiting later g.given.object) (Some (first_entry g.process g.given)) done

  fits : (q m : ℕ) → IfHeld (λ d. Fits q m d.description) (waits q m)
  fits q m =
      awaiting_fits full (g ∷ later) (subst (λ xs. list_all is_owned xs ≡ true) rest (all_dropped is_owned owned k (all_owned owned valid).0)) q m
      (given_fits owned (all_owned owned valid).0 q m)

  -- ## A node
  module _ (node : ℕ) (access : Access) (of : g.given.object ≡ On_node node access) (f : OpenFiles) (b : Awaits owned (g ∷ later) f) where
    abbrev r : Renaming
    r = b.renaming

    abbrev number : ℕ
    number = node_description g.process g.given.number

    empty_now : waits g.process g.given.number ≡ None
    empty_now = own ∙ ap (waiting later) of

    pub node_free : f.table g.process g.given.number ≡ None
    node_free = b.files.table g.process g.given.number ∙ ap (renamed_entry r) empty_now

    other_number : (q m n : ℕ) → Fits q m n → (q ≡ g.process → m ≡ g.given.number → ⊥) → n ≢ number
    other_number q m n (inl at) away same =
        let is : n ≡ node_description q m = at.0 in
        let few : m < 16 = at.1 in
        let low : g.given.number < 16 = as_owned.number in
        away (omega (arith, same)) (omega (arith, same))
    other_number q m n (inr below) away same = absurd (omega (arith, same))

    unnamed_one : (q m : ℕ) (e : Option Descriptor) → waits q m ≡ e → IfHeld (λ d. Fits q m d.description) e → IfHeld (λ d. d.description ≢ number) e
    unnamed_one q m None is fit = tt
    unnamed_one q m (Some d) is fit =
        other_number q m d.description fit
        (λ process at. let none : None ≡ Some d = sym (ap (λ p. waits p m) process ∙ ap (waits g.process) at ∙ empty_now) ∙ is in absurd cc)

    unnamed : (q m : ℕ) → IfHeld (λ d. d.description ≢ number) (waits q m)
    unnamed q m = unnamed_one q m (waits q m) refl (fits q m)

    module _ (next : OpenFiles) (x : Opens f next g.process g.given.number node access false g.given.rights g.given.fcntls) where
      abbrev turned : Renaming
      turned = aimed r number x.description

      abbrev with_node : OpenFiles
      with_node = described f x.description (At_node node access) false

      at : turned.description number ≡ x.description
      at = swap-left (r.description number) x.description

      same : SameFiles turned model with_node
      same =
          described_same turned model f (turned_same r model f b.files (no_queue owned waits) number x.description unnamed x.fresh)
          (no_queue owned waits) x.description x.fresh (At_node node access) false

      object : (first_files (given_in owned)).objects number ≡ At_node node access
      object = node_object owned g.process g.given.number as_owned.number ∙ ap object_given (given_here owned k g (all_owned owned valid).1 here) ∙ ap first_object of

      twin : SameObject turned model with_node number
      twin = record {
        object = ap with_node.objects at ∙ put-same f.objects x.description (At_node node access) ∙ sym (ap (renamed_object turned) object);
        state = ap with_node.states at ∙ put-same f.states x.description (new_state false) ∙ sym (first_state owned number);
      }

      filled : SameFiles turned (with_entry model g.process g.given.number (Some (descriptor_of number g.given.rights g.given.fcntls)))
          (with_opened f x.description g.process g.given.number node access false g.given.rights g.given.fcntls)
      filled =
          subst (λ n. SameFiles turned (with_entry model g.process g.given.number (Some (descriptor_of number g.given.rights g.given.fcntls)))
          (with_entry with_node g.process g.given.number (Some (descriptor_of n g.given.rights g.given.fcntls)))) at
          (filled_same turned model with_node same (no_queue owned waits) g.process g.given.number (descriptor_of number g.given.rights g.given.fcntls) twin)

      entry : Some (first_entry g.process g.given) ≡ Some (descriptor_of number g.given.rights g.given.fcntls)
      entry = ap (λ (o : FirstObject). Some (descriptor_of (description_of g.process g.given.number o) g.given.rights g.given.fcntls)) of

      pub node_opened : Awaits owned later next
      node_opened =
          then_alike (with_entries owned (awaiting full later)) _ next
          (differs turned _ _
          (retabled turned (with_entry model g.process g.given.number (Some (descriptor_of number g.given.rights g.given.fcntls))) _ (awaiting full later)
          (λ q m. next_table q m ∙ ap (λ e. put2 waits g.process g.given.number e q m) entry) (no_queue owned waits) filled))
          x.alike

  -- ## An end
  module _ (pair side : ℕ) (of : g.given.object ≡ On_end pair side) where
    -- the entry has the end with all rights
    abbrev pub Ready : OpenFiles → Type 0
    Ready f = HasTable owned (put2 waits g.process g.given.number (Some (whole_end pair side))) f

    -- it had so before, or shares it
    pub ready_own : (f : OpenFiles) → Awaits owned (g ∷ later) f → last_owned pair side later ≡ None → Ready f
    ready_own f b none =
        differs b.renaming _ f (retabled b.renaming model f (put2 waits g.process g.given.number (Some (whole_end pair side))) same (no_queue owned waits) b.files)
      where
        here_now : waits g.process g.given.number ≡ Some (whole_end pair side)
        here_now = own ∙ ap (waiting later) of ∙ ap (λ o. whole_or_none o pair side) none

        same : (q m : ℕ) → put2 waits g.process g.given.number (Some (whole_end pair side)) q m ≡ waits q m
        same q m =
            at_place (λ x. x ≡ waits q m) waits g.process g.given.number (Some (whole_end pair side)) q m
            (λ process number. sym (ap (λ p. waits p m) process ∙ ap (waits g.process) number ∙ here_now)) (λ _. refl)

    module _ (f : OpenFiles) (b : Awaits owned (g ∷ later) f) (e : Entry) (found : last_owned pair side later ≡ Some e) where
      source_waits : waits e.process e.number ≡ Some (whole_end pair side)
      unfolding awaiting
      source_waits =
          put2-away (awaiting full later) g.process g.given.number (waiting later g.given.object) e.process e.number
          (last_away pair side later g e (both_left _ (all_apart owned_differ later) apart) found)
          ∙ last_whole full pair side later e (both_right (list_all (owned_differ g) later) _ apart) found

      pub source_is : f.table e.process e.number ≡ Some (renamed_descriptor b.renaming (whole_end pair side))
      source_is = b.files.table e.process e.number ∙ ap (renamed_entry b.renaming) source_waits

      pub end_free : f.table g.process g.given.number ≡ None
      end_free = b.files.table g.process g.given.number ∙ ap (renamed_entry b.renaming) (own ∙ ap (waiting later) of ∙ ap (λ o. whole_or_none o pair side) found)

      source_twin : SameObject b.renaming model f (end_description pair side)
      source_twin = subst (IfHeld (λ d. SameObject b.renaming model f d.description)) source_waits (b.files.entries e.process e.number)

      pub ready_shared : (next : OpenFiles) → Alike (with_entry f g.process g.given.number (f.table e.process e.number)) next → Ready next
      ready_shared next alike =
          then_alike _ _ next
          (differs b.renaming _ _ (filled_same b.renaming model f b.files (no_queue owned waits) g.process g.given.number (whole_end pair side) source_twin))
          (subst (λ x. Alike (with_entry f g.process g.given.number x) next) source_is alike)

    -- then it is limited
    module _ (f : OpenFiles) (b : Ready f) where
      abbrev readied : Table
      readied = put2 waits g.process g.given.number (Some (whole_end pair side))

      pub entry_is : f.table g.process g.given.number ≡ Some (renamed_descriptor b.renaming (whole_end pair side))
      entry_is = b.files.table g.process g.given.number ∙ ap (renamed_entry b.renaming) (put2-here waits g.process g.given.number (Some (whole_end pair side)))

      pub may_limit : MayLimit (f.table g.process g.given.number) g.given.rights g.given.fcntls
      may_limit = subst (λ x. MayLimit x g.given.rights g.given.fcntls) (sym entry_is) (as_owned.rights, as_owned.fcntls)

      end_twin : SameObject b.renaming (with_entries owned readied) f (end_description pair side)
      end_twin =
          subst (IfHeld (λ d. SameObject b.renaming (with_entries owned readied) f d.description)) (put2-here waits g.process g.given.number (Some (whole_end pair side)))
          (b.files.entries g.process g.given.number)

      abbrev narrow : Descriptor
      narrow = descriptor_of (end_description pair side) g.given.rights g.given.fcntls

      end_entry : Some (first_entry g.process g.given) ≡ Some narrow
      end_entry = ap (λ (o : FirstObject). Some (descriptor_of (description_of g.process g.given.number o) g.given.rights g.given.fcntls)) of

      twice : (q m : ℕ) → awaiting full later q m ≡ put2 readied g.process g.given.number (Some narrow) q m
      unfolding awaiting
      twice q m =
          at_place (λ x. awaiting full later q m ≡ x) readied g.process g.given.number (Some narrow) q m
          (λ process number. ap (λ p. awaiting full later p m) process ∙ ap (awaiting full later g.process) number ∙ done ∙ end_entry)
          (λ away.
          sym (put2-away waits g.process g.given.number (Some (whole_end pair side)) q m away ∙ put2-away (awaiting full later) g.process g.given.number (waiting later g.given.object) q m away))

      pub end_opened : (next : OpenFiles) → Alike (with_limit f g.process g.given.number g.given.rights g.given.fcntls) next → Awaits owned later next
      end_opened next alike =
          then_alike (with_entries owned (awaiting full later)) _ next
          (differs b.renaming _ _
          (retabled b.renaming (with_entry (with_entries owned readied) g.process g.given.number (Some narrow)) _ (awaiting full later) twice (no_queue owned readied)
          (filled_same b.renaming (with_entries owned readied) f b.files (no_queue owned readied) g.process g.given.number narrow end_twin)))
          (subst (λ x. Alike (with_entry f g.process g.given.number (option_map (λ (d : Descriptor). record d { rights = g.given.rights; fcntls = g.given.fcntls }) x)) next) entry_is alike)

-- ## The same of the code's list
module _ (owned : List OwnedCode) (k : ℕ) (none : OwnedCode) (low : k < length owned) (valid : are_owned (owned_descriptors_of owned) ≡ true) where
  abbrev pub owned_at : OwnedDescriptor
  owned_at = owned_descriptor_of (slice_index_or owned k none)

  pub is_at : slice_get (owned_descriptors_of owned) k ≡ Some owned_at
  is_at = at_index owned k none low

  pub is_owned_at : IsOwned owned_at
  is_owned_at = as_owned (owned_descriptors_of owned) valid k owned_at is_at

  abbrev given_all : List OwnedDescriptor
  given_all = owned_descriptors_of owned

  pub next_awaits : (f : OpenFiles) → Awaits given_all (drop (suc k) given_all) f → Awaits given_all (drop (k + 1) given_all) f
  next_awaits f b = subst (λ xs. Awaits given_all xs f) (next_index given_all k) b

  module _ (pair side : ℕ) (is : IsOwnedEnd (slice_get (owned_descriptors_of owned) k) pair side) (f : OpenFiles)
      (b : Awaits (owned_descriptors_of owned) (drop k (owned_descriptors_of owned)) f) (o : Option EntryCode)
      (last : option_map entry_seen o ≡ last_owned pair side (owned_descriptors_of (take (length owned - (k + 1)) (drop (k + 1) owned)))) where
    pub of : owned_at.given.object ≡ On_end pair side
    of = subst (λ g. IsOwnedEnd g pair side) is_at is

    last_is : (e : Option EntryCode) → o ≡ e → last_owned pair side (drop (suc k) (owned_descriptors_of owned)) ≡ option_map entry_seen e
    last_is e same = sym (last ∙ ap (last_owned pair side) (rest_of owned k)) ∙ ap (option_map entry_seen) same

    waits_now : Awaits (owned_descriptors_of owned) (owned_at ∷ drop (suc k) (owned_descriptors_of owned)) f
    waits_now = begun (owned_descriptors_of owned) valid k owned_at is_at f b

    abbrev pub IsReady : OpenFiles → Type 0
    IsReady g = Ready (owned_descriptors_of owned) valid k owned_at is_at pair side of g

    pub share_there : (e : EntryCode) → o ≡ Some e → IsSome (f.table e.process e.number)
    share_there e same = subst IsSome (sym (source_is (owned_descriptors_of owned) valid k owned_at is_at pair side of f waits_now (entry_seen e) (last_is (Some e) same))) refl

    pub share_free : (e : EntryCode) → o ≡ Some e → IsFreeAt f owned_at.process owned_at.given.number
    share_free e same =
        (is_owned_at.process, is_owned_at.number, end_free (owned_descriptors_of owned) valid k owned_at is_at pair side of f waits_now (entry_seen e) (last_is (Some e) same))

    pub ready_alone : o ≡ None → IsReady f
    ready_alone same = ready_own (owned_descriptors_of owned) valid k owned_at is_at pair side of f waits_now (last_is None same)

    pub ready_by : (e : EntryCode) → o ≡ Some e → (next : OpenFiles) → Alike (with_entry f owned_at.process owned_at.given.number (f.table e.process e.number)) next → IsReady next
    ready_by e same next alike = ready_shared (owned_descriptors_of owned) valid k owned_at is_at pair side of f waits_now (entry_seen e) (last_is (Some e) same) next alike

    pub ready_may : (g : OpenFiles) → IsReady g → MayLimit (g.table owned_at.process owned_at.given.number) owned_at.given.rights owned_at.given.fcntls
    ready_may g r = may_limit (owned_descriptors_of owned) valid k owned_at is_at pair side of g r

    pub ready_opened : (g : OpenFiles) → IsReady g → (next : OpenFiles) →
        Alike (with_limit g owned_at.process owned_at.given.number owned_at.given.rights owned_at.given.fcntls) next →
        Awaits (owned_descriptors_of owned) (drop (k + 1) (owned_descriptors_of owned)) next
    ready_opened g r next alike = next_awaits next (end_opened (owned_descriptors_of owned) valid k owned_at is_at pair side of g r next alike)

  module _ (node : ℕ) (access : Access) (is : owned_at.given.object ≡ On_node node access) where
    pub used : (access.readable || access.writable) ≡ true
    used = subst (λ x. is_opened x ≡ true) is is_owned_at.object

    pub is_there : (nodes : ℕ) → are_among nodes (owned_descriptors_of owned) ≡ true → node < nodes
    is_there nodes all =
        let below = list_all-slice_get (λ (g : OwnedDescriptor). is_below nodes g.given.object) given_all k owned_at all is_at in
        ltb-true node nodes (subst (λ x. is_below nodes x ≡ true) is below)

    module _ (f : OpenFiles) (b : Awaits (owned_descriptors_of owned) (drop k (owned_descriptors_of owned)) f) where
      pub is_free : IsFreeAt f owned_at.process owned_at.given.number
      is_free =
          let free = node_free given_all valid k owned_at is_at node access is f (begun given_all valid k owned_at is_at f b) in
          (is_owned_at.process, is_owned_at.number, free)

      pub awaits_opened : (next : OpenFiles) →
          Opens f next owned_at.process owned_at.given.number node access false owned_at.given.rights owned_at.given.fcntls →
          Awaits (owned_descriptors_of owned) (drop (k + 1) (owned_descriptors_of owned)) next
      awaits_opened next x = next_awaits next (node_opened (owned_descriptors_of owned) valid k owned_at is_at node access is f (begun (owned_descriptors_of owned) valid k owned_at is_at f b) next x)
