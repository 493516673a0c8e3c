-- The table of the acting process after a change, slot by slot, and that of its child.
use Rattle.std.proofs.Common.{◌≡◌, ◌≢◌, ℕ, zero, suc, ◌+◌, ◌<◌, true, Bool, List, [], ◌∷◌, refl, ap, sym, ◌∙◌, subst, arith}
use Rattle.std.specs.Prelude.{slice_set, Option, Some, None}
use Rattle.std.specs.Option.{option_map}
use Rattle.std.specs.Cmp.Derive.{both_true}
use Rattle.rights.specs.Maps.{put, put2}
use Rattle.rights.specs.Sets.{all_rights, all_commands}
use Rattle.rights.proofs.Changes.{put-same, put-other}
use Rattle.rights.proofs.Tests.{both_left, both_right}
use Rattle.certificate.specs.Bounds.{Slot}
use Rattle.certificate.specs.Describes.{Seen, Holds, slot_describes, slots_describe}
use Rattle.fd_table.specs.Descriptions.{Access, PairClass, Object, At_node, At_end, Descriptor, descriptor_of}
use Rattle.kernel.specs.World.{World, Choice}
use Rattle.kernel.specs.Answers.{TableChange, Same_table, Set_entry, Clear_entry, New_file, New_pair, New_process, QueueChange}
use Rattle.kernel.specs.Changes.{objects_after, table_after}
use Rattle.task.specs.Plans.{Plan}
use Rattle.task.specs.Policies.{grant_holds}
use Rattle.rules.specs.Seen.{seen_of, table_seen}
use Rattle.rules.proofs.frames.Frames.{Frame, entry_stays}

-- ## One number of a row, and its slot
module _ (holds : Holds) (row next : ℕ → Option Seen) (n : ℕ) (goes_on : (s : Slot) (m : ℕ) → m ≢ n → slot_describes holds s (row m) ≡ true → slot_describes holds s (next m) ≡ true) where
  slots_beyond : (k : ℕ) (slots : List Slot) → n < k → slots_describe holds k slots row ≡ true → slots_describe holds k slots next ≡ true
  slots_beyond k [] past is = is
  slots_beyond k (s ∷ slots) past is =
      both_true
      (goes_on s k (λ same. absurd (omega (arith, same, past))) (both_left _ (slots_describe holds (k + 1) slots row) is))
      (slots_beyond (k + 1) slots (omega (arith, past)) (both_right (slot_describes holds s (row k)) _ is))

  slots_put : (at : Slot) → slot_describes holds at (next n) ≡ true → (k : ℕ) (slots : List Slot) (j : ℕ) → n ≡ k + j
      → slots_describe holds k slots row ≡ true → slots_describe holds k (slice_set slots j at) next ≡ true
  slots_put at fits k [] j sum is = is
  slots_put at fits k (s ∷ slots) zero sum is =
      let here : n ≡ k = omega (arith, sum) in
      both_true
      (subst (λ m. slot_describes holds at (next m) ≡ true) here fits)
      (slots_beyond (k + 1) slots (omega (arith, here)) (both_right (slot_describes holds s (row k)) _ is))
  slots_put at fits k (s ∷ slots) (suc j) sum is =
      both_true
      (goes_on s k (λ same. absurd (omega (arith, same, sum))) (both_left _ (slots_describe holds (k + 1) slots row) is))
      (slots_put at fits (k + 1) slots j (omega (arith, sum)) (both_right (slot_describes holds s (row k)) _ is))

-- a row of descriptors, as a bound sees it
abbrev pub row_of : Plan → World → (ℕ → Option Descriptor) → ℕ → Option Seen
row_of plan w row n = option_map (seen_of plan w) (row n)

-- A number of a row and its slot are changed together.
pub row_put : (plan : Plan) (w : World) (row : ℕ → Option Descriptor) (n : ℕ) (o : Option Descriptor) (slots : List Slot) (at : Slot)
    → slot_describes (grant_holds plan.grants) at (option_map (seen_of plan w) o) ≡ true
    → slots_describe (grant_holds plan.grants) 0 slots (row_of plan w row) ≡ true
    → slots_describe (grant_holds plan.grants) 0 (slice_set slots n at) (row_of plan w (put row n o)) ≡ true
row_put plan w row n o slots at fits is =
    slots_put (grant_holds plan.grants) (row_of plan w row) (row_of plan w (put row n o)) n
    (λ s m other here. subst (λ x. slot_describes (grant_holds plan.grants) s (option_map (seen_of plan w) x) ≡ true) (sym (put-other row n o m other)) here)
    at (subst (λ x. slot_describes (grant_holds plan.grants) at (option_map (seen_of plan w) x) ≡ true) (sym (put-same row n o)) fits)
    0 slots n (omega arith) is

-- A row of the world before is described as well after it.
module _ (plan : Plan) (w v : World) (choice : Choice) (queue : QueueChange) (p : ℕ) (frame : Frame plan w v choice queue p) where
  rows_stay : (q k : ℕ) (slots : List Slot) → slots_describe (grant_holds plan.grants) k slots (table_seen plan w q) ≡ true
      → slots_describe (grant_holds plan.grants) k slots (row_of plan v (w.files.table q)) ≡ true
  rows_stay q k [] is = is
  rows_stay q k (s ∷ slots) is =
      both_true
      (entry_stays plan w v choice queue p frame s q k (both_left _ (slots_describe (grant_holds plan.grants) (k + 1) slots (table_seen plan w q)) is))
      (rows_stay q (k + 1) slots (both_right (slot_describes (grant_holds plan.grants) s (table_seen plan w q k)) _ is))

  pub row_stays : (q : ℕ) (slots : List Slot) → slots_describe (grant_holds plan.grants) 0 slots (table_seen plan w q) ≡ true
      → slots_describe (grant_holds plan.grants) 0 slots (row_of plan v (w.files.table q)) ≡ true
  row_stays q slots is = rows_stay q 0 slots is

-- ## The rows after a change
abbrev pub row_after : (ℕ → Option Descriptor) → Choice → TableChange → ℕ → Option Descriptor
row_after row choice Same_table = row
row_after row choice (Set_entry number d) = put row number (Some d)
row_after row choice (Clear_entry number) = put row number None
row_after row choice (New_file number n access append rights fcntls) = put row number (Some (descriptor_of choice.first rights fcntls))
row_after row choice (New_pair first second class) =
    put (put row first (Some (descriptor_of choice.first all_rights all_commands))) second
    (Some (descriptor_of choice.second all_rights all_commands))
row_after row choice New_process = row

pub own_row : (table : ℕ → ℕ → Option Descriptor) (p made : ℕ) (choice : Choice) (change : TableChange) → p ≢ made
    → table_after table p made choice change p ≡ row_after (table p) choice change
own_row table p made choice Same_table old = refl
own_row table p made choice (Set_entry number d) old = put-same table p (put (table p) number (Some d))
own_row table p made choice (Clear_entry number) old = put-same table p (put (table p) number None)
own_row table p made choice (New_file number n access append rights fcntls) old =
    put-same table p (put (table p) number (Some (descriptor_of choice.first rights fcntls)))
own_row table p made choice (New_pair first second class) old =
    let one : Option Descriptor = Some (descriptor_of choice.first all_rights all_commands) in
    let other : Option Descriptor = Some (descriptor_of choice.second all_rights all_commands) in
    put-same (put2 table p first one) p (put (put2 table p first one p) second other)
    ∙ ap (λ (row : ℕ → Option Descriptor). put row second other) (put-same table p (put (table p) first one))
own_row table p made choice New_process old = put-other table made (table p) p old

-- a child has its parent's row
pub child_row : (table : ℕ → ℕ → Option Descriptor) (p made : ℕ) (choice : Choice) → table_after table p made choice New_process made ≡ table p
child_row table p made choice = put-same table made (table p)

-- ## What new descriptions are of
pub file_object : (objects : ℕ → Object) (choice : Choice) (number n : ℕ) (access : Access) (append : Bool) (rights fcntls : ℕ)
    → objects_after objects choice (New_file number n access append rights fcntls) choice.first ≡ At_node n access
file_object objects choice number n access append rights fcntls = put-same objects choice.first (At_node n access)

pub first_object : (objects : ℕ → Object) (choice : Choice) (first second : ℕ) (class : PairClass) → choice.first ≢ choice.second
    → objects_after objects choice (New_pair first second class) choice.first ≡ At_end choice.pair 0 class
first_object objects choice first second class apart =
    put-other (put objects choice.first (At_end choice.pair 0 class)) choice.second (At_end choice.pair 1 class) choice.first apart
    ∙ put-same objects choice.first (At_end choice.pair 0 class)

pub second_object : (objects : ℕ → Object) (choice : Choice) (first second : ℕ) (class : PairClass)
    → objects_after objects choice (New_pair first second class) choice.second ≡ At_end choice.pair 1 class
second_object objects choice first second class =
    put-same (put objects choice.first (At_end choice.pair 0 class)) choice.second (At_end choice.pair 1 class)
