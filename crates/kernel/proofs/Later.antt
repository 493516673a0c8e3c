-- What a call leaves known and makes anew, part by part.
use Rattle.std.proofs.Common.{◌≡◌, ℕ, zero, suc, ◌+◌, ◌<◌, ◌≤◌, Bool, true, false, List, [], ◌∷◌, ◌++◌, refl, length, drop, arith, subst, ap, sym, ◌∙◌, length-append, length-drop}
use Rattle.std.specs.Prelude.{◌≢◌, Option, Some, None, nat_lt, cond}
use Rattle.std.proofs.lemmas.Bool.{cond_both, ltb-true, eq-eqb, both_ways}
use Rattle.std.proofs.lemmas.Bool.Decides.{nat_tests}
use Rattle.rights.specs.Sets.{is_within, all_rights, all_commands}
use Rattle.rights.specs.Maps.{put, put2}
use Rattle.rights.proofs.Changes.{put-cases, put2-cases, put-other}
use Rattle.rights.proofs.Subsets.{is_within-refl}
use Rattle.file_tree.specs.Nodes.{Node, node, is_link}
use Rattle.rights.specs.Limits.{most_bytes, most_messages}
use Rattle.fd_table.specs.Descriptions.{Access, PairClass, Object, At_node, At_end, State, Descriptor, Message, new_state, descriptor_of, IfHeld}
use Rattle.fd_table.specs.OpenFiles.{is_end}
use Rattle.kernel.specs.World.{World, Choice, IsFresh}
use Rattle.kernel.specs.Answers.{TreeChange, TableChange, Same_table, Set_entry, Clear_entry, New_file, New_pair, New_process, QueueChange, Same_queue, Push, Pop, StateChange, Same_state, Set_state}
use Rattle.kernel.specs.Changes.{tree_after, objects_after, new_states, states_after, queue_after, pairs_after, table_after}
use Rattle.kernel.specs.Steps.{Programs}
use Rattle.kernel.specs.WellFormed.{Numbering, IsObject, IsDescriptor, EachMessage, IsWorld}
use Rattle.kernel.proofs.Trees.{opened_kept}
use Rattle.kernel.proofs.Brings.{ground, Known, BringsTable, BringsQueue, BringsState}
use Rattle.kernel.proofs.Fresh.{IsApart, held_map, each_map, known_entries, known_messages}

-- What there is to know of the numbers then.
abbrev ends_of : ℕ → ℕ → ℕ → ℕ
ends_of first second zero = first
ends_of first second (suc side) = second

abbrev holder_after : (ℕ → ℕ → ℕ) → Choice → TableChange → ℕ → ℕ → ℕ
holder_after holder choice (New_pair first second class) = put holder choice.pair (ends_of choice.first choice.second)
holder_after holder choice _ = holder

abbrev class_after : (ℕ → PairClass) → Choice → TableChange → ℕ → PairClass
class_after of choice (New_pair first second class) = put of choice.pair class
class_after of choice _ = of

abbrev pub numbering_after : Numbering → Choice → TableChange → Numbering
numbering_after numbering choice table = record {
  descriptions = numbering.descriptions + choice.first + choice.second + 2;
  pairs = numbering.pairs + choice.pair + 1;
  holder = holder_after numbering.holder choice table;
  class = class_after numbering.class choice table;
}

holder-kept : (holder : ℕ → ℕ → ℕ) (choice : Choice) (table : TableChange) (pair side : ℕ) → pair ≢ choice.pair → holder_after holder choice table pair side ≡ holder pair side
holder-kept holder choice Same_table pair side other = refl
holder-kept holder choice (Set_entry number d) pair side other = refl
holder-kept holder choice (Clear_entry number) pair side other = refl
holder-kept holder choice (New_file number n access append rights fcntls) pair side other = refl
holder-kept holder choice (New_pair first second class) pair side other =
    ap (λ (row : ℕ → ℕ). row side) (put-other holder choice.pair (ends_of choice.first choice.second) pair other)
holder-kept holder choice New_process pair side other = refl

class-kept : (of : ℕ → PairClass) (choice : Choice) (table : TableChange) (pair : ℕ) → pair ≢ choice.pair → class_after of choice table pair ≡ of pair
class-kept of choice Same_table pair other = refl
class-kept of choice (Set_entry number d) pair other = refl
class-kept of choice (Clear_entry number) pair other = refl
class-kept of choice (New_file number n access append rights fcntls) pair other = refl
class-kept of choice (New_pair first second class) pair other = put-other of choice.pair class pair other
class-kept of choice New_process pair other = refl

pub object-kept : (objects : ℕ → Object) (choice : Choice) (table : TableChange) (n : ℕ) → n ≢ choice.first → n ≢ choice.second → objects_after objects choice table n ≡ objects n
object-kept objects choice Same_table n one two = refl
object-kept objects choice (Set_entry number d) n one two = refl
object-kept objects choice (Clear_entry number) n one two = refl
object-kept objects choice (New_file number m access append rights fcntls) n one two = put-other objects choice.first (At_node m access) n one
object-kept objects choice (New_pair first second class) n one two =
    put-other (put objects choice.first (At_end choice.pair 0 class)) choice.second (At_end choice.pair 1 class) n two
    ∙ put-other objects choice.first (At_end choice.pair 0 class) n one
object-kept objects choice New_process n one two = refl

IsNear : State → Type 0
IsNear state = state.offset ≤ most_bytes

new-near : (append : Bool) → IsNear (new_state append)
unfolding IsNear
new-near append = omega arith

states-near : (states : ℕ → State) (choice : Choice) (table : TableChange) (n : ℕ) → IsNear (states n) → IsNear (new_states states choice table n)
states-near states choice Same_table n near = near
states-near states choice (Set_entry number d) n near = near
states-near states choice (Clear_entry number) n near = near
states-near states choice (New_file number m access append rights fcntls) n near = put-cases IsNear states choice.first (new_state append) n (λ _. new-near append) (λ _. near)
states-near states choice (New_pair first second class) n near =
    put-cases IsNear (put states choice.first (new_state false)) choice.second (new_state false) n (λ _. new-near false)
    (λ _. put-cases IsNear states choice.first (new_state false) n (λ _. new-near false) (λ _. near))
states-near states choice New_process n near = near

state-near : (states : ℕ → State) (change : StateChange) (n : ℕ) → BringsState change → IsNear (states n) → IsNear (states_after states change n)
unfolding IsNear
state-near states Same_state n brings near = near
state-near states (Set_state m state) n brings near = put-cases (λ (s : State). s.offset ≤ most_bytes) states m state n (λ _. brings) (λ _. near)

module _ (programs : Programs) (numbering : Numbering) (w : World) (good : IsWorld programs numbering w) (choice : Choice) (fresh : IsFresh w.files choice) where
  -- a descriptor that is well formed then
  abbrev pub Later : TreeChange → TableChange → StateChange → Descriptor → Type 0
  Later tree table state =
      IsDescriptor (tree_after w.tree tree) (numbering_after numbering choice table) (objects_after w.files.objects choice table)
      (states_after (new_states w.files.states choice table) state)

  near : (table : TableChange) (state : StateChange) (n : ℕ) → BringsState state → IsNear (w.files.states n) → (states_after (new_states w.files.states choice table) state n).offset ≤ most_bytes
  unfolding IsNear
  near table state n brings old =
      state-near (new_states w.files.states choice table) state n brings (states-near w.files.states choice table n old)

  other_pair : (q s : ℕ) (class : PairClass) → is_end choice.pair s (At_end q s class) ≡ false → q ≢ choice.pair
  other_pair q s class none same = both_ways (is_end choice.pair s (At_end q s class)) none (rw (eq-eqb q choice.pair same, eq-eqb s s refl) refl)

  still_object : (tree : TreeChange) (table : TableChange) (n : ℕ) (o : Object) → IsObject w.tree numbering n o →
      ((side : ℕ) → is_end choice.pair side o ≡ false) → IsObject (tree_after w.tree tree) (numbering_after numbering choice table) n o
  still_object tree table n (At_node m access) fine ends = opened_kept w.tree tree m fine
  still_object tree table n (At_end q s class) fine ends =
      let below : q < numbering.pairs = fine.0 in
      let other : q ≢ choice.pair = other_pair q s class (ends s) in (
        omega arith,
        fine.1,
        holder-kept numbering.holder choice table q s other ∙ fine.2,
        class-kept numbering.class choice table q other ∙ fine.3,
      )

  -- What is known stays well formed.
  pub still : (tree : TreeChange) (table : TableChange) (state : StateChange) → BringsState state → (d : Descriptor) → Known (ground numbering w (IsApart w.files choice)) d → Later tree table state d
  unfolding IsNear
  still tree table state brings d known =
      let low : d.description < numbering.descriptions = known.0.number in
      record {
        number = omega arith;
        rights = known.0.rights;
        fcntls = known.0.fcntls;
        object = subst (IsObject (tree_after w.tree tree) (numbering_after numbering choice table) d.description)
            (sym (object-kept w.files.objects choice table d.description known.1.first known.1.second))
            (still_object tree table d.description (w.files.objects d.description) known.0.object known.1.ends);
        offset = near table state d.description brings known.0.offset;
      }

  -- A new file is well formed, and so are both ends of a new pair.
  new_file : (tree : TreeChange) (state : StateChange) (number n : ℕ) (access : Access) (append : Bool) (rights fcntls : ℕ) → BringsState state →
      is_link (node (tree_after w.tree tree) n).kind ≡ false → is_within rights all_rights ≡ true → is_within fcntls all_commands ≡ true →
      Later tree (New_file number n access append rights fcntls) state (descriptor_of choice.first rights fcntls)
  unfolding IsNear
  new_file tree state number n access append rights fcntls brings opened all also = record {
    number = omega arith;
    rights = all;
    fcntls = also;
    object =
        put-cases (IsObject (tree_after w.tree tree)
        (numbering_after numbering choice (New_file number n access append rights fcntls)) choice.first) w.files.objects choice.first
        (At_node n access) choice.first
        (λ _. opened) (λ other. absurd (other refl));
    offset =
        state-near (new_states w.files.states choice (New_file number n access append rights fcntls)) state choice.first brings
        (put-cases IsNear w.files.states choice.first (new_state append) choice.first (λ _. new-near append) (λ other. absurd (other refl)));
  }

  end_of : (first second side : ℕ) (class : PairClass) (description : ℕ) → side < 2 → ends_of choice.first choice.second side ≡ description →
      (tree : TreeChange) → IsObject (tree_after w.tree tree) (numbering_after numbering choice (New_pair first second class)) description
      (At_end choice.pair side class)
  end_of first second side class description low is tree = (
    omega arith,
    low,
    put-cases (λ (row : ℕ → ℕ). row side ≡ description) numbering.holder choice.pair (ends_of choice.first choice.second) choice.pair (λ _. is) (λ other. absurd (other refl)),
    put-cases (λ c. c ≡ class) numbering.class choice.pair class choice.pair (λ _. refl) (λ other. absurd (other refl)),
  )

  new_first : (tree : TreeChange) (state : StateChange) (first second : ℕ) (class : PairClass) → BringsState state →
      Later tree (New_pair first second class) state (descriptor_of choice.first all_rights all_commands)
  unfolding IsNear
  new_first tree state first second class brings =
      let one : ℕ → Object = put w.files.objects choice.first (At_end choice.pair 0 class) in
      let IsFirst : Object → Type 0 = IsObject (tree_after w.tree tree) (numbering_after numbering choice (New_pair first second class)) choice.first in
      record {
        number = omega arith;
        rights = is_within-refl all_rights;
        fcntls = is_within-refl all_commands;
        object =
            put-cases IsFirst one choice.second (At_end choice.pair 1 class) choice.first (λ same. absurd (fresh.apart same))
            (λ _. put-cases IsFirst w.files.objects choice.first (At_end choice.pair 0 class) choice.first
            (λ _. end_of first second 0 class choice.first (omega arith) refl tree) (λ other. absurd (other refl)));
        offset =
            state-near (new_states w.files.states choice (New_pair first second class)) state choice.first brings
            (put-cases IsNear (put w.files.states choice.first (new_state false)) choice.second (new_state false) choice.first (λ _. new-near false)
            (λ _. put-cases IsNear w.files.states choice.first (new_state false) choice.first (λ _. new-near false) (λ other. absurd (other refl))));
      }

  new_second : (tree : TreeChange) (state : StateChange) (first second : ℕ) (class : PairClass) → BringsState state →
      Later tree (New_pair first second class) state (descriptor_of choice.second all_rights all_commands)
  unfolding IsNear
  new_second tree state first second class brings =
      let one : ℕ → Object = put w.files.objects choice.first (At_end choice.pair 0 class) in
      let IsSecond : Object → Type 0 = IsObject (tree_after w.tree tree) (numbering_after numbering choice (New_pair first second class)) choice.second in
      record {
        number = omega arith;
        rights = is_within-refl all_rights;
        fcntls = is_within-refl all_commands;
        object =
            put-cases IsSecond one choice.second (At_end choice.pair 1 class) choice.second
            (λ _. end_of first second 1 class choice.second (omega arith) refl tree) (λ other. absurd (other refl));
        offset =
            state-near (new_states w.files.states choice (New_pair first second class)) state choice.second brings
            (put-cases IsNear (put w.files.states choice.first (new_state false)) choice.second (new_state false) choice.second (λ _. new-near false) (λ other. absurd (other refl)));
      }

  -- ## The tables
  old_entry : (tree : TreeChange) (table : TableChange) (state : StateChange) → BringsState state → (q n : ℕ) → IfHeld (Later tree table state) (w.files.table q n)
  old_entry tree table state brings q n =
      held_map (Known (ground numbering w (IsApart w.files choice))) (Later tree table state) (still tree table state brings) (w.files.table q n)
      (known_entries programs numbering w good choice fresh q n)

  pub entries_later : (p made : ℕ) (tree : TreeChange) (table : TableChange) (state : StateChange) →
      BringsTable (Known (ground numbering w (IsApart w.files choice))) (tree_after w.tree tree) made table → BringsState state → (q n : ℕ) →
      IfHeld (Later tree table state) (table_after w.files.table p made choice table q n)
  entries_later p made tree Same_table state brings near q n = old_entry tree Same_table state near q n
  entries_later p made tree (Set_entry number d) state brings near q n =
      put2-cases (IfHeld (Later tree (Set_entry number d) state)) w.files.table p number (Some d) q n
      (still tree (Set_entry number d) state near d brings.1) (old_entry tree (Set_entry number d) state near q n)
  entries_later p made tree (Clear_entry number) state brings near q n =
      put2-cases (IfHeld (Later tree (Clear_entry number) state)) w.files.table p number None q n tt (old_entry tree (Clear_entry number) state near q n)
  entries_later p made tree (New_file number m access append rights fcntls) state brings near q n =
      put2-cases (IfHeld (Later tree (New_file number m access append rights fcntls) state)) w.files.table p number (Some (descriptor_of choice.first rights fcntls)) q n
      (new_file tree state number m access append rights fcntls near brings.1 brings.2 brings.3)
      (old_entry tree (New_file number m access append rights fcntls) state near q n)
  entries_later p made tree (New_pair first second class) state brings near q n =
      put2-cases (IfHeld (Later tree (New_pair first second class) state))
      (put2 w.files.table p first (Some (descriptor_of choice.first all_rights all_commands))) p second
      (Some (descriptor_of choice.second all_rights all_commands)) q n
      (new_second tree state first second class near)
      (put2-cases (IfHeld (Later tree (New_pair first second class) state)) w.files.table p first (Some (descriptor_of choice.first all_rights all_commands)) q n
      (new_first tree state first second class near) (old_entry tree (New_pair first second class) state near q n))
  entries_later p made tree New_process state brings near q n =
      put-cases (λ (row : ℕ → Option Descriptor). IfHeld (Later tree New_process state) (row n)) w.files.table made (w.files.table p) q
      (λ _. old_entry tree New_process state near p n) (λ _. old_entry tree New_process state near q n)

  -- no entry from 16 on
  none_high : (f : ℕ → ℕ → Option Descriptor) (p number : ℕ) (o : Option Descriptor) → number < 16 → (q n : ℕ) → 16 ≤ n → f q n ≡ None → f p n ≡ None → put2 f p number o q n ≡ None
  none_high f p number o low q n far old own =
      put-cases (λ (row : ℕ → Option Descriptor). row n ≡ None) f p (put (f p) number o) q
      (λ _. put-cases (λ x. x ≡ None) (f p) number o n (λ same. absurd (omega (arith, same))) (λ _. own)) (λ _. old)

  none_cleared : (f : ℕ → ℕ → Option Descriptor) (p number : ℕ) (q n : ℕ) → f q n ≡ None → put2 f p number None q n ≡ None
  none_cleared f p number q n old = put2-cases (λ x. x ≡ None) f p number None q n refl old

  pub numbers_later : (Good : Descriptor → Type 0) (tree : List Node) (p made : ℕ) (table : TableChange) → BringsTable Good tree made table →
      (q n : ℕ) → 16 ≤ n → table_after w.files.table p made choice table q n ≡ None
  numbers_later Good tree p made Same_table brings q n far = good.numbers q n far
  numbers_later Good tree p made (Set_entry number d) brings q n far =
      none_high w.files.table p number (Some d) brings.0 q n far (good.numbers q n far) (good.numbers p n far)
  numbers_later Good tree p made (Clear_entry number) brings q n far = none_cleared w.files.table p number q n (good.numbers q n far)
  numbers_later Good tree p made (New_file number m access append rights fcntls) brings q n far =
      none_high w.files.table p number (Some (descriptor_of choice.first rights fcntls)) brings.0 q n far (good.numbers q n far) (good.numbers p n far)
  numbers_later Good tree p made (New_pair first second class) brings q n far =
      let one : ℕ → ℕ → Option Descriptor = put2 w.files.table p first (Some (descriptor_of choice.first all_rights all_commands)) in
      let none : (q : ℕ) → one q n ≡ None = λ q. none_high w.files.table p first
      (Some (descriptor_of choice.first all_rights all_commands)) brings.0 q n far (good.numbers q n far) (good.numbers p n far) in
      none_high one p second (Some (descriptor_of choice.second all_rights all_commands)) brings.1 q n far (none q) (none p)
  numbers_later Good tree p made New_process brings q n far =
      put-cases (λ (row : ℕ → Option Descriptor). row n ≡ None) w.files.table made (w.files.table p) q (λ _. good.numbers p n far) (λ _. good.numbers q n far)

  -- ## The queues
  old_messages : (tree : TreeChange) (table : TableChange) (state : StateChange) → BringsState state → (pair side : ℕ) → EachMessage (Later tree table state) (w.files.queue pair side)
  old_messages tree table state brings pair side =
      each_map (Known (ground numbering w (IsApart w.files choice))) (Later tree table state) (still tree table state brings) (w.files.queue pair side)
      (known_messages programs numbering w good choice fresh pair side)

  each_more : (P : Descriptor → Type 0) (messages : List Message) (m : Message) → EachMessage P messages → m.byte < 256 → IfHeld P m.passed → EachMessage P (messages ++ m ∷ [])
  each_more P [] m good byte passed = (byte, passed, tt)
  each_more P (k ∷ messages) m good byte passed = (good.0, good.1, each_more P messages m good.2 byte passed)

  each_fewer : (P : Descriptor → Type 0) (messages : List Message) → EachMessage P messages → EachMessage P (drop 1 messages)
  each_fewer P [] good = tt
  each_fewer P (k ∷ messages) good = good.2

  pub messages_later : (tree : TreeChange) (table : TableChange) (state : StateChange) (change : QueueChange) → BringsState state →
      BringsQueue (Known (ground numbering w (IsApart w.files choice))) w.files.queue change → (pair side : ℕ) →
      EachMessage (Later tree table state) (queue_after w.files.queue change pair side)
  messages_later tree table state Same_queue near brings pair side = old_messages tree table state near pair side
  messages_later tree table state (Push q s m) near brings pair side =
      put2-cases (EachMessage (Later tree table state)) w.files.queue q s (w.files.queue q s ++ m ∷ []) pair side
      (each_more (Later tree table state) (w.files.queue q s) m (old_messages tree table state near q s) brings.2
      (held_map (Known (ground numbering w (IsApart w.files choice))) (Later tree table state) (still tree table state near) m.passed brings.3))
      (old_messages tree table state near pair side)
  messages_later tree table state (Pop q s) near brings pair side =
      put2-cases (EachMessage (Later tree table state)) w.files.queue q s (drop 1 (w.files.queue q s)) pair side
      (each_fewer (Later tree table state) (w.files.queue q s) (old_messages tree table state near q s))
      (old_messages tree table state near pair side)

  pub short_later : (Good : Descriptor → Type 0) (change : QueueChange) → BringsQueue Good w.files.queue change → (pair side : ℕ) → length (queue_after w.files.queue change pair side) ≤ most_messages
  short_later Good Same_queue brings pair side = good.short pair side
  short_later Good (Push q s m) brings pair side =
      let room : length (w.files.queue q s) < most_messages = brings.1 in
      put2-cases (λ messages. length messages ≤ most_messages) w.files.queue q s (w.files.queue q s ++ m ∷ []) pair side
      (omega (arith, length-append (w.files.queue q s) (m ∷ []))) (good.short pair side)
  short_later Good (Pop q s) brings pair side =
      let old : length (w.files.queue q s) ≤ most_messages = good.short q s in
      put2-cases (λ messages. length messages ≤ most_messages) w.files.queue q s (drop 1 (w.files.queue q s)) pair side
      (omega (arith, length-drop 1 (w.files.queue q s))) (good.short pair side)

  empty_fewer : (messages : List Message) → messages ≡ [] → drop 1 messages ≡ []
  empty_fewer [] is = refl
  empty_fewer (m ∷ messages) is = absurd cc

  beyond : (pairs pair q : ℕ) → cond (nat_lt pair pairs) pairs (pair + 1) ≤ q → (pairs ≤ q) × (pair < q)
  beyond pairs pair q far =
      cond_both (nat_lt pair pairs) pairs (pair + 1) (λ n. n ≤ q → (pairs ≤ q) × (pair < q))
      (λ low far. let less : pair < pairs = ltb-true pair pairs low in (far, omega arith))
      (λ high far. let more : pairs ≤ pair = grind (arith, nat_tests) in (omega arith, omega arith)) far

  pub idle_later : (change : QueueChange) (pair side : ℕ) → pairs_after w.files.pairs change ≤ pair → queue_after w.files.queue change pair side ≡ []
  idle_later Same_queue pair side far = good.idle pair side far
  idle_later (Push q s m) pair side far =
      let both = beyond w.files.pairs q pair far in
      put-cases (λ (row : ℕ → List Message). row side ≡ []) w.files.queue q (put (w.files.queue q) s (w.files.queue q s ++ m ∷ [])) pair
      (λ same. absurd (omega (arith, same, both.1))) (λ _. good.idle pair side both.0)
  idle_later (Pop q s) pair side far =
      put-cases (λ (row : ℕ → List Message). row side ≡ []) w.files.queue q (put (w.files.queue q) s (drop 1 (w.files.queue q s))) pair
      (λ same. put-cases (λ messages. messages ≡ []) (w.files.queue q) s (drop 1 (w.files.queue q s)) side
      (λ _. empty_fewer (w.files.queue q s) (good.idle q s (omega (arith, same)))) (λ _. good.idle q side (omega (arith, same))))
      (λ _. good.idle pair side far)

  pub sides_later : (Good : Descriptor → Type 0) (change : QueueChange) → BringsQueue Good w.files.queue change → (pair side : ℕ) → 2 ≤ side → queue_after w.files.queue change pair side ≡ []
  sides_later Good Same_queue brings pair side far = good.sides pair side far
  sides_later Good (Push q s m) brings pair side far =
      let low : s < 2 = brings.0 in
      put-cases (λ (row : ℕ → List Message). row side ≡ []) w.files.queue q (put (w.files.queue q) s (w.files.queue q s ++ m ∷ [])) pair
      (λ _. put-cases (λ messages. messages ≡ []) (w.files.queue q) s (w.files.queue q s ++ m ∷ []) side (λ same. absurd (omega (arith, same))) (λ _. good.sides q side far))
      (λ _. good.sides pair side far)
  sides_later Good (Pop q s) brings pair side far =
      put-cases (λ (row : ℕ → List Message). row side ≡ []) w.files.queue q (put (w.files.queue q) s (drop 1 (w.files.queue q s))) pair
      (λ _. put-cases (λ messages. messages ≡ []) (w.files.queue q) s (drop 1 (w.files.queue q s)) side
      (λ same. empty_fewer (w.files.queue q s) (good.sides q s (omega (arith, same)))) (λ _. good.sides q side far))
      (λ _. good.sides pair side far)
