-- What a call changes in worlds that differ only in numbers.
use Rattle.std.proofs.Common.{◌≡◌, ℕ, Bool, false, List, [], ◌∷◌, ◌++◌, drop, refl, ap, sym, ◌∙◌}
use Rattle.std.specs.Prelude.{◌≢◌, Option, Some, None}
use Rattle.rights.specs.Sets.{all_rights, all_commands}
use Rattle.rights.specs.Maps.{put, put2}
use Rattle.rights.proofs.Changes.{put-cases, put2-cases, put-both}
use Rattle.file_tree.specs.Nodes.{Node}
use Rattle.fd_table.specs.Descriptions.{Access, PairClass, At_node, At_end, State, Descriptor, Message, new_state, descriptor_of, IfHeld}
use Rattle.fd_table.specs.OpenFiles.{OpenFiles}
use Rattle.kernel.specs.World.{Choice}
use Rattle.kernel.specs.Answers.{TableChange, Same_table, Set_entry, Clear_entry, New_file, New_pair, New_process, QueueChange, Same_queue, Push, Pop, StateChange, Same_state, Set_state, Change}
use Rattle.kernel.specs.Changes.{objects_after, new_states, states_after, queue_after, table_after, files_after}
use Rattle.kernel.specs.Renamings.{Renaming, SameObject, EachNamed, SameFiles, renamed_object, renamed_descriptor, renamed_entry, renamed_message, renamed_messages}
use Rattle.kernel.proofs.Brings.{BringsTable, BringsQueue}
use Rattle.kernel.proofs.Fresh.{held_map}
use Rattle.kernel.proofs.Renamed.{renamed_table, renamed_queue, renamed_state, renamed_change}

-- One choice is the other under the other numbers.
pub record Aims (r : Renaming) (j k : Choice) : Type 0 where
  pub first : r.description j.first ≡ k.first
  pub second : r.description j.second ≡ k.second
  pub pair : r.pair j.pair ≡ k.pair

-- maps that are changed at a number and at its other number
put-renamed : {A B : Type 0} (R : A → B → Type 0) (f back : ℕ → ℕ) → ((n : ℕ) → back (f n) ≡ n) → (g : ℕ → A) (h : ℕ → B) (n k m : ℕ) → f n ≡ k →
    (x : A) (y : B) → R x y → (m ≢ n → R (g m) (h (f m))) → R (put g n x m) (put h k y (f m))
put-renamed R f back here g h n k m aims x y new old =
    put-cases (λ b. R (put g n x m) b) h k y (f m)
    (λ clash. put-cases (λ a. R a y) g n x m (λ _. new) (λ other. absurd (other (sym (here m) ∙ ap back (clash ∙ sym aims) ∙ here n))))
    (λ other. put-cases (λ a. R a (h (f m))) g n x m (λ clash. absurd (other (ap f clash ∙ aims))) old)

pub each_named : (P Q : ℕ → Type 0) → ((n : ℕ) → P n → Q n) → (messages : List Message) → EachNamed P messages → EachNamed Q messages
each_named P Q f [] all = tt
each_named P Q f (m ∷ messages) all = (held_map (λ d. P d.description) (λ d. Q d.description) (λ d is. f d.description is) m.passed all.0, each_named P Q f messages all.1)

renamed-more : (r : Renaming) (messages : List Message) (m : Message) → renamed_messages r (messages ++ m ∷ []) ≡ renamed_messages r messages ++ renamed_message r m ∷ []
renamed-more r [] m = refl
renamed-more r (k ∷ messages) m = ap (λ rest. renamed_message r k ∷ rest) (renamed-more r messages m)

renamed-fewer : (r : Renaming) (messages : List Message) → drop 1 (renamed_messages r messages) ≡ renamed_messages r (drop 1 messages)
renamed-fewer r [] = refl
renamed-fewer r (k ∷ messages) = refl

module _ (r : Renaming) (w g : OpenFiles) (alike : SameFiles r w g) (j k : Choice) (aims : Aims r j k) (p made : ℕ) where
  -- ## Descriptions
  object-old : (table : TableChange) (n : ℕ) → g.objects (r.description n) ≡ renamed_object r (w.objects n) →
      objects_after g.objects k (renamed_table r table) (r.description n) ≡ renamed_object r (objects_after w.objects j table n)
  object-old Same_table n is = is
  object-old (Set_entry number d) n is = is
  object-old (Clear_entry number) n is = is
  object-old (New_file number m access append rights fcntls) n is =
      put-renamed (λ a b. b ≡ renamed_object r a) r.description r.description_back r.description_here w.objects g.objects j.first k.first n aims.first
      (At_node m access) (At_node m access) refl (λ _. is)
  object-old (New_pair first second class) n is =
      put-renamed (λ a b. b ≡ renamed_object r a) r.description r.description_back r.description_here (put w.objects j.first (At_end j.pair 0 class))
      (put g.objects k.first (At_end k.pair 0 class)) j.second k.second n aims.second
      (At_end j.pair 1 class) (At_end k.pair 1 class) (ap (λ q. At_end q 1 class) (sym aims.pair))
      (λ _. put-renamed (λ a b. b ≡ renamed_object r a) r.description r.description_back r.description_here w.objects g.objects j.first k.first n aims.first
      (At_end j.pair 0 class) (At_end k.pair 0 class) (ap (λ q. At_end q 0 class) (sym aims.pair)) (λ _. is))
  object-old New_process n is = is

  -- at the new numbers
  object-file : (m : ℕ) (access : Access) → put g.objects k.first (At_node m access) (r.description j.first) ≡ renamed_object r (put w.objects j.first (At_node m access) j.first)
  object-file m access =
      put-renamed (λ a b. b ≡ renamed_object r a) r.description r.description_back r.description_here w.objects g.objects j.first k.first j.first
      aims.first (At_node m access) (At_node m access) refl (λ other. absurd (other refl))

  object-pair : (class : PairClass) (n : ℕ) → (n ≢ j.second → n ≢ j.first → ⊥) →
      put (put g.objects k.first (At_end k.pair 0 class)) k.second (At_end k.pair 1 class) (r.description n) ≡ renamed_object r
      (put (put w.objects j.first (At_end j.pair 0 class)) j.second (At_end j.pair 1 class) n)
  object-pair class n new =
      put-renamed (λ a b. b ≡ renamed_object r a) r.description r.description_back r.description_here (put w.objects j.first (At_end j.pair 0 class))
      (put g.objects k.first (At_end k.pair 0 class)) j.second k.second n aims.second
      (At_end j.pair 1 class) (At_end k.pair 1 class) (ap (λ q. At_end q 1 class) (sym aims.pair))
      (λ not_second. put-renamed (λ a b. b ≡ renamed_object r a) r.description r.description_back r.description_here w.objects g.objects j.first k.first n aims.first
      (At_end j.pair 0 class) (At_end k.pair 0 class) (ap (λ q. At_end q 0 class) (sym aims.pair)) (λ not_first. absurd (new not_second not_first)))

  state-new : (table : TableChange) (n : ℕ) → g.states (r.description n) ≡ w.states n → new_states g.states k (renamed_table r table) (r.description n) ≡ new_states w.states j table n
  state-new Same_table n is = is
  state-new (Set_entry number d) n is = is
  state-new (Clear_entry number) n is = is
  state-new (New_file number m access append rights fcntls) n is =
      put-renamed (λ (a b : State). b ≡ a) r.description r.description_back r.description_here w.states g.states j.first k.first n aims.first (new_state append) (new_state append) refl (λ _. is)
  state-new (New_pair first second class) n is =
      put-renamed (λ (a b : State). b ≡ a) r.description r.description_back r.description_here (put w.states j.first (new_state false))
      (put g.states k.first (new_state false)) j.second k.second n aims.second (new_state false) (new_state false) refl
      (λ _. put-renamed (λ (a b : State). b ≡ a) r.description r.description_back r.description_here w.states g.states j.first k.first n aims.first (new_state false) (new_state false) refl (λ _. is))
  state-new New_process n is = is

  state-file : (append : Bool) → put g.states k.first (new_state append) (r.description j.first) ≡ put w.states j.first (new_state append) j.first
  state-file append =
      put-renamed (λ (a b : State). b ≡ a) r.description r.description_back r.description_here w.states g.states j.first k.first j.first aims.first
      (new_state append) (new_state append) refl (λ other. absurd (other refl))

  state-pair : (n : ℕ) → (n ≢ j.second → n ≢ j.first → ⊥) →
      put (put g.states k.first (new_state false)) k.second (new_state false) (r.description n) ≡ put
      (put w.states j.first (new_state false)) j.second (new_state false) n
  state-pair n new =
      put-renamed (λ (a b : State). b ≡ a) r.description r.description_back r.description_here (put w.states j.first (new_state false))
      (put g.states k.first (new_state false)) j.second k.second n aims.second (new_state false) (new_state false) refl
      (λ not_second. put-renamed (λ (a b : State). b ≡ a) r.description r.description_back r.description_here w.states g.states j.first k.first n
      aims.first (new_state false) (new_state false) refl (λ not_first. absurd (new not_second not_first)))

  state-after : (old new : ℕ → State) (change : StateChange) (n : ℕ) → new (r.description n) ≡ old n → states_after new (renamed_state r change) (r.description n) ≡ states_after old change n
  state-after old new Same_state n is = is
  state-after old new (Set_state m state) n is =
      put-renamed (λ (a b : State). b ≡ a) r.description r.description_back r.description_here old new m (r.description m) n refl state state refl (λ _. is)

  -- ## The parts together
  abbrev Twin : Change → ℕ → Type 0
  Twin change n = SameObject r (files_after w p made j change) (files_after g p made k (renamed_change r change)) n

  twin_old : (change : Change) (n : ℕ) → SameObject r w g n → Twin change n
  unfolding files_after
  twin_old change n is = record {
    object = object-old change.table n is.object;
    state = state-after (new_states w.states j change.table) (new_states g.states k (renamed_table r change.table)) change.state n (state-new change.table n is.state);
  }

  entry_old : (change : Change) (q n : ℕ) → IfHeld (λ d. Twin change d.description) (w.table q n)
  entry_old change q n = held_map (λ d. SameObject r w g d.description) (λ d. Twin change d.description) (λ d is. twin_old change d.description is) (w.table q n) (alike.entries q n)

  twin_file : (change : Change) (number n : ℕ) (access : Access) (append : Bool) (rights fcntls : ℕ) → change.table ≡ New_file number n access append rights fcntls → Twin change j.first
  unfolding files_after
  twin_file change number n access append rights fcntls is = record {
    object = (λ i. objects_after g.objects k (renamed_table r (is i)) (r.description j.first)) ∙ object-file n access ∙ ap (λ t. renamed_object r (objects_after w.objects j t j.first)) (sym is);
    state =
        state-after (new_states w.states j change.table) (new_states g.states k (renamed_table r change.table)) change.state j.first
        ((λ i. new_states g.states k (renamed_table r (is i)) (r.description j.first)) ∙ state-file append ∙ ap (λ t. new_states w.states j t j.first) (sym is));
  }

  twin_pair : (change : Change) (first second : ℕ) (class : PairClass) → change.table ≡ New_pair first second class → (n : ℕ) → (n ≢ j.second → n ≢ j.first → ⊥) → Twin change n
  unfolding files_after
  twin_pair change first second class is n new = record {
    object = (λ i. objects_after g.objects k (renamed_table r (is i)) (r.description n)) ∙ object-pair class n new ∙ ap (λ t. renamed_object r (objects_after w.objects j t n)) (sym is);
    state =
        state-after (new_states w.states j change.table) (new_states g.states k (renamed_table r change.table)) change.state n
        ((λ i. new_states g.states k (renamed_table r (is i)) (r.description n)) ∙ state-pair n new ∙ ap (λ t. new_states w.states j t n) (sym is));
  }

  -- each entry then
  entry_after : (Good : Descriptor → Type 0) (tree : List Node) (made' : ℕ) (change : Change) (table : TableChange) → change.table ≡ table →
      ((d : Descriptor) → Good d → SameObject r w g d.description) → BringsTable Good tree made' table → (q n : ℕ) →
      IfHeld (λ d. Twin change d.description) (table_after w.table p made j table q n)
  entry_after Good tree made' change Same_table is twin brings q n = entry_old change q n
  entry_after Good tree made' change (Set_entry number d) is twin brings q n =
      put2-cases (IfHeld (λ d. Twin change d.description)) w.table p number (Some d) q n (twin_old change d.description (twin d brings.1)) (entry_old change q n)
  entry_after Good tree made' change (Clear_entry number) is twin brings q n =
      put2-cases (IfHeld (λ d. Twin change d.description)) w.table p number None q n tt (entry_old change q n)
  entry_after Good tree made' change (New_file number m access append rights fcntls) is twin brings q n =
      put2-cases (IfHeld (λ d. Twin change d.description)) w.table p number (Some (descriptor_of j.first rights fcntls)) q n
      (twin_file change number m access append rights fcntls is) (entry_old change q n)
  entry_after Good tree made' change (New_pair first second class) is twin brings q n =
      put2-cases (IfHeld (λ d. Twin change d.description)) (put2 w.table p first (Some (descriptor_of j.first all_rights all_commands))) p second
      (Some (descriptor_of j.second all_rights all_commands)) q n
      (twin_pair change first second class is j.second (λ other _. other refl))
      (put2-cases (IfHeld (λ d. Twin change d.description)) w.table p first (Some (descriptor_of j.first all_rights all_commands)) q n
      (twin_pair change first second class is j.first (λ _ other. other refl)) (entry_old change q n))
  entry_after Good tree made' change New_process is twin brings q n =
      put-cases (λ (row : ℕ → Option Descriptor). IfHeld (λ d. Twin change d.description) (row n)) w.table made (w.table p) q (λ _. entry_old change p n) (λ _. entry_old change q n)

  -- each message then
  message_old : (change : Change) (pair side : ℕ) → EachNamed (Twin change) (w.queue pair side)
  message_old change pair side = each_named (SameObject r w g) (Twin change) (twin_old change) (w.queue pair side) (alike.messages pair side)

  named_more : (P : ℕ → Type 0) (messages : List Message) (m : Message) → EachNamed P messages → IfHeld (λ d. P d.description) m.passed → EachNamed P (messages ++ m ∷ [])
  named_more P [] m all one = (one, tt)
  named_more P (x ∷ messages) m all one = (all.0, named_more P messages m all.1 one)

  named_fewer : (P : ℕ → Type 0) (messages : List Message) → EachNamed P messages → EachNamed P (drop 1 messages)
  named_fewer P [] all = tt
  named_fewer P (x ∷ messages) all = all.1

  message_after : (Good : Descriptor → Type 0) (change : Change) (queue : QueueChange) →
      ((d : Descriptor) → Good d → SameObject r w g d.description) → BringsQueue Good w.queue queue → (pair side : ℕ) →
      EachNamed (Twin change) (queue_after w.queue queue pair side)
  message_after Good change Same_queue twin brings pair side = message_old change pair side
  message_after Good change (Push q s m) twin brings pair side =
      put2-cases (EachNamed (Twin change)) w.queue q s (w.queue q s ++ m ∷ []) pair side
      (named_more (Twin change) (w.queue q s) m (message_old change q s) (held_map Good (λ d. Twin change d.description) (λ d is. twin_old change d.description (twin d is)) m.passed brings.3))
      (message_old change pair side)
  message_after Good change (Pop q s) twin brings pair side =
      put2-cases (EachNamed (Twin change)) w.queue q s (drop 1 (w.queue q s)) pair side
      (named_fewer (Twin change) (w.queue q s) (message_old change q s)) (message_old change pair side)

  -- the tables and the queues are the same under the other numbers
  put2-alike : (f h : ℕ → ℕ → Option Descriptor) (q n : ℕ) (a b : Option Descriptor) → b ≡ renamed_entry r a →
      ((x m : ℕ) → h x m ≡ renamed_entry r (f x m)) → (x m : ℕ) → put2 h q n b x m ≡ renamed_entry r (put2 f q n a x m)
  put2-alike f h q n a b new all x m =
      put-both (λ (c d : ℕ → Option Descriptor). d m ≡ renamed_entry r (c m)) f h q (put (f q) n a) (put (h q) n b)
      (put-both (λ c d. d ≡ renamed_entry r c) (f q) (h q) n a b new (all q) m) (λ x. all x m) x

  table_alike : (table : TableChange) (q n : ℕ) → table_after g.table p made k (renamed_table r table) q n ≡ renamed_entry r (table_after w.table p made j table q n)
  table_alike Same_table q n = alike.table q n
  table_alike (Set_entry number d) q n = put2-alike w.table g.table p number (Some d) (Some (renamed_descriptor r d)) refl alike.table q n
  table_alike (Clear_entry number) q n = put2-alike w.table g.table p number None None refl alike.table q n
  table_alike (New_file number m access append rights fcntls) q n =
      put2-alike w.table g.table p number (Some (descriptor_of j.first rights fcntls)) (Some (descriptor_of k.first rights fcntls))
      (ap (λ x. Some (descriptor_of x rights fcntls)) (sym aims.first)) alike.table q n
  table_alike (New_pair first second class) q n =
      put2-alike (put2 w.table p first (Some (descriptor_of j.first all_rights all_commands)))
      (put2 g.table p first (Some (descriptor_of k.first all_rights all_commands))) p second
      (Some (descriptor_of j.second all_rights all_commands)) (Some (descriptor_of k.second all_rights all_commands))
      (ap (λ x. Some (descriptor_of x all_rights all_commands)) (sym aims.second))
      (put2-alike w.table g.table p first (Some (descriptor_of j.first all_rights all_commands))
      (Some (descriptor_of k.first all_rights all_commands))
      (ap (λ x. Some (descriptor_of x all_rights all_commands)) (sym aims.first)) alike.table) q n
  table_alike New_process q n =
      put-both (λ (c d : ℕ → Option Descriptor). d n ≡ renamed_entry r (c n)) w.table g.table made (w.table p) (g.table p) (alike.table p n) (λ x. alike.table x n) q

  queue_put : (q s : ℕ) (a b : List Message) → b ≡ renamed_messages r a → (pair side : ℕ) → put2 g.queue (r.pair q) s b (r.pair pair) side ≡ renamed_messages r (put2 w.queue q s a pair side)
  queue_put q s a b new pair side =
      put-renamed (λ (x y : ℕ → List Message). y side ≡ renamed_messages r (x side)) r.pair r.pair_back r.pair_here w.queue g.queue q (r.pair q) pair refl
      (put (w.queue q) s a) (put (g.queue (r.pair q)) s b)
      (put-both (λ x y. y ≡ renamed_messages r x) (w.queue q) (g.queue (r.pair q)) s a b new (alike.queue q) side)
      (λ _. alike.queue pair side)

  queue_alike : (queue : QueueChange) (pair side : ℕ) → queue_after g.queue (renamed_queue r queue) (r.pair pair) side ≡ renamed_messages r (queue_after w.queue queue pair side)
  queue_alike Same_queue pair side = alike.queue pair side
  queue_alike (Push q s m) pair side =
      queue_put q s (w.queue q s ++ m ∷ []) (g.queue (r.pair q) s ++ renamed_message r m ∷ [])
      (ap (λ messages. messages ++ renamed_message r m ∷ []) (alike.queue q s) ∙ sym (renamed-more r (w.queue q s) m)) pair side
  queue_alike (Pop q s) pair side =
      queue_put q s (drop 1 (w.queue q s)) (drop 1 (g.queue (r.pair q) s)) (ap (drop 1) (alike.queue q s) ∙ renamed-fewer r (w.queue q s)) pair side

  pub files_alike : (Good : Descriptor → Type 0) (tree : List Node) (made' : ℕ) (change : Change) →
      ((d : Descriptor) → Good d → SameObject r w g d.description) → BringsTable Good tree made' change.table →
      BringsQueue Good w.queue change.queue → SameFiles r (files_after w p made j change) (files_after g p made k (renamed_change r change))
  unfolding files_after
  files_alike Good tree made' change twin table queue = record {
    table = table_alike change.table;
    queue = queue_alike change.queue;
    entries = entry_after Good tree made' change change.table refl twin table;
    messages = message_after Good change change.queue twin queue;
  }
