-- Initial pairs, opened one after another under any numbers.
use Rattle.std.proofs.Common.{◌≡◌, ◌⊎◌, inl, inr, ℕ, zero, suc, ◌+◌, ◌<◌, ◌≤◌, Bool, true, false, List, [], ◌∷◌, refl, ap, sym, subst, ◌∙◌, arith}
use Rattle.std.specs.Prelude.{◌≢◌, ◌==◌, ◌&&◌, ◌||◌, nat_lt, Option, Some, None, option_map, if◌then◌else◌}
use Rattle.std.specs.List.{list_all}
use Rattle.std.proofs.lemmas.Bool.{lt-ltb, le-ltb, ltb-true, ne_eqb}
use Rattle.rights.specs.Sets.{all_rights, all_commands}
use Rattle.rights.proofs.Changes.{put-same, put-other}
use Rattle.rights.proofs.Tests.{both_left, both_right}
use Rattle.fd_table.specs.Descriptions.{Initial, At_end, Descriptor, descriptor_of, new_state, IfHeld}
use Rattle.fd_table.specs.Filled.{Entry, IsEmpty, IsFree, AreApart, Pairs, end_entered, paired, with_end}
use Rattle.fd_table.specs.Openings.{described, with_entry, with_table}
use Rattle.fd_table.specs.OpenFiles.{IsOther, OpenFiles, SameDescriptions, any_below, is_end, names_end}
use Rattle.fd_table.specs.OpenFiles.{SameDescription as Same}
use Rattle.kernel.specs.World.{Choice}
use Rattle.kernel.specs.Renamings.{EachNamed, Renaming, SameObject, SameFiles, renamed_entry, renamed_object}
use Rattle.kernel.proofs.Aimed.{Separate, aimed_at, aimed_files, aims}
use Rattle.kernel.proofs.ChangedAlike.{Aims}
use Rattle.kernel.proofs.Determined.{alike_share}
use Rattle.kernel.proofs.Fresh.{lt_or_le, none_below}
use Rattle.syscalls.specs.Views.{world_with}
use Rattle.task.specs.Begins.{end_description, first_entry, first_entries, first_files}
use Rattle.task.proofs.Openings.{at_end}
use Rattle.simulator.specs.Starts.{OwnedDescriptor, given_in, is_owned, are_owned, entry_of, is_on, later_or, last_owned, whole_end, awaiting, nothing_given, if_below, HasPairs, Awaits}
use Rattle.simulator.proofs.Numbered.{then_alike, differs, retabled, described_same, filled_same, twin_of}
use Rattle.simulator.proofs.Waiting.{Table, all_owned, all_wait, at_place, owned_is, last_whole, waits_whole}

module _ (owned : List OwnedDescriptor) (valid : are_owned owned ≡ true) where
  abbrev waits : Table
  waits = awaiting nothing_given owned

  abbrev below : ℕ → Table
  below pairs q m = if_below (end_description pairs 0) (waits q m)

  abbrev model : ℕ → OpenFiles
  model pairs = with_table (first_files (given_in owned)) (below pairs)

  no_queue : (pairs pair side : ℕ) → (model pairs).queue pair side ≡ []
  unfolding first_files
  no_queue pairs pair side = refl

  state : (n : ℕ) → (first_files (given_in owned)).states n ≡ new_state false
  unfolding first_files
  state n = refl

  object : (pair side : ℕ) → pair < 32 → side < 2 → (first_files (given_in owned)).objects (end_description pair side) ≡ At_end pair side (Initial pair)
  unfolding first_files
  object pair side few two = at_end (given_in owned) pair side few two

  gone : (bound : ℕ) (d : Descriptor) → bound ≤ d.description → if_below bound (Some d) ≡ None
  gone bound d far = rw (le-ltb d.description bound far) refl

  stays_below : (bound : ℕ) (d : Descriptor) → d.description < bound → if_below bound (Some d) ≡ Some d
  stays_below bound d low = rw (lt-ltb d.description bound low) refl

  -- ## Where the last of a side is
  placed : (pair side : ℕ) (some : List OwnedDescriptor) (e : Entry) → list_all is_owned some ≡ true → last_owned pair side some ≡ Some e → (e.process < 16) × (e.number < 16)
  unfolding last_owned
  placed pair side [] e all is = absurd cc
  placed pair side (g ∷ some) e all is =
      go (last_owned pair side some) (is_on pair side g.given.object) is (placed pair side some e (both_right (is_owned g) _ all))
    where
      go : (o : Option Entry) (on : Bool) → later_or o on g ≡ Some e → (o ≡ Some e → (e.process < 16) × (e.number < 16)) → (e.process < 16) × (e.number < 16)
      go (Some x) on is more = more is
      go None true is more =
          let own = owned_is g (both_left _ (list_all is_owned some) all) in
          let same : entry_of g ≡ e = cc in
          subst (λ (x : Entry). (x.process < 16) × (x.number < 16)) same (own.process, own.number)
      go None false is more = absurd cc

  -- ## Each entry is a whole end of an earlier pair
  record IsEarlier (pairs : ℕ) (d : Descriptor) : Type 0 where
    pair : ℕ
    side : ℕ
    low : pair < pairs
    few : pair < 32
    two : side < 2
    whole : d ≡ whole_end pair side

  earlier : (pairs q m : ℕ) → IfHeld (IsEarlier pairs) (below pairs q m)
  earlier pairs q m = go (waits q m) refl
    where
      sure : (d : Descriptor) → waits q m ≡ Some d → (nat_lt d.description (end_description pairs 0) ≡ true) → IsEarlier pairs d
      sure d is low =
          let w = waits_whole owned q m d (all_owned owned valid).0 is in
          let number : d.description ≡ end_description w.pair w.side = ap (λ (x : Descriptor). x.description) w.whole in
          let less : d.description < end_description pairs 0 = ltb-true _ _ low in
          let side_two : w.side < 2 = w.two in
          record { pair = w.pair; side = w.side; low = omega (arith, number); few = w.few; two = w.two; whole = w.whole }

      by_test : (d : Descriptor) (b : Bool) → nat_lt d.description (end_description pairs 0) ≡ b → waits q m ≡ Some d → IfHeld (IsEarlier pairs) (if b then Some d else None)
      by_test d true low is = sure d is low
      by_test d false low is = tt

      go : (o : Option Descriptor) → waits q m ≡ o → IfHeld (IsEarlier pairs) (if_below (end_description pairs 0) o)
      go None is = tt
      go (Some d) is = by_test d (nat_lt d.description (end_description pairs 0)) refl is

  -- ## Where the ends of the next pair go
  module _ (pair : ℕ) (few : pair < 32) where
    abbrev to : ℕ → Option Entry
    to side = last_owned pair side owned

    at_whole : (side : ℕ) (e : Entry) → to side ≡ Some e → waits e.process e.number ≡ Some (whole_end pair side)
    at_whole side e is = last_whole nothing_given pair side owned e (all_owned owned valid).1 is

    not_yet : (side : ℕ) (e : Entry) → to side ≡ Some e → below pair e.process e.number ≡ None
    not_yet side e is =
        ap (if_below (end_description pair 0)) (at_whole side e is) ∙ gone (end_description pair 0) (whole_end pair side) (omega arith)

    now : (side : ℕ) → side < 2 → (e : Entry) → to side ≡ Some e → below (pair + 1) e.process e.number ≡ Some (whole_end pair side)
    now side two e is =
        ap (if_below (end_description (pair + 1) 0)) (at_whole side e is) ∙ stays_below (end_description (pair + 1) 0) (whole_end pair side) (omega arith)

    -- an entry has no two ends
    differ : (e : Entry) → to 0 ≡ Some e → to 1 ≡ Some e → ⊥
    differ e one two =
        let both : Some (whole_end pair 0) ≡ Some (whole_end pair 1) = sym (at_whole 0 e one) ∙ at_whole 1 e two in
        let same : whole_end pair 0 ≡ whole_end pair 1 = cc in
        let numbers : end_description pair 0 ≡ end_description pair 1 = ap (λ (d : Descriptor). d.description) same in
        absurd (omega (arith, numbers))

    -- all other entries stay
    other_entry : (q m : ℕ) → ((side : ℕ) → side < 2 → to side ≡ Some (record { process = q; number = m }) → ⊥) → below (pair + 1) q m ≡ below pair q m
    other_entry q m away = go (waits q m) refl
      where
        go : (o : Option Descriptor) → waits q m ≡ o → if_below (end_description (pair + 1) 0) o ≡ if_below (end_description pair 0) o
        go None is = refl
        go (Some d) is =
            let w = waits_whole owned q m d (all_owned owned valid).0 is in
            let number : d.description ≡ end_description w.pair w.side = ap (λ (x : Descriptor). x.description) w.whole in
            let side_two : w.side < 2 = w.two in
            let not_this : w.pair ≢ pair = λ same. away w.side w.two (ap (λ p. last_owned p w.side owned) (sym same) ∙ w.last) in
            by_order (lt_or_le w.pair pair) not_this number side_two
          where
            past : {a : ℕ} (b : ℕ) → pair ≤ a → a ≢ pair → d.description ≡ end_description a b → end_description (pair + 1) 0 ≤ d.description
            past {a = a} b high not_this number = elim (lt_or_le pair a) [ inl more ↦ omega (arith, number) | inr less ↦ absurd (not_this (omega arith)) ]

            by_order : {a b : ℕ} → (a < pair) ⊎ (pair ≤ a) → a ≢ pair → d.description ≡ end_description a b → b < 2 →
                if_below (end_description (pair + 1) 0) (Some d) ≡ if_below (end_description pair 0) (Some d)
            by_order (inl low) not_this number two =
                stays_below (end_description (pair + 1) 0) d (omega (arith, number)) ∙ sym (stays_below (end_description pair 0) d (omega (arith, number)))
            by_order {b = b} (inr high) not_this number two =
                gone (end_description (pair + 1) 0) d (past b high not_this number) ∙ sym (gone (end_description pair 0) d (omega (arith, number)))

    -- ## The pair is opened
    module _ (f : OpenFiles) (b : HasPairs owned pair f) where
      abbrev r : Renaming
      r = b.renaming

      pub free_at : (side : ℕ) → IsFree f (to side)
      free_at side = go (to side) refl
        where
          go : (o : Option Entry) → to side ≡ o → IsFree f o
          go None is = tt
          go (Some e) is =
              let at = placed pair side owned e (all_owned owned valid).0 is in
              (at.0, at.1, b.files.table e.process e.number ∙ ap (renamed_entry r) (not_yet side e is))

      pub apart_ends : (to 0 ≡ None → to 1 ≡ None → ⊥) → AreApart (to 0) (to 1)
      apart_ends some = go (to 0) (to 1) refl refl
        where
          go : (one other : Option Entry) → to 0 ≡ one → to 1 ≡ other → AreApart one other
          go None None is at = some is at
          go None (Some e) is at = tt
          go (Some e) None is at = tt
          go (Some e) (Some x) is at = λ same. differ x (is ∙ ap Some same) at

      none_some : {A : Type 0} {x : A} → None ≡ Some x → ⊥
      none_some is = absurd cc

      pub not_listed : to 0 ≡ None → to 1 ≡ None → HasPairs owned (pair + 1) f
      not_listed one other =
          differs r (model (pair + 1)) f
          (retabled r (model pair) f (below (pair + 1)) (λ q m. other_entry q m (neither_side q m)) (no_queue pair) b.files)
        where
          neither_side : (q m side : ℕ) → side < 2 → to side ≡ Some (record { process = q; number = m }) → ⊥
          neither_side q m zero two is = none_some (sym one ∙ is)
          neither_side q m (suc zero) two is = none_some (sym other ∙ is)
          neither_side q m (suc (suc side)) two is = absurd (omega arith)

      module _ (next : OpenFiles) (x : Pairs f next (Initial pair) (to 0) (to 1)) where
        abbrev here : Choice
        here = record { first = end_description pair 0; second = end_description pair 1; pair = pair }

        abbrev there : Choice
        there = record { first = x.first; second = x.second; pair = x.pair }

        abbrev turned : Renaming
        turned = aimed_at r here there

        -- what is named so far is apart from the pair, here and there
        end_apart : (q m side : ℕ) → names_end f.objects x.pair side (f.table q m) ≡ false
        end_apart q m side = go (waits q m) refl
          where
            scan : any_below 16 (λ p. any_below 16 (λ n. names_end f.objects x.pair side (f.table p n))) ≡ false
            scan = first_false _ _ (x.unused.closed side)
              where
                first_false : (c d : Bool) → (c || d) ≡ false → c ≡ false
                first_false true d is = absurd cc
                first_false false d is = refl

            go : (o : Option Descriptor) → waits q m ≡ o → names_end f.objects x.pair side (f.table q m) ≡ false
            go None is = ap (names_end f.objects x.pair side) (b.files.table q m ∙ ap (λ e. renamed_entry r (if_below (end_description pair 0) e)) is)
            go (Some d) is =
                let w = waits_whole owned q m d (all_owned owned valid).0 is in
                let at = placed w.pair w.side owned (record { process = q; number = m }) (all_owned owned valid).0 w.last in
                none_below 16 (λ n. names_end f.objects x.pair side (f.table q n)) (none_below 16 (λ p. any_below 16 (λ n. names_end f.objects x.pair side (f.table p n))) scan q at.0) m at.1

        separate : (e : Option Descriptor) → IfHeld (λ d. SameObject r (model pair) f d.description) e → IfHeld (IsEarlier pair) e →
            IsOther x.first (renamed_entry r e) → IsOther x.second (renamed_entry r e) →
            ((side : ℕ) → names_end f.objects x.pair side (renamed_entry r e) ≡ false) →
            IfHeld (λ d. Separate r (model pair) f here there d.description) e
        separate None twin old first second ends = tt
        separate (Some d) twin old first second ends =
            let number : d.description ≡ end_description old.pair old.side = ap (λ (y : Descriptor). y.description) old.whole in
            let low : old.pair < pair = old.low in
            let two : old.side < 2 = old.two in
            let own : (first_files (given_in owned)).objects d.description ≡ At_end old.pair old.side (Initial old.pair) = ap
            (first_files (given_in owned)).objects number ∙ object old.pair old.side old.few old.two in
            record {
              twin = twin;
              here = record {
                first = λ same. absurd (omega (arith, number, same));
                second = λ same. absurd (omega (arith, number, same));
                ends = λ side. ap (is_end pair side) own ∙ ap (λ c. c && (old.side == side)) (ne_eqb old.pair pair (λ same. absurd (omega (arith, same))));
              };
              there = record { first = first; second = second; ends = ends };
            }

        apart_now : (q m : ℕ) → IfHeld (λ d. Separate r (model pair) f here there d.description) (below pair q m)
        apart_now q m =
            separate (below pair q m) (b.files.entries q m) (earlier pair q m)
            (subst (IsOther x.first) (b.files.table q m) (x.first_fresh.entries q m)) (subst (IsOther x.second) (b.files.table q m) (x.second_fresh.entries q m))
            (λ side. ap (names_end f.objects x.pair side) (sym (b.files.table q m)) ∙ end_apart q m side)

        same : SameFiles turned (model pair) f
        same =
            aimed_files r (model pair) f here there b.files apart_now
            (λ q side. subst (EachNamed (Separate r (model pair) f here there)) (sym (no_queue pair q side)) tt)
            (λ side. no_queue pair pair side) x.unused.empty

        abbrev one_made : OpenFiles
        one_made = described f x.first (At_end x.pair 0 (Initial pair)) false

        abbrev both_made : OpenFiles
        both_made = described one_made x.second (At_end x.pair 1 (Initial pair)) false

        ends_described : SameFiles turned (model pair) both_made
        ends_described =
            described_same turned (model pair) one_made
            (described_same turned (model pair) f same (no_queue pair) x.first x.first_fresh (At_end x.pair 0 (Initial pair)) false)
            (no_queue pair) x.second (record { entries = x.second_fresh.entries; messages = x.second_fresh.messages }) (At_end x.pair 1 (Initial pair)) false

        aim : Aims turned here there
        aim = aims r here there (λ is. absurd (omega (arith, is))) x.apart

        twin_first : SameObject turned (model pair) both_made (end_description pair 0)
        twin_first = record {
          object =
              ap both_made.objects aim.first ∙ put-other one_made.objects x.second (At_end x.pair 1 (Initial pair)) x.first x.apart ∙ put-same f.objects x.first (At_end x.pair 0 (Initial pair))
              ∙ ap (λ p. At_end p 0 (Initial pair)) (sym aim.pair) ∙ sym (ap (renamed_object turned) (object pair 0 few (omega arith)));
          state =
              ap both_made.states aim.first ∙ put-other one_made.states x.second (new_state false) x.first x.apart ∙ put-same f.states x.first (new_state false)
              ∙ sym (state (end_description pair 0));
        }

        twin_second : SameObject turned (model pair) both_made (end_description pair 1)
        twin_second = record {
          object =
              ap both_made.objects aim.second ∙ put-same one_made.objects x.second (At_end x.pair 1 (Initial pair))
              ∙ ap (λ p. At_end p 1 (Initial pair)) (sym aim.pair) ∙ sym (ap (renamed_object turned) (object pair 1 few (omega arith)));
          state = ap both_made.states aim.second ∙ put-same one_made.states x.second (new_state false) ∙ sym (state (end_description pair 1));
        }

        -- an end goes to its entry, or nowhere
        filled_end : (w g : OpenFiles) → SameFiles turned w g → ((q side : ℕ) → w.queue q side ≡ []) → (o : Option Entry) (n k : ℕ) →
            turned.description n ≡ k → SameObject turned w g n → SameFiles turned (with_table w (end_entered w.table o n)) (with_end g k o)
        filled_end w g are empty None n k is twin = are
        filled_end w g are empty (Some e) n k is twin =
            subst (λ i. SameFiles turned (with_entry w e.process e.number (Some (descriptor_of n all_rights all_commands)))
            (with_entry g e.process e.number (Some (descriptor_of i all_rights all_commands)))) is
            (filled_same turned w g are empty e.process e.number (descriptor_of n all_rights all_commands) twin)

        abbrev after_first : Table
        after_first = end_entered (below pair) (to 0) (end_description pair 0)

        same_next : SameFiles turned (with_table (model pair) (end_entered after_first (to 1) (end_description pair 1))) (paired f x.first x.second x.pair (Initial pair) (to 0) (to 1))
        same_next =
            filled_end (with_table (model pair) after_first) (with_end both_made x.first (to 0))
            (filled_end (model pair) both_made ends_described (no_queue pair) (to 0) (end_description pair 0) x.first aim.first twin_first)
            (no_queue pair) (to 1) (end_description pair 1) x.second aim.second
            (twin_of turned (model pair) both_made after_first (end_entered both_made.table (to 0) x.first) (end_description pair 1) twin_second)

        one_end : (side : ℕ) → side < 2 → (o : Option Entry) → to side ≡ o → (t : Table) (q m : ℕ) →
            ((to side ≡ Some (record { process = q; number = m }) → ⊥) → below (pair + 1) q m ≡ t q m) →
            below (pair + 1) q m ≡ end_entered t o (end_description pair side) q m
        one_end side two None is t q m rest = rest (λ at. none_some (sym is ∙ at))
        one_end side two (Some e) is t q m rest =
            at_place (λ y. below (pair + 1) q m ≡ y) t e.process e.number (Some (whole_end pair side)) q m
            (λ process number. ap (λ p. below (pair + 1) p m) process ∙ ap (below (pair + 1) e.process) number ∙ now side two e is)
            (λ away. rest (λ at.
            let both : Some e ≡ Some (record { process = q; number = m }) = sym is ∙ at in
            let same_place : e ≡ record { process = q; number = m } = cc in
            away (ap (λ (y : Entry). y.process) same_place) (ap (λ (y : Entry). y.number) same_place)))

        table_next : (q m : ℕ) → below (pair + 1) q m ≡ end_entered after_first (to 1) (end_description pair 1) q m
        table_next q m =
            one_end 1 (omega arith) (to 1) refl after_first q m (λ not_second.
            one_end 0 (omega arith) (to 0) refl (below pair) q m (λ not_first.
            other_entry q m (neither_side not_first not_second)))
          where
            neither_side : (to 0 ≡ Some (record { process = q; number = m }) → ⊥) → (to 1 ≡ Some (record { process = q; number = m }) → ⊥) →
                (side : ℕ) → side < 2 → to side ≡ Some (record { process = q; number = m }) → ⊥
            neither_side one other zero two is = one is
            neither_side one other (suc zero) two is = other is
            neither_side one other (suc (suc side)) two is = absurd (omega arith)

        pub pair_opened : HasPairs owned (pair + 1) next
        pair_opened =
            then_alike (model (pair + 1)) _ next
            (differs turned _ _ (retabled turned (with_table (model pair) (end_entered after_first (to 1) (end_description pair 1))) _ (below (pair + 1)) table_next (no_queue pair) same_next))
            x.alike

  -- ## Before any, and after all
  pub no_pair : (f : OpenFiles) → IsEmpty f → HasPairs owned 0 f
  no_pair f empty =
      alike_share (world_with [] (model 0) []) (world_with [] f []) (record {
        tree = refl;
        processes = refl;
        files = record {
          table = λ p n. empty.0 p n ∙ sym (none p n);
          queue = λ q side. empty.1 q side ∙ sym (no_queue 0 q side);
          entries = λ p n. subst (Same (model 0) f) (sym (none p n)) tt;
          messages = λ q side. subst (SameDescriptions (model 0) f) (sym (no_queue 0 q side)) tt;
          idle = λ q side far. empty.1 q side;
        };
      })
    where
      none : (p n : ℕ) → below 0 p n ≡ None
      none p n = go (waits p n)
        where
          go : (o : Option Descriptor) → if_below 0 o ≡ None
          go None = refl
          go (Some d) = gone 0 d (omega arith)

  pub all_pairs : (f : OpenFiles) → HasPairs owned 32 f → Awaits owned owned f
  all_pairs f b =
      differs b.renaming _ f
      (retabled b.renaming (model 32) f (awaiting (first_entries (given_in owned)) owned)
      (λ q m. all_wait (first_entries (given_in owned)) owned q m (λ none. ap (option_map (first_entry q)) none) ∙ sym (all_below q m)) (no_queue 32) b.files)
    where
      all_below : (q m : ℕ) → below 32 q m ≡ waits q m
      all_below q m = go (waits q m) refl
        where
          go : (o : Option Descriptor) → waits q m ≡ o → if_below (end_description 32 0) o ≡ o
          go None is = refl
          go (Some d) is =
              let w = waits_whole owned q m d (all_owned owned valid).0 is in
              let number : d.description ≡ end_description w.pair w.side = ap (λ (x : Descriptor). x.description) w.whole in
              let few : w.pair < 32 = w.few in
              let two : w.side < 2 = w.two in
              stays_below (end_description 32 0) d (omega (arith, number))
