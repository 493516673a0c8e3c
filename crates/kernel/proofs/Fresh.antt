-- Numbers that nobody names: what is named is apart from a fresh choice, and in a well-formed world there is one.
use Rattle.std.proofs.Common.{◌≡◌, ℕ, zero, suc, ◌+◌, ◌<◌, ◌≤◌, ◌⊎◌, inl, inr, Bool, true, false, List, [], ◌∷◌, refl, length, arith, ap, ◌∙◌}
use Rattle.std.specs.Prelude.{◌≢◌, ◌==◌, ◌&&◌, ◌||◌, Option, Some, None, nat_lt}
use Rattle.std.specs.List.{slice_get, list_any}
use Rattle.std.proofs.lemmas.Bool.{cases_Bool, ltb-true, ne_eqb}
use Rattle.std.proofs.lemmas.Bool.Decides.{nat_tests}
use Rattle.rights.proofs.Tests.{neither}
use Rattle.process.specs.State.{ProcessState}
use Rattle.fd_table.specs.Descriptions.{Object, At_node, At_end, Descriptor, Message, IfHeld}
use Rattle.fd_table.specs.OpenFiles.{OpenFiles, is_end, names_end, any_below, is_open, IsOther, AreOther, IsUnnamed, IsUnused}
use Rattle.kernel.specs.World.{World, Choice, IsFresh}
use Rattle.kernel.specs.Steps.{Programs}
use Rattle.kernel.specs.WellFormed.{Numbering, IsObject, IsDescriptor, EachMessage, HasNone, IsWorld}
use Rattle.kernel.proofs.Brings.{ground, Known}

pub lt_or_le : (a b : ℕ) → (a < b) ⊎ (b ≤ a)
lt_or_le a b =
    elim (cases_Bool (nat_lt a b)) [
      | inl low ↦ inl (ltb-true a b low)
      | inr high ↦ inr (let far : b ≤ a = grind (arith, nat_tests) in far)
    ]

-- ## Tests below a number
pub any_below-false : (n : ℕ) (test : ℕ → Bool) → ((k : ℕ) → test k ≡ false) → any_below n test ≡ false
unfolding any_below
any_below-false zero test none = refl
any_below-false (suc n) test none = neither (test n) (any_below n test) (none n) (any_below-false n test none)

both_false : (a b : Bool) → (a || b) ≡ false → (a ≡ false) × (b ≡ false)
both_false true b h = absurd cc
both_false false b h = (refl, h)

one_or_below : (k n : ℕ) → k < suc n → (k ≡ n) ⊎ (k < n)
one_or_below zero zero below = inl refl
one_or_below zero (suc n) below = inr (omega arith)
one_or_below (suc k) zero below = absurd (omega arith)
one_or_below (suc k) (suc n) below =
    elim (one_or_below k n (omega arith)) [ inl same ↦ inl (ap suc same) | inr less ↦ inr (omega arith) ]

pub none_below : (n : ℕ) (test : ℕ → Bool) → any_below n test ≡ false → (k : ℕ) → k < n → test k ≡ false
unfolding any_below
none_below zero test none k below = absurd (omega arith)
none_below (suc n) test none k below =
    let parts = both_false (test n) (any_below n test) none in
    elim (one_or_below k n below) [
      | inl same ↦ ap test same ∙ parts.0
      | inr less ↦ none_below n test parts.1 k less
    ]

-- ## What holds of entries and messages
pub held_map : (P Q : Descriptor → Type 0) → ((d : Descriptor) → P d → Q d) → (o : Option Descriptor) → IfHeld P o → IfHeld Q o
held_map P Q f None good = tt
held_map P Q f (Some d) good = f d good

pub each_map : (P Q : Descriptor → Type 0) → ((d : Descriptor) → P d → Q d) → (messages : List Message) → EachMessage P messages → EachMessage Q messages
each_map P Q f [] good = tt
each_map P Q f (m ∷ messages) good = (good.0, held_map P Q f m.passed good.1, each_map P Q f messages good.2)

-- a description that no choice is of
pub record IsApart (f : OpenFiles) (choice : Choice) (n : ℕ) : Type 0 where
  pub first : n ≢ choice.first
  pub second : n ≢ choice.second
  pub ends : (side : ℕ) → is_end choice.pair side (f.objects n) ≡ false

-- ## Where no end of a pair is open, none is named
module _ (programs : Programs) (numbering : Numbering) (w : World) (good : IsWorld programs numbering w) where
  -- entries are of processes and numbers below 16
  no_entry : (p : ℕ) → 16 ≤ p → (n : ℕ) → w.files.table p n ≡ None
  no_entry p far = by (slice_get w.processes p) (beyond w.processes p (omega (arith, good.few))) (good.gone p)
    where
      beyond : (processes : List ProcessState) (k : ℕ) → length processes ≤ k → slice_get processes k ≡ None
      beyond [] k far = refl
      beyond (s ∷ processes) zero far = absurd (omega arith)
      beyond (s ∷ processes) (suc k) far = beyond processes k (omega arith)

      by : (o : Option ProcessState) → o ≡ None → HasNone o (w.files.table p) → (n : ℕ) → w.files.table p n ≡ None
      by None is none = none
      by (Some s) is none = absurd cc

  pub entry_unnamed : (pair side : ℕ) → is_open w.files pair side ≡ false → (p n : ℕ) → names_end w.files.objects pair side (w.files.table p n) ≡ false
  entry_unnamed pair side closed p n =
      let scan = (both_false (any_below 16 (λ p. any_below 16 (λ n. names_end w.files.objects pair side (w.files.table p n)))) _ closed).0 in
      elim (lt_or_le p 16) [
        | inr far ↦ ap (names_end w.files.objects pair side) (no_entry p far n)
        | inl low ↦ elim (lt_or_le n 16) [
          | inr far ↦ ap (names_end w.files.objects pair side) (good.numbers p n far)
          | inl small ↦ none_below 16 (λ n. names_end w.files.objects pair side (w.files.table p n))
              (none_below 16 (λ p. any_below 16 (λ n. names_end w.files.objects pair side (w.files.table p n))) scan p low) n small
        ]
      ]

  pub message_unnamed : (pair side : ℕ) → is_open w.files pair side ≡ false → (q s : ℕ) → list_any (λ (m : Message). names_end w.files.objects pair side m.passed) (w.files.queue q s) ≡ false
  message_unnamed pair side closed q s =
      let test : ℕ → ℕ → Bool = λ q s. list_any (λ (m : Message). names_end w.files.objects pair side m.passed) (w.files.queue q s) in
      let scan : any_below w.files.pairs (λ q. any_below 2 (test q)) ≡ false =
      (both_false (any_below 16 (λ p. any_below 16 (λ n. names_end w.files.objects pair side (w.files.table p n)))) _ closed).1 in
      elim (lt_or_le q w.files.pairs) [
        | inr far ↦ ap (list_any (λ (m : Message). names_end w.files.objects pair side m.passed)) (good.idle q s far)
        | inl low ↦ elim (lt_or_le s 2) [
          | inr far ↦ ap (list_any (λ (m : Message). names_end w.files.objects pair side m.passed)) (good.sides q s far)
          | inl small ↦ none_below 2 (test q) (none_below w.files.pairs (λ q. any_below 2 (test q)) scan q low) s small
        ]
      ]

  -- ## What is named is apart from a fresh choice
  module _ (choice : Choice) (fresh : IsFresh w.files choice) where
    known_one : (o : Option Descriptor) → IfHeld (IsDescriptor w.tree numbering w.files.objects w.files.states) o → IsOther choice.first o →
        IsOther choice.second o → ((side : ℕ) → names_end w.files.objects choice.pair side o ≡ false) →
        IfHeld (Known (ground numbering w (IsApart w.files choice))) o
    known_one None fine first second ends = tt
    known_one (Some d) fine first second ends = (fine, record { first = first; second = second; ends = ends })

    known_each : (messages : List Message) → EachMessage (IsDescriptor w.tree numbering w.files.objects w.files.states) messages →
        AreOther choice.first messages → AreOther choice.second messages →
        ((side : ℕ) → list_any (λ (m : Message). names_end w.files.objects choice.pair side m.passed) messages ≡ false) →
        EachMessage (Known (ground numbering w (IsApart w.files choice))) messages
    known_each [] fine first second ends = tt
    known_each (m ∷ messages) fine first second ends = (
      fine.0,
      known_one m.passed fine.1 first.0 second.0 (λ side. (both_false (names_end w.files.objects choice.pair side m.passed) _ (ends side)).0),
      known_each messages fine.2 first.1 second.1 (λ side. (both_false (names_end w.files.objects choice.pair side m.passed) _ (ends side)).1),
    )

    pub known_entries : (p n : ℕ) → IfHeld (Known (ground numbering w (IsApart w.files choice))) (w.files.table p n)
    known_entries p n =
        known_one (w.files.table p n) (good.entries p n) (fresh.first.entries p n) (fresh.second.entries p n)
        (λ side. entry_unnamed choice.pair side (fresh.pair.closed side) p n)

    pub known_messages : (pair side : ℕ) → EachMessage (Known (ground numbering w (IsApart w.files choice))) (w.files.queue pair side)
    known_messages pair side =
        known_each (w.files.queue pair side) (good.messages pair side) (fresh.first.messages pair side) (fresh.second.messages pair side)
        (λ end. message_unnamed choice.pair end (fresh.pair.closed end) pair side)

  -- ## There are fresh choices
  -- numbers from the bound on are named by nobody
  other_entry : (n : ℕ) (o : Option Descriptor) → numbering.descriptions ≤ n → IfHeld (IsDescriptor w.tree numbering w.files.objects w.files.states) o → IsOther n o
  other_entry n None above fine = tt
  other_entry n (Some d) above fine =
      let below : d.description < numbering.descriptions = fine.number in
      λ same. absurd (omega (arith, same))

  other_messages : (n : ℕ) (messages : List Message) → numbering.descriptions ≤ n → EachMessage (IsDescriptor w.tree numbering w.files.objects w.files.states) messages → AreOther n messages
  other_messages n [] above fine = tt
  other_messages n (m ∷ messages) above fine = (other_entry n m.passed above fine.1, other_messages n messages above fine.2)

  pub unnamed : (n : ℕ) → numbering.descriptions ≤ n → IsUnnamed w.files n
  unnamed n above = record {
    entries = λ p m. other_entry n (w.files.table p m) above (good.entries p m);
    messages = λ pair side. other_messages n (w.files.queue pair side) above (good.messages pair side);
  }

  -- pairs from the bound on have no open end
  closed_object : (description pair side : ℕ) (o : Object) → numbering.pairs ≤ pair → IsObject w.tree numbering description o → is_end pair side o ≡ false
  closed_object description pair side (At_node n access) above fine = refl
  closed_object description pair side (At_end q s class) above fine =
      let below : q < numbering.pairs = fine.0 in
      let differ : q ≢ pair = λ same. absurd (omega (arith, same)) in
      ap (λ b. b && (s == side)) (ne_eqb q pair differ)

  closed_entry : (pair side : ℕ) (o : Option Descriptor) → numbering.pairs ≤ pair →
      IfHeld (IsDescriptor w.tree numbering w.files.objects w.files.states) o → names_end w.files.objects pair side o ≡ false
  closed_entry pair side None above fine = refl
  closed_entry pair side (Some d) above fine = closed_object d.description pair side (w.files.objects d.description) above fine.object

  closed_messages : (pair side : ℕ) (messages : List Message) → numbering.pairs ≤ pair →
      EachMessage (IsDescriptor w.tree numbering w.files.objects w.files.states) messages →
      list_any (λ (m : Message). names_end w.files.objects pair side m.passed) messages ≡ false
  closed_messages pair side [] above fine = refl
  closed_messages pair side (m ∷ messages) above fine =
      neither (names_end w.files.objects pair side m.passed) _ (closed_entry pair side m.passed above fine.1) (closed_messages pair side messages above fine.2)

  pub unused : (pair : ℕ) → numbering.pairs ≤ pair → w.files.pairs ≤ pair → IsUnused w.files pair
  unused pair above beyond = record {
    closed = λ side.
        neither _ _
        (any_below-false 16 _ (λ p. any_below-false 16 _ (λ n. closed_entry pair side (w.files.table p n) above (good.entries p n))))
        (any_below-false w.files.pairs _ (λ q. any_below-false 2 _ (λ s. closed_messages pair side (w.files.queue q s) above (good.messages q s))));
    empty = λ side. good.idle pair side beyond;
  }

  -- with any first number that nobody names
  pub fresh_with : (k : ℕ) → IsUnnamed w.files k → (choice : Choice) × (choice.first ≡ k) × IsFresh w.files choice
  fresh_with k free =
      let choice : Choice = record { first = k; second = numbering.descriptions + k + 1; pair = numbering.pairs + w.files.pairs } in (
        choice,
        refl,
        record {
          first = free;
          second = unnamed (numbering.descriptions + k + 1) (omega arith);
          apart = λ same. absurd (omega (arith, same));
          pair = unused (numbering.pairs + w.files.pairs) (omega arith) (omega arith);
        },
      )

  pub fresh_some : (choice : Choice) × IsFresh w.files choice
  fresh_some = let some = fresh_with numbering.descriptions (unnamed numbering.descriptions (omega arith)) in (some.0, some.2)
