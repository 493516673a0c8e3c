-- Of a record whose paths are within the limits no call is excused.
use Rattle.std.proofs.Common.{◌≡◌, ◌==◌, ℕ, zero, suc, Bool, true, false, List, [], ◌∷◌, ◌++◌, map, refl, ap, sym, ◌∙◌}
use Rattle.std.specs.Prelude.{◌&&◌, ◌||◌, not, Option, Some, None, is_none, is_some, if◌then◌else◌}
use Rattle.std.specs.List.{filter, flat_map, list_all, list_any, remove, slice_get}
use Rattle.call_facts.specs.Facts.{TableChange, Unchanged, Opened, Inherited, Copied, Received, Pair, Child, Freed, Limited, descriptor_count, facts_of}
use Rattle.records.specs.Calls.{RealOperand, Number, Path, Flags, Rights, Commands, Directory, RecordedOutcome, Succeeds, Fails}
use Rattle.records.specs.Calls.{MadeCall, RecordedEvent, Called, Ended, Omitted, RecordEntry, RecordedCalls, is_counted}
use Rattle.follow.specs.Excused.{Tally, after_entry, after_move, after_moves, any_excused, counted_in, first_tally, has_past, if_made, is_past, numbers_by, numbers_of, skipped_in}
use Rattle.follow.specs.Numbers.{FdMapping, is_of, named, named_from, of_child}
use Rattle.follow.specs.Outcomes.{freed, second_end}
use Rattle.follow.specs.Places.{Placing}
use Rattle.follow.specs.Samples.{NoExcuseWithin}
use Rattle.follow.specs.Shows.{Move, Steps, Skips}
use Rattle.follow.specs.Progress.{kept}

-- no number of these was made by an excused call
abbrev is_clear : List FdMapping → Bool
is_clear numbers = list_all (λ (n : FdMapping). is_none n.model) numbers

both : (a b : Bool) → a ≡ true → b ≡ true → (a && b) ≡ true
both true b first second = second
both false b first second = absurd cc

left-of : (a b : Bool) → (a && b) ≡ true → a ≡ true
left-of true b is = refl
left-of false b is = is

right-of : (a b : Bool) → (a && b) ≡ true → b ≡ true
right-of true b is = is
right-of false b is = absurd cc

neither-left : (a b : Bool) → (a || b) ≡ false → a ≡ false
neither-left true b is = absurd cc
neither-left false b is = refl

neither-right : (a b : Bool) → (a || b) ≡ false → b ≡ false
neither-right true b is = absurd cc
neither-right false b is = is

no-either : (a b : Bool) → a ≡ false → b ≡ false → (a || b) ≡ false
no-either true b first second = absurd cc
no-either false b first second = second

unmarked : (numbers : List FdMapping) (before : Option ℕ) (p n : ℕ) → is_none before ≡ true → is_clear numbers ≡ true → is_some (named_from before numbers p n) ≡ false
unmarked [] None p n none is = refl
unmarked [] (Some m) p n none is = absurd cc
unmarked (m ∷ numbers) before p n none is =
    unmarked numbers (if is_of p n m then m.model else before) p n (go (is_of p n m) none (left-of (is_none m.model) (is_clear numbers) is))
    (right-of (is_none m.model) (is_clear numbers) is)
  where
    go : (b : Bool) → is_none before ≡ true → is_none m.model ≡ true → is_none (if b then m.model else before) ≡ true
    go true first second = second
    go false first second = first

none-excused : (numbers : List FdMapping) (p count : ℕ) (operands : List RealOperand) → is_clear numbers ≡ true → any_excused numbers p count operands ≡ false
none-excused numbers p zero operands is = refl
none-excused numbers p (suc count) [] is = refl
none-excused numbers p (suc count) (Number n ∷ operands) is =
    no-either (is_some (named numbers p n)) (any_excused numbers p count operands) (unmarked numbers None p n refl is) (none-excused numbers p count operands is)
none-excused numbers p (suc count) (Path path ∷ operands) is = none-excused numbers p (suc count) operands is
none-excused numbers p (suc count) (Flags flags ∷ operands) is = none-excused numbers p (suc count) operands is
none-excused numbers p (suc count) (Rights rights ∷ operands) is = none-excused numbers p (suc count) operands is
none-excused numbers p (suc count) (Commands commands ∷ operands) is = none-excused numbers p (suc count) operands is
none-excused numbers p (suc count) (Directory asked ∷ operands) is = none-excused numbers p (suc count) operands is

clear-append : (before after : List FdMapping) → is_clear before ≡ true → is_clear after ≡ true → is_clear (before ++ after) ≡ true
clear-append [] after first second = second
clear-append (m ∷ before) after first second =
    both (is_none m.model) (is_clear (before ++ after)) (left-of (is_none m.model) (is_clear before) first)
    (clear-append before after (right-of (is_none m.model) (is_clear before) first) second)

clear-child : (numbers : List FdMapping) (p child : ℕ) → is_clear numbers ≡ true
    → is_clear (map (of_child child) (filter (λ (n : FdMapping). n.process == p) numbers)) ≡ true
clear-child [] p child is = refl
clear-child (m ∷ numbers) p child is = go (m.process == p) (left-of (is_none m.model) (is_clear numbers) is) (clear-child numbers p child (right-of (is_none m.model) (is_clear numbers) is))
  where
    go : (b : Bool) → is_none m.model ≡ true → is_clear (map (of_child child) (filter (λ (n : FdMapping). n.process == p) numbers)) ≡ true
        → is_clear (map (of_child child) (if b then m ∷ filter (λ (n : FdMapping). n.process == p) numbers else filter (λ (n : FdMapping). n.process == p) numbers)) ≡ true
    go true first rest = both (is_none m.model) (is_clear (map (of_child child) (filter (λ (n : FdMapping). n.process == p) numbers))) first rest
    go false first rest = rest

clear-freed : (p : ℕ) (operands : List RealOperand) → is_clear (freed p operands) ≡ true
clear-freed p [] = refl
clear-freed p (Number n ∷ operands) = refl
clear-freed p (Path path ∷ operands) = refl
clear-freed p (Flags flags ∷ operands) = refl
clear-freed p (Rights rights ∷ operands) = refl
clear-freed p (Commands commands ∷ operands) = refl
clear-freed p (Directory asked ∷ operands) = refl

clear-made : (p : ℕ) (n : Option ℕ) → is_clear (if_made p n false) ≡ true
clear-made p None = refl
clear-made p (Some n) = refl

clear-by : (numbers : List FdMapping) (p : ℕ) (made : MadeCall) (change : TableChange) (n : ℕ) → is_clear numbers ≡ true
    → is_clear (numbers_by numbers p made change n false) ≡ true
clear-by numbers p made Opened n is = refl
clear-by numbers p made Inherited n is = refl
clear-by numbers p made Copied n is = refl
clear-by numbers p made Received n is = refl
clear-by numbers p made Pair n is = clear-append (if_made p (Some n) false) (if_made p (second_end made.bindings) false) refl (clear-made p (second_end made.bindings))
clear-by numbers p made Freed n is = clear-freed p made.operands
clear-by numbers p made Child n is = clear-child numbers p n is
clear-by numbers p made Limited n is = refl
clear-by numbers p made Unchanged n is = refl

clear-of : (numbers : List FdMapping) (p : ℕ) (made : MadeCall) (outcome : RecordedOutcome) → is_clear numbers ≡ true → is_clear (numbers_of numbers p made outcome false) ≡ true
clear-of numbers p made (Succeeds n) is = clear-by numbers p made (facts_of made.call).table n is
clear-of numbers p made (Fails errno) is = refl

module _ (placings : List Placing) where
  abbrev past_entry : RecordEntry → Bool
  past_entry entry = has_past placings entry.event

  none-removed : (entries : RecordedCalls) (i : ℕ) → list_any past_entry entries ≡ false → list_any past_entry (remove entries i) ≡ false
  none-removed [] zero is = refl
  none-removed [] (suc i) is = refl
  none-removed (e ∷ entries) zero is = neither-right (past_entry e) (list_any past_entry entries) is
  none-removed (e ∷ entries) (suc i) is =
      no-either (past_entry e) (list_any past_entry (remove entries i)) (neither-left (past_entry e) (list_any past_entry entries) is)
      (none-removed entries i (neither-right (past_entry e) (list_any past_entry entries) is))

  none-at : (entries : RecordedCalls) (i : ℕ) (e : RecordEntry) → list_any past_entry entries ≡ false → slice_get entries i ≡ Some e → past_entry e ≡ false
  none-at [] i e is there = absurd cc
  none-at (own ∷ entries) zero e is there = sym (ap past_entry (same there)) ∙ neither-left (past_entry own) (list_any past_entry entries) is
    where
      same : Some own ≡ Some e → own ≡ e
      same is = cc
  none-at (own ∷ entries) (suc i) e is there = none-at entries i e (neither-right (past_entry own) (list_any past_entry entries) is) there

  record Clear (t : Tally) : Type 0 where
    within : list_any past_entry t.left ≡ false
    numbers : is_clear t.numbers ≡ true
    same : t.others ≡ t.skipped

  skipped-clear : (t : Tally) (entry : RecordEntry) (made : MadeCall) (past behind : Bool) → Clear t → past ≡ false → behind ≡ false
      → Clear (skipped_in t entry made past behind)
  skipped-clear t entry made true behind is past_is behind_is = absurd cc
  skipped-clear t entry made false true is past_is behind_is = absurd cc
  skipped-clear t entry made false false is past_is behind_is = record {
    within = is.within;
    numbers = clear-append t.numbers (numbers_of t.numbers entry.process made made.outcome false) is.numbers (clear-of t.numbers entry.process made made.outcome is.numbers);
    same = ap (λ es. es ++ entry ∷ []) is.same;
  }

  counted-clear : (t : Tally) (shown : Bool) (entry : RecordEntry) (event : RecordedEvent) → Clear t → has_past placings event ≡ false
      → Clear (counted_in placings t shown entry event)
  counted-clear t true entry (Called made) is within = record {
    within = is.within;
    numbers = clear-append t.numbers (numbers_of t.numbers entry.process made made.outcome false) is.numbers (clear-of t.numbers entry.process made made.outcome is.numbers);
    same = is.same;
  }
  counted-clear t false entry (Called made) is within =
      skipped-clear t entry made (list_any (is_past placings) made.operands) (any_excused t.numbers entry.process (descriptor_count made.call) made.operands) is within
      (none-excused t.numbers entry.process (descriptor_count made.call) made.operands is.numbers)
  counted-clear t true entry Ended is within = is
  counted-clear t false entry Ended is within = is
  counted-clear t true entry (Omitted left_out) is within = is
  counted-clear t false entry (Omitted left_out) is within = is

  entry-clear : (t : Tally) (shown : Bool) (i : ℕ) (o : Option RecordEntry) → slice_get t.left i ≡ o → Clear t → Clear (after_entry placings t shown i o)
  entry-clear t shown i None there is = is
  entry-clear t shown i (Some e) there is =
      counted-clear (record t { left = remove t.left i }) shown e e.event (record { within = none-removed t.left i is.within; numbers = is.numbers; same = is.same })
      (none-at t.left i e is.within there)

  move-clear : (t : Tally) (m : Move) → Clear t → Clear (after_move placings t m)
  move-clear t (Steps e None) is = is
  move-clear t (Steps e (Some i)) is = entry-clear t true i (slice_get t.left i) refl is
  move-clear t (Skips i) is = entry-clear t false i (slice_get t.left i) refl is

  moves-clear : (t : Tally) (moves : List Move) → Clear t → Clear (after_moves placings t moves)
  moves-clear t [] is = is
  moves-clear t (m ∷ moves) is = moves-clear (after_move placings t m) moves (move-clear t m is)

  kept-clear : (entries : RecordedCalls) → list_any past_entry entries ≡ false → list_any past_entry (flat_map kept entries) ≡ false
  kept-clear [] is = refl
  kept-clear (e ∷ entries) is =
      go (is_counted e.event) (neither-left (past_entry e) (list_any past_entry entries) is) (kept-clear entries (neither-right (past_entry e) (list_any past_entry entries) is))
    where
      go : (b : Bool) → past_entry e ≡ false → list_any past_entry (flat_map kept entries) ≡ false
          → list_any past_entry ((if b then e ∷ [] else []) ++ flat_map kept entries) ≡ false
      go true first rest = no-either (past_entry e) (list_any past_entry (flat_map kept entries)) first rest
      go false first rest = rest

pub no_excuse_within : NoExcuseWithin
no_excuse_within = record {
  others = λ placings calls moves within.
      (moves-clear placings (first_tally calls) moves (record { within = kept-clear placings calls within; numbers = refl; same = refl })).same;
}
