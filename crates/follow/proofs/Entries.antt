-- Entries behind references, and those of them that are left.
use Rattle.std.proofs.Common.{◌≡◌, ℕ, suc, List, [], ◌∷◌, ◌++◌, map, take, drop, append_assoc, refl, ap, sym, ◌∙◌}
use Rattle.std.specs.Prelude.{Some, None, option_map, if◌then◌else◌}
use Rattle.std.specs.Borrow.{Bor}
use Rattle.std.specs.List.{flat_map, list_all, remove, slice_get}
use Rattle.std.specs.Option.{option_and_then}
use Rattle.std.proofs.lemmas.List.{drop-map, take-map}
use Rattle.std.proofs.lemmas.Option.{slice_get-map}
use Rattle.records.specs.declared.entries.Entry.{Entry as EntryCode}
use Rattle.records.specs.Calls.{RecordEntry, RecordedCalls}
use Rattle.records.specs.EntryViews.{record_entry_seen}
use Rattle.follow.specs.Progress.{if_next, kept, may_overtake, next_entry}
use Rattle.follow.specs.Views.{entries_after}

map-both : {A B : Type 0} (f : A → B) (xs ys : List A) → map f xs ++ map f ys ≡ map f (xs ++ ys)
map-both f [] ys = refl
map-both f (x ∷ xs) ys = ap (λ zs. f x ∷ zs) (map-both f xs ys)

pub remove-map : {A B : Type 0} (f : A → B) (xs : List A) (i : ℕ) → map f (remove xs i) ≡ remove (map f xs) i
remove-map f xs i =
    sym (map-both f (take i xs) (drop (suc i) xs)) ∙ ap (λ ys. ys ++ map f (drop (suc i) xs)) (sym (take-map f i xs))
    ∙ ap (λ ys. take i (map f xs) ++ ys) (sym (drop-map f (suc i) xs))

-- the next entry, by that of the same place behind the references
pub next-behind : (left : List (Bor EntryCode)) (i : ℕ) (e : Bor EntryCode) → slice_get left i ≡ Some e →
    next_entry (entries_after left) i
    ≡ (if list_all (may_overtake (record_entry_seen e.now)) (entries_after (take i left)) then Some (record_entry_seen e.now) else None)
next-behind left i e is =
    ap (option_and_then (if_next (entries_after left) i)) (slice_get-map (λ (r : Bor EntryCode). record_entry_seen r.now) left i ∙ ap (option_map (λ (r : Bor EntryCode). record_entry_seen r.now)) is)
    ∙ ap (λ others. if list_all (may_overtake (record_entry_seen e.now)) others then Some (record_entry_seen e.now) else None)
    (take-map (λ (r : Bor EntryCode). record_entry_seen r.now) i left)

pub none-behind : (left : List (Bor EntryCode)) (i : ℕ) → slice_get left i ≡ None → next_entry (entries_after left) i ≡ None
none-behind left i is =
    ap (option_and_then (if_next (entries_after left) i)) (slice_get-map (λ (r : Bor EntryCode). record_entry_seen r.now) left i ∙ ap (option_map (λ (r : Bor EntryCode). record_entry_seen r.now)) is)

-- what is kept so far, and then of those that are left
pub kept-more : (before after : RecordedCalls) (e : RecordEntry) (left all : RecordedCalls) → after ≡ before ++ kept e → before ++ flat_map kept (e ∷ left) ≡ all →
    after ++ flat_map kept left ≡ all
kept-more before after e left all more is = ap (λ es. es ++ flat_map kept left) more ∙ append_assoc before (kept e) (flat_map kept left) ∙ is
