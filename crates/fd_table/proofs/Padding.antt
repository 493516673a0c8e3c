-- The entries that aren't kept.
use Rattle.std.proofs.Common.{◌≡◌, ℕ, suc, ◌+◌, ◌-◌, ◌<◌, ◌≤◌, List, length, map, ap, ◌∙◌, sym, arith, replicate, ◌⊎◌, inl, inr, ◌++◌, ◌∷◌, []}
use Rattle.std.specs.Prelude.{Option, None, slice_set}
use Rattle.std.specs.List.{slice_index_or}
use Rattle.std.proofs.Math.ListN.{length-map, get_or-append, get_or-map}
use Rattle.std.proofs.Math.Seq.{map-set, get_or-append_right}
use Rattle.std.proofs.lemmas.List.{set-append_left, length-replicate, get_or-replicate, get_or_past, append_assoc, length-append, length-set, map-append}
use Rattle.fd_table.specs.declared.descriptors.Descriptor.{Descriptor as DescriptorCode}
use Rattle.fd_table.specs.Descriptions.{Descriptor}
use Rattle.fd_table.specs.EntryViews.{entry_kept, entries_kept}
use Rattle.fd_table.proofs.Tables.{lt_or_le}

abbrev pub nones : ℕ → List (Option Descriptor)
nones n = replicate n None

pub none_in_all : (n i : ℕ) → slice_index_or (nones n) i None ≡ None
none_in_all n i = go (lt_or_le i n)
  where
    go : (i < n) ⊎ (n ≤ i) → slice_index_or (nones n) i None ≡ None
    go (inl below) = get_or-replicate n i None None below
    go (inr past) = let all : length (nones n) ≡ n = length-replicate n None in get_or_past (nones n) i None (omega (arith, past, all))

-- how many there are
pub kept_length : (es : List (Option DescriptorCode)) → length es ≤ 256 → length (entries_kept es) ≡ 256
kept_length es few =
    let all = length-append (map entry_kept es) (nones (256 - length es)) in
    let own = length-map es entry_kept in
    let rest : length (nones (256 - length es)) ≡ 256 - length es = length-replicate (256 - length es) None in
    omega (arith, few, all, own, rest)

-- what one of them is
pub kept_at : (es : List (Option DescriptorCode)) (i : ℕ) → slice_index_or (entries_kept es) i None ≡ entry_kept (slice_index_or es i None)
kept_at es i = go (lt_or_le i (length es))
  where
    go : (i < length es) ⊎ (length es ≤ i) → slice_index_or (entries_kept es) i None ≡ entry_kept (slice_index_or es i None)
    go (inl below) = get_or-append (map entry_kept es) (nones (256 - length es)) None i (omega (arith, below, length-map es entry_kept)) ∙ get_or-map entry_kept es i None
    go (inr past) =
        get_or-append_right (map entry_kept es) (nones (256 - length es)) i None (omega (arith, past, length-map es entry_kept))
        ∙ none_in_all (256 - length es) (i - length (map entry_kept es))
        ∙ sym (ap entry_kept (get_or_past es i None past))

-- one that is changed
pub kept_set : (es : List (Option DescriptorCode)) (i : ℕ) (v : Option DescriptorCode) → i < length es → entries_kept (slice_set es i v) ≡ slice_set (entries_kept es) i (entry_kept v)
kept_set es i v below =
    ap (λ n. map entry_kept (slice_set es i v) ++ nones (256 - n)) (length-set es i v)
    ∙ ap (λ xs. xs ++ nones (256 - length es)) (map-set entry_kept es i v)
    ∙ sym (set-append_left (map entry_kept es) (nones (256 - length es)) i (entry_kept v) (omega (arith, below, length-map es entry_kept)))

-- one more that is kept
pub kept_more : (es : List (Option DescriptorCode)) → length es < 256 → entries_kept (es ++ None ∷ []) ≡ entries_kept es
kept_more es room =
    ap (λ n. map entry_kept (es ++ None ∷ []) ++ nones (256 - n)) (length-append es (None ∷ []))
    ∙ ap (λ xs. xs ++ nones (256 - (length es + 1))) (map-append entry_kept es (None ∷ []))
    ∙ append_assoc (map entry_kept es) (None ∷ []) (nones (256 - (length es + 1)))
    ∙ ap (λ n. map entry_kept es ++ nones n) next
  where
    next : suc (256 - (length es + 1)) ≡ 256 - length es
    next = omega (arith, room)
