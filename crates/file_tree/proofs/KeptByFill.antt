-- A list that is a tree stays one when a file gets another content. This is of the lists alone.
use Rattle.std.proofs.Common.{◌≡◌, ℕ, zero, suc, ◌<◌, ◌≤◌, ◌+◌, ◌-◌, inl, inr, List, [], ◌∷◌, Bool, true, None, length, take, drop, replicate, ap, sym, ◌∙◌, refl, arith}
use Rattle.std.proofs.Common.{length-append, length-take, length-drop}
use Rattle.std.specs.List.{list_all}
use Rattle.std.specs.Cmp.Derive.{both_true}
use Rattle.std.proofs.lemmas.Bool.{and_parts, ltb-true, leb-true, le-leb, lt-ltb, ltb-false}
use Rattle.std.proofs.lemmas.List.{length-replicate}
use Rattle.file_tree.specs.Nodes.{File, Node, node}
use Rattle.rights.specs.Limits.{most_bytes}
use Rattle.file_tree.specs.Changes.{filled, written, resized}
use Rattle.file_tree.specs.Refusals.{put_byte_fault, truncate_fault}
use Rattle.file_tree.specs.WellFormed.{IsTree, is_within_limits, is_byte}
use Rattle.file_tree.proofs.NodeLaws.{Directory, held_above, held_from, set_cases, passed, passed_last}
use Rattle.file_tree.proofs.TreeLaws.{filled_length}
use Rattle.file_tree.proofs.KeptByCreate.{limits_of, limits_from, all_of_both, all_after}

-- one node has the kind, the place and the link of another
record SameFrame (m k : Node) : Type 0 where
  kind : m.kind ≡ k.kind
  place : m.place ≡ k.place
  linked : m.linked ≡ k.linked

frames : (t : List Node) (n : ℕ) (content : List ℕ) → n < length t → (k : ℕ) → SameFrame (node (filled t n content) k) (node t k)
unfolding filled
frames t n content there k =
    elim (set_cases t n k (record { kind = (node t n).kind; place = (node t n).place; linked = (node t n).linked; content = content }) there) [
      | inl same ↦ let at : node t n ≡ node t k = ap (node t) (sym same.0) in record {
        kind = ap (λ (m : Node). m.kind) same.1 ∙ ap (λ (m : Node). m.kind) at;
        place = ap (λ (m : Node). m.place) same.1 ∙ ap (λ (m : Node). m.place) at;
        linked = ap (λ (m : Node). m.linked) same.1 ∙ ap (λ (m : Node). m.linked) at;
      }
      | inr other ↦ record { kind = ap (λ (m : Node). m.kind) other.1; place = ap (λ (m : Node). m.place) other.1; linked = ap (λ (m : Node). m.linked) other.1 }
    ]

filled_limits : (t : List Node) (n : ℕ) (content : List ℕ) → IsTree t → (node t n).kind ≡ File → n < length t → length content ≤ most_bytes →
    list_all is_byte content ≡ true → (k : ℕ) → k < length t → is_within_limits (node (filled t n content) k) ≡ true
unfolding filled
filled_limits t n content tree file there short bytes k k_there =
    let new : Node = record { kind = (node t n).kind; place = (node t n).place; linked = (node t n).linked; content = content } in
    elim (set_cases t n k new there) [
      | inl same ↦ let old = limits_of (node t n) (tree.limits n there) in
          ap is_within_limits same.1 ∙ limits_from new (record { names = old.names; content = rw file (le-leb (length content) most_bytes short); bytes = bytes })
      | inr other ↦ ap is_within_limits other.1 ∙ tree.limits k k_there
    ]

pub filled_is_tree : (t : List Node) (n : ℕ) (content : List ℕ) → IsTree t → (node t n).kind ≡ File → n < length t → length content ≤ most_bytes →
    list_all is_byte content ≡ true → IsTree (filled t n content)
filled_is_tree t n content tree file there short bytes =
    let same = frames t n content there in
    let was = λ (k : ℕ) (linked : (node (filled t n content) k).linked ≡ true). sym (same k).linked ∙ linked in
    let still = λ (p : List (List ℕ)) (d : Directory t p). let it : Directory (filled t n content) p = record {
      number = d.number;
      linked = (same d.number).linked ∙ d.linked;
      kind = (same d.number).kind ∙ d.kind;
      place = (same d.number).place ∙ d.place;
    } in it in
    record {
      root_linked = (same 0).linked ∙ tree.root_linked;
      root_kind = (same 0).kind ∙ tree.root_kind;
      root_place = (same 0).place ∙ tree.root_place;
      apart = λ i j linked_i linked_j at. tree.apart i j (was i linked_i) (was j linked_j) (sym (same i).place ∙ at ∙ (same j).place);
      held = λ k linked. rw (same k).place (held_from (filled t n content) (node t k).place (λ low. still _ (held_above t (node t k).place (tree.held k (was k linked)) low)));
      few = omega (arith, filled_length t n content, tree.few);
      limits = λ k k_there. filled_limits t n content tree file there short bytes k (omega (arith, filled_length t n content));
    }

-- bytes that are cut, left or filled up are bytes
list_all-take : {A : Type 0} (test : A → Bool) (k : ℕ) (xs : List A) → list_all test xs ≡ true → list_all test (take k xs) ≡ true
list_all-take test zero xs h = refl
list_all-take test (suc k) [] h = refl
list_all-take test (suc k) (x ∷ xs) h = let parts = and_parts (test x) (list_all test xs) h in both_true parts.0 (list_all-take test k xs parts.1)

list_all-replicate : {A : Type 0} (test : A → Bool) (k : ℕ) (x : A) → test x ≡ true → list_all test (replicate k x) ≡ true
list_all-replicate test zero x h = refl
list_all-replicate test (suc k) x h = both_true h (list_all-replicate test k x h)

resized_bytes : (content : List ℕ) (len : ℕ) → list_all is_byte content ≡ true → list_all is_byte (resized content len) ≡ true
resized_bytes content len h = all_of_both is_byte (take len content) (replicate (len - length content) 0) (list_all-take is_byte len content h)
    (list_all-replicate is_byte (len - length content) 0 refl)

written_bytes : (content : List ℕ) (at b : ℕ) → b < 256 → list_all is_byte content ≡ true → list_all is_byte (written content at b) ≡ true
written_bytes content at b small h =
    all_of_both is_byte (resized content at) (b ∷ drop (at + 1) content) (resized_bytes content at h) (both_true (lt-ltb b 256 small) (all_after is_byte (at + 1) content h))

pub resized_length : (content : List ℕ) (len : ℕ) → length (resized content len) ≡ len
resized_length content len =
    let zeros : length (replicate (len - length content) 0) ≡ len - length content = length-replicate {A = ℕ} (len - length content) 0 in
    omega (arith, length-append (take len content) (replicate (len - length content) 0), length-take len content, zeros)

pub written_length : (content : List ℕ) (at b k : ℕ) → at < k → length content ≤ k → length (written content at b) ≤ k
written_length content at b k low short =
    omega (arith, length-append (resized content at) (b ∷ drop (at + 1) content), resized_length content at, length-drop (at + 1) content)

-- what a file of a tree holds
file_content : (t : List Node) (n : ℕ) → IsTree t → (node t n).kind ≡ File → n < length t → (length (node t n).content ≤ most_bytes) × (list_all is_byte (node t n).content ≡ true)
file_content t n tree file there =
    let old = limits_of (node t n) (tree.limits n there) in
    (leb-true (length (node t n).content) most_bytes (rw file at old.content), old.bytes)

pub written_is_tree : (t : List Node) (n at b : ℕ) → IsTree t → (node t n).kind ≡ File → n < length t → b < 256 → put_byte_fault at ≡ None → IsTree (filled t n (written (node t n).content at b))
written_is_tree t n at b tree file there small allowed =
    let old = file_content t n tree file there in
    let low : at < most_bytes = ltb-true at most_bytes (passed_last _ _ allowed) in
    filled_is_tree t n (written (node t n).content at b) tree file there
    (written_length (node t n).content at b most_bytes low old.0)
    (written_bytes (node t n).content at b small old.1)

pub resized_is_tree : (t : List Node) (n len : ℕ) → IsTree t → (node t n).kind ≡ File → n < length t → truncate_fault len ≡ None → IsTree (filled t n (resized (node t n).content len))
resized_is_tree t n len tree file there allowed =
    let old = file_content t n tree file there in
    let low : len ≤ most_bytes = ltb-false most_bytes len (passed _ _ _ allowed).0 in
    filled_is_tree t n (resized (node t n).content len) tree file there
    (omega (arith, resized_length (node t n).content len))
    (resized_bytes (node t n).content len old.1)
