-- Names that are filed stay so when a node leaves its directory, and when one comes into a directory.
use Rattle.std.proofs.Common.{◌≡◌, ℕ, ◌⊎◌, inl, inr, List, [], true, false, Option, Some, None, ap, sym, ◌∙◌, refl, cond, eqb}
use Rattle.std.specs.Prelude.{◌≢◌, ◌&&◌}
use Rattle.std.specs.Str.{bytes_eq}
use Rattle.std.proofs.lemmas.Bool.{cases_Bool}
use Rattle.std.proofs.lemmas.Bool.Decides.{eqb_tells}
use Rattle.std.proofs.lemmas.Slice.Eq.{bytes_eq-Decides}
use Rattle.link_tree.specs.Links.{Standing, In, Out, Filed}

-- another stand of a node, and another child under a name
abbrev pub put : (ℕ → Standing) → ℕ → Standing → ℕ → Standing
put S n s k = cond (eqb n k) s (S k)

abbrev pub put2 : (ℕ → List ℕ → Option ℕ) → ℕ → List ℕ → Option ℕ → ℕ → List ℕ → Option ℕ
put2 C d name o e q = cond (eqb d e && bytes_eq name q) o (C e q)

-- the same name in the same directory, or not
pub slot_cases : (d e : ℕ) (name q : List ℕ) → (((eqb d e && bytes_eq name q) ≡ true) × (d ≡ e) × (name ≡ q)) ⊎ (((eqb d e && bytes_eq name q) ≡ false) × (d ≡ e → name ≡ q → ⊥))
slot_cases d e name q = by_number (eqb_tells d e) (cases_Bool (bytes_eq name q))
  where
    by_number : ((eqb d e ≡ true) × (d ≡ e)) ⊎ ((eqb d e ≡ false) × (d ≢ e)) → (bytes_eq name q ≡ true) ⊎ (bytes_eq name q ≡ false)
        → (((eqb d e && bytes_eq name q) ≡ true) × (d ≡ e) × (name ≡ q)) ⊎ (((eqb d e && bytes_eq name q) ≡ false) × (d ≡ e → name ≡ q → ⊥))
    by_number (inr other) names = inr (rw other.0 refl, λ same _. other.1 same)
    by_number (inl same) (inl names) = inl (rw (same.0, names) refl, same.1, (bytes_eq-Decides name q).0 names)
    by_number (inl same) (inr names) = inr (rw (same.0, names) refl, λ _ equal. let yes : bytes_eq name q ≡ true = (bytes_eq-Decides name q).1 equal in let no : true ≡ false = sym yes ∙ names in cc)

pub filed_same : (S T : ℕ → Standing) (C D : ℕ → List ℕ → Option ℕ) → Filed S C → ((n : ℕ) → T n ≡ S n) → ((d : ℕ) (name : List ℕ) → D d name ≡ C d name) → Filed T D
filed_same S T C D filed stands children = record {
  named = λ n d name h. children d name ∙ filed.named n d name (sym (stands n) ∙ h);
  holds = λ d name n h. stands n ∙ filed.holds d name n (sym (children d name) ∙ h);
}

module _ (S : ℕ → Standing) (C : ℕ → List ℕ → Option ℕ) (filed : Filed S C) (n d : ℕ) (name : List ℕ) where
  -- a node leaves the directory where it had a name
  pub filed_out : (p : List (List ℕ)) → S n ≡ In d name → Filed (put S n (Out p)) (put2 C d name None)
  filed_out p at = record {
    named = λ k e q h. elim (eqb_tells n k) [
      | inl same ↦ let no : Out p ≡ In e q = rw same.0 at h in cc
      | inr other ↦ let was : S k ≡ In e q = rw other.0 at h in named k e q other.1 was (slot_cases d e name q)
    ];
    holds = λ e q k h. elim (slot_cases d e name q) [
      | inl same ↦ let no : None ≡ Some k = rw same.0 at h in cc
      | inr other ↦ let was : C e q ≡ Some k = rw other.0 at h in holds e q k other.1 (filed.holds e q k was) (eqb_tells n k)
    ];
  }
    where
      named : (k e : ℕ) (q : List ℕ) → n ≢ k → S k ≡ In e q → (((eqb d e && bytes_eq name q) ≡ true) × (d ≡ e) × (name ≡ q)) ⊎ (((eqb d e && bytes_eq name q) ≡ false) × (d ≡ e → name ≡ q → ⊥))
          → put2 C d name None e q ≡ Some k
      named k e q apart was (inl same) =
          let mine : C d name ≡ Some n = filed.named n d name at in
          let its : C e q ≡ Some k = filed.named k e q was in
          let number : d ≡ e = same.1 in let names : name ≡ q = same.2 in
          let equal : n ≡ k = cc in absurd (apart equal)
      named k e q apart was (inr other) = rw other.0 (filed.named k e q was)

      holds : (e : ℕ) (q : List ℕ) (k : ℕ) → (d ≡ e → name ≡ q → ⊥) → S k ≡ In e q → ((eqb n k ≡ true) × (n ≡ k)) ⊎ ((eqb n k ≡ false) × (n ≢ k)) → put S n (Out p) k ≡ In e q
      holds e q k apart was (inl same) =
          let number : n ≡ k = same.1 in
          let slot : In d name ≡ In e q = sym at ∙ ap S number ∙ was in
          let numbers : d ≡ e = cc in let names : name ≡ q = cc in absurd (apart numbers names)
      holds e q k apart was (inr other) = rw other.0 was

  -- a node that is in no directory comes into one, under a name that none has
  pub filed_in : (p : List (List ℕ)) → S n ≡ Out p → C d name ≡ None → Filed (put S n (In d name)) (put2 C d name (Some n))
  filed_in p out free = record {
    named = λ k e q h. elim (eqb_tells n k) [
      | inl same ↦ let slot : In d name ≡ In e q = rw same.0 at h in mine k e q same.1 slot (slot_cases d e name q)
      | inr other ↦ let was : S k ≡ In e q = rw other.0 at h in named k e q was (slot_cases d e name q)
    ];
    holds = λ e q k h. elim (slot_cases d e name q) [
      | inl same ↦ let it : Some n ≡ Some k = rw same.0 at h in let equal : n ≡ k = cc in holds_mine e q k equal same.1 same.2 (eqb_tells n k)
      | inr other ↦ let was : C e q ≡ Some k = rw other.0 at h in holds e q k (filed.holds e q k was) (eqb_tells n k)
    ];
  }
    where
      mine : (k e : ℕ) (q : List ℕ) → n ≡ k → In d name ≡ In e q → (((eqb d e && bytes_eq name q) ≡ true) × (d ≡ e) × (name ≡ q)) ⊎ (((eqb d e && bytes_eq name q) ≡ false) × (d ≡ e → name ≡ q → ⊥))
          → put2 C d name (Some n) e q ≡ Some k
      mine k e q same slot (inl it) = rw it.0 (ap Some same)
      mine k e q same slot (inr other) = let numbers : d ≡ e = cc in let names : name ≡ q = cc in absurd (other.1 numbers names)

      named : (k e : ℕ) (q : List ℕ) → S k ≡ In e q → (((eqb d e && bytes_eq name q) ≡ true) × (d ≡ e) × (name ≡ q)) ⊎ (((eqb d e && bytes_eq name q) ≡ false) × (d ≡ e → name ≡ q → ⊥))
          → put2 C d name (Some n) e q ≡ Some k
      named k e q was (inl same) =
          let its : C e q ≡ Some k = filed.named k e q was in
          let number : d ≡ e = same.1 in let names : name ≡ q = same.2 in
          let no : None ≡ Some k = cc in cc
      named k e q was (inr other) = rw other.0 (filed.named k e q was)

      holds_mine : (e : ℕ) (q : List ℕ) (k : ℕ) → n ≡ k → d ≡ e → name ≡ q → ((eqb n k ≡ true) × (n ≡ k)) ⊎ ((eqb n k ≡ false) × (n ≢ k)) → put S n (In d name) k ≡ In e q
      holds_mine e q k same number names (inl it) = rw it.0 cc
      holds_mine e q k same number names (inr other) = absurd (other.1 same)

      holds : (e : ℕ) (q : List ℕ) (k : ℕ) → S k ≡ In e q → ((eqb n k ≡ true) × (n ≡ k)) ⊎ ((eqb n k ≡ false) × (n ≢ k)) → put S n (In d name) k ≡ In e q
      holds e q k was (inl same) = let number : n ≡ k = same.1 in let no : Out p ≡ In e q = sym out ∙ ap S number ∙ was in cc
      holds e q k was (inr other) = rw other.0 was

-- a node moves from one directory into another, where what had the name is out already
pub filed_moved : (S T : ℕ → Standing) (C D : ℕ → List ℕ → Option ℕ) (n d e : ℕ) (name x : List ℕ) → Filed T (put2 C d name None) → T n ≡ In e x → (d ≡ e → name ≡ x → ⊥)
    → ((k : ℕ) → S k ≡ put T n (In d name) k) → ((i : ℕ) (q : List ℕ) → D i q ≡ put2 (put2 C d name (Some n)) e x None i q) → Filed S D
filed_moved S T C D n d e name x filed at apart stands children =
    filed_same (put (put T n (Out [])) n (In d name)) S (put2 (put2 (put2 C d name None) e x None) d name (Some n)) D
    (filed_in (put T n (Out [])) (put2 (put2 C d name None) e x None) (filed_out T (put2 C d name None) filed n e x [] at) n d name [] out free)
    (λ k. stands k ∙ twice k)
    (λ i q. children i q ∙ turned i q)
  where
    out : put T n (Out []) n ≡ Out []
    out = elim (eqb_tells n n) [ inl same ↦ rw same.0 refl | inr other ↦ absurd (other.1 refl) ]

    free : put2 (put2 C d name None) e x None d name ≡ None
    free = elim (slot_cases e d x name) [
      | inl same ↦ rw same.0 refl
      | inr other ↦ elim (slot_cases d d name name) [ inl here ↦ rw (other.0, here.0) refl | inr elsewhere ↦ absurd (elsewhere.1 refl refl) ]
    ]

    twice : (k : ℕ) → put T n (In d name) k ≡ put (put T n (Out [])) n (In d name) k
    twice k = elim (eqb_tells n k) [ inl same ↦ rw same.0 refl | inr other ↦ rw other.0 refl ]

    turned : (i : ℕ) (q : List ℕ) → put2 (put2 C d name (Some n)) e x None i q ≡ put2 (put2 (put2 C d name None) e x None) d name (Some n) i q
    turned i q = both (slot_cases d i name q) (slot_cases e i x q)
      where
        both : (((eqb d i && bytes_eq name q) ≡ true) × (d ≡ i) × (name ≡ q)) ⊎ (((eqb d i && bytes_eq name q) ≡ false) × (d ≡ i → name ≡ q → ⊥))
            → (((eqb e i && bytes_eq x q) ≡ true) × (e ≡ i) × (x ≡ q)) ⊎ (((eqb e i && bytes_eq x q) ≡ false) × (e ≡ i → x ≡ q → ⊥))
            → put2 (put2 C d name (Some n)) e x None i q ≡ put2 (put2 (put2 C d name None) e x None) d name (Some n) i q
        both (inl a) (inl b) = absurd (apart (a.1 ∙ sym b.1) (a.2 ∙ sym b.2))
        both (inl a) (inr b) = rw (a.0, b.0) refl
        both (inr a) (inl b) = rw (a.0, b.0) refl
        both (inr a) (inr b) = rw (a.0, b.0) refl
