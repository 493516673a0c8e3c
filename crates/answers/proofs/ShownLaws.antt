-- What is told of runs, by what stands on its page.
use Rattle.std.proofs.Common.{◌≡◌, ◌+◌, ℕ, suc, List, ◌∷◌, ◌++◌, drop, take, length, ap, append_assoc, subst, sym, ◌∙◌, arith}
use Rattle.std.specs.Prelude.{codes}
use Rattle.std.specs.Borrow.{Bor}
use Rattle.std.specs.Fmt.{decimal}
use Rattle.std.proofs.lemmas.List.{length-map, take-append-drop}
use Rattle.records.specs.declared.entries.Entry.{Entry as EntryCode}
use Rattle.records.specs.EntryViews.{record_entry_seen}
use Rattle.follow.specs.Views.{entries_after}
use Rattle.texts.proofs.PageLaws.{adds_both}
use Rattle.texts.specs.PageViews.{Adds}
use Rattle.texts.specs.declared.pages.Page.{Page}
use Rattle.answers.specs.Learnt.{StandsIn, count_text, counts_of, reason_text}

pub as_many : (entries : List (Bor EntryCode)) → length (entries_after entries) ≡ length entries
as_many entries = length-map entries (λ (entry : Bor EntryCode). record_entry_seen entry.now)

-- words that stand behind so many bytes of a text
pub stands : (words text back : List ℕ) (at n : ℕ) → take n (drop at text) ≡ words ++ back → StandsIn words text
stands words text back at n is = record {
  front = take at text;
  back = back ++ drop n (drop at text);
  is_text =
      sym (take-append-drop at text)
      ∙ ap (λ rest. take at text ++ rest)
      (sym (take-append-drop n (drop at text)) ∙ (ap (λ first. first ++ drop n (drop at text)) is ∙ append_assoc words back (drop n (drop at text))));
}

same_count : (rest : List (Bor EntryCode)) → length rest + 1 ≡ suc (length (entries_after rest))
same_count rest = let same = as_many rest in omega (arith, same)

-- calls that were skipped for one reason are as many as there are entries
pub skipped_words : (p q : Page) (words : List ℕ) (first : Bor EntryCode) (rest : List (Bor EntryCode))
    → Adds p q (codes "#  " ++ (count_text (length rest + 1) ++ (words ++ (codes ", from line " ++ (decimal (record_entry_seen first.now).span.first ++ codes " on\n")))))
    → Adds p q (reason_text words (entries_after (first ∷ rest)))
skipped_words p q words first rest adds =
    subst (λ (n : ℕ). Adds p q (codes "#  " ++ (count_text n ++ (words ++ (codes ", from line " ++ (decimal (record_entry_seen first.now).span.first ++ codes " on\n"))))))
    (same_count rest) adds

-- how many calls were shown and skipped
pub counted : (p q : Page) (m n : ℕ) (shown skipped : List (Bor EntryCode)) → m ≡ length shown → n ≡ length skipped
    → Adds p q (counts_of m n) → Adds p q (counts_of (length (entries_after shown)) (length (entries_after skipped)))
counted p q m n shown skipped is are adds =
    subst (λ (k : ℕ). Adds p q (counts_of k (length (entries_after skipped)))) (is ∙ sym (as_many shown))
    (subst (λ (k : ℕ). Adds p q (counts_of m k)) (are ∙ sym (as_many skipped)) adds)

pub two_added : (p q r : Page) (a b : List ℕ) → Adds p q a → Adds q r b → Adds p r (a ++ b)
two_added p q r a b first second = adds_both p q r a b first second

pub three_added : (p q r s : Page) (a b c : List ℕ) → Adds p q a → Adds q r b → Adds r s c → Adds p s (a ++ (b ++ c))
three_added p q r s a b c first second third = adds_both p q s a (b ++ c) first (adds_both q r s b c second third)
