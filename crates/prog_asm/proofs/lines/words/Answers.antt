use Rattle.std.proofs.Common.{◌≡◌, ◌+◌, List, map, ap, sym, ◌∙◌, subst, refl, Bool, ℕ}
use Rattle.std.specs.Prelude.{true, false, not, ◌&&◌}
use Rattle.std.proofs.lemmas.List.{map-append}
use Rattle.prog_asm.specs.declared.lines.Word.{Word as WordCode}
use Rattle.prog_asm.specs.LineViews.{word_of}
use Rattle.prog_asm.specs.WordPlaces.{Word}
use Rattle.prog_asm.proofs.WordsRead.{WordsSoFar, word-ends, no-word-ends, word-goes-on}
use Rattle.prog_asm.proofs.lines.words.Goals as goal
use Rattle.prog_asm.proofs.lines.words.Goals.{then-not-quoted+then-is_blank, then-start-at+in_ok-push, else-start-at, else-not-quoted}
use Rattle.prog_asm.proofs.lines.words.Goals.{else-not-quoted-via-then-not-quoted+else-is_blank, else-not-quoted-via-else-not-quoted}

not_blank : (quoted blank : Bool) → blank ≡ false → (not quoted && blank) ≡ false
not_blank true blank h = refl
not_blank false blank h = h

quoted_byte : (quoted blank : Bool) → quoted ≡ true → (not quoted && blank) ≡ false
quoted_byte quoted blank h = ap (λ q. not q && blank) h

same_so_far : (line : List ℕ) (words words' : List Word) (quoted quoted' : Bool) (start start' at : ℕ) → words ≡ words' → quoted ≡ quoted' →
    start ≡ start' → WordsSoFar line words' quoted' start' at → WordsSoFar line words quoted start at
same_so_far line words words' quoted quoted' start start' at w q s so_far = rw (w, q, s) so_far

pub loop-at-preserved : goal.loop-at-preserved
loop-at-preserved c =
    let line = c.args.line.now in
    let start = c.loop-at.start in
    let at = c.loop-at.at in
    let quoted = c.loop-at.quoted in
    let so_far = c.loop-at.invariant in
    let placed : List WordCode → List Word = λ words. map word_of words in
    let old = placed c.loop-at.words.items in
    elim c.if-not-quoted.branch [
      | then-not-quoted+then-is_blank w ↦
          let blank = sym w.is_blank.ensures ∙ w.if-is_blank.true in
          let unquoted : WordsSoFar line old false start at = subst (λ q. WordsSoFar line old q start at) w.if-not-quoted.true so_far in
          let still = w.quoted-is ∙ w.if-not-quoted.true in
          elim w.if-start-at.branch [
            | then-start-at+in_ok-push w' ↦
                same_so_far line _ _ _ _ _ _ (at + 1)
                (ap (λ v. placed v.items) (w.words-is ∙ w'.words-is) ∙ ap placed w'.in_ok-push.ensures.items ∙ map-append word_of c.loop-at.words.items _)
                still w.start-is
                (word-ends line old start at w'.if-start-at.true c.loop-at-test.true blank unquoted)
            | else-start-at w' ↦
                same_so_far line _ _ _ _ _ _ (at + 1)
                (ap (λ v. placed v.items) (w.words-is ∙ w'.words-is))
                still w.start-is
                (no-word-ends line old start at w'.if-start-at.false c.loop-at-test.true blank unquoted)
          ]
      | else-not-quoted w ↦
          let goes_on = word-goes-on line old quoted start at c.loop-at-test.true in
          let after = same_so_far line _ _ _ _ _ _ (at + 1) (ap (λ v. placed v.items) w.words-is) (w.quoted-is ∙ w.is_quoted_behind-quoted.ensures) w.start-is in
          elim w.else-not-quoted.branch [
            | else-not-quoted-via-then-not-quoted+else-is_blank w' ↦ after (goes_on (not_blank quoted _ (sym w'.is_blank.ensures ∙ w'.if-is_blank.false)) so_far)
            | else-not-quoted-via-else-not-quoted w' ↦ after (goes_on (quoted_byte quoted _ w'.if-not-quoted.false) so_far)
          ]
    ]
