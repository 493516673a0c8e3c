use Rattle.std.proofs.Common.{◌≡◌, Bool, true, false, Some, None, map, sym, ap, subst, ◌∙◌}
use Rattle.std.specs.Prelude.{not, if◌then◌else◌}
use Rattle.task_reader.specs.Documents.{are_once}
use Rattle.task_reader.proofs.OnceLaws.{SoFar, none-yet, with-new, with-known}
use Rattle.task_reader.proofs.documents.words_once.Goals as goal

turned : (a b : Bool) → a ≡ not b → b ≡ not a
turned a true is = ap not (sym is)
turned a false is = ap not (sym is)

pub loop-word-init : goal.loop-word-init
loop-word-init c =
    let words = map (λ w. w.now) c.args.words.now in
    subst (λ keys. SoFar words (map (λ w. w.now) keys) words) (sym c.in_ok-set.ensures.empty) (none-yet words)

pub loop-word-preserved : goal.loop-word-preserved
loop-word-preserved c =
    let words = c.args.words.now in
    let new = turned _ _ c.in_ok-is_new.ensures.added ∙ ap not c.if-not-is_new.false in
    with-new words c.loop-word.set.keys c.insert_full.new.self.keys c.loop-word.word-index _ c.loop-word-test.true new c.in_ok-is_new.ensures.keys c.loop-word.invariant

pub returns-then-not-is_new-clause-once : goal.returns-then-not-is_new-clause-once
returns-then-not-is_new-clause-once c =
    let words = c.args.words.now in
    let known = turned _ _ c.in_ok-is_new.ensures.added ∙ ap not c.if-not-is_new.true in
    let twice : are_once (map (λ w. w.now) words) ≡ false =
    with-known words c.loop-word.set.keys c.loop-word.word-index _ c.loop-word-test.true known c.loop-word.invariant in
    sym (ap (λ b. if b then Some (map (λ w. w.now) words) else None) twice)
