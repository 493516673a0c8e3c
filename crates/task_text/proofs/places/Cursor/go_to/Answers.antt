use Rattle.std.proofs.Common.{◌≡◌, ◌≤◌, ◌+◌, ◌<◌, suc, length, sym, ap, subst, ◌∙◌, arith}
use Rattle.std.proofs.lemmas.Bool.{ltb-false, ltb-true}
use Rattle.task_text.specs.Places.{passed, place_at}
use Rattle.task_text.specs.PlaceViews.{place_seen}
use Rattle.task_text.specs.declared.places.Cursor.{Cursor}
use Rattle.task_text.proofs.PlaceLaws.{none-before, one_on, past_end}
use Rattle.task_text.proofs.places.Cursor.go_to.Goals as goal
use Rattle.task_text.proofs.places.Cursor.go_to.Goals.{then-offset-self, else-offset-self}

pub loop-self-init : goal.loop-self-init
loop-self-init c =
    let Stands : Cursor → Type 0 = λ cursor. (place_seen cursor.place ≡ place_at c.args.file.now cursor.offset) × (cursor.offset ≤ c.args.offset) in
    elim c.if-offset-self.branch [
      | then-offset-self w ↦ subst Stands (sym w.self-is) (sym (none-before c.args.file.now (1, 1)), omega arith)
      | else-offset-self w ↦ let before = w.if-offset-self.false in subst Stands (sym w.self-is) (c.requires, omega (arith, before))
    ]

pub returns-in_default-clause-place : goal.returns-in_default-clause-place
returns-in_default-clause-place c =
    let look = c.in_default.ensures.lookup.0 in
    let end : length c.args.file.now ≤ c.loop-self.self.offset = ltb-false _ _ (sym look) in
    let here = c.loop-self.invariant.1 in
    c.loop-self.invariant.0 ∙ past_end c.args.file.now c.loop-self.self.offset c.args.offset (1, 1) end (omega (arith, end, here))

pub loop-self-preserved : goal.loop-self-preserved
loop-self-preserved c =
    let look = c.in-Some.ensures.lookup in
    let below : c.loop-self.self.offset < length c.args.file.now = ltb-true _ _ (sym look.0) in
    let test = c.loop-self-test.true in
    let more : suc c.loop-self.self.offset ≡ c.loop-self.self.offset + 1 = omega arith in (
      c.past-self.ensures ∙ (λ k. passed (look.1 k) (c.loop-self.invariant.0 k)) ∙ sym (one_on c.args.file.now c.loop-self.self.offset c.in-Some.byte.now (1, 1) below)
          ∙ ap (place_at c.args.file.now) more,
      omega (arith, test),
    )
