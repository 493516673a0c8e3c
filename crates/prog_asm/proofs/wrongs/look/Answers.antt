use Rattle.std.proofs.Common.{◌≡◌, ap, sym, ◌∙◌, map, refl}
use Rattle.std.specs.Prelude.{Some, option_map}
use Rattle.instruction_set.specs.Assembly.{line_with}
use Rattle.instruction_set.specs.Forms.{Alone}
use Rattle.instruction_set.specs.Programs.{Halt}
use Rattle.prog_asm.specs.FaultPlaceViews.{fault_seen, list_of}
use Rattle.prog_asm.specs.LineFaults.{behind_label, label_in, name_if_good, own_fault, stray_in}
use Rattle.prog_asm.specs.LineViews.{line_from, word_of}
use Rattle.prog_asm.specs.declared.mistakes.Mistake.TheVariants as mistake
use Rattle.prog_asm.specs.WordPlaces.{placed_words}
use Rattle.prog_asm.proofs.JudgedLaws.{read-counted, unread-counted}
use Rattle.prog_asm.proofs.LinesRead.{parts-seen, unread-is}
use Rattle.prog_asm.proofs.wrongs.look.Goals as goal
use Rattle.prog_asm.proofs.wrongs.look.Goals.{in-Ok, in-Err-Wrong}

pub returns-clause-line : goal.returns-clause-line
returns-clause-line c =
    let text = c.args.text.now in
    let code = c.before_comment-code.ensures in
    let words = c.in_ok-words.ensures ∙ ap placed_words code in
    let stray = c.stray_in-stray.ensures ∙ ap stray_in code in
    let label = c.label_in-label.ensures ∙ ap (λ words. label_in (map word_of words)) c.deref.ensures.value ∙ ap label_in words in
    let behind = c.behind_label-behind.ensures ∙ ap (λ words. behind_label (map word_of words)) c.deref-2.ensures.value ∙ ap behind_label words in
    let read = parts-seen c.args.wide text _ _ c.behind_label-behind.result.now stray label behind in
    elim c.match-read_line.branch [
      | in-Ok w ↦ ap (λ seen. line_from seen.0) w.line-is ∙ (read-counted c.args.wide text (line_from w.in-Ok.line) (sym read ∙ w.in-Ok.ensures)).0
      | in-Err-Wrong w ↦
          let wrong : w.in-Err-Wrong.field-0 ≡ mistake.Wrong = w.in-Err-Wrong.field-0-is in
          let unread = unread-is w.in-Err-Wrong.field-0 _ _ wrong read w.in-Err-Wrong.ensures in
          ap (λ seen. line_from seen.0) w.line-is ∙ w.halt_behind.ensures ∙ ap (λ label. line_with (name_if_good label) (Some (Alone Halt))) label ∙ sym (unread-counted c.args.wide text unread)
    ]

pub returns-clause-wrong : goal.returns-clause-wrong
returns-clause-wrong c =
    let text = c.args.text.now in
    let code = c.before_comment-code.ensures in
    let words = c.in_ok-words.ensures ∙ ap placed_words code in
    let stray = c.stray_in-stray.ensures ∙ ap stray_in code in
    let label = c.label_in-label.ensures ∙ ap (λ words. label_in (map word_of words)) c.deref.ensures.value ∙ ap label_in words in
    let behind = c.behind_label-behind.ensures ∙ ap (λ words. behind_label (map word_of words)) c.deref-2.ensures.value ∙ ap behind_label words in
    let read = parts-seen c.args.wide text _ _ c.behind_label-behind.result.now stray label behind in
    elim c.match-read_line.branch [
      | in-Ok w ↦ ap (λ seen. list_of (option_map fault_seen seen.1)) w.line-is
          ∙ sym (ap (own_fault c.args.number) (read-counted c.args.wide text (line_from w.in-Ok.line) (sym read ∙ w.in-Ok.ensures)).1)
      | in-Err-Wrong w ↦ ap (λ seen. list_of (option_map fault_seen seen.1)) w.line-is ∙ w.wrong_in.ensures ∙ rw (stray, label, behind) refl
    ]
