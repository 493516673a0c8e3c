use Rattle.std.proofs.Common.{◌≡◌, ◌+◌, ◌-◌, ◌∙◌, Some, ap, length, refl, sym, arith, true, false, get_or}
use Rattle.std.specs.Prelude.{◌||◌, ◌&&◌, ◌==◌, option_map}
use Rattle.std.specs.List.{slice_get}
use Rattle.std.proofs.Math.Bool.{not}
use Rattle.std.proofs.lemmas.Option.{slice_get-map, slice_get_read}
use Rattle.records.specs.LineAccounts.{are_quiet, is_in_lists, is_line_of}
use Rattle.records.specs.LineViews.{texts_told}
use Rattle.records.specs.declared.line_accounts.LineAccounts.{LineAccounts}
use Rattle.records.specs.declared.strace.StraceLine.{StraceLine}
use Rattle.records.proofs.AccountLaws.{marked-line, quiet-behind, unmarked-line}
use Rattle.records.proofs.line_accounts.accounts_of.Goals as goal
use Rattle.records.proofs.line_accounts.accounts_of.Goals.{then-not-is_marked+in_ok-list, else-not-is_marked}

pub loop-index-preserved : goal.loop-index-preserved
loop-index-preserved c = λ few.
    let i = c.loop-index.index in
    let marks = c.args.marks.now in
    let lines = c.args.lines.now in
    let number = c.line_number-number.ensures (omega arith) in
    let item = c.index-lines-index in
    let there : slice_get (texts_told lines) (c.line_number-number.result - 1) ≡ Some item.result.text.now =
    ap (slice_get (texts_told lines)) (omega (arith, number)) ∙ slice_get-map (λ (line : StraceLine). line.text.now) lines i
    ∙ ap (option_map (λ (line : StraceLine). line.text.now)) (slice_get_read lines (length lines) i item.result refl c.loop-index-test.true item.is)
    in (
      λ line. elim c.if-not-is_marked.branch [
        | then-not-is_marked+in_ok-list w ↦
            let off : get_or marks (i + 1) false ≡ false = ap (λ k. get_or marks k false) (sym number) ∙ sym w.if-not-is_marked.ensures in
            ap (λ (a : LineAccounts). is_in_lists line a.misread.items a.silent.items) w.accounts-is ∙ w.in_ok-list.ensures.lists line
            ∙ ap (λ b. b || (c.line_number-number.result == line)) ((c.loop-index.invariant few).0 line)
            ∙ ap (λ n. (is_line_of i line && not (get_or marks line false)) || (n == line)) number ∙ unmarked-line i line marks off
        | else-not-is_marked w ↦
            let on : get_or marks (i + 1) false ≡ true = ap (λ k. get_or marks k false) (sym number) ∙ sym w.if-not-is_marked.ensures in
            ap (λ (a : LineAccounts). is_in_lists line a.misread.items a.silent.items) w.accounts-is ∙ (c.loop-index.invariant few).0 line ∙ marked-line i line marks on
      ],
      elim c.if-not-is_marked.branch [
        | then-not-is_marked+in_ok-list w ↦
            ap (λ (a : LineAccounts). are_quiet (texts_told lines) a.silent.items) w.accounts-is
            ∙ quiet-behind (texts_told lines) c.loop-index.accounts.silent.items _ c.line_number-number.result w.is_silent.result item.result.text.now
            (c.loop-index.invariant few).1 there w.is_silent.ensures w.in_ok-list.ensures.silent.0 w.in_ok-list.ensures.silent.1
        | else-not-is_marked w ↦
            ap (λ (a : LineAccounts). are_quiet (texts_told lines) a.silent.items) w.accounts-is ∙ (c.loop-index.invariant few).1
      ],
    )
