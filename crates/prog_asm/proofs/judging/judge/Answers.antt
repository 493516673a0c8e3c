use Rattle.std.proofs.Common.{◌+◌, ◌++◌, [], Bor, List, ℕ, map, get_or, ap, sym, ◌∙◌, subst, refl, arith}
use Rattle.std.proofs.lemmas.List.{length-map, map-append}
use Rattle.texts.proofs.LineLaws.{texts-of}
use Rattle.prog_asm.specs.LineFaults.{faults_together}
use Rattle.prog_asm.specs.FaultPlaceViews.{fault_seen, faults_seen}
use Rattle.prog_asm.specs.DraftViews.{JudgesLine}
use Rattle.prog_asm.proofs.JudgedCode.{all-judged, all-read, beyond-reads, line-here, none-judged, one-beyond, one-judged}
use Rattle.prog_asm.proofs.judging.judge.Goals as goal

-- what stands where there is no line
abbrev none : Bor (List ℕ)
none = record { ref_ptr = (0, 0); now = [] }

pub loop-at-init : goal.loop-at-init
loop-at-init c =
    none-judged c.args.wide c.args.text.now (map (λ line. line.now) c.deref-line-items.result.now) c.new-draft.result
    (ap (map (λ line. line.now)) c.deref-line-items.ensures.value ∙ c.in_ok-lines.ensures ∙ texts-of c.args.text.now) c.new-draft.ensures.lines c.new-draft.ensures.faults

pub returns-then-not-branch-clause-faults : goal.returns-then-not-branch-clause-faults
returns-then-not-branch-clause-faults c =
    let so_far = c.loop-at.invariant in
    one-beyond c.args.wide c.args.text.now _ _ c.loop-at.at c.loop-at.draft c.add_line.new.self so_far
    (line-here c.deref-line-items.result.now c.loop-at.at none c.loop-at-test.true)
    (subst (JudgesLine c.args.wide so_far.read (get_or c.deref-line-items.result.now c.loop-at.at none).now c.loop-at.draft c.add_line.new.self) c.if-not-branch.true
    (c.in_ok-add_line.ensures so_far.read so_far.drafts (ap (λ n. n + 1) so_far.counts)))

pub returns-then-not-branch-clause-read : goal.returns-then-not-branch-clause-read
returns-then-not-branch-clause-read c =
    let so_far = c.loop-at.invariant in
    beyond-reads c.args.wide c.args.text.now (get_or c.deref-line-items.result.now c.loop-at.at none).now so_far.read c.loop-at.draft c.add_line.new.self
    (subst (JudgesLine c.args.wide so_far.read (get_or c.deref-line-items.result.now c.loop-at.at none).now c.loop-at.draft c.add_line.new.self) c.if-not-branch.true
    (c.in_ok-add_line.ensures so_far.read so_far.drafts (ap (λ n. n + 1) so_far.counts)))

pub loop-at-preserved : goal.loop-at-preserved
loop-at-preserved c =
    let so_far = c.loop-at.invariant in
    one-judged c.args.wide c.args.text.now _ _ c.loop-at.at c.loop-at.draft c.add_line.new.self so_far
    (line-here c.deref-line-items.result.now c.loop-at.at none c.loop-at-test.true)
    (subst (JudgesLine c.args.wide so_far.read (get_or c.deref-line-items.result.now c.loop-at.at none).now c.loop-at.draft c.add_line.new.self) c.if-not-branch.false
    (c.in_ok-add_line.ensures so_far.read so_far.drafts (ap (λ n. n + 1) so_far.counts)))

pub returns-clause-faults : goal.returns-clause-faults
returns-clause-faults c =
    let so_far = c.loop-at.invariant in
    all-judged c.args.wide c.args.text.now _ c.loop-at.at c.loop-at.draft (faults_seen c.append.new.self.items) so_far
    (omega (arith, c.loop-at-test.false, length-map c.deref-line-items.result.now (λ line. line.now)))
    (ap faults_seen c.in_ok-append.ensures.items ∙ map-append fault_seen c.loop-at.draft.faults.items c.in_ok-together.together.items
    ∙ ap (λ more. faults_seen c.loop-at.draft.faults.items ++ more)
    (c.in_ok-together.ensures so_far.read so_far.drafts
    ∙ ap (λ lines. faults_together (map (λ line. line.now) lines) so_far.read) (c.deref.ensures.value ∙ sym c.deref-line-items.ensures.value)))

pub returns-clause-read : goal.returns-clause-read
returns-clause-read c =
    all-read c.args.wide c.args.text.now _ c.loop-at.at c.loop-at.draft _ (faults_seen c.in_ok-together.together.items) c.loop-at.invariant
    (omega (arith, c.loop-at-test.false, length-map c.deref-line-items.result.now (λ line. line.now))) refl refl
    (ap faults_seen c.in_ok-append.ensures.items ∙ map-append fault_seen c.loop-at.draft.faults.items c.in_ok-together.together.items)
