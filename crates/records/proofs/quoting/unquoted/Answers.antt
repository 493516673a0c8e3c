use Rattle.std.proofs.Common.{◌+◌, ◌∙◌, ap, sym, drop}
use Rattle.records.specs.Quoted.{Gives, Leads, Within, unquoted, unquoted_from}
use Rattle.records.specs.QuotedViews.{effect_seen, progress_seen}
use Rattle.records.specs.declared.quoting.Progress.{Progress as ProgressCode}
use Rattle.records.proofs.QuotedLaws.{byte-goes, byte-stops, ends-open}
use Rattle.records.proofs.quoting.unquoted.Goals as goal
use Rattle.records.proofs.quoting.unquoted.Goals.{in-Leads, in-Gives+in_ok-push-in-Gives}

pub loop-byte-preserved : goal.loop-byte-preserved
loop-byte-preserved c =
    let word = c.args.word.now in
    let i = c.loop-byte.byte-index in
    let bytes = c.loop-byte.bytes.items in
    let next = c.match-effect_of.bytes.items in
    let progress = progress_seen c.loop-byte.progress in
    let after = progress_seen c.match-effect_of.progress in
    let rest = unquoted_from (drop (i + 1) word) in
    elim c.match-effect_of.branch [
      | in-Leads w ↦
          byte-goes word i bytes next progress after (Leads (progress_seen w.in-Leads.next)) _ c.loop-byte-test.true c.loop-byte.invariant
          (sym c.effect_of.ensures ∙ ap effect_seen w.in-Leads.is)
          (ap (λ v. rest v.items (progress_seen w.in-Leads.next)) (sym w.bytes-is) ∙ ap (λ (p : ProgressCode). rest next (progress_seen p)) (sym w.progress-is))
      | in-Gives+in_ok-push-in-Gives w ↦
          byte-goes word i bytes next progress after (Gives w.in-Gives.given) _ c.loop-byte-test.true c.loop-byte.invariant
          (sym c.effect_of.ensures ∙ ap effect_seen w.in-Gives.is)
          (ap (λ b. rest b Within) (sym w.in_ok-push-in-Gives.ensures.items) ∙ ap (λ v. rest v.items Within) (sym w.bytes-is)
          ∙ ap (λ (p : ProgressCode). rest next (progress_seen p)) (sym w.progress-is))
    ]

pub returns-in-Stops : goal.returns-in-Stops
unfolding unquoted
returns-in-Stops c =
    byte-stops c.args.word.now c.loop-byte.byte-index c.loop-byte.bytes.items (progress_seen c.loop-byte.progress) _ c.loop-byte-test.true c.loop-byte.invariant
    (sym c.effect_of.ensures ∙ ap effect_seen c.in-Stops.is)

pub returns-in_default : goal.returns-in_default
unfolding unquoted
returns-in_default c = ends-open c.args.word.now c.loop-byte.byte-index c.loop-byte.bytes.items c.loop-byte.progress _ c.loop-byte-test.false c.in_default.not-Behind c.loop-byte.invariant
