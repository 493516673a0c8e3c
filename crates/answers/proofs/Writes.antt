-- What is written, by what stands on its page.
use Rattle.std.proofs.Common.{◌≡◌, ℕ, List, [], ◌++◌, map, refl, inl, inr, ap, sym, ◌∙◌}
use Rattle.std.specs.Prelude.{codes, Some}
use Rattle.std.proofs.lemmas.Simd.{map-map}
use Rattle.explore.specs.BreachViews.{breach_of}
use Rattle.explore.specs.Broken.{Move}
use Rattle.explore.specs.DeedTexts.{attack_run_text}
use Rattle.explore.specs.FoundViews.{IsAttacked, IsFound}
use Rattle.explore.specs.MoveViews.{event_at, move_of}
use Rattle.explore.specs.Texts.{WritesDetailed, schedule_text}
use Rattle.explore.specs.declared.exploring.FoundAttack.{FoundAttack}
use Rattle.explore.specs.declared.exploring.FoundRun.{FoundRun}
use Rattle.follow.specs.Places.{Placing}
use Rattle.follow.specs.Shows.{IsShown, Witness, events_of}
use Rattle.kernel.specs.Answers.{Event}
use Rattle.records.specs.Calls.{RecordedCalls}
use Rattle.syscalls.specs.Views.{event_of}
use Rattle.task.specs.Plans.{Plan}
use Rattle.answers.specs.Answered.{SaysFollowed, SaysRefuted, SaysScheduled}

pub schedule_written : (status : ℕ) (first scheduled all text tally : List ℕ) (events seen : List Event) → status ≡ 0 → first ≡ []
    → scheduled ≡ first ++ schedule_text seen → all ≡ scheduled ++ (codes "\n" ++ tally) → text ≡ all → seen ≡ events
    → SaysScheduled events status text
schedule_written status first scheduled all text tally events seen done empty adds says whole same =
    let behind : List ℕ = codes "\n" ++ tally in
    let is : text ≡ schedule_text events ++ behind =
    whole ∙ says ∙ ap (λ t. t ++ behind) (adds ∙ ap (λ t. t ++ schedule_text seen) empty) ∙ ap (λ (es : List Event). schedule_text es ++ behind) same
    in
    inl (done, (tally, is))

pub run_followed : (plan : Plan) (placings : List Placing) (calls : RecordedCalls) (witness : Witness) (status : ℕ) (text : List ℕ)
    → IsShown plan placings calls witness → SaysScheduled (events_of witness.moves) status text → SaysFollowed plan placings calls status text
run_followed plan placings calls witness status text shown (inl writes) = inl (writes.0, record { witness = witness; is_shown = shown; is_text = writes.1 })
run_followed plan placings calls witness status text shown (inr parts) = inr parts

pub run_refutes : (plan : Plan) (found : FoundRun) (text : List ℕ) → IsFound plan found
    → WritesDetailed plan (map event_of found.events.items) (breach_of found.breach) found.detail.items (Some []) (Some text) → SaysRefuted plan 1 text
run_refutes plan found text is writes = inr (refl, inl (record { events = _; breach = _; breaks = is.breaks; refuted = is.refuted; is_text = (found.detail.items, writes) }))

pub attack_refutes : (plan : Plan) (found : FoundAttack) (text : List ℕ) → IsAttacked plan found
    → (trace : List ℕ) × (text ≡ attack_run_text (map event_at found.moves.items) trace (breach_of found.breach) found.detail.items) → SaysRefuted plan 1 text
attack_refutes plan found text is written =
    inr (
      refl,
      inr (record {
        moves = map move_of found.moves.items;
        breach = breach_of found.breach;
        breaks = is.breaks;
        refuted = is.refuted;
        trace = written.0;
        detail = found.detail.items;
        is_text =
            written.1
            ∙ ap (λ (events : List Event). attack_run_text events written.0 (breach_of found.breach) found.detail.items)
            (sym (map-map (λ (move : Move). move.0) move_of found.moves.items));
      }),
    )
