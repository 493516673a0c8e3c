-- The lines of a schedule, one after another.
use Rattle.std.proofs.Common.{◌≡◌, ℕ, ◌+◌, ◌<◌, ◌≤◌, Bool, true, false, List, [], ◌∷◌, ◌++◌, length, take, refl, arith, ap, sym, ◌∙◌, append_assoc, append-nil, length-append}
use Rattle.std.specs.Prelude.{Option, Some, None, Result, Ok, Err, cond, nat_le, ◌==◌}
use Rattle.std.proofs.lemmas.Bool.{leb-true, le-leb}
use Rattle.std.proofs.lemmas.List.{take-append-le, take_all}
use Rattle.kernel.specs.Answers.{Event}
use Rattle.texts.specs.Parts.{joined, parts, parts_from}
use Rattle.texts.proofs.WordLaws.{joined-parts}
use Rattle.simulator.specs.FirstEvents.{BeginsWithEvent, BeginsWithFault}
use Rattle.simulator.specs.Schedules.{Faulty, Too_many, event_of_line, with_event, events_from, within_limit, schedule_of, unended}

-- events, and then what comes of the rest
abbrev pub behind : List Event → Result (List Event) ℕ → Result (List Event) ℕ
behind events (Ok more) = Ok (events ++ more)
behind events (Err line) = Err line

-- So many events are read, and this text is left; all events, or the first 65536, are kept.
pub record ReadSoFar (all rest : List ℕ) (kept : List Event) (count : ℕ) : Type 0 where
  pub so_far : List Event
  pub counted : length so_far ≡ count
  pub kept_is : kept ≡ take 65536 so_far
  pub leads : events_from 1 (parts 10 all) ≡ behind so_far (events_from (count + 1) (parts 10 rest))

behind-nothing : (r : Result (List Event) ℕ) → r ≡ behind [] r
behind-nothing (Ok events) = refl
behind-nothing (Err line) = refl

pub read-start : (all : List ℕ) → ReadSoFar all all [] 0
read-start all = record { so_far = []; counted = refl; kept_is = refl; leads = behind-nothing (events_from 1 (parts 10 all)) }

next-event : (events : List Event) (n : ℕ) (e : Event) (r : Result (List Event) ℕ) → behind events (with_event n (Some e) r) ≡ behind (events ++ e ∷ []) r
next-event events n e (Ok more) = ap Ok (sym (append_assoc events (e ∷ []) more))
next-event events n e (Err line) = refl

-- a line that a line feed ends
ended-from : (n : ℕ) (line text begun : List ℕ) → events_from n (line ∷ parts_from 10 text begun) ≡ with_event n (event_of_line line) (events_from (n + 1) (parts_from 10 text begun))
ended-from n line [] begun = refl
ended-from n line (b ∷ text) begun = go (b == 10) (ended-from n line text (begun ++ b ∷ []))
  where
    ends-or : Bool → List (List ℕ)
    ends-or ends = cond ends (begun ∷ parts_from 10 text []) (parts_from 10 text (begun ++ b ∷ []))

    go : (ends : Bool) → events_from n (line ∷ parts_from 10 text (begun ++ b ∷ [])) ≡ with_event n (event_of_line line) (events_from (n + 1) (parts_from 10 text (begun ++ b ∷ [])))
        → events_from n (line ∷ ends-or ends) ≡ with_event n (event_of_line line) (events_from (n + 1) (ends-or ends))
    go true more = refl
    go false more = more

ended-line : (n : ℕ) (text line rest : List ℕ) (o : Option Event) → parts 10 text ≡ line ∷ parts 10 rest → event_of_line line ≡ o →
    events_from n (parts 10 text) ≡ with_event n o (events_from (n + 1) (parts 10 rest))
ended-line n text line rest o is event =
    ap (events_from n) is ∙ ended-from n line rest [] ∙ ap (λ o. with_event n o (events_from (n + 1) (parts 10 rest))) event

-- the first line is no event
pub faulty-line : (text line rest : List ℕ) → parts 10 text ≡ line ∷ parts 10 rest → event_of_line line ≡ None → BeginsWithFault text
faulty-line text line rest is none n = ended-line n text line rest None is none

-- no line feed ends the text
pub unended-line : (text line : List ℕ) → 0 < length text → parts 10 text ≡ line ∷ [] → BeginsWithFault text
unended-line text line some is n =
    let same : line ≡ text = ap (joined 10) (sym is) ∙ joined-parts 10 text in
    ap (events_from n) is ∙ ap (unended n) same ∙ faulty text some
  where
    faulty : (text : List ℕ) → 0 < length text → unended n text ≡ Err n
    faulty [] some = absurd (omega arith)
    faulty (b ∷ text) some = refl

module _ (all rest : List ℕ) (kept : List Event) (count : ℕ) (so_far : ReadSoFar all rest kept count) where
  leads-event : (e : Event) (next : List ℕ) → BeginsWithEvent rest e next →
      events_from 1 (parts 10 all) ≡ behind (so_far.so_far ++ e ∷ []) (events_from (count + 1 + 1) (parts 10 next))
  leads-event e next begins =
      so_far.leads
      ∙ ap (behind so_far.so_far) (ended-line (count + 1) rest begins.line next (Some e) begins.parts_are begins.event)
      ∙ next-event so_far.so_far (count + 1) e (events_from (count + 1 + 1) (parts 10 next))

  -- an event more, which is kept if there is room
  pub read-kept : (more : List Event) (e : Event) (next : List ℕ) → BeginsWithEvent rest e next → count < 65536 → more ≡ kept ++ e ∷ [] → ReadSoFar all next more (count + 1)
  read-kept more e next begins room pushed =
      let events = so_far.so_far in
      let here : length events ≡ count = so_far.counted in
      let longer : length (events ++ e ∷ []) ≡ count + 1 = length-append events (e ∷ []) ∙ ap (λ n. n + 1) here in
      record {
        so_far = events ++ e ∷ [];
        counted = longer;
        kept_is =
            pushed
            ∙ ap (λ xs. xs ++ e ∷ []) (so_far.kept_is ∙ take_all 65536 events (omega (arith, here)))
            ∙ sym (take_all 65536 (events ++ e ∷ []) (omega (arith, longer)));
        leads = leads-event e next begins;
      }

  pub read-dropped : (e : Event) (next : List ℕ) → BeginsWithEvent rest e next → 65536 ≤ count → ReadSoFar all next kept (count + 1)
  read-dropped e next begins full =
      let events = so_far.so_far in
      let here : length events ≡ count = so_far.counted in
      record {
        so_far = events ++ e ∷ [];
        counted = length-append events (e ∷ []) ∙ ap (λ n. n + 1) here;
        kept_is = so_far.kept_is ∙ sym (take-append-le 65536 events (e ∷ []) (omega (arith, here)));
        leads = leads-event e next begins;
      }

  pub read-faulty : BeginsWithFault rest → schedule_of all ≡ Err (Faulty (count + 1))
  read-faulty fault = ap within_limit (so_far.leads ∙ ap (behind so_far.so_far) (fault (count + 1)))

-- all lines are read
all-read : (all rest : List ℕ) (kept : List Event) (count : ℕ) (so_far : ReadSoFar all rest kept count) → length rest ≡ 0 → events_from 1 (parts 10 all) ≡ Ok so_far.so_far
all-read all [] kept count so_far none = so_far.leads ∙ ap Ok (append-nil so_far.so_far)
all-read all (b ∷ rest) kept count so_far none = absurd (omega arith)

pub read-too_many : (all rest : List ℕ) (kept : List Event) (count : ℕ) → ReadSoFar all rest kept count → length rest ≡ 0 → 65536 < count → schedule_of all ≡ Err Too_many
read-too_many all rest kept count so_far none past =
    ap within_limit (all-read all rest kept count so_far none) ∙ go (nat_le (length so_far.so_far) 65536) refl
  where
    go : (b : Bool) → nat_le (length so_far.so_far) 65536 ≡ b → cond b (Ok so_far.so_far) (Err Too_many) ≡ Err Too_many
    go true is = let low : length so_far.so_far ≤ 65536 = leb-true _ _ is in absurd (omega (arith, so_far.counted))
    go false is = refl

pub read-ended : (all rest : List ℕ) (kept : List Event) (count : ℕ) → ReadSoFar all rest kept count → length rest ≡ 0 → count ≤ 65536 → schedule_of all ≡ Ok kept
read-ended all rest kept count so_far none fits =
    let low : length so_far.so_far ≤ 65536 = omega (arith, so_far.counted) in
    ap within_limit (all-read all rest kept count so_far none)
    ∙ ap (λ b. cond b (Ok so_far.so_far) (Err Too_many)) (le-leb (length so_far.so_far) 65536 low)
    ∙ ap Ok (sym (so_far.kept_is ∙ take_all 65536 so_far.so_far low))
