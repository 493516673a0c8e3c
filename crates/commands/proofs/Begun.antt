-- What is written where the program stops before its end.
use Rattle.std.proofs.Common.{◌≡◌, ◌<◌, ◌≤◌, ℕ, Bool, true, false, List, [], ◌∷◌, length, refl, ap, sym, ◌∙◌, subst, lit<, ◌⊎◌, inl, inr, codes, arith}
use Rattle.std.specs.Prelude.{◌+◌, Option, Some, None, Result, Ok, Err, cond, nat_le}
use Rattle.std.specs.Result.{IsErr, IsErrAnd, IfErr}
use Rattle.std.specs.Str.{bytes_eq}
use Rattle.std.proofs.lemmas.Bool.{leb-true}
use Rattle.texts.specs.Numbers.{at_most, number_of}
use Rattle.texts.specs.Parts.{parts}
use Rattle.rights.specs.declared.stops.Stop.{Stop}
use Rattle.rights.specs.declared.stops.Stop.TheVariants.{Memory, Device, Spent}
use Rattle.kernel.specs.Answers.{Event, IsEvent, AreEvents}
use Rattle.kernel.proofs.Determined.{run_exists, same_lines_here}
use Rattle.file_tree.specs.WellFormed.{is_within_limits}
use Rattle.file_tree.specs.Places.{is_file_name, is_target}
use Rattle.task.specs.Begins.{first_world}
use Rattle.task.specs.Limits.{is_plan}
use Rattle.task.specs.Plans.{Plan, programs_of_plan}
use Rattle.task.proofs.FirstWorlds.{first_well_formed}
use Rattle.task_reader.specs.Documents.{document_of}
use Rattle.task_reader.specs.Reading.{Not_toml, plan_in, task_of}
use Rattle.task_reader.proofs.ValidPlans.{ok-some, read-valid}
use Rattle.certificate.specs.Bounds.{Certificate}
use Rattle.certificate_text.specs.Readings.{certificate_of_text}
use Rattle.simulator.specs.Schedules.{Too_many, event_with, event_from, event_of_words, event_of_line, with_event, unended, events_from, within_limit, schedule_of}
use Rattle.simulator.specs.Simulations.{WritesFront, WritesTrace}
use Rattle.simulator.specs.Traces.{trace_text}
use Rattle.command_line.specs.Orders.{Order, Example, Run, Check, Report, Search, Expand, AsksFor}
use Rattle.commands.specs.Begun.{HasBegun}
use Rattle.console.specs.declared.faults.Fault.{Fault as FaultCode}
use Rattle.commands.specs.Expanded.{Expands}
use Rattle.commands.specs.Examples.{first_plan, example_events}
use Rattle.commands.specs.Fails.{Fails, LacksMemory, WordsFail, asked_for, not_asked, unread}
use Rattle.console.specs.Faults.{Fault, Refused, No_memory, No_output}
use Rattle.console.specs.FaultViews.{fault_of, stop_fault}
use Rattle.console.specs.Files.{Files, IsRead, IsTask}
use Rattle.commands.specs.Served.{DoesOrder, Serves}

-- ## The events of a schedule have bytes
at-most : (limit : ℕ) (o : Option ℕ) (n : ℕ) → at_most limit o ≡ Some n → n ≤ limit
at-most limit None n is = absurd cc
at-most limit (Some m) n is = go (nat_le m limit) refl is
  where
    go : (b : Bool) → nat_le m limit ≡ b → cond b (Some m) None ≡ Some n → n ≤ limit
    go true low some = let same : m ≡ n = cc in subst (λ k. k ≤ limit) same (leb-true m limit low)
    go false low none = absurd cc

with-byte : (refuse : Bool) (process input : Option ℕ) (e : Event) → event_with refuse process input ≡ Some e → input ≡ Some e.input
with-byte refuse None input e is = absurd cc
with-byte refuse (Some process) None e is = absurd cc
with-byte refuse (Some process) (Some input) e is =
    let made : Event = record { process = process; input = input; refuse = refuse } in
    let same : made ≡ e = cc in
    ap (λ (e : Event). Some e.input) same

from-byte : (refuse : Bool) (process input : List ℕ) (e : Event) → event_from refuse process input ≡ Some e → IsEvent e
from-byte refuse process input e is =
    let low : e.input ≤ 255 = at-most 255 (number_of input) e.input (with-byte refuse (at_most 15 (number_of process)) (at_most 255 (number_of input)) e is) in
    omega arith

words-byte : (words : List (List ℕ)) (e : Event) → event_of_words words ≡ Some e → IsEvent e
words-byte [] e is = absurd cc
words-byte (process ∷ []) e is = absurd cc
words-byte (process ∷ input ∷ []) e is = from-byte false process input e is
words-byte (process ∷ input ∷ word ∷ []) e is = go (bytes_eq word (codes "refuse")) is
  where
    go : (b : Bool) → cond b (event_from true process input) None ≡ Some e → IsEvent e
    go true some = from-byte true process input e some
    go false none = absurd cc
words-byte (process ∷ input ∷ word ∷ more ∷ words) e is = absurd cc

with-events : (n : ℕ) (o : Option Event) (r : Result (List Event) ℕ) (events : List Event) → ((e : Event) → o ≡ Some e → IsEvent e) →
    ((rest : List Event) → r ≡ Ok rest → AreEvents rest) → with_event n o r ≡ Ok events → AreEvents events
with-events n None r events byte bytes is = absurd cc
with-events n (Some e) (Err line) events byte bytes is = absurd cc
with-events n (Some e) (Ok rest) events byte bytes is =
    let same : e ∷ rest ≡ events = cc in
    subst AreEvents same (byte e refl, bytes rest refl)

last-events : (n : ℕ) (last : List ℕ) (events : List Event) → unended n last ≡ Ok events → AreEvents events
last-events n [] events is = let same : [] ≡ events = cc in subst AreEvents same tt
last-events n (b ∷ last) events is = absurd cc

lines-events : (n : ℕ) (lines : List (List ℕ)) (events : List Event) → events_from n lines ≡ Ok events → AreEvents events
lines-events n [] events is = let same : [] ≡ events = cc in subst AreEvents same tt
lines-events n (last ∷ []) events is = last-events n last events is
lines-events n (line ∷ next ∷ lines) events is =
    with-events n (event_of_line line) (events_from (n + 1) (next ∷ lines)) events (words-byte (parts 32 line)) (lines-events (n + 1) (next ∷ lines)) is

limited-ok : (r : Result (List Event) ℕ) (events : List Event) → within_limit r ≡ Ok events → r ≡ Ok events
limited-ok (Err line) events is = absurd cc
limited-ok (Ok all) events is = ap Ok (go (nat_le (length all) 65536) is)
  where
    go : (b : Bool) → cond b (Ok all) (Err Too_many) ≡ Ok events → all ≡ events
    go true some = cc
    go false none = absurd cc

schedule-events : (text : List ℕ) (events : List Event) → schedule_of text ≡ Ok events → AreEvents events
schedule-events text events is = lines-events 1 (parts 10 text) events (limited-ok (events_from 1 (parts 10 text)) events is)

-- ## Traces and expansions
pub task-valid : (text : List ℕ) (plan : Plan) → task_of text ≡ Ok plan → is_plan plan ≡ true
unfolding task_of
task-valid text plan is =
    let p = ok-some Not_toml (document_of text) plan_in plan is in
    read-valid p.0 plan p.2

-- A beginning of the trace of every run is one of the trace that is written in whole.
trace-begun : (plan : Plan) (events : List Event) (before after : Option (List ℕ)) → is_plan plan ≡ true → AreEvents events →
    WritesFront plan events before after → HasBegun (λ status before after. (status ≡ 0) × WritesTrace plan events before after) before after
trace-begun plan events before after valid bytes front =
    let first = first_well_formed plan valid in
    let run = run_exists (programs_of_plan plan) (first_world plan) events first.0 first.1.formed bytes in
    record {
      status = 0;
      text = trace_text plan events run.0;
      whole = (
        refl,
        record {
          lines = run.0;
          run = run.1;
          every = λ others other.
              ap (λ lines. Some (trace_text plan events lines))
              (same_lines_here (programs_of_plan plan) (first_world plan) events run.0 others first.0 first.1.formed bytes run.1 other);
        },
      );
      begun = front run.0 run.1;
    }

pub run-begun : (files : Files) (task schedule : List ℕ) (plan : Plan) (events : List Event) (before after : Option (List ℕ)) →
    IsTask files task plan → IsRead files schedule schedule_of (Ok events) → WritesFront plan events before after →
    HasBegun (DoesOrder files (Run task schedule)) before after
run-begun files task schedule plan events before after is_task is_schedule front =
    let trace = trace-begun plan events before after (task-valid is_task.text plan is_task.is) (schedule-events is_schedule.text events is_schedule.is) front in
    record {
      status = 0;
      text = trace.text;
      whole = (refl, record { plan = plan; is_task = is_task; value = events; is_value = is_schedule; holds = trace.whole.1 });
      begun = trace.begun;
    }

pub expansion-begun : (files : Files) (task certificate : List ℕ) (plan : Plan) (bounds : Certificate) (before after : Option (List ℕ)) →
    IsTask files task plan → IsRead files certificate certificate_of_text (Ok bounds) → HasBegun (λ status. Expands plan bounds) before after →
    HasBegun (DoesOrder files (Expand task certificate)) before after
expansion-begun files task certificate plan bounds before after is_task is_certificate begun = record {
  status = 0;
  text = begun.text;
  whole = (refl, record { plan = plan; is_task = is_task; value = bounds; is_value = is_certificate; holds = begun.whole });
  begun = begun.begun;
}

first_is_task : is_plan first_plan ≡ true
unfolding is_within_limits is_file_name is_target
first_is_task = refl

pub example-begun : (before after : Option (List ℕ)) → WritesFront first_plan example_events before after → HasBegun (DoesOrder None Example) before after
example-begun before after front = trace-begun first_plan example_events before after first_is_task (lit< tt, (lit< tt, tt)) front

-- ## Stops
-- the stop that is passed on
pub stop-is : {A : Type 0} (r : Result A Stop) (stop given : Stop) → IsErr r × IsErrAnd r (λ passed. passed ≡ stop) → r ≡ Err given → stop ≡ given
stop-is (Ok a) stop given is gives = absurd is.1
stop-is (Err passed) stop given is gives = let same : passed ≡ given = cc in sym is.1 ∙ same

module _ (files : Files) (order : Order) (before after : Option (List ℕ)) (failures failed : ℕ) where
  fails : (stop : Stop) → (stop ≡ Device → failures < failed) → (stop ≡ Device → HasBegun (DoesOrder files order) before after) →
      (stop ≡ Memory → LacksMemory files order before after) → (stop ≡ Spent → ⊥) →
      Fails files order before after failures failed (fault_of (stop_fault stop))
  fails Device device begun memory spent = (device refl, begun refl)
  fails Memory device begun memory spent = memory refl
  fails Spent device begun memory spent = absurd (spent refl)

  -- what fails where a stop is made into a fault
  pub stopped : {A : Type 0} (r : Result A FaultCode) (stop : Stop) → IsErr r × IsErrAnd r (λ fault. fault ≡ stop_fault stop) →
      (stop ≡ Device → failures < failed) → (stop ≡ Device → HasBegun (DoesOrder files order) before after) →
      (stop ≡ Memory → LacksMemory files order before after) → (stop ≡ Spent → ⊥) →
      IfErr r (λ fault. Fails files order before after failures failed (fault_of fault))
  stopped (Ok a) stop is device begun memory spent = absurd is.1
  stopped (Err fault) stop is device begun memory spent =
      subst (λ (fault : FaultCode). Fails files order before after failures failed (fault_of fault)) (sym is.1) (fails stop device begun memory spent)

-- A beginning of what one writes is one of what another writes, if that writes all that the one does.
pub begins-too :
    (P Q : ℕ → Option (List ℕ) → Option (List ℕ) → Type 0) (before after : Option (List ℕ))
    → ((status : ℕ) (text : List ℕ) → P status (Some []) (Some text) → Q status (Some []) (Some text)) → HasBegun P before after → HasBegun Q before after
begins-too P Q before after too begins = record {
  status = begins.status;
  text = begins.text;
  whole = too begins.status begins.text begins.whole;
  begun = begins.begun;
}

module _ (files : Files) (words : List (List ℕ)) (before after : Option (List ℕ)) where
  serves-too : (order : Order) → AsksFor words order → HasBegun (DoesOrder files order) before after → HasBegun (Serves files words) before after
  serves-too order asked =
      begins-too (DoesOrder files order) (Serves files words) before after (λ status text done. record { order = order; asked = asked; done = done })

  memory-begun : (order : Order) → AsksFor words order → LacksMemory files order before after → (after ≡ before) ⊎ HasBegun (Serves files words) before after
  memory-begun Example asked (inl same) = inl same
  memory-begun Example asked (inr begun) = inr (serves-too Example asked begun)
  memory-begun (Run task schedule) asked (inl same) = inl same
  memory-begun (Run task schedule) asked (inr begun) = inr (serves-too (Run task schedule) asked begun)
  memory-begun (Check task certificate) asked same = inl same
  memory-begun (Report task certificate) asked same = inl same
  memory-begun (Search task) asked same = inl same
  memory-begun (Expand task certificate) asked same = inl same

  order-begun : (order : Order) (failures failed : ℕ) (fault : Fault) → AsksFor words order → Fails files order before after failures failed fault →
      (after ≡ before) ⊎ HasBegun (Serves files words) before after
  order-begun order failures failed (Refused refusal) asked fails = inl fails.0
  order-begun order failures failed No_memory asked fails = memory-begun order asked fails
  order-begun order failures failed No_output asked fails = inr (serves-too order asked fails.1)

  -- Whatever fails, nothing was written or a beginning.
  pub words-begun : (failures failed : ℕ) (fault : Fault) → WordsFail files words before after failures failed fault → (after ≡ before) ⊎ HasBegun (Serves files words) before after
  words-begun failures failed fault (asked_for order asked fails) = order-begun order failures failed fault asked fails
  words-begun failures failed _ (not_asked none same) = inl same
  words-begun failures failed _ (unread same) = inl same
