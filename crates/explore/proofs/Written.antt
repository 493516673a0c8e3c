-- What the text of a run is written as, part by part.
use Rattle.std.proofs.Common.{List, ℕ, ◌++◌}
use Rattle.std.specs.Prelude.{Option, Result, Ok, Err, OnOk, OnErr}
use Rattle.rights.specs.Output.{Took, TookFront}
use Rattle.rights.proofs.Taken.{took_more, front_after, front_of_more}
use Rattle.kernel.specs.Answers.{Event}
use Rattle.task.specs.Plans.{Plan}
use Rattle.simulator.specs.Simulations.{WritesFront, WritesTrace}
use Rattle.simulator.specs.Traces.{trace_text}
use Rattle.explore.specs.Breaches.{Breach}
use Rattle.explore.specs.Texts.{WritesDetailed, WritesFrontDetailed, breach_text, schedule_part}

module _ (plan : Plan) (events : List Event) (breach : Breach) (detail : List ℕ) where
  pub front-of-schedule : (a b : Option (List ℕ)) → TookFront a b (schedule_part events) → WritesFrontDetailed plan events breach detail a b
  front-of-schedule a b some lines run = front_of_more a b (schedule_part events) (trace_text plan events lines ++ breach_text breach detail) some

  pub front-of-trace : (a b c : Option (List ℕ)) → Took a b (schedule_part events) → WritesFront plan events b c → WritesFrontDetailed plan events breach detail a c
  front-of-trace a b c first some lines run =
      front_after a b c (schedule_part events) (trace_text plan events lines ++ breach_text breach detail) first
      (front_of_more b c (trace_text plan events lines) (breach_text breach detail) (some lines run))

  pub front-of-line : {T E : Type 0} (a b c d : Option (List ℕ)) (result : Result T E) → Took a b (schedule_part events) → WritesTrace plan events b c →
      OnErr result (TookFront c d (breach_text breach detail)) → OnErr result (WritesFrontDetailed plan events breach detail a d)
  front-of-line a b c d (Ok value) first trace some = tt
  front-of-line a b c d (Err fault) first trace some = λ lines run.
      front_after a b d (schedule_part events) (trace_text plan events lines ++ breach_text breach detail) first
      (front_after b c d (trace_text plan events lines) (breach_text breach detail) (trace.every lines run) some)

  pub whole-text : {T E : Type 0} (a b c d : Option (List ℕ)) (result : Result T E) → Took a b (schedule_part events) → WritesTrace plan events b c →
      OnOk result (Took c d (breach_text breach detail)) → OnOk result (WritesDetailed plan events breach detail a d)
  whole-text a b c d (Err fault) first trace all = tt
  whole-text a b c d (Ok value) first trace all = record {
    lines = trace.lines;
    run = trace.run;
    every = λ others other.
        took_more a b d (schedule_part events) (trace_text plan events others ++ breach_text breach detail) first
        (took_more b c d (trace_text plan events others) (breach_text breach detail) (trace.every others other) all);
  }
