-- Rows of which results are errors, and of what results a refused text has.
use Rattle.std.proofs.Common.{◌≡◌, ◌≢◌, ◌++◌, List, [], ◌∷◌, codes, refl}
use Rattle.std.specs.Prelude.{None, Some}
use Rattle.std.specs.Fmt.{decimal}
use Rattle.sarif.specs.Logs.{Finding, error, named, note, numbered, warning}
use Rattle.task_log.specs.Errors.{errors_of, ids_of}
use Rattle.task_log.specs.FaultResults.{fault_results, left_out_text}

broken : Finding
broken = record { rule = numbered 7; level = error; message = codes "m"; place = None; related = [] }

remarked : Finding
remarked = record { rule = named (codes "unreached"); level = note; message = codes "m"; place = None; related = [] }

warned : Finding
warned = record { rule = named (codes "absolute-paths"); level = warning; message = codes "m"; place = None; related = [] }

-- a broken rule is an error; remarks and warnings aren't
one_error : errors_of (remarked ∷ broken ∷ warned ∷ []) ≡ numbered 7 ∷ []
unfolding broken remarked warned
one_error = refl

-- a log without the rule that is broken isn't one of it
left_out_rule : errors_of (remarked ∷ []) ≢ ids_of (record { program = 0; point = 1; rule = 7 } ∷ [])
unfolding remarked
left_out_rule is = cc

-- a fault and the refusal; more faults are told with it
two_results : fault_results (record { line = 2; column = 5; words = codes "f" } ∷ []) (codes "Toml") 0 ≡
    record { rule = named (codes "task-text"); level = error; message = codes "f"; place = Some (record { line = 2; column = Some 5 }); related = [] }
    ∷ record { rule = named (codes "task-text"); level = error; message = codes "the task is refused: Toml"; place = None; related = [] }
    ∷ []
two_results = refl

more : left_out_text 3 ≡ codes "; faults that are left out: " ++ decimal 3
more = refl
