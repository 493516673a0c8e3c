-- What is read as a fault is no task.
use Rattle.std.proofs.Common.{◌≡◌, ◌≢◌, ◌∙◌, ℕ, refl, sym}
use Rattle.std.specs.Prelude.{List, Option, Some, None, Result, Ok, string_bytes}
use Rattle.instruction_set.specs.Assembly as assembly
use Rattle.task_reader.specs.declared.faults.TaskFault.{TaskFault}
use Rattle.task_reader.specs.declared.faults.TaskFault.TheVariants as code
use Rattle.task_reader.specs.FaultViews.{FaultIs, IsProgramFault, text_fault}
use Rattle.task_reader.specs.Reading.{Mistake, task_of}
use Rattle.explain.specs.TaskTexts.{IsTaskText}

no_program : {Y : Type 0} (name : List ℕ) (why : Option assembly.Fault) (read : Result Y Mistake) (y : Y) → IsProgramFault name why read → read ≡ Ok y → ⊥
no_program name None read y is good = is
no_program name (Some why) read y is good = let clash = sym is ∙ good in cc

pub no_task : {Y : Type 0} (fault : TaskFault) (read : Result Y Mistake) (y : Y) → FaultIs fault read → fault ≢ code.Memory → read ≡ Ok y → ⊥
no_task code.NotToml read y is other good = let clash = sym is ∙ good in cc
no_task code.Field read y is other good = let clash = sym is ∙ good in cc
no_task code.Node read y is other good = let clash = sym is ∙ good in cc
no_task code.Grant read y is other good = let clash = sym is ∙ good in cc
no_task code.Descriptor read y is other good = let clash = sym is ∙ good in cc
no_task (code.Asm program why) read y is other good = no_program (string_bytes program) (text_fault why) read y is good
no_task code.Limit read y is other good = let clash = sym is ∙ good in cc
no_task code.Memory read y is other good = other refl

pub refused_text : (text : List ℕ) (fault : TaskFault) → FaultIs fault (task_of text) → fault ≢ code.Memory → IsTaskText text → ⊥
refused_text text fault is other good = no_task fault (task_of text) good.0 is other good.1
