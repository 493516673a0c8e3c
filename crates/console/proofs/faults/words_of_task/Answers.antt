use Rattle.std.proofs.Common.{◌≡◌, ◌++◌, ◌⊎◌, ◌∙◌, inl, inr, refl, codes}
use Rattle.std.specs.Fmt.{decimal, digits}
use Rattle.std.proofs.lemmas.Result.{IfOk-weaker}
use Rattle.task_reader.specs.declared.faults.TaskFault.{TaskFault}
use Rattle.task_reader.specs.declared.faults.TaskFault.TheVariants.{NotToml, Field, Node, Grant, Descriptor, Limit}
use Rattle.task_reader.specs.FaultViews.{fault_name, fault_number}
use Rattle.console.specs.Faults.{fault_words}
use Rattle.console.specs.FaultViews.{task_fault}
use Rattle.console.proofs.faults.words_of_task.Goals as goal

numbered-words : (f : TaskFault) → (f ≡ NotToml) ⊎ (f ≡ Field) ⊎ (f ≡ Node) ⊎ (f ≡ Grant) ⊎ (f ≡ Descriptor) ⊎ (f ≡ Limit)
    → codes "task " ++ (decimal (fault_number f) ++ (codes " " ++ fault_name f)) ≡ fault_words (task_fault f)
unfolding digits
numbered-words f (inl is) = rw is refl
numbered-words f (inr (inl is)) = rw is refl
numbered-words f (inr (inr (inl is))) = rw is refl
numbered-words f (inr (inr (inr (inl is)))) = rw is refl
numbered-words f (inr (inr (inr (inr (inl is))))) = rw is refl
numbered-words f (inr (inr (inr (inr (inr is))))) = rw is refl

pub returns-in-NotToml : goal.returns-in-NotToml
returns-in-NotToml c =
    IfOk-weaker c.format.result _ _
    (λ words is. is ∙ rw (c.number-number.ensures, c.name-name.ensures) (numbered-words c.args.fault.now c.in-NotToml.is)) c.format.ensures.ok
