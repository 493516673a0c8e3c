use Rattle.task_reader.specs.Documents.{document_of}
use Rattle.task_reader.specs.Reading.{Not_toml, plan_in, task_of}
use Rattle.task_reader.proofs.ValidPlans.{ok-some, read-valid}
use Rattle.task_reader.proofs.laws.tasks_read_are_valid.Goals as goal

pub returns : goal.returns
unfolding task_of
returns c = λ bytes plan is.
    let p = ok-some Not_toml (document_of bytes) plan_in plan is in
    read-valid p.0 plan p.2
