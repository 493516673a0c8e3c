use Rattle.std.proofs.Common.{◌∷◌, [], ◌++◌, ap, ap₂, map, ◌∙◌}
use Rattle.std.proofs.lemmas.List.{map-append}
use Rattle.sarif.specs.LogViews.{finding_seen}
use Rattle.task_log.specs.FaultResults.{fault_result}
use Rattle.task_text.specs.FaultViews.{fault_seen}
use Rattle.task_log.proofs.faults.log_of_faults.Goals as goal

pub returns : goal.returns
returns c =
    let told = c.in_ok-findings.ensures ∙ ap (λ faults. map fault_result (map fault_seen faults)) c.deref.ensures.value in (
      c.in_ok-faults.faults,
      c.in_ok-faults.ensures,
      ap (map finding_seen) c.in_ok-push.ensures.items
          ∙ map-append finding_seen _ _
          ∙ ap₂ (λ results last. results ++ last ∷ []) told c.in_ok-refused.ensures,
    )
