-- What is said of a task that is listed. (own)
use Rattle.std.specs.Prelude.{◌≡◌, ℕ, true, false, List, Ok}
use Rattle.certificate.specs.Bounds.{Certificate, One}
use Rattle.certificate.specs.Growth.{empty}
use Rattle.certificate_text.specs.Readings.{certificate_of_text}
use Rattle.explain.specs.Listing.{Lists}
use Rattle.rules.specs.Expansions.{expansion}
use Rattle.task.specs.Plans.{Plan}
use Rattle.task_reader.specs.Reading.{task_of}

-- of a task alone: its programs with the remarks on them, without bounds; the warnings go by bounds that the search reaches
pub record SaysListed (task written : List ℕ) : Type 0 where
  pub plan : Plan
  pub is_task : task_of task ≡ Ok plan
  pub bounds : Certificate
  pub lists : Lists plan (empty One) bounds false written

-- of a task with a certificate: with its bounds, by which the warnings go too
pub record SaysListedWith (task certificate written : List ℕ) : Type 0 where
  pub plan : Plan
  pub is_task : task_of task ≡ Ok plan
  pub bounds : Certificate
  pub is_certificate : certificate_of_text certificate ≡ Ok bounds
  pub lists : Lists plan (expansion plan bounds) (expansion plan bounds) true written
