-- Where a call leads from a point of the code.
use Rattle.std.specs.Prelude.{◌+◌, ℕ, List, [], Option, None, if◌then◌else◌}
use Rattle.certificate.specs.Bounds.{Held, Bound}
use Rattle.certificate.specs.Views.{bound_of}
use Rattle.texts.specs.Views.{name_of}
use Rattle.instruction_set.specs.Programs.{Syscall, Instruction}
use Rattle.rules.specs.Outcomes.{Outcome, is_formed, new_end, with_pair, successes_of, successes, successes_in}
use Rattle.rules.specs.Carrying.{carried_on, joined_at, outcomes}
use Rattle.transfer.specs.declared.successes.Site.{Site}

abbrev pub end_at : Site → ℕ → Held
end_at s side = new_end s.task.now.grants s.cert.now (name_of s.name.now) s.point (bound_of s.bound.now) side

abbrev pub pair_made : Site → ℕ → ℕ → Bound
pair_made s first second = with_pair s.task.now.grants s.cert.now (name_of s.name.now) s.point (bound_of s.bound.now) first second

abbrev pub call_at : Site → Syscall → List Outcome
call_at s call = successes_of s.task.now.grants s.cert.now (name_of s.name.now) s.point (bound_of s.bound.now) call

-- where it leads if its success is looked at at all
abbrev pub invoked_at : Site → Syscall → List Outcome
invoked_at s call = if is_formed s.cert.now (bound_of s.bound.now) call then call_at s call else []

-- those of a program that isn't marked, and those of the site's
abbrev pub plain_successes_at : Site → Instruction → List Outcome
plain_successes_at s i = successes s.task.now.grants s.cert.now (name_of s.name.now) s.point (bound_of s.bound.now) i

abbrev pub successes_at : Site → Instruction → List Outcome
successes_at s i = successes_in s.task.now s.cert.now (name_of s.name.now) s.point (bound_of s.bound.now) i

-- what its outcomes leave at the next point
abbrev pub met_at : Site → Instruction → Option Bound
met_at s i = joined_at (s.point + 1) None (outcomes s.task.now s.cert.now (name_of s.name.now) s.point (bound_of s.bound.now) i)

abbrev pub carried_at : Site → Instruction → Option Bound
carried_at s i = carried_on s.task.now s.cert.now (name_of s.name.now) s.point (bound_of s.bound.now) i
