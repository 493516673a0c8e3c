-- Two tasks with certificates that meet the rules, and a run of each in which a process of an untrusted program does its worst. (own)
use Rattle.std.specs.Prelude.{◌≡◌, ◌++◌, ℕ, suc, true, false, List, [], ◌∷◌, codes, map, replicate, Some, if◌then◌else◌}
use Rattle.std.specs.Str.{bytes_eq}
use Rattle.rights.specs.Values.{Name}
use Rattle.rights.specs.Limits.{register_count}
use Rattle.rights.specs.Opens.{open_request}
use Rattle.rights.specs.Operations.{Look, Read as Reads}
use Rattle.instruction_set.specs.Programs.{Syscall, Halt, Invoke, Number, Cap_enter, Cap_rights_limit, Close, Fork, Open as Opens, Openat, Recvfd, Sendfd, Stat, Unlinkat}
use Rattle.rights.specs.Classes.{Initial}
use Rattle.certificate.specs.Bounds.{Off, Open, Maybe, Three, Ceiling, Certificate}
use Rattle.kernel.specs.World.{World, Choice}
use Rattle.kernel.specs.Answers.{Event, IsEvent}
use Rattle.kernel.specs.Hostile.{Act, Own, Does, IsAct, step_as}
use Rattle.task.specs.Begins.{first_world}
use Rattle.task.specs.Confined.{IsConfined}
use Rattle.task.specs.Plans.{NamedProgram, Plan, programs_of_plan}
use Rattle.simulator.specs.Lines.{line_at}
use Rattle.simulator.specs.Traces.{line_text}
use Rattle.rules.specs.Outcomes.{unknown_held}
use Rattle.rules.specs.Probes.{in_work, in_log, bound_of_slots, channel}
use Rattle.rules.specs.Verdicts.{MeetsRules}
use Rattle.commands.specs.Accepted.{alone, at_main, blocks, few_at_least, few_held, few_rights, passing_plan, reads_below, sending_points, turn}

-- ## The tasks
abbrev pub marking : Name → NamedProgram → NamedProgram
marking name p = if bytes_eq p.name name then record p { marked = true } else p

-- the plan with the program of this name untrusted
abbrev pub distrusting : Name → Plan → Plan
distrusting name plan = record plan { programs = map (marking name) plan.programs }

-- `main` limits its directory and sends it to `child`, which is in the mode and isn't trusted
abbrev pub handing_plan : Plan
handing_plan = distrusting (codes "child") passing_plan

-- closes its log, limits its directory and enters the mode, and isn't trusted from there on
abbrev pub entering_plan : Plan
entering_plan =
    distrusting (codes "main")
    (alone (Look ∷ Reads ∷ []) (Invoke (Close (Number 1)) 3 ∷ Invoke (Cap_rights_limit (Number 0) few_rights) 3 ∷ Invoke Cap_enter 3 ∷ Halt ∷ []))

-- ## The certificates
abbrev pub few_of_work : List Ceiling
few_of_work = record { grant = codes "work"; rights = few_rights } ∷ []

abbrev pub handing_certificate : Certificate
handing_certificate = record {
  version = Three;
  points = sending_points;
  channels = channel 0 (Some few_held) ∷ channel 1 (Some unknown_held) ∷ [];
  authorities = record { program = codes "child"; ceilings = few_of_work; holds = record { class = Initial 0; side = 1 } ∷ [] } ∷ [];
}

abbrev pub entering_certificate : Certificate
entering_certificate = record {
  version = Three;
  points =
      blocks (codes "main") 0
      (at_main Off [] ∷ bound_of_slots Off (Open in_work ∷ []) ∷ bound_of_slots Off (Open few_held ∷ [])
      ∷ bound_of_slots Off (Open few_at_least ∷ Maybe in_log ∷ []) ∷ []);
  channels = [];
  authorities = record { program = codes "main"; ceilings = few_of_work; holds = [] } ∷ [];
}

-- ## Their runs
-- the process goes on by itself
abbrev pub by_itself : ℕ → Event × Act
by_itself p = (turn p, Own)

-- it makes this call, whatever its program has, and stands at point 0 then
abbrev pub with_call : ℕ → Syscall → Event × Act
with_call p call = (turn p, Does (record { instruction = Invoke call 0; registers = replicate register_count 0; point = 0 }))

-- The child tries a global name. Beneath what it is sent it may neither write the file nor leave the directory; it sends that back, and
-- opens the file for reading.
abbrev pub handing_run : List (Event × Act)
handing_run =
    with_call 1 (Opens (codes "/etc/passwd") reads_below)
    ∷ by_itself 0 ∷ by_itself 0
    ∷ with_call 1 (Recvfd (Number 0))
    ∷ with_call 1 (Openat (Number 1) (codes "in") (open_request false true false false false))
    ∷ with_call 1 (Openat (Number 1) (codes "../etc/passwd") reads_below)
    ∷ with_call 1 (Sendfd (Number 0) (Number 1) (Number 0))
    ∷ with_call 1 (Openat (Number 1) (codes "in") reads_below)
    ∷ []

-- In the mode it may not remove the file, reaches no global name, and forks; the child opens the file for reading.
abbrev pub entering_run : List (Event × Act)
entering_run =
    by_itself 0 ∷ by_itself 0 ∷ by_itself 0
    ∷ with_call 0 (Unlinkat (Number 0) (codes "in") false)
    ∷ with_call 0 (Stat (codes "/etc/passwd"))
    ∷ with_call 0 Fork
    ∷ with_call 1 (Openat (Number 0) (codes "in") reads_below)
    ∷ []

-- ## What they show
-- each deed is one of its process, whatever numbers are chosen
abbrev pub AreActs : Plan → World → List (Event × Act) → (ℕ → Choice) → Type 0
AreActs plan w [] choose = Unit {0}
AreActs plan w ((e, act) ∷ events) choose =
    IsEvent e
    × IsAct (programs_of_plan plan) w e.process act
    × AreActs plan (step_as (programs_of_plan plan) w e act (choose 0)).world events (λ n. choose (suc n))

-- the trace under these numbers
abbrev pub attack_text : Plan → World → List (Event × Act) → (ℕ → Choice) → List ℕ
attack_text plan w [] choose = []
attack_text plan w ((e, act) ∷ events) choose =
    let s = step_as (programs_of_plan plan) w e act (choose 0) in
    line_text plan (line_at e s.acted) ++ attack_text plan s.world events (λ n. choose (suc n))

-- The certificate meets the rules, so that the task is confined; and it has a run of these events that shows this text.
pub record ActsConfined (plan : Plan) (certificate : Certificate) (events : List (Event × Act)) (text : List ℕ) : Type 0 where
  pub meets : MeetsRules plan certificate
  pub confined : IsConfined plan
  pub acts : (choose : ℕ → Choice) → AreActs plan (first_world plan) events choose
  pub shows : (choose : ℕ → Choice) → attack_text plan (first_world plan) events choose ≡ text
