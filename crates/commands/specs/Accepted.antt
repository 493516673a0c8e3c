-- Three tasks with certificates that meet the rules, and a run of each in which a process in capability mode does what it is
-- about: receives a directory and opens a file beneath it, forks, and renames a file inside a grant. (own)
use Rattle.std.specs.Prelude.{◌≡◌, ◌+◌, ◌++◌, ℕ, true, false, List, [], ◌∷◌, codes, Option, Some}
use Rattle.rights.specs.Sets.{all_rights, all_commands}
use Rattle.rights.specs.Opens.{OpenRequest, open_request}
use Rattle.rights.specs.Operations.{Operation, Look, Read as Reads, Write as Writes, Create as Creates, Remove as Removes}
use Rattle.file_tree.specs.Nodes.{Kind, File, Dir, Link, Node}
use Rattle.instruction_set.specs.Programs.{Instruction, Halt, Invoke, Jmp, Jeq, Number, Cap_enter, Openat, Read, Renameat, Sendfd, Recvfd, Fork, Cap_rights_limit}
use Rattle.certificate.specs.Bounds.{ModeBound, Off, On, Held, Slot, Open, Maybe, Bound, with_interval, PointBound, One, Certificate}
use Rattle.kernel.specs.Answers.{Event}
use Rattle.kernel.specs.Steps.{Acted}
use Rattle.task.specs.Plans.{Grant, FirstObject, On_node, On_end, FirstDescriptor, Start, Plan, unmarked}
use Rattle.task.specs.Sandboxed.{IsSandboxed}
use Rattle.simulator.specs.Simulations.{IsRun}
use Rattle.simulator.specs.Traces.{trace_text}
use Rattle.rules.specs.Outcomes.{with_rights, from_to}
use Rattle.rules.specs.Probes.{in_work, in_log, side_a, side_b, bound_of_slots, block, channel}
use Rattle.rules.specs.Verdicts.{MeetsRules}

-- ## The tasks
abbrev at : Kind → List (List ℕ) → List ℕ → Node
at kind place content = record { kind = kind; place = place; linked = true; content = content }

-- `/work` with the file `in`, the directory `out` and three links; `/workshop` with a file; `/log`; and `/etc/passwd`
abbrev pub tree : List Node
tree =
    at Dir [] [] ∷ at Dir (codes "work" ∷ []) []
    ∷ at File (codes "work" ∷ codes "in" ∷ []) (codes "AB")
    ∷ at Dir (codes "work" ∷ codes "out" ∷ []) []
    ∷ at Link (codes "work" ∷ codes "same" ∷ []) (codes "out/../in")
    ∷ at Link (codes "work" ∷ codes "up" ∷ []) (codes "../etc/passwd")
    ∷ at Link (codes "work" ∷ codes "abs" ∷ []) (codes "/etc/passwd")
    ∷ at Dir (codes "workshop" ∷ []) []
    ∷ at File (codes "workshop" ∷ codes "x" ∷ []) (codes "w")
    ∷ at Dir (codes "log" ∷ []) [] ∷ at Dir (codes "etc" ∷ []) []
    ∷ at File (codes "etc" ∷ codes "passwd" ∷ []) (codes "x")
    ∷ []

abbrev pub work : List Operation → Grant
work operations = record { name = codes "work"; path = codes "work" ∷ []; operations = operations }

abbrev pub log : Grant
log = record { name = codes "log"; path = codes "log" ∷ []; operations = Creates ∷ Writes ∷ Removes ∷ [] }

abbrev pub given_first : ℕ → FirstObject → FirstDescriptor
given_first number object = record { number = number; object = object; rights = all_rights; fcntls = all_commands }

abbrev pub directory : ℕ → FirstObject
directory n = On_node n (record { readable = true; writable = false })

-- a process outside the mode that has `/work` at 0 and `/log` at 1, and what more there is
abbrev pub main_start : List FirstDescriptor → Start
main_start more = record {
  program = 0;
  mode = false;
  descriptors = given_first 0 (directory 1) ∷ given_first 1 (directory 9) ∷ more;
}

abbrev pub alone : List Operation → List Instruction → Plan
alone operations code = record {
  wide = false;
  nodes = tree;
  grants = work operations ∷ log ∷ [];
  programs = unmarked (codes "main") code ∷ [];
  starts = main_start [] ∷ [];
}

abbrev pub reads_below : OpenRequest
reads_below = open_request true false false false false

-- `LOOKUP,READ`
abbrev pub few_rights : ℕ
few_rights = 0x0081

-- `main` limits its directory and sends it over the pair to `child`, which is in the mode, opens a file beneath it and reads
abbrev pub passing_plan : Plan
passing_plan = record {
  wide = false;
  nodes = tree;
  grants = work (Look ∷ Reads ∷ []) ∷ log ∷ [];
  programs =
      unmarked (codes "main")
      (Invoke (Cap_rights_limit (Number 0) few_rights) 2 ∷ Invoke (Sendfd (Number 2) (Number 0) (Number 0)) 2 ∷ Halt ∷ [])
      ∷ unmarked (codes "child")
      (Invoke (Recvfd (Number 0)) 3 ∷ Invoke (Openat (Number 1) (codes "in") reads_below) 3 ∷ Invoke (Read (Number 2)) 3 ∷ Halt ∷ [])
      ∷ [];
  starts =
      main_start (given_first 2 (On_end 0 0) ∷ [])
      ∷ record { program = 1; mode = true; descriptors = given_first 0 (On_end 0 1) ∷ [] } ∷ [];
}

-- enters the mode and forks; the child opens a file beneath its directory
abbrev pub forking_plan : Plan
forking_plan =
    alone (Look ∷ Reads ∷ [])
    (Invoke Cap_enter 5 ∷ Invoke Fork 5 ∷ Jeq 0 0 4 ∷ Jmp 5 ∷ Invoke (Openat (Number 0) (codes "in") reads_below) 5 ∷ Halt ∷ [])

-- enters the mode and moves a file into another directory of its grant
abbrev pub renaming_plan : Plan
renaming_plan =
    alone (Look ∷ Reads ∷ Creates ∷ Removes ∷ [])
    (Invoke Cap_enter 2 ∷ Invoke (Renameat (Number 0) (codes "in") (Number 0) (codes "out/in")) 2 ∷ Halt ∷ [])

-- ## The certificates
abbrev pub blocks : List ℕ → ℕ → List Bound → List PointBound
blocks program n [] = []
blocks program n (b ∷ bounds) = block program n b ∷ blocks program (n + 1) bounds

-- both directories, and what more there is
abbrev pub at_main : ModeBound → List Slot → Bound
at_main mode more = bound_of_slots mode (Open in_work ∷ Open in_log ∷ more)

abbrev pub few_held : Held
few_held = with_rights in_work few_rights

-- with few rights or more
abbrev pub few_at_least : Held
few_at_least = record in_work { least = few_rights }

-- of the `main` that limits its directory and sends it
abbrev pub sending_points : List PointBound
sending_points =
    blocks (codes "main") 0
    (at_main Off (Open side_a ∷ []) ∷ bound_of_slots Off (Open few_held ∷ Open in_log ∷ Open side_a ∷ [])
    ∷ bound_of_slots Off (Open few_at_least ∷ Open in_log ∷ Open side_a ∷ []) ∷ [])

abbrev pub passing_certificate : Certificate
passing_certificate = record {
  version = One;
  points =
      blocks (codes "child") 0
      (bound_of_slots On (Open side_b ∷ []) ∷ bound_of_slots On (Open side_b ∷ Open few_held ∷ [])
      ∷ bound_of_slots On (Open side_b ∷ Open few_held ∷ Open few_held ∷ []) ∷ bound_of_slots On (Open side_b ∷ Maybe few_held ∷ Maybe few_held ∷ []) ∷ [])
      ++ sending_points;
  channels = channel 0 (Some few_held) ∷ [];
  authorities = [];
}

abbrev pub forking_certificate : Certificate
forking_certificate = record {
  version = One;
  points =
      blocks (codes "main") 0
      (at_main Off [] ∷ at_main On [] ∷ with_interval (at_main On []) 0 (from_to 0 15) ∷ at_main On [] ∷ at_main On []
      ∷ at_main On (Maybe in_work ∷ []) ∷ []);
  channels = [];
  authorities = [];
}

abbrev pub renaming_certificate : Certificate
renaming_certificate = record {
  version = One;
  points = blocks (codes "main") 0 (at_main Off [] ∷ at_main On [] ∷ at_main On [] ∷ []);
  channels = [];
  authorities = [];
}

-- ## What they show
-- the process acts, and the kernel refuses nothing
abbrev pub turn : ℕ → Event
turn process = record { process = process; input = 0; refuse = false }

abbrev pub turns : List ℕ → List Event
turns [] = []
turns (p ∷ ps) = turn p ∷ turns ps

-- The certificate meets the rules, so that every run of the task is sandboxed; and it has a run of these processes in turn that
-- shows this text.
pub record ActsAccepted (plan : Plan) (certificate : Certificate) (processes : List ℕ) (text : List ℕ) : Type 0 where
  pub meets : MeetsRules plan certificate
  pub sandboxed : IsSandboxed plan
  pub lines : List (Option Acted)
  pub run : IsRun plan (turns processes) lines
  pub shows : trace_text plan (turns processes) lines ≡ text
