-- A world to run small programs in, and what a run of them shows.
use Rattle.std.specs.Prelude.{ℕ, zero, suc, ◌+◌, ◌*◌, true, false, List, [], ◌∷◌, ◌++◌, codes, replicate, slice_index_or, Option, Some, None, Result, Ok, Err}
use Rattle.std.specs.List.{flat_map}
use Rattle.std.specs.Fmt.{decimal}
use Rattle.rights.specs.Sets.{all_rights, all_commands}
use Rattle.rights.specs.Errors.{errno_name, cause_name}
use Rattle.rights.specs.Maps.{put}
use Rattle.rights.specs.OperationLists.{operation_name}
use Rattle.file_tree.specs.Places.{place_text}
use Rattle.file_tree.specs.Nodes.{File, Dir, Link, Node}
use Rattle.file_tree.specs.Refusals.{new_tree, created}
use Rattle.process.specs.State.{ProcessState, new_process}
use Rattle.instruction_set.specs.Programs.{Instruction}
use Rattle.instruction_set.specs.Assembly.{Fault}
use Rattle.fd_table.specs.Descriptions.{Object, At_node, At_end, Initial, Descriptor, new_state}
use Rattle.kernel.specs.World.{World, Choice}
use Rattle.kernel.specs.Answers.{Event, Effect}
use Rattle.kernel.specs.Steps.{LineResult, No_call, Halted, Value, Failed, Waiting, Walks_on, Ended, Acted, Programs, step}

-- Directories `/work` with `in`, `out` and three links, `/workshop` with `x`, `/log`, and `/etc` with
-- `passwd`: eleven nodes after the root.
unfoldable pub base : List Node
base =
    let a = created new_tree 0 (codes "work") Dir [] in
    let b = created a 1 (codes "in") File (codes "AB") in
    let c = created b 1 (codes "out") Dir [] in
    let d = created c 1 (codes "same") Link (codes "out/../in") in
    let e = created d 1 (codes "up") Link (codes "../etc/passwd") in
    let f = created e 1 (codes "abs") Link (codes "/etc/passwd") in
    let g = created f 0 (codes "workshop") Dir [] in
    let h = created g 7 (codes "x") File (codes "w") in
    let i = created h 0 (codes "log") Dir [] in
    let j = created i 0 (codes "etc") Dir [] in
    created j 10 (codes "passwd") File (codes "x")

-- what a process starts with: objects by description, and a description at each number
abbrev pub reading : ℕ → Object
reading n = At_node n (record { readable = true; writable = false })

abbrev pub described : ℕ → Descriptor
described n = record { description = n; rights = all_rights; fcntls = all_commands }

abbrev pub row_of : List (Option Descriptor) → ℕ → Option Descriptor
row_of entries n = slice_index_or entries n None

-- `/work` at 0 and `/log` at 1, and what more the first process has, in order
abbrev pub entries_from : ℕ → List Object → List (Option Descriptor)
entries_from n [] = []
entries_from n (o ∷ objects) = Some (described n) ∷ entries_from (n + 1) objects

abbrev pub world_of : List Node → List Object → List ProcessState → (ℕ → ℕ → Option Descriptor) → World
world_of tree objects processes table = record {
  tree = tree;
  files = record {
    objects = λ n. slice_index_or objects n (reading 0);
    states = λ n. new_state false;
    queue = λ pair side. [];
    pairs = 1;
    table = table;
  };
  processes = processes;
}

abbrev pub alone : List Node → List Object → World
alone tree more =
    let objects = reading 1 ∷ reading 9 ∷ more in
    world_of tree objects (new_process 0 false ∷ []) (put (λ p n. None) 0 (row_of (entries_from 0 objects)))

-- events
abbrev pub event : ℕ → ℕ → Event
event process input = record { process = process; input = input; refuse = false }

abbrev pub refused : Event
refused = record { process = 0; input = 0; refuse = true }

abbrev pub times : ℕ → List Event
times n = replicate n (event 0 0)

-- What a run shows: the text of a trace.
abbrev pub result_text : LineResult → List ℕ
result_text No_call = codes "ok"
result_text Halted = codes "halt"
result_text (Value n) = codes "= " ++ decimal n
result_text (Failed errno cause) = codes "! " ++ errno_name errno ++ codes " " ++ cause_name cause
result_text Waiting = codes "wait"
result_text Walks_on = codes "walk"
result_text Ended = codes "ended"

abbrev pub effect_text : Effect → List ℕ
effect_text f = codes " " ++ operation_name f.operation ++ codes " " ++ place_text f.place

abbrev pub program_name : ℕ → List ℕ
program_name zero = codes "main"
program_name (suc n) = codes "child"

abbrev pub acted_text : (ℕ → List ℕ) → Option Acted → List ℕ
acted_text name None = codes " - none"
acted_text name (Some a) =
    codes " " ++ name a.program ++ codes ":" ++ decimal a.point ++ codes " " ++ result_text a.outcome
    ++ flat_map effect_text a.effects

abbrev pub line_text : (ℕ → List ℕ) → ℕ → Option Acted → List ℕ
line_text name process acted = decimal process ++ acted_text name acted ++ codes "\n"

-- a line that comes so often
abbrev pub repeated : ℕ → List ℕ → List ℕ
repeated zero line = []
repeated (suc n) line = line ++ repeated n line

-- numbers that nobody names at the n-th step
abbrev pub choice_at : ℕ → Choice
choice_at n = record { first = 100 + 2 * n; second = 101 + 2 * n; pair = 1 + n }

abbrev pub trace_by : (ℕ → List ℕ) → Programs → World → ℕ → List Event → List ℕ
trace_by name programs w n [] = []
trace_by name programs w n (e ∷ events) =
    let s = step programs w e (choice_at n) in
    line_text name e.process s.acted ++ trace_by name programs s.world (n + 1) events

abbrev pub trace : Programs → World → ℕ → List Event → List ℕ
trace = trace_by program_name

-- one program, or two
abbrev pub code_of : Result (List Instruction) Fault → List Instruction
code_of (Ok code) = code
code_of (Err fault) = []

abbrev pub programs_of : List (List Instruction) → Programs
programs_of programs n = slice_index_or programs n []

-- Two processes, the second in the mode, with the two ends of a pair: side a as descriptor 2 of the first, side
-- b as descriptor 0 of the second.
abbrev pub joined : World
joined =
    let ends = At_end 0 0 (Initial 0) ∷ At_end 0 1 (Initial 0) ∷ [] in
    let first = row_of (Some (described 0) ∷ Some (described 1) ∷ Some (described 2) ∷ []) in
    let second = row_of (Some (described 3) ∷ []) in
    world_of base (reading 1 ∷ reading 9 ∷ ends) (new_process 0 false ∷ new_process 1 true ∷ []) (put (put (λ p n. None) 0 first) 1 second)

-- Links in `/work`: `l1` to `in`, `l2` to `l1`, and so on.
abbrev pub link_target : ℕ → List ℕ
link_target zero = codes "in"
link_target (suc n) = codes "l" ++ decimal (suc n)

unfoldable pub with_links : ℕ → List Node
with_links zero = base
with_links (suc n) = created (with_links n) 1 (codes "l" ++ decimal (suc n)) Link (link_target n)
