-- What is observed on a program or a task: each matter by its name, with the points that it is said of, in order. (own)
use Rattle.std.specs.Prelude.{◌&&◌, ◌==◌, ◌+◌, ◌++◌, ℕ, Bool, if◌then◌else◌, List, [], ◌∷◌, Option, Some, None, codes, filter, map}
use Rattle.std.specs.List.{flat_map, slice_get}
use Rattle.certificate.specs.Bounds.{Bound, Certificate}
use Rattle.instruction_set.specs.Programs.{Instruction}
use Rattle.remarks.specs.Beyond.{points_beyond}
use Rattle.remarks.specs.Listed.{Remark, Never_enters, Untrusted, Unreached, Unsettled, Stray, Idle, Rights_left, Commands_left, Both_ends, Never_open}
use Rattle.remarks.specs.Listed.{Remarked, numbers, remarks_on}
use Rattle.remarks.specs.TaskRemarks.{TaskRemark, Alone, Boundless, task_remarks}
use Rattle.remarks.specs.Unneeded.{unneeded}
use Rattle.remarks.specs.Warnings.{Difference, Absolute_path, Way_out, Last_link, Commands_gone, No_number_left, One_number_left, Unlisted_look}
use Rattle.remarks.specs.Warnings.{Warned, bounds_in, prying, starts_listable, starts_with_more, warned_in, widest}
use Rattle.rights.specs.Values.{DescriptorNumber}
use Rattle.task.specs.Plans.{Grant, NamedProgram, Plan, Start}

-- the name of a matter and the points of the program; none, where it is of the program or the task as a whole
abbrev pub Headed : Type 0
Headed = List ℕ × List ℕ

-- ## Remarks on a program
abbrev pub remark_name : Remark → List ℕ
remark_name Never_enters = codes "never-enters"
remark_name Untrusted = codes "untrusted"
remark_name (Unreached outside_alone) = codes "unreached"
remark_name (Unsettled from) = codes "mode-skipped"
remark_name (Stray n) = codes "in-no-grant"
remark_name (Idle n) = codes "never-named"
remark_name (Rights_left n most) = codes "rights-unused"
remark_name (Commands_left n most) = codes "commands-unused"
remark_name (Both_ends n m) = codes "both-ends"
remark_name (Never_open n) = codes "never-open"

-- That a program is untrusted is said of it as a whole.
abbrev pub remark_points : Remark → List ℕ → List ℕ
remark_points Untrusted points = []
remark_points _ points = points

abbrev pub headed_remark : Remarked → Headed
headed_remark r = (remark_name r.remark, remark_points r.remark r.points)

-- a matter with its points, if there are any
abbrev pub headed_where_any : List ℕ → List ℕ → List Headed
headed_where_any name [] = []
headed_where_any name (point ∷ points) = (name, point ∷ points) ∷ []

-- the points in the mode at which a number has rights beyond the policy
unfoldable pub beyond_by : Bool → List Grant → List Instruction → List (Option Bound) → DescriptorNumber → List Headed
beyond_by wide grants code bounds n = headed_where_any (codes "beyond-the-policy") (points_beyond wide grants code bounds n)

unfoldable pub beyond_on : Plan → Certificate → Option NamedProgram → List Headed
beyond_on plan c None = []
beyond_on plan c (Some p) = flat_map (beyond_by plan.wide plan.grants p.code (bounds_in c p)) numbers

-- on a program of a task, by its number: with the bounds of a certificate, if there is one
abbrev pub program_observed : Plan → Certificate → ℕ → Bool → List Headed
program_observed plan c program has_cert =
    map headed_remark (remarks_on plan c program has_cert) ++ (if has_cert then beyond_on plan c (slice_get plan.programs program) else [])

-- ## Remarks on a task
abbrev pub task_remark_name : TaskRemark → List ℕ
task_remark_name (Alone pair side) = codes "lone-end"
task_remark_name (Boundless grant) = codes "whole-tree"

abbrev pub headed_task_remark : TaskRemark → Headed
headed_task_remark r = (task_remark_name r, [])

-- for each operation that a grant lists and nothing needs
unfoldable pub unused_on : Plan → Certificate → Grant → List Headed
unused_on plan c g = map (λ operation. (codes "operation-unused", [])) (unneeded plan c g.name g.operations)

abbrev pub task_observed : Plan → Certificate → Bool → List Headed
task_observed plan c has_cert = map headed_task_remark (task_remarks plan) ++ (if has_cert then flat_map (unused_on plan c) plan.grants else [])

-- ## Warnings on a program: each has the name of the part of docs/FREEBSD.md that says more
unfoldable pub difference_part : Difference → List ℕ
difference_part Absolute_path = codes "absolute-paths"
difference_part Way_out = codes "ways-out-of-a-directory"
difference_part Last_link = codes "a-last-link-that-is-created"
difference_part Commands_gone = codes "commands-without-fcntl"
difference_part No_number_left = codes "sixteen-numbers"
difference_part One_number_left = codes "sixteen-numbers"
difference_part Unlisted_look = codes "what-a-right-does-beyond-its-calls"

unfoldable pub more_rights : List ℕ
more_rights = codes "more-calls-and-rights"

unfoldable pub beyond_its_calls : List ℕ
beyond_its_calls = codes "what-a-right-does-beyond-its-calls"

abbrev pub headed_at : ℕ → List ℕ → Headed
headed_at point part = (part, point ∷ [])

-- for each of some subjects
abbrev pub each_at : {X : Type 0} → ℕ → List ℕ → List X → List Headed
each_at point part subjects = map (λ subject. headed_at point part) subjects

abbrev pub headed_if : Bool → ℕ → List ℕ → List Headed
headed_if is_so point part = if is_so then headed_at point part ∷ [] else []

unfoldable pub warned_there : ℕ → Warned → List Headed
warned_there point w =
    map (λ d. headed_at point (difference_part d)) w.differences
    ++ (headed_if w.failed_close point (codes "a-close-that-fails")
    ++ (headed_if w.no_sandbox point (codes "no-sandbox-at-all")
    ++ (each_at point more_rights w.numbers ++ each_at point beyond_its_calls w.directories)))

-- what is warned of at some points, from this one on
abbrev pub warned_from : ℕ → List Warned → List Headed
warned_from point [] = []
warned_from point (w ∷ ws) = warned_there point w ++ warned_from (point + 1) ws

-- Ceilings, and what a process of a marked program starts with in the mode, are warned of at point 0.
unfoldable pub warned_at_start : Plan → Start → List Headed
warned_at_start plan s =
    each_at 0 more_rights (filter starts_with_more s.descriptors) ++ each_at 0 beyond_its_calls (filter (starts_listable plan) s.descriptors)

abbrev pub warned_if_marked : Plan → ℕ → Bool → Start → List Headed
warned_if_marked plan program marked s = if marked && s.mode && (s.program == program) then warned_at_start plan s else []

unfoldable pub warned_of_whole : Plan → Certificate → ℕ → Option NamedProgram → List Headed
warned_of_whole plan c program None = []
warned_of_whole plan c program (Some p) =
    each_at 0 more_rights (widest c p.name)
    ++ (each_at 0 beyond_its_calls (prying plan.grants c p.name) ++ flat_map (warned_if_marked plan program p.marked) plan.starts)

-- those on a program of a task, by its number, with the bounds of a certificate
abbrev pub program_warned : Plan → Certificate → ℕ → List Headed
program_warned plan c program =
    warned_from 0 (warned_in plan c (slice_get plan.programs program)) ++ warned_of_whole plan c program (slice_get plan.programs program)
