-- What is told of an accepted certificate: at each point the rights that a process may have in each grant, and those that a marked
-- program may have whatever it does. (own)
use Rattle.std.specs.Prelude.{◌==◌, ◌++◌, ℕ, Bool, List, [], ◌∷◌, codes, take, Option, Some, None, bit_or, if◌then◌else◌}
use Rattle.std.specs.Fmt.{decimal}
use Rattle.std.specs.Str.{bytes_eq}
use Rattle.rights.specs.Sets.{is_within, right_names}
use Rattle.texts.specs.Bytes.{comma}
use Rattle.texts.specs.Parts.{joined}
use Rattle.certificate.specs.Bounds.{Target, In_grant, Any_node, Socket, Unknown, Held, Slot, Bound, Certificate, bound_at, held_in}
use Rattle.certificate_text.specs.Pieces.{in_order}
use Rattle.checker.specs.Verdicts.{Verdict, Yes, No}
use Rattle.rights.specs.Uses.{asked_rights}
use Rattle.rules.specs.Authority.{authority_at, ceiling_in}
use Rattle.rules.specs.Expansions.{expansion}
use Rattle.instruction_set.specs.Programs.{Instruction}
use Rattle.task.specs.Plans.{Grant, NamedProgram, Plan}
use Rattle.commands.specs.Judged.{verdict_text}

-- ## The rights in a grant
-- The greatest rights of a descriptor in the grant of this name; none is said of one elsewhere.
abbrev pub greatest_of : List ℕ → Target → ℕ → Option ℕ
greatest_of name (In_grant grant) greatest = if bytes_eq grant name then Some greatest else None
greatest_of name Any_node greatest = None
greatest_of name (Socket class side) greatest = None
greatest_of name Unknown greatest = None

abbrev pub greatest_in : List ℕ → Option Held → Option ℕ
greatest_in name None = None
greatest_in name (Some h) = greatest_of name h.target h.greatest

-- of two sets, of which either may be missing, the rights in either
abbrev pub either_set : Option ℕ → Option ℕ → Option ℕ
either_set None b = b
either_set (Some a) None = Some a
either_set (Some a) (Some b) = Some (bit_or a b)

-- The greatest rights of all slots that may be open in the grant of this name; none where no slot may be.
abbrev pub rights_there : List ℕ → List Slot → Option ℕ
rights_there name [] = None
rights_there name (s ∷ slots) = either_set (greatest_in name (held_in s)) (rights_there name slots)

-- ## Its line
-- the rights by their names, without the two aliases
abbrev pub own_names : List (List ℕ × ℕ)
own_names = take 46 right_names

abbrev pub names_in : ℕ → List (List ℕ × ℕ) → List (List ℕ)
names_in set [] = []
names_in set (row ∷ rows) = if is_within row.1 set then row.0 ∷ names_in set rows else names_in set rows

-- `READ,LOOKUP`, in the order of the rights, and `none` of the empty set
abbrev pub rights_text : ℕ → List ℕ
rights_text set = if set == 0 then codes "none" else joined comma (names_in set own_names)

-- `main:0 work `, of a point or of `*`
abbrev pub point_text : List ℕ → List ℕ → List ℕ → List ℕ
point_text program point grant = program ++ codes ":" ++ point ++ codes " " ++ grant ++ codes " "

-- `main:0 work READ,LOOKUP`: of a task without further rights it tells none of them
abbrev pub grant_line : Bool → List ℕ → ℕ → List ℕ → Option ℕ → List ℕ
grant_line wide program point grant None = []
grant_line wide program point grant (Some rights) =
    point_text program (decimal point) grant ++ rights_text (asked_rights wide rights) ++ codes "\n"

-- names, with what separates the first of them from what stands before it
abbrev pub parted : List ℕ → List (List ℕ) → List ℕ
parted separator [] = []
parted separator (name ∷ names) = separator ++ name ++ parted (codes ",") names

-- ## The report
-- the lines of a point with a bound, by the grants of the task
abbrev pub point_lines : Bool → List Grant → List ℕ → ℕ → Option Bound → List ℕ
point_lines wide grants program point None = []
point_lines wide grants program point (Some b) =
    in_order (λ n (g : Grant). grant_line wide program point g.name (rights_there g.name b.slots)) 0 grants

-- `child:* work READ,LOOKUP`: what a marked program may have in a grant, by its authority
abbrev pub ceiling_line : Bool → List ℕ → List ℕ → ℕ → List ℕ
ceiling_line wide program grant rights =
    if rights == 0 then [] else point_text program (codes "*") grant ++ rights_text (asked_rights wide rights) ++ codes "\n"

abbrev pub ceiling_lines : Bool → List Grant → Certificate → List ℕ → List ℕ
ceiling_lines wide grants certificate program =
    in_order (λ n (g : Grant). ceiling_line wide program g.name (ceiling_in (authority_at certificate program).ceilings g.name)) 0 grants

-- of a program, by its points; and then of its authority, if it is marked
abbrev pub program_lines : Bool → List Grant → Certificate → NamedProgram → List ℕ
program_lines wide grants certificate p =
    in_order (λ point (i : Instruction). point_lines wide grants p.name point (bound_at certificate p.name point)) 0 p.code
    ++ (if p.marked then ceiling_lines wide grants certificate p.name else [])

-- of a task, by its programs
abbrev pub report_text : Plan → Certificate → List ℕ
report_text plan certificate = in_order (λ n. program_lines plan.wide plan.grants certificate) 0 plan.programs

-- ## What is written
-- the report on the expansion where the certificate is accepted, and else the line of the verdict
abbrev pub answer_text : Plan → Certificate → Verdict → List ℕ
answer_text plan certificate Yes = report_text plan (expansion plan certificate)
answer_text plan certificate (No program point rule) = verdict_text plan (No program point rule)
