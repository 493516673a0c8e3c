-- A mistake of a first part is the whole's, and programs are assembled one by one.
use Rattle.std.proofs.Common.{◌≡◌, ℕ, ◌+◌, ◌<◌, ◌≤◌, Bool, List, [], ◌∷◌, ◌++◌, length, get_or, take, drop, Option, Some, None, Result, Ok, Err, string_bytes, refl, ap}
use Rattle.std.proofs.Common.{sym, ◌∙◌, append_assoc, append-nil}
use Rattle.std.proofs.lemmas.List.{drop_more, take-append-le, take_all}
use Rattle.rights.specs.Limits.{most_programs}
use Rattle.prog_asm.specs.declared.faults.AsmFault.{AsmFault}
use Rattle.prog_asm.specs.declared.faults.AsmFault.TheVariants as asm
use Rattle.instruction_set.specs.Programs.{Instruction}
use Rattle.instruction_set.specs.Assembly.{Fault}
use Rattle.prog_asm.specs.FaultViews as texts
use Rattle.task_reader.specs.declared.faults.TaskFault.{TaskFault}
use Rattle.task_reader.specs.declared.faults.TaskFault.TheVariants as code
use Rattle.task_reader.specs.declared.written.WrittenProgram.{WrittenProgram as ProgramCode}
use Rattle.task.specs.Plans.{NamedProgram}
use Rattle.task_reader.specs.WrittenViews.{program_seen, programs_seen}
use Rattle.task_reader.specs.Reading.{Mistake, Not_toml, Wrong_field, Wrong_node, Wrong_grant, Wrong_descriptor, Wrong_program, Past_limit, ◌>>=◌, assembled, all_assembled, program_from}
use Rattle.task_reader.specs.FaultViews.{FaultIs, IsProgramFault, text_fault}

program-passes : {A : Type 0} {B : Type 0} (name : List ℕ) (why : Option Fault) (r : Result A Mistake) (f : A → Result B Mistake) → IsProgramFault name why r → IsProgramFault name why (r >>= f)
program-passes name None r f is = is
program-passes name (Some why) r f is = rw is refl

pub fault-passes : {A : Type 0} {B : Type 0} (e : TaskFault) (r : Result A Mistake) (f : A → Result B Mistake) → FaultIs e r → FaultIs e (r >>= f)
fault-passes code.NotToml r f is = rw is refl
fault-passes code.Field r f is = rw is refl
fault-passes code.Node r f is = rw is refl
fault-passes code.Grant r f is = rw is refl
fault-passes code.Descriptor r f is = rw is refl
fault-passes (code.Asm program why) r f is = program-passes (string_bytes program) (text_fault why) r f is
fault-passes code.Limit r f is = rw is refl
fault-passes code.Memory r f is = is

-- The fault of a text is its program's.
pub text-fault : (e : AsmFault) (name : List ℕ) (marked : Bool) (read : Result (List Instruction) Fault) → (e ≡ asm.Memory → ⊥) → texts.FaultIs e read
    → IsProgramFault name (text_fault e) (program_from name marked read)
text-fault (asm.Word line) name marked read other is = rw is refl
text-fault (asm.Operand line) name marked read other is = rw is refl
text-fault (asm.NoLabel line) name marked read other is = rw is refl
text-fault (asm.TwiceLabel line) name marked read other is = rw is refl
text-fault (asm.TooMany line) name marked read other is = rw is refl
text-fault (asm.FallsOff line) name marked read other is = rw is refl
text-fault asm.Memory name marked read other is = absurd (other refl)

-- what is assembled so far, and then what is left
abbrev pub after : List NamedProgram → Result (List NamedProgram) Mistake → Result (List NamedProgram) Mistake
after so_far (Ok rest) = Ok (so_far ++ rest)
after so_far (Err mistake) = Err mistake

one-more : (so_far : List NamedProgram) (p : NamedProgram) (rest : Result (List NamedProgram) Mistake) → after so_far (rest >>= (λ ps. Ok (p ∷ ps))) ≡ after (so_far ++ p ∷ []) rest
one-more so_far p (Ok rest) = ap Ok (sym (append_assoc so_far (p ∷ []) rest))
one-more so_far p (Err mistake) = refl

left-more : (wide : Bool) (written : List ProgramCode) (i : ℕ) (d : ProgramCode) → i < length written →
    all_assembled wide (programs_seen (drop i written)) ≡ all_assembled wide (program_seen (get_or written i d) ∷ programs_seen (drop (i + 1) written))
left-more wide written i d within = ap (λ ps. all_assembled wide (programs_seen ps)) (drop_more written i d within)

pub assembled-more :
    (wide : Bool) (written : List ProgramCode) (i : ℕ) (d : ProgramCode) (so_far : List NamedProgram) (p : NamedProgram) → i < length written
    → assembled wide (program_seen (get_or written i d)) ≡ Ok p
    → after so_far (all_assembled wide (programs_seen (drop i written))) ≡ after (so_far ++ p ∷ []) (all_assembled wide (programs_seen (drop (i + 1) written)))
assembled-more wide written i d so_far p within is =
    let rest = all_assembled wide (programs_seen (drop (i + 1) written)) in
    ap (after so_far) (left-more wide written i d within ∙ ap (λ r. r >>= (λ first. rest >>= (λ ps. Ok (first ∷ ps)))) is) ∙ one-more so_far p rest

after-program : (name : List ℕ) (why : Option Fault) (so_far : List NamedProgram) (r : Result (List NamedProgram) Mistake) → IsProgramFault name why r → IsProgramFault name why (after so_far r)
after-program name None so_far r is = is
after-program name (Some why) so_far r is = rw is refl

after-fault : (e : TaskFault) (so_far : List NamedProgram) (r : Result (List NamedProgram) Mistake) → FaultIs e r → FaultIs e (after so_far r)
after-fault code.NotToml so_far r is = rw is refl
after-fault code.Field so_far r is = rw is refl
after-fault code.Node so_far r is = rw is refl
after-fault code.Grant so_far r is = rw is refl
after-fault code.Descriptor so_far r is = rw is refl
after-fault (code.Asm program why) so_far r is = after-program (string_bytes program) (text_fault why) so_far r is
after-fault code.Limit so_far r is = rw is refl
after-fault code.Memory so_far r is = is

pub assembled-fails :
    (wide : Bool) (e : TaskFault) (written : List ProgramCode) (i : ℕ) (d : ProgramCode) (so_far : List NamedProgram) → i < length written
    → FaultIs e (assembled wide (program_seen (get_or written i d))) → FaultIs e (after so_far (all_assembled wide (programs_seen (drop i written))))
assembled-fails wide e written i d so_far within is =
    after-fault e so_far _ (rw (left-more wide written i d within) (fault-passes e (assembled wide (program_seen (get_or written i d))) _ is))

-- as many of them as a task may have
abbrev pub few : Result (List NamedProgram) Mistake → Result (List NamedProgram) Mistake
few read = read >>= (λ all. Ok (take most_programs all))

pub few-more :
    (wide : Bool) (written : List ProgramCode) (i : ℕ) (d : ProgramCode) (so_far : List NamedProgram) (p : NamedProgram) → i < length written
    → assembled wide (program_seen (get_or written i d)) ≡ Ok p
    → few (after so_far (all_assembled wide (programs_seen (drop i written)))) ≡ few (after (so_far ++ p ∷ []) (all_assembled wide (programs_seen (drop (i + 1) written))))
few-more wide written i d so_far p within is = ap few (assembled-more wide written i d so_far p within is)

full : (so_far more : List NamedProgram) (r : Result (List NamedProgram) Mistake) → most_programs ≤ length so_far → few (after (so_far ++ more) r) ≡ few (after so_far r)
full so_far more (Ok rest) enough =
    ap Ok (ap (take most_programs) (append_assoc so_far more rest) ∙ take-append-le most_programs so_far (more ++ rest) enough ∙ sym (take-append-le most_programs so_far rest enough))
full so_far more (Err mistake) enough = refl

pub few-past :
    (wide : Bool) (written : List ProgramCode) (i : ℕ) (d : ProgramCode) (so_far : List NamedProgram) (p : NamedProgram) → i < length written
    → most_programs ≤ length so_far → assembled wide (program_seen (get_or written i d)) ≡ Ok p
    → few (after so_far (all_assembled wide (programs_seen (drop i written)))) ≡ few (after so_far (all_assembled wide (programs_seen (drop (i + 1) written))))
few-past wide written i d so_far p within enough is =
    few-more wide written i d so_far p within is ∙ full so_far (p ∷ []) (all_assembled wide (programs_seen (drop (i + 1) written))) enough

pub few-fails :
    (wide : Bool) (e : TaskFault) (written : List ProgramCode) (i : ℕ) (d : ProgramCode) (so_far : List NamedProgram) → i < length written
    → FaultIs e (assembled wide (program_seen (get_or written i d))) → FaultIs e (few (after so_far (all_assembled wide (programs_seen (drop i written)))))
few-fails wide e written i d so_far within is =
    fault-passes e (after so_far (all_assembled wide (programs_seen (drop i written)))) (λ all. Ok (take most_programs all)) (assembled-fails wide e written i d so_far within is)

pub few-whole : (so_far : List NamedProgram) → length so_far ≤ most_programs → few (after so_far (Ok [])) ≡ Ok so_far
few-whole so_far short = ap (λ all. Ok (take most_programs all)) (append-nil so_far) ∙ ap Ok (take_all most_programs so_far short)

-- A mistake behind what can't fail is the first part's.
fault-before-program : {A : Type 0} {B : Type 0} (name : List ℕ) (why : Option Fault) (r : Result A Mistake) (f : A → B)
    → IsProgramFault name why (r >>= (λ a. Ok (f a))) → IsProgramFault name why r
fault-before-program name None r f is = is
fault-before-program name (Some why) (Ok a) f is = absurd cc
fault-before-program name (Some why) (Err mistake) f is = let same : mistake ≡ Wrong_program name why = cc in ap Err same

pub fault-before : {A : Type 0} {B : Type 0} (e : TaskFault) (r : Result A Mistake) (f : A → B) → FaultIs e (r >>= (λ a. Ok (f a))) → FaultIs e r
fault-before code.NotToml (Ok a) f is = absurd cc
fault-before code.NotToml (Err mistake) f is = let same : mistake ≡ Not_toml = cc in ap Err same
fault-before code.Field (Ok a) f is = absurd cc
fault-before code.Field (Err mistake) f is = let same : mistake ≡ Wrong_field = cc in ap Err same
fault-before code.Node (Ok a) f is = absurd cc
fault-before code.Node (Err mistake) f is = let same : mistake ≡ Wrong_node = cc in ap Err same
fault-before code.Grant (Ok a) f is = absurd cc
fault-before code.Grant (Err mistake) f is = let same : mistake ≡ Wrong_grant = cc in ap Err same
fault-before code.Descriptor (Ok a) f is = absurd cc
fault-before code.Descriptor (Err mistake) f is = let same : mistake ≡ Wrong_descriptor = cc in ap Err same
fault-before (code.Asm program why) r f is = fault-before-program (string_bytes program) (text_fault why) r f is
fault-before code.Limit (Ok a) f is = absurd cc
fault-before code.Limit (Err mistake) f is = let same : mistake ≡ Past_limit = cc in ap Err same
fault-before code.Memory r f is = is

-- What succeeds has no mistake.
never-program : {A : Type 0} {B : Type 0} (name : List ℕ) (why : Option Fault) (x : A) (r : Result B Mistake) → IsProgramFault {Y = A} name why (Ok x) → IsProgramFault name why r
never-program name None x r is = is
never-program name (Some why) x r is = absurd cc

pub fault-never : {A : Type 0} {B : Type 0} (e : TaskFault) (x : A) (r : Result B Mistake) → FaultIs {Y = A} e (Ok x) → FaultIs e r
fault-never code.NotToml x r is = absurd cc
fault-never code.Field x r is = absurd cc
fault-never code.Node x r is = absurd cc
fault-never code.Grant x r is = absurd cc
fault-never code.Descriptor x r is = absurd cc
fault-never (code.Asm program why) x r is = never-program (string_bytes program) (text_fault why) x r is
fault-never code.Limit x r is = absurd cc
fault-never code.Memory x r is = is
