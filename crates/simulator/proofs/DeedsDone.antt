-- What a deed needs, and what it comes to.
use Rattle.std.proofs.Common.{◌≡◌, ℕ, zero, suc, ◌+◌, ◌<◌, ◌≤◌, true, false, List, [], ◌∷◌, length, refl, arith, ap, sym, subst, ◌∙◌, map}
use Rattle.std.specs.Prelude.{◌^◌, ◌&&◌, ◌||◌, not, is_some, slice_set, Option, Some, None, if◌then◌else◌}
use Rattle.std.specs.List.{slice_get}
use Rattle.std.specs.Cmp.Derive.{both_true}
use Rattle.std.proofs.Math.ListN.{get_or, length-set}
use Rattle.std.proofs.lemmas.Option.{slice_get-get_or, slice_get_past, slice_get_within}
use Rattle.rights.specs.Limits.{most_processes, register_count}
use Rattle.rights.proofs.Lists.{slice_get-set_cases}
use Rattle.process.specs.State.{Deed, ProcessState, handed_to, is_hostile, left_by}
use Rattle.instruction_set.specs.Paths.{calls_with_valid_paths, has_valid_paths}
use Rattle.instruction_set.specs.Programs as programs
use Rattle.instruction_set.specs.Programs.{Instruction, Syscall, Set, Mov, Add, In, Jmp, Jeq, Jlt, Halt, Invoke}
use Rattle.fd_table.specs.OpenFiles.{Alike}
use Rattle.kernel.specs.World.{World, Choice}
use Rattle.kernel.specs.Alike.{AlikeWorlds}
use Rattle.kernel.specs.Answers.{Event}
use Rattle.kernel.specs.Steps.{LineResult, Programs, after_deed, changed_at, executed, handed, next_instruction, with_process}
use Rattle.kernel.specs.Hostile.{IsDeedOf}
use Rattle.kernel.specs.Walks.{are_paths, call_in, lookups_of}
use Rattle.kernel.specs.WellFormed.{FitsRegister, HasNone, HasPaths, IfKept, IsKeptDeed, IsPoint, IsProcess, IsProcessIfMade, IsWellFormed}
use Rattle.kernel.proofs.Deeds.{each_executed}
use Rattle.kernel.proofs.KeptWalks.{if_walking_later}
use Rattle.syscalls.specs.Shows.{Shown, shown}
use Rattle.simulator.specs.declared.lines.LineResult.{LineResult as LineResultCode}
use Rattle.simulator.specs.declared.lines.LineResult.TheVariants as code
use Rattle.simulator.specs.Deeds.{finished, may_stand_at, set_aside}
use Rattle.simulator.specs.Steps.{DoesAs, Executes, MayExecute, NeedsNext}
use Rattle.simulator.specs.Views.{result_of}
use Rattle.simulator.proofs.Aside.{executed_same, set_is_changed}
use Rattle.simulator.proofs.Doing.{does_next, some_same, walks_on}

-- ## Point 0
first_point : (code : List Instruction) (k : ℕ) → IsPoint (slice_get code k) → IsPoint (slice_get code 0)
first_point [] zero there = there
first_point [] (suc k) there = there
first_point (i ∷ code) k there = tt

one_follows : (i : Instruction) → NeedsNext i (0 + 1 < 256)
one_follows (Set r value) = omega arith
one_follows (Mov r source) = omega arith
one_follows (Add r addend) = omega arith
one_follows (In r) = omega arith
one_follows (Jmp target) = tt
one_follows (Jeq r value target) = omega arith
one_follows (Jlt r value target) = omega arith
one_follows Halt = tt
one_follows (Invoke call otherwise) = omega arith

set_there : (xs : List ProcessState) (p : ℕ) (t : ProcessState) → p < length xs → slice_get (slice_set xs p t) p ≡ Some t
set_there [] p t there = absurd (omega arith)
set_there (x ∷ xs) zero t there = refl
set_there (x ∷ xs) (suc p) t there = set_there xs p t (omega arith)

-- ## The world in which it is done
module _ (programs : Programs) (w : World) (good : IsWellFormed programs w) (p : ℕ) (s : ProcessState) (deed : Deed) (made : slice_get w.processes p ≡ Some s)
    (lives : s.alive ≡ true) (kept : s.kept ≡ Some deed) where
  is_process : IsProcess programs s
  is_process = subst (IsProcessIfMade programs) made (good.world.processes p)

  pub may_own : (s.marked && s.mode) ≡ true
  may_own =
      let keeps : IsKeptDeed programs s deed = subst (IfKept programs s) kept is_process.kept in
      both_true keeps.marked keeps.mode

  goes_on : next_instruction s.kept (slice_get (programs s.program) s.point) ≡ Some deed.instruction
  goes_on = ap (λ o. next_instruction o (slice_get (programs s.program) s.point)) kept

  aside_process : IsProcess programs (set_aside s)
  aside_process = record {
    placed = first_point (programs s.program) s.point is_process.placed;
    eight = is_process.eight;
    small = is_process.small;
    kept = tt;
  }

  pub may_do : MayExecute (with_process w p (set_aside s)) p deed.instruction
  may_do = record {
    programs = programs;
    numbering = good.numbering;
    good = record {
      tree = good.world.tree;
      some = omega (arith, length-set w.processes p (set_aside s), good.world.some);
      few = subst (λ n. n ≤ most_processes) (sym (length-set w.processes p (set_aside s))) good.world.few;
      processes = λ q. slice_get-set_cases (IsProcessIfMade programs) w.processes p (set_aside s) q (λ _. aside_process) (good.world.processes q);
      entries = good.world.entries;
      numbers = good.world.numbers;
      gone = λ q.
          slice_get-set_cases (λ o. HasNone o (w.files.table q)) w.processes p (set_aside s) q
          (λ _. λ ended. absurd (let clash : true ≡ false = sym lives ∙ ended in cc)) (good.world.gone q);
      messages = good.world.messages;
      short = good.world.short;
      idle = good.world.idle;
      sides = good.world.sides;
    };
    process = set_aside s;
    made = set_there w.processes p (set_aside s) (slice_get_within w.processes p s made);
    next = one_follows deed.instruction;
    fits = if_walking_later w.tree w.tree w.files.objects w.files.objects (w.files.table p) (w.files.table p) s (set_aside s) (λ n opened. refl) (λ n d is. refl) (λ n. refl)
        refl (call_in (Some deed.instruction)) s.walk (walks_on programs w good.walks p s deed.instruction made goes_on);
  }

-- ## What it comes to
-- its process is there then, too
abbrev IsMade : Option ProcessState → Type 0
IsMade None = ⊥
IsMade (Some s) = Unit {0}

within_made : (xs : List ProcessState) (p : ℕ) → IsMade (slice_get xs p) → p < length xs
within_made [] zero made = absurd made
within_made [] (suc p) made = absurd made
within_made (x ∷ xs) zero made = omega arith
within_made (x ∷ xs) (suc p) made = let below : p < length xs = within_made xs p made in omega arith

executed_made : (w : World) (e : Event) (choice : Choice) (s : ProcessState) (i : Instruction) → slice_get w.processes e.process ≡ Some s →
    e.process < length (executed w e choice s i).world.processes
executed_made w e choice s i made =
    within_made (executed w e choice s i).world.processes e.process
    (each_executed w e choice s (λ q o. q ≡ e.process → IsMade o) (λ q same. subst IsMade (sym (ap (slice_get w.processes) same ∙ made)) tt)
    (λ t like same. tt) (λ t like same. tt) i e.process refl)

pub made_then : (w : World) (e : Event) (i : Instruction) (outcome : LineResult) (effects : List Shown) (v : World) → Executes w e i outcome effects v → e.process < length v.processes
made_then w e i outcome effects v x =
    subst (λ (ps : List ProcessState). e.process < length ps) (sym x.world_is.processes) (executed_made w e x.choice x.process i x.made)

pub does_deed : (programs : Programs) (w : World) (e : Event) (s : ProcessState) (deed : Deed) (outcome : LineResult) (effects : List Shown) (v : World) →
    IsWellFormed programs w → slice_get w.processes e.process ≡ Some s → s.alive ≡ true → s.kept ≡ Some deed →
    Executes (with_process w e.process (set_aside s)) e deed.instruction outcome effects v →
    DoesAs programs w e outcome effects (record v { processes = finished deed s.point e.process (length w.processes) outcome v.processes })
does_deed programs w e s deed outcome effects v good made lives kept x =
    let i : Instruction = deed.instruction in
    let below : e.process < length w.processes = slice_get_within w.processes e.process s made in
    let same = executed_same w e x.choice s deed kept (may_own programs w good e.process s deed made lives kept) made below i in
    let aside : x.process ≡ set_aside s = some_same (sym x.made ∙ set_there w.processes e.process (set_aside s) below) in
    let other : World = with_process w e.process (set_aside s) in
    let told : outcome ≡ (executed other e x.choice (set_aside s) i).outcome = x.outcome_is ∙ ap (λ t. (executed other e x.choice t i).outcome) aside in
    let alike : AlikeWorlds (executed other e x.choice (set_aside s) i).world v = subst (λ t. AlikeWorlds (executed other e x.choice t i).world v) aside x.world_is in
    does_next programs w e s lives i outcome effects _ x.choice made (goes_on programs w good e.process s deed made lives kept) x.fresh
    (told ∙ same.outcome)
    (x.prints ∙ ap (λ t. map shown (executed other e x.choice t i).effects) aside ∙ ap (map shown) same.effects)
    (record {
      tree = alike.tree ∙ same.tree;
      processes =
          (λ k. finished deed s.point e.process (length w.processes) (told k) (alike.processes k)) ∙ same.processes
          ∙ ap (λ o. after_deed o e.process (length w.processes) (executed w e x.choice s i).outcome (executed w e x.choice s i).world.processes) (sym kept);
      files = subst (λ f. Alike f v.files) same.files alike.files;
    })

-- ## As the code does it
pub finished_end : (deed : Deed) (point p made : ℕ) (o : LineResultCode) (processes : List ProcessState) → (o ≡ code.Walking → ⊥) →
    changed_at (changed_at processes p (left_by deed)) made (left_by deed) ≡ finished deed point p made (result_of o) processes
finished_end deed point p made code.Done processes ends = refl
finished_end deed point p made code.Halted processes ends = refl
finished_end deed point p made (code.Value value) processes ends = refl
finished_end deed point p made (code.Failed errno cause) processes ends = refl
finished_end deed point p made code.Waiting processes ends = refl
finished_end deed point p made code.Walking processes ends = absurd (ends refl)
finished_end deed point p made code.Ended processes ends = refl

-- a process that is handed a deed
pub handed_if : (deed : Deed) (s : ProcessState) → true ≡ is_hostile s → record s { kept = Some deed } ≡ handed_to deed s
handed_if deed s hostile = ap (λ b. if b then record s { kept = Some deed } else s) hostile

pub handed_else : (deed : Deed) (s : ProcessState) → false ≡ is_hostile s → s ≡ handed_to deed s
handed_else deed s not_hostile = ap (λ b. if b then record s { kept = Some deed } else s) not_hostile

pub handed_set : (w : World) (p : ℕ) (deed : Deed) (x next : ProcessState) → p < length w.processes → x ≡ get_or w.processes p x → next ≡ handed_to deed x →
    record w { processes = slice_set w.processes p next } ≡ handed w p deed
handed_set w p deed x next there read is =
    ap (λ (ys : List ProcessState). record w { processes = ys }) (ap (slice_set w.processes p) is ∙ set_is_changed (handed_to deed) w.processes p x there read)

-- registers hold 32 bits
pub registers_fit : (registers : List ℕ) → ((r : ℕ) → get_or registers r 0 < 2 ^ 32) → (r : ℕ) → FitsRegister (slice_get registers r)
registers_fit [] fit zero = tt
registers_fit [] fit (suc r) = tt
registers_fit (x ∷ registers) fit zero = fit 0
registers_fit (x ∷ registers) fit (suc r) = registers_fit registers (λ k. fit (suc k)) r

-- each path that a call looks up is one if each is that it has
valid_lookups : (call : Syscall) → has_valid_paths call ≡ true → are_paths (lookups_of call) ≡ true
unfolding lookups_of
valid_lookups (programs.Open a b) valid = valid
valid_lookups (programs.Openat a b c) valid = valid
valid_lookups (programs.Read a) valid = refl
valid_lookups (programs.Write a b) valid = refl
valid_lookups (programs.Sendfd a b c) valid = refl
valid_lookups (programs.Recvfd a) valid = refl
valid_lookups (programs.Lseek a b) valid = refl
valid_lookups (programs.Ftruncate a b) valid = refl
valid_lookups (programs.Fsync a) valid = refl
valid_lookups (programs.Fstat a) valid = refl
valid_lookups (programs.Fcntl_getfl a) valid = refl
valid_lookups (programs.Fcntl_setfl a b) valid = refl
valid_lookups (programs.Fstatat a b) valid = valid
valid_lookups (programs.Stat a) valid = valid
valid_lookups (programs.Mkdirat a b) valid = valid
valid_lookups (programs.Mkdir a) valid = valid
valid_lookups (programs.Unlinkat a b c) valid = valid
valid_lookups (programs.Unlink a b) valid = valid
valid_lookups (programs.Renameat a b c d) valid = valid
valid_lookups (programs.Dup a) valid = refl
valid_lookups (programs.Close a) valid = refl
valid_lookups (programs.Cap_rights_limit a b) valid = refl
valid_lookups (programs.Cap_fcntls_limit a b) valid = refl
valid_lookups programs.Cap_enter valid = refl
valid_lookups programs.Cap_getmode valid = refl
valid_lookups programs.Socketpair valid = refl
valid_lookups programs.Fork valid = refl
valid_lookups (programs.Use a b) valid = refl

pub has_paths : (i : Instruction) → calls_with_valid_paths i ≡ true → HasPaths (call_in (Some i))
has_paths (Set r value) valid = tt
has_paths (Mov r source) valid = tt
has_paths (Add r addend) valid = tt
has_paths (In r) valid = tt
has_paths (Jmp target) valid = tt
has_paths (Jeq r value target) valid = tt
has_paths (Jlt r value target) valid = tt
has_paths Halt valid = tt
has_paths (Invoke call otherwise) valid = valid_lookups call valid

-- what is handed in is a deed of its process, if that may do one
pub is_deed_of : (programs : Programs) (o : Option ProcessState) (deed : Deed) → HasPaths (call_in (Some deed.instruction)) → length deed.registers ≡ register_count →
    ((r : ℕ) → FitsRegister (slice_get deed.registers r)) → may_stand_at programs o deed.point ≡ true → IsDeedOf programs o deed
is_deed_of programs None deed paths eight small may = tt
is_deed_of programs (Some s) deed paths eight small may = λ hostile. record {
  paths = paths;
  placed = point_there (slice_get (programs s.program) deed.point) (subst (λ b. (not b || is_some (slice_get (programs s.program) deed.point)) ≡ true) hostile may);
  eight = eight;
  small = small;
}
  where
    point_there : (o : Option Instruction) → is_some o ≡ true → IsPoint o
    point_there None there = absurd cc
    point_there (Some i) there = tt

-- of a process that may do nothing, and of one that isn't there, no deed is asked
pub no_deed_of : (programs : Programs) (processes : List ProcessState) (p : ℕ) (deed : Deed) → length processes ≤ p → IsDeedOf programs (slice_get processes p) deed
no_deed_of programs processes p deed past = subst (λ o. IsDeedOf programs o deed) (sym (slice_get_past processes p past)) tt

pub follows_own : (programs : Programs) (processes : List ProcessState) (p : ℕ) (deed : Deed) (x : ProcessState) → p < length processes → x ≡ get_or processes p x →
    false ≡ is_hostile x → IsDeedOf programs (slice_get processes p) deed
follows_own programs processes p deed x there read own =
    subst (λ o. IsDeedOf programs o deed) (sym (slice_get-get_or processes p x there ∙ ap Some (sym read))) (λ hostile. absurd (let clash : false ≡ true = own ∙ hostile in cc))
