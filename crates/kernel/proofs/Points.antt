-- Points of a valid program, and processes that go on in it.
use Rattle.std.proofs.Common.{◌≡◌, ℕ, zero, suc, ◌+◌, ◌<◌, ◌^◌, Bool, true, false, List, [], ◌∷◌, length, refl, arith, subst, sym, ◌∙◌}
use Rattle.std.specs.Prelude.{◌&&◌, ◌||◌, Option, Some, None, nat_le, slice_set}
use Rattle.std.specs.List.{slice_get, slice_index_or, list_all}
use Rattle.std.specs.Cmp.Derive.{both_true}
use Rattle.std.proofs.Math.ListN.{length-set}
use Rattle.rights.proofs.Lists.{list_all-slice_get, slice_get-set_cases}
use Rattle.rights.proofs.Tests.{both_left, both_right}
use Rattle.process.specs.State.{Deed, ProcessState, Walking, ended, forked, left_by, moved_to}
use Rattle.instruction_set.specs.Programs.{Instruction, Set, Mov, Add, In, Jmp, Jeq, Jlt, Halt, Invoke, Syscall, Open, Openat, Read, Write, Sendfd, Recvfd, Lseek, Ftruncate, Fsync, Fstat}
use Rattle.instruction_set.specs.Programs.{Fcntl_getfl, Fcntl_setfl, Fstatat, Stat, Mkdirat, Mkdir, Unlinkat, Unlink, Renameat, Dup, Close, Cap_rights_limit, Cap_fcntls_limit, Cap_enter}
use Rattle.instruction_set.specs.Programs.{Cap_getmode, Socketpair, Fork, Use, is_instruction, is_last, is_operand, is_path, is_syscall, ends_well}
use Rattle.kernel.specs.Steps.{Programs}
use Rattle.kernel.specs.Walks.{are_paths, call_in, lookups_of}
use Rattle.kernel.specs.WellFormed.{HasPaths, IfKept, IsCode, IsDeed, IsPoint, FitsRegister, IsProcess}

-- an instruction that something has to follow is not the last one
next_point : (code : List Instruction) (k : ℕ) (i : Instruction) → ends_well code ≡ true → slice_get code k ≡ Some i → is_last i ≡ false → k + 1 < length code
next_point [] k i ends here goes_on = absurd cc
next_point (j ∷ []) zero i ends here goes_on = let same : j ≡ i = cc in absurd cc
next_point (j ∷ []) (suc k) i ends here goes_on = absurd cc
next_point (j ∷ next ∷ code) zero i ends here goes_on = omega arith
next_point (j ∷ next ∷ code) (suc k) i ends here goes_on =
    let rest : k + 1 < length (next ∷ code) = next_point (next ∷ code) k i ends here goes_on in
    omega arith

point_below : (code : List Instruction) (k : ℕ) → k < length code → IsPoint (slice_get code k)
point_below [] k below = absurd (omega arith)
point_below (i ∷ code) zero below = tt
point_below (i ∷ code) (suc k) below = point_below code k (omega arith)

-- What is known of an instruction of a program: its parts are in range, and each point that it names is one.
pub record Placed (code : List Instruction) (point : ℕ) (i : Instruction) : Type 0 where
  pub fits : is_instruction (length code) i ≡ true
  pub next : is_last i ≡ false → IsPoint (slice_get code (point + 1))
  pub target : (target : ℕ) → target < length code → IsPoint (slice_get code target)

pub placed : (code : List Instruction) (point : ℕ) (i : Instruction) → IsCode code → slice_get code point ≡ Some i → Placed code point i
placed [] point i valid here = absurd cc
placed (j ∷ more) point i valid here =
    let code : List Instruction = j ∷ more in
    let parts : (nat_le (length code) 256 && list_all (is_instruction (length code)) code) ≡ true = both_left _ (ends_well code) valid in
    let ends : ends_well code ≡ true = both_right (nat_le (length code) 256 && list_all (is_instruction (length code)) code) _ valid in
    let all : list_all (is_instruction (length code)) code ≡ true = both_right (nat_le (length code) 256) _ parts in
    record {
      fits = list_all-slice_get (is_instruction (length code)) code point i all here;
      next = λ goes_on. point_below code (point + 1) (next_point code point i ends here goes_on);
      target = λ target below. point_below code target below;
    }

-- a register's value is small
pub register_small : (registers : List ℕ) (r : ℕ) → ((k : ℕ) → FitsRegister (slice_get registers k)) → slice_index_or registers r 0 < 2 ^ 32
register_small [] r all = omega arith
register_small (x ∷ registers) zero all = all 0
register_small (x ∷ registers) (suc r) all = register_small registers r (λ k. all (suc k))

pub small-set : (registers : List ℕ) (r value : ℕ) → value < 2 ^ 32 → ((k : ℕ) → FitsRegister (slice_get registers k)) → (k : ℕ) → FitsRegister (slice_get (slice_set registers r value) k)
small-set registers r value small all k = slice_get-set_cases FitsRegister registers r value k (λ _. small) (all k)

-- the paths of a call of a program are ones
syscall_paths : (call : Syscall) → is_syscall call ≡ true → are_paths (lookups_of call) ≡ true
unfolding lookups_of
syscall_paths (Open path f) valid = both_left _ _ valid
syscall_paths (Openat x path f) valid = both_right (is_operand x) _ (both_left _ _ valid)
syscall_paths (Read x) valid = refl
syscall_paths (Write x v) valid = refl
syscall_paths (Sendfd x y v) valid = refl
syscall_paths (Recvfd x) valid = refl
syscall_paths (Lseek x v) valid = refl
syscall_paths (Ftruncate x v) valid = refl
syscall_paths (Fsync x) valid = refl
syscall_paths (Fstat x) valid = refl
syscall_paths (Fcntl_getfl x) valid = refl
syscall_paths (Fcntl_setfl x v) valid = refl
syscall_paths (Fstatat x path) valid = both_right (is_operand x) _ valid
syscall_paths (Stat path) valid = valid
syscall_paths (Mkdirat x path) valid = both_right (is_operand x) _ valid
syscall_paths (Mkdir path) valid = valid
syscall_paths (Unlinkat x path directory) valid = both_right (is_operand x) _ valid
syscall_paths (Unlink path directory) valid = valid
syscall_paths (Renameat x from y to) valid =
    both_true (both_right (is_operand x) _ (both_left _ _ (both_left _ _ valid))) (both_right (is_operand x && is_path from && is_operand y) _ valid)
syscall_paths (Dup x) valid = refl
syscall_paths (Close x) valid = refl
syscall_paths (Cap_rights_limit x rights) valid = refl
syscall_paths (Cap_fcntls_limit x commands) valid = refl
syscall_paths Cap_enter valid = refl
syscall_paths Cap_getmode valid = refl
syscall_paths Socketpair valid = refl
syscall_paths Fork valid = refl
syscall_paths (Use x right) valid = refl

pub instruction_paths : (points : ℕ) (i : Instruction) → is_instruction points i ≡ true → HasPaths (call_in (Some i))
instruction_paths points (Set r value) valid = tt
instruction_paths points (Mov r source) valid = tt
instruction_paths points (Add r addend) valid = tt
instruction_paths points (In r) valid = tt
instruction_paths points (Jmp target) valid = tt
instruction_paths points (Jeq r value target) valid = tt
instruction_paths points (Jlt r value target) valid = tt
instruction_paths points Halt valid = tt
instruction_paths points (Invoke call otherwise) valid = syscall_paths call (both_left _ _ valid)

-- ## Processes
pub still_on : (mode enters : Bool) → mode ≡ true → (mode || enters) ≡ true
still_on true enters on = refl
still_on false enters on = absurd cc

-- a deed that is kept is kept as well by what is of the program, and stays in the mode
pub kept_as : (programs : Programs) (s t : ProcessState) (o : Option Deed) → t.program ≡ s.program → t.marked ≡ s.marked → (s.mode ≡ true → t.mode ≡ true) → IfKept programs s o → IfKept programs t o
kept_as programs s t None program marked stays is = tt
kept_as programs s t (Some deed) program marked stays is =
    record { marked = marked ∙ is.marked; mode = stays is.mode; is = subst (λ n. IsDeed programs n deed) (sym program) is.is }

-- the process with a register set, at another point of its program, in the mode if it was
pub process_at : (programs : Programs) (s : ProcessState) (r value point : ℕ) (mode : Bool) → IsProcess programs s → value < 2 ^ 32 →
    IsPoint (slice_get (programs s.program) point) → (s.mode ≡ true → mode ≡ true) →
    IsProcess programs (record s { registers = slice_set s.registers r value; point = point; mode = mode; walk = None })
process_at programs s r value point mode good small there stays = record {
  placed = there;
  eight = length-set s.registers r value ∙ good.eight;
  small = small-set s.registers r value small good.small;
  kept = kept_as programs s (record s { registers = slice_set s.registers r value; point = point; mode = mode; walk = None }) s.kept refl refl stays good.kept;
}

-- the process at another point
pub process_moved : (programs : Programs) (s : ProcessState) (point : ℕ) → IsProcess programs s → IsPoint (slice_get (programs s.program) point) → IsProcess programs (moved_to s point)
process_moved programs s point good there =
    record { placed = there; eight = good.eight; small = good.small; kept = kept_as programs s (moved_to s point) s.kept refl refl (λ on. on) good.kept }

-- the process, ended
pub process_ended : (programs : Programs) (s : ProcessState) → IsProcess programs s → IsProcess programs (ended s)
process_ended programs s good =
    record { placed = good.placed; eight = good.eight; small = good.small; kept = kept_as programs s (ended s) s.kept refl refl (λ on. on) good.kept }

-- the process with a register set
pub process_with : (programs : Programs) (s : ProcessState) (r value : ℕ) → IsProcess programs s → value < 2 ^ 32 → IsProcess programs (record s { registers = slice_set s.registers r value })
process_with programs s r value good small = record {
  placed = good.placed;
  eight = length-set s.registers r value ∙ good.eight;
  small = small-set s.registers r value small good.small;
  kept = kept_as programs s (record s { registers = slice_set s.registers r value }) s.kept refl refl (λ on. on) good.kept;
}

-- a child
pub process_forked : (programs : Programs) (s : ProcessState) → IsProcess programs s → IsProcess programs (forked s)
process_forked programs s good = record {
  placed = good.placed;
  eight = length-set s.registers 0 0 ∙ good.eight;
  small = small-set s.registers 0 0 (omega arith) good.small;
  kept = tt;
}

-- the process with something under way, or nothing
pub process_walking : (programs : Programs) (s : ProcessState) (walk : Option Walking) → IsProcess programs s → IsProcess programs (record s { walk = walk })
process_walking programs s walk good =
    record { placed = good.placed; eight = good.eight; small = good.small; kept = kept_as programs s (record s { walk = walk }) s.kept refl refl (λ on. on) good.kept }

-- what a deed leaves
pub process_left : (programs : Programs) (program : ℕ) (deed : Deed) (t : ProcessState) → IsDeed programs program deed → t.program ≡ program → IsProcess programs (left_by deed t)
process_left programs program deed t is same = record {
  placed = subst (λ n. IsPoint (slice_get (programs n) deed.point)) (sym same) is.placed;
  eight = is.eight;
  small = is.small;
  kept = tt;
}
