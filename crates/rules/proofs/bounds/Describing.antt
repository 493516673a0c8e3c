-- What a bound that describes a process says of each register and each number of its table.
use Rattle.std.proofs.Common.{◌≡◌, ◌≢◌, ℕ, zero, suc, ◌+◌, ◌≤◌, Bool, true, List, [], ◌∷◌, refl, arith, ap, sym, subst}
use Rattle.std.specs.Prelude.{◌&&◌, slice_set, Option, None}
use Rattle.std.specs.List.{slice_index_or}
use Rattle.std.specs.Cmp.Derive.{both_true}
use Rattle.std.proofs.lemmas.Bool.{eqb-true}
use Rattle.rights.proofs.Tests.{both_left, both_right}
use Rattle.rights.specs.Errors.{Errno, errno_number, EPERM, ENOENT, EBADF, EEXIST, ENOTDIR, EISDIR, EINVAL, ENFILE, EMFILE, EFBIG, ENOSPC, EPIPE, EAGAIN, ENOTSOCK, ELOOP}
use Rattle.rights.specs.Errors.{ENAMETOOLONG, ENOTEMPTY, ENOTCAPABLE, ECAPMODE}
use Rattle.certificate.specs.Bounds.{On, Interval, interval, with_interval, Slot, Closed, slot, with_slot, Bound}
use Rattle.certificate.specs.Describes.{Seen, Holds, slot_describes, mode_describes, interval_describes, registers_describe, slots_describe, describes}
use Rattle.rules.specs.Outcomes.{error_interval}

pub record Described (holds : Holds) (b : Bound) (on : Bool) (values : List ℕ) (table : ℕ → Option Seen) : Type 0 where
  pub mode : mode_describes b.mode on ≡ true
  pub registers : registers_describe b.registers values ≡ true
  pub slots : slots_describe holds 0 b.slots table ≡ true

pub described : (holds : Holds) (b : Bound) (on : Bool) (values : List ℕ) (table : ℕ → Option Seen) → describes holds b on values table ≡ true → Described holds b on values table
described holds b on values table is =
    let first = both_left _ (slots_describe holds 0 b.slots table) is in
    record {
      mode = both_left _ (registers_describe b.registers values) first;
      registers = both_right (mode_describes b.mode on) _ first;
      slots = both_right (mode_describes b.mode on && registers_describe b.registers values) _ is;
    }

pub from_described : (holds : Holds) (b : Bound) (on : Bool) (values : List ℕ) (table : ℕ → Option Seen) → Described holds b on values table → describes holds b on values table ≡ true
from_described holds b on values table facts = both_true (both_true facts.mode facts.registers) facts.slots

-- a register lies in its interval
pub register_at : (intervals : List Interval) (values : List ℕ) → registers_describe intervals values ≡ true → (r : ℕ) → interval_describes (interval intervals r) (slice_index_or values r 0) ≡ true
register_at [] [] is r = refl
register_at [] (v ∷ values) is r = absurd cc
register_at (i ∷ intervals) [] is r = absurd cc
register_at (i ∷ intervals) (v ∷ values) is zero = both_left _ (registers_describe intervals values) is
register_at (i ∷ intervals) (v ∷ values) is (suc r) =
    register_at intervals values (both_right (interval_describes i v) _ is) r

-- a register and its interval are changed together
pub register_set :
    (intervals : List Interval) (values : List ℕ) (r v : ℕ) (i : Interval) → interval_describes i v ≡ true → registers_describe intervals values ≡ true
    → registers_describe (slice_set intervals r i) (slice_set values r v) ≡ true
register_set [] [] r v i fits is = refl
register_set [] (w ∷ values) r v i fits is = absurd cc
register_set (j ∷ intervals) [] r v i fits is = absurd cc
register_set (j ∷ intervals) (w ∷ values) zero v i fits is =
    both_true fits (both_right (interval_describes j w) _ is)
register_set (j ∷ intervals) (w ∷ values) (suc r) v i fits is =
    both_true (both_left _ (registers_describe intervals values) is)
    (register_set intervals values r v i fits (both_right (interval_describes j w) _ is))

-- the interval alone is changed, to another that the register lies in
pub interval_set :
    (intervals : List Interval) (values : List ℕ) (r : ℕ) (i : Interval) → interval_describes i (slice_index_or values r 0) ≡ true
    → registers_describe intervals values ≡ true → registers_describe (slice_set intervals r i) values ≡ true
interval_set [] [] r i fits is = refl
interval_set [] (w ∷ values) r i fits is = absurd cc
interval_set (j ∷ intervals) [] r i fits is = absurd cc
interval_set (j ∷ intervals) (w ∷ values) zero i fits is = both_true fits (both_right (interval_describes j w) _ is)
interval_set (j ∷ intervals) (w ∷ values) (suc r) i fits is =
    both_true (both_left _ (registers_describe intervals values) is)
    (interval_set intervals values r i fits (both_right (interval_describes j w) _ is))

-- a number of the table is as its slot says; there are sixteen
pub slot_at :
    (holds : Holds) (n : ℕ) (slots : List Slot) (table : ℕ → Option Seen) → slots_describe holds n slots table ≡ true → ((m : ℕ) → 16 ≤ m → table m ≡ None)
    → (k : ℕ) → slot_describes holds (slot slots k) (table (n + k)) ≡ true
slot_at holds n [] table is none k =
    let all : n ≡ 16 = eqb-true n 16 is in
    let far : 16 ≤ n + k = omega (arith, all) in
    subst (λ o. slot_describes holds Closed o ≡ true) (sym (none (n + k) far)) refl
slot_at holds n (s ∷ slots) table is none zero =
    let P : ℕ → Type 0 = λ m. slot_describes holds s (table m) ≡ true in
    subst P (omega arith) (both_left _ (slots_describe holds (n + 1) slots table) is)
slot_at holds n (s ∷ slots) table is none (suc k) =
    let P : ℕ → Type 0 = λ m. slot_describes holds (slot slots k) (table m) ≡ true in
    subst P (omega arith) (slot_at holds (n + 1) slots table (both_right (slot_describes holds s (table n)) _ is) none k)

-- a table that each slot goes on to describe
pub slots_go_on :
    (holds : Holds) (n : ℕ) (slots : List Slot) (table next : ℕ → Option Seen)
    → ((s : Slot) (m : ℕ) → slot_describes holds s (table m) ≡ true → slot_describes holds s (next m) ≡ true) → slots_describe holds n slots table ≡ true
    → slots_describe holds n slots next ≡ true
slots_go_on holds n [] table next on is = is
slots_go_on holds n (s ∷ slots) table next on is =
    both_true (on s n (both_left _ (slots_describe holds (n + 1) slots table) is))
    (slots_go_on holds (n + 1) slots table next on (both_right (slot_describes holds s (table n)) _ is))

-- the same of the slots from a number on, by what is said of those numbers alone
slots_after :
    (holds : Holds) (n : ℕ) (slots : List Slot) (table next : ℕ → Option Seen)
    → ((s : Slot) (m : ℕ) → n ≤ m → slot_describes holds s (table m) ≡ true → slot_describes holds s (next m) ≡ true)
    → slots_describe holds n slots table ≡ true → slots_describe holds n slots next ≡ true
slots_after holds n [] table next on is = is
slots_after holds n (s ∷ slots) table next on is =
    both_true (on s n (omega arith) (both_left _ (slots_describe holds (n + 1) slots table) is))
    (slots_after holds (n + 1) slots table next (λ t m later. on t m (omega (arith, later))) (both_right (slot_describes holds s (table n)) _ is))

-- a slot and its entry are changed together, and the other slots go on to describe what they described
pub slot_set :
    (holds : Holds) (n : ℕ) (slots : List Slot) (table next : ℕ → Option Seen) (k : ℕ) (x : Slot) → slot_describes holds x (next (n + k)) ≡ true
    → ((s : Slot) (m : ℕ) → m ≢ n + k → slot_describes holds s (table m) ≡ true → slot_describes holds s (next m) ≡ true)
    → slots_describe holds n slots table ≡ true → slots_describe holds n (slice_set slots k x) next ≡ true
slot_set holds n [] table next k x fits on is = is
slot_set holds n (s ∷ slots) table next zero x fits on is =
    let P : ℕ → Type 0 = λ m. slot_describes holds x (next m) ≡ true in
    both_true (subst P (omega arith) fits)
    (slots_after holds (n + 1) slots table next (λ t m later. on t m (λ same. absurd (omega (arith, later, same)))) (both_right (slot_describes holds s (table n)) _ is))
slot_set holds n (s ∷ slots) table next (suc k) x fits on is =
    let P : ℕ → Type 0 = λ m. slot_describes holds x (next m) ≡ true in
    both_true (on s n (λ same. absurd (omega (arith, same))) (both_left _ (slots_describe holds (n + 1) slots table) is))
    (slot_set holds (n + 1) slots table next k x (subst P (omega arith) fits) (λ t m other. on t m (λ same. other (omega (arith, same)))) (both_right (slot_describes holds s (table n)) _ is))

-- ## A process that a bound describes, after a change
-- a register is set
pub register_changed :
    (holds : Holds) (b : Bound) (on : Bool) (values : List ℕ) (table : ℕ → Option Seen) (r v : ℕ) (i : Interval) → interval_describes i v ≡ true
    → Described holds b on values table → Described holds (with_interval b r i) on (slice_set values r v) table
register_changed holds b on values table r v i fits is = record {
  mode = is.mode;
  registers = register_set b.registers values r v i fits is.registers;
  slots = is.slots;
}

-- a register lies in a smaller interval
pub interval_changed :
    (holds : Holds) (b : Bound) (on : Bool) (values : List ℕ) (table : ℕ → Option Seen) (r : ℕ) (i : Interval)
    → interval_describes i (slice_index_or values r 0) ≡ true → Described holds b on values table → Described holds (with_interval b r i) on values table
interval_changed holds b on values table r i fits is = record {
  mode = is.mode;
  registers = interval_set b.registers values r i fits is.registers;
  slots = is.slots;
}

-- an entry of the table is another, and the others stay or are described as they were
pub slot_changed :
    (holds : Holds) (b : Bound) (on : Bool) (values : List ℕ) (table next : ℕ → Option Seen) (k : ℕ) (x : Slot) → slot_describes holds x (next k) ≡ true
    → ((s : Slot) (m : ℕ) → m ≢ k → slot_describes holds s (table m) ≡ true → slot_describes holds s (next m) ≡ true) → Described holds b on values table
    → Described holds (with_slot b k x) on values next
slot_changed holds b on values table next k x fits others is =
    let P : ℕ → Type 0 = λ m. slot_describes holds x (next m) ≡ true in
    record {
      mode = is.mode;
      registers = is.registers;
      slots = slot_set holds 0 b.slots table next k x (subst P (omega arith) fits) (λ s m other. others s m (λ same. other (omega (arith, same)))) is.slots;
    }

-- the whole table is described as it was
pub table_changed :
    (holds : Holds) (b : Bound) (on : Bool) (values : List ℕ) (table next : ℕ → Option Seen)
    → ((s : Slot) (m : ℕ) → slot_describes holds s (table m) ≡ true → slot_describes holds s (next m) ≡ true) → Described holds b on values table
    → Described holds b on values next
table_changed holds b on values table next stays is = record {
  mode = is.mode;
  registers = is.registers;
  slots = slots_go_on holds 0 b.slots table next stays is.slots;
}

-- the process enters the mode
pub mode_changed : (holds : Holds) (b : Bound) (on : Bool) (values : List ℕ) (table : ℕ → Option Seen) → Described holds b on values table → Described holds (record b { mode = On }) true values table
mode_changed holds b on values table is = record { mode = refl; registers = is.registers; slots = is.slots }

-- registers that are set one after the other, in either order
pub set_apart : {A : Type 0} (xs : List A) (r k : ℕ) (x y : A) → r ≢ k → slice_set (slice_set xs r x) k y ≡ slice_set (slice_set xs k y) r x
set_apart [] r k x y other = refl
set_apart (z ∷ xs) zero zero x y other = absurd (other refl)
set_apart (z ∷ xs) zero (suc k) x y other = refl
set_apart (z ∷ xs) (suc r) zero x y other = refl
set_apart (z ∷ xs) (suc r) (suc k) x y other =
    ap (λ ys. z ∷ ys) (set_apart xs r k x y (λ same. other (omega (arith, same))))

-- each error's number is one
pub error_fits : (errno : Errno) → interval_describes error_interval (errno_number errno) ≡ true
error_fits EPERM = refl
error_fits ENOENT = refl
error_fits EBADF = refl
error_fits EEXIST = refl
error_fits ENOTDIR = refl
error_fits EISDIR = refl
error_fits EINVAL = refl
error_fits ENFILE = refl
error_fits EMFILE = refl
error_fits EFBIG = refl
error_fits ENOSPC = refl
error_fits EPIPE = refl
error_fits EAGAIN = refl
error_fits ENOTSOCK = refl
error_fits ELOOP = refl
error_fits ENAMETOOLONG = refl
error_fits ENOTEMPTY = refl
error_fits ENOTCAPABLE = refl
error_fits ECAPMODE = refl
