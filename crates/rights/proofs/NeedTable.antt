-- What the table of needs asks.
use Rattle.std.proofs.Common.{◌≡◌, ℕ, Bool, true, false, [], ◌∷◌, refl, bit_or}
use Rattle.rights.specs.Calls.{Call}
use Rattle.rights.specs.Calls as calls
use Rattle.rights.specs.Needs.{Position, First, Second, needs_of, first_needs, second_needs, openat_needs, rights_of, when}
use Rattle.rights.specs.Opens.{OpenRequest, open_request}
use Rattle.rights.specs.Sets.{is_within, all_rights, lookup_right, read_right, write_right, seek_right, ftruncate_right, create_right, unlinkat_right, renameat_target_right}
use Rattle.rights.proofs.Subsets.{is_within-or, is_within-refl}

-- a file that is only read needs no more of its directory than to look and to read
pub openat_needs-read_only : openat_needs (open_request true false false false false) ≡ bit_or lookup_right read_right
openat_needs-read_only = refl

-- one that is written in place needs to seek, and not with append or trunc
pub openat_needs-write : openat_needs (open_request false true false false false) ≡ rights_of (lookup_right ∷ write_right ∷ seek_right ∷ [])
openat_needs-write = refl

pub openat_needs-append : openat_needs (open_request false true true false false) ≡ rights_of (lookup_right ∷ write_right ∷ [])
openat_needs-append = refl

pub openat_needs-trunc : openat_needs (open_request false true false false true) ≡ rights_of (lookup_right ∷ write_right ∷ ftruncate_right ∷ [])
openat_needs-trunc = refl

pub openat_needs-create : openat_needs (open_request true false false true false) ≡ rights_of (lookup_right ∷ read_right ∷ create_right ∷ [])
openat_needs-create = refl

-- where a node is replaced, the right to remove it is asked too
pub second_needs-renameat : (replaces : Bool) → second_needs calls.Renameat replaces ≡ rights_of (lookup_right ∷ renameat_target_right ∷ when replaces unlinkat_right ∷ [])
second_needs-renameat replaces = refl

-- no need lies beyond the fourteen rights
with_more : (so_far : ℕ) (asked : Bool) (right : ℕ) → is_within right all_rights ≡ true → is_within so_far all_rights ≡ true → is_within (bit_or so_far (when asked right)) all_rights ≡ true
with_more so_far true right known within = is_within-or so_far right all_rights within known
with_more so_far false right known within = is_within-or so_far 0 all_rights within refl

openat_needs-within_all : (request : OpenRequest) → is_within (openat_needs request) all_rights ≡ true
openat_needs-within_all request =
    with_more _ request.trunc ftruncate_right refl
    (with_more _ request.create create_right refl
    (with_more _ _ seek_right refl
    (with_more _ request.write write_right refl (with_more lookup_right request.read read_right refl refl))))

second_needs-within_all : (call : Call) (replaces : Bool) → is_within (second_needs call replaces) all_rights ≡ true
second_needs-within_all calls.Renameat true = refl
second_needs-within_all calls.Renameat false = refl
second_needs-within_all _ replaces = refl

first_needs-within_all : (call : Call) (request : OpenRequest) → is_within (first_needs call request) all_rights ≡ true
first_needs-within_all calls.Openat request = openat_needs-within_all request
first_needs-within_all _ request = refl

pub needs_of-within_all : (call : Call) (request : OpenRequest) (position : Position) (replaces : Bool) → is_within (needs_of call request position replaces) all_rights ≡ true
needs_of-within_all call request First replaces = first_needs-within_all call request
needs_of-within_all call request Second replaces = second_needs-within_all call replaces

-- what is asked where a node is replaced covers what is asked where none is
pub needs_of-replaced : (call : Call) (request : OpenRequest) (position : Position) → is_within (needs_of call request position false) (needs_of call request position true) ≡ true
needs_of-replaced call request First = is_within-refl (first_needs call request)
needs_of-replaced calls.Renameat request Second = refl
needs_of-replaced _ request Second = refl
