-- What a call that needs a further right needs besides, what it does, and whether it reaches a global name space, right by right.
use Rattle.std.proofs.Common.{◌≡◌, ◌+◌, ℕ, Bool, true, false, List, [], ◌∷◌, codes, refl}
use Rattle.std.specs.Prelude.{Option, Some, None, map, take, drop, replicate}
use Rattle.rights.specs.Operations.{Operation, Look, Read, Write}
use Rattle.rights.specs.Sets.{further_right, lookup_right, read_right, right_names, seek_right, write_right}
use Rattle.rights.specs.Uses.{acts_beneath, companions_of, is_further_right, operation_of_use, reaches_globally}

-- the names of the further rights, and these
abbrev further_names : List (List ℕ × ℕ)
further_names = take 32 (drop 14 right_names)

abbrev told : List ℕ × ℕ → List ℕ × ℕ × Option Operation × Bool
told named = (named.0, companions_of named.1, operation_of_use named.1, reaches_globally named.1)

each_further_right : map told further_names
    ≡ (codes "ACCEPT", 0, None, false) ∷ (codes "BIND", 0, None, true) ∷ (codes "CONNECT", 0, None, true)
    ∷ (codes "CONNECTAT", lookup_right, Some Write, false) ∷ (codes "EVENT", 0, None, false) ∷ (codes "FCHDIR", 0, None, true)
    ∷ (codes "FCHFLAGS", 0, Some Write, false) ∷ (codes "FCHMOD", 0, Some Write, false) ∷ (codes "FCHMODAT", lookup_right, Some Write, false)
    ∷ (codes "FCHOWN", 0, Some Write, false) ∷ (codes "FCHOWNAT", lookup_right, Some Write, false) ∷ (codes "FEXECVE", read_right, Some Read, false)
    ∷ (codes "FLOCK", 0, None, false) ∷ (codes "FPATHCONF", 0, Some Look, false) ∷ (codes "FSTATFS", 0, Some Look, false)
    ∷ (codes "FUTIMES", 0, Some Write, false) ∷ (codes "FUTIMESAT", lookup_right, Some Write, false)
    ∷ (codes "GETPEERNAME", 0, None, false) ∷ (codes "GETSOCKNAME", 0, None, false) ∷ (codes "GETSOCKOPT", 0, None, false)
    ∷ (codes "IOCTL", 0, None, false) ∷ (codes "KQUEUE_CHANGE", 0, None, false) ∷ (codes "KQUEUE_EVENT", 0, None, false)
    ∷ (codes "LISTEN", 0, None, false) ∷ (codes "MMAP_R", read_right + seek_right, Some Read, false)
    ∷ (codes "MMAP_W", write_right + seek_right, Some Write, false) ∷ (codes "MMAP_X", seek_right, Some Read, false)
    ∷ (codes "PDGETPID", 0, None, false) ∷ (codes "PDKILL", 0, None, false) ∷ (codes "SETSOCKOPT", 0, None, false)
    ∷ (codes "SHUTDOWN", 0, None, false) ∷ (codes "TTYHOOK", 0, None, false) ∷ []
each_further_right = refl

-- the four whose names end in AT, and others
act_beneath : map acts_beneath (further_right 3 ∷ further_right 8 ∷ further_right 10 ∷ further_right 16 ∷ further_right 7 ∷ further_right 24 ∷ [])
    ≡ true ∷ true ∷ true ∷ true ∷ false ∷ false ∷ []
act_beneath = refl

-- each of them is one, and no other set is: none of them, two of them, one of the fourteen, one with it, and none that there is
are_further_rights : (map (λ (named : List ℕ × ℕ). is_further_right named.1) further_names ≡ replicate 32 true)
    × (map is_further_right (0 ∷ (further_right 3 + further_right 4) ∷ read_right ∷ (further_right 4 + read_right) ∷ further_right 32 ∷ [])
    ≡ replicate 5 false)
are_further_rights = (refl, refl)
