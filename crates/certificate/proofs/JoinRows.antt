-- Joins, by computation.
use Rattle.std.proofs.Common.{◌≡◌, [], ◌∷◌, refl}
use Rattle.std.specs.Prelude.{ℕ, Some, None}
use Rattle.rights.specs.Classes.{Initial, Made_at}
use Rattle.certificate.specs.Bounds.{Off, On, Either, Target, In_grant, Any_node, Socket, Unknown, Held, Closed, Open, Maybe, Bound, full_interval}
use Rattle.certificate.specs.Joins.{mode_join, interval_join, target_join, held_join, slot_join, bound_join, sends_join}

modes : (mode_join Off Off ≡ Off) × (mode_join Off On ≡ Either) × (mode_join On On ≡ On) × (mode_join Either On ≡ Either)
modes = (refl, refl, refl, refl)

-- 2 to 4 and 7 to 9 become 2 to 9, not all numbers
intervals : interval_join (record { low = 7; high = 9 }) (record { low = 2; high = 4 }) ≡ record { low = 2; high = 9 }
intervals = refl

-- grants `a` and `b`, and ends of pairs
abbrev a : Target
a = In_grant (97 ∷ [])

abbrev b : Target
b = In_grant (98 ∷ [])

abbrev end : ℕ → Target
end side = Socket (Initial 0) side

grants : (target_join a a ≡ a) × (target_join a b ≡ Any_node) × (target_join a Any_node ≡ Any_node)
grants = (refl, refl, refl)

ends : (target_join (end 0) (end 0) ≡ end 0) × (target_join (end 0) (end 1) ≡ Unknown)
    × (target_join (end 0) (Socket (Made_at (97 ∷ []) 0) 0) ≡ Unknown) × (target_join a (end 0) ≡ Unknown)
    × (target_join Any_node (end 0) ≡ Unknown) × (target_join a Unknown ≡ Unknown)
ends = (refl, refl, refl, refl, refl, refl)

-- at least read, at most read and write, with both commands; and at least write, at most write and seek, with none
abbrev reads : Held
reads = record { target = a; least = 1; greatest = 3; least_fcntls = 3; greatest_fcntls = 3 }

abbrev writes : Held
writes = record { target = b; least = 2; greatest = 6; least_fcntls = 0; greatest_fcntls = 0 }

abbrev either : Held
either = record { target = Any_node; least = 0; greatest = 7; least_fcntls = 0; greatest_fcntls = 3 }

sets : held_join reads writes ≡ either
sets = refl

slots : (slot_join Closed Closed ≡ Closed) × (slot_join Closed (Open reads) ≡ Maybe reads) × (slot_join (Maybe reads) Closed ≡ Maybe reads)
    × (slot_join (Open reads) (Open writes) ≡ Open either) × (slot_join (Open reads) (Maybe writes) ≡ Maybe either)
slots = (refl, refl, refl, refl, refl)

sent : (sends_join None (Some reads) ≡ Some reads) × (sends_join (Some reads) None ≡ Some reads) × (sends_join (Some reads) (Some writes) ≡ Some either)
sent = (refl, refl, refl)

-- a whole bound, of one register and two slots
abbrev before : Bound
before = record { mode = Off; registers = full_interval ∷ []; slots = Open reads ∷ Closed ∷ [] }

abbrev after : Bound
after = record { mode = On; registers = record { low = 0; high = 0 } ∷ []; slots = Open reads ∷ Open writes ∷ [] }

bounds : bound_join before after ≡ record { mode = Either; registers = full_interval ∷ []; slots = Open reads ∷ Maybe writes ∷ [] }
bounds = refl
