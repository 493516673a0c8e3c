-- What certificates of each version say of further rights, and how these stand in the order of bounds and in joins, by computation.
use Rattle.std.proofs.Common.{◌≡◌, ◌+◌, ℕ, true, false, [], ◌∷◌, refl}
use Rattle.std.specs.Prelude.{Some, map}
use Rattle.rights.specs.Sets.{all_rights, further_right, further_rights, plain_rights, read_right}
use Rattle.certificate.specs.Bounds.{Off, Any_node, Held, Closed, Open, Maybe, Bound, One, Two, Three, Four, full_interval}
use Rattle.certificate.specs.Joins.{bound_join, sends_join}
use Rattle.certificate.specs.Order.{bound_within, sends_within}
use Rattle.certificate.specs.Told.{is_told, is_told_ceiling, told_bound, told_held}

abbrev event : ℕ
event = further_right 4

abbrev fchmod : ℕ
fchmod = further_right 7

-- at least and at most these rights, with any commands
abbrev between : ℕ → ℕ → Held
between least greatest = record { target = Any_node; least = least; greatest = greatest; least_fcntls = 0; greatest_fcntls = 3 }

abbrev holding : Held → Bound
holding h = record { mode = Off; registers = full_interval ∷ []; slots = Open h ∷ Closed ∷ Maybe h ∷ [] }

-- READ and EVENT at least, and FCHMOD too at most
abbrev some_further : Held
some_further = between (read_right + event) (read_right + event + fchmod)

-- none of the further rights at least, and all of them at most
abbrev any_further : Held
any_further = between read_right (read_right + further_rights)

first_versions_say_nothing : map (λ version. told_bound version (holding some_further)) (One ∷ Two ∷ Three ∷ [])
    ≡ holding any_further ∷ holding any_further ∷ holding any_further ∷ []
first_versions_say_nothing = refl

the_fourth_says_what_is_there : told_bound Four (holding some_further) ≡ holding some_further
the_fourth_says_what_is_there = refl

of_nothing_and_of_all : told_held One (between 0 0) ∷ told_held Three (between all_rights all_rights) ∷ []
    ≡ between 0 further_rights ∷ between plain_rights all_rights ∷ []
of_nothing_and_of_all = refl

what_each_can_say : (map (λ version. is_told version (Some some_further)) (One ∷ Two ∷ Three ∷ Four ∷ []) ≡ false ∷ false ∷ false ∷ true ∷ [])
    × (map (λ version. is_told version (Some any_further)) (One ∷ Two ∷ Three ∷ Four ∷ []) ≡ true ∷ true ∷ true ∷ true ∷ [])
    × (map (λ version. is_told_ceiling version (read_right + event)) (Three ∷ Four ∷ []) ≡ false ∷ true ∷ [])
    × (map (λ version. is_told_ceiling version read_right) (Three ∷ Four ∷ []) ≡ true ∷ true ∷ [])
what_each_can_say = (refl, refl, refl, refl)

-- with a right less at most, and with one more at least
within_by_further_rights : (bound_within (holding some_further) (holding some_further) ≡ true)
    × (bound_within (holding some_further) (holding any_further) ≡ true)
    × (bound_within (holding any_further) (holding some_further) ≡ false)
    × (bound_within (holding (between 0 event)) (holding (between 0 fchmod)) ≡ false)
    × (bound_within (holding (between 0 event)) (holding (between 0 0)) ≡ false)
    × (bound_within (holding (between 0 event)) (holding (between event event)) ≡ false)
    × (bound_within (holding (between event event)) (holding (between 0 event)) ≡ true)
within_by_further_rights = (refl, refl, refl, refl, refl, refl, refl)

sent_within : (sends_within (Some (between 0 event)) (Some (between 0 read_right)) ≡ false) × (sends_within (Some (between 0 event)) (Some any_further) ≡ false)
    × (sends_within (Some (between read_right event)) (Some any_further) ≡ true)
sent_within = (refl, refl, refl)

-- The least are intersected, and the greatest united.
joined : bound_join (holding some_further) (holding (between (event + fchmod) (event + fchmod + further_right 24)))
    ≡ holding (between event (read_right + event + fchmod + further_right 24))
joined = refl

joined_with_none : sends_join (Some (between event event)) (Some (between 0 0)) ≡ Some (between 0 event)
joined_with_none = refl
