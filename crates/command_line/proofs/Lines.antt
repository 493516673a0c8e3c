-- What `clap` makes of a right line: it takes it, and gives its order.
use Rattle.std.proofs.Common.{◌≡◌, ◌==◌, ◌||◌, ℕ, Bool, true, false, List, [], ◌∷◌, codes, refl}
use Rattle.std.specs.Prelude.{Some}
use Rattle.std.specs.List.{list_any}
use Rattle.clap.proofs.OnLiterals.{clap_on_literals}
use Rattle.clap.specs.Words.{takes, is_simple, subcommand_of}
use Rattle.command_line.specs.Commands.{program, parsed_order}
use Rattle.command_line.specs.Orders.{Order, Example, Run, Check, Report, Search, Expand, order_words, is_dashed}

pub program_is_simple : is_simple program ≡ true
unfolding clap_on_literals
program_is_simple = refl

-- where neither of two tests holds
both_false : (x y : Bool) → (x || (y || false)) ≡ false → (x ≡ false) × (y ≡ false)
both_false true y none = absurd (cc)
both_false false true none = absurd (cc)
both_false false false none = (refl, refl)

take_run : (task schedule : List ℕ) → list_any is_dashed (task ∷ schedule ∷ []) ≡ false → takes program (codes "run" ∷ task ∷ schedule ∷ []) ≡ true
unfolding clap_on_literals
take_run [] [] none = refl
take_run [] (b ∷ s) none = let e = (both_false false (b == 45) none).1 in simp e
take_run (a ∷ r) [] none = let e = (both_false (a == 45) false none).0 in simp e
take_run (a ∷ r) (b ∷ s) none =
    let p = both_false (a == 45) (b == 45) none in
    let d = p.0 in
    let e = p.1 in
    simp (d, e)

take_check : (task cert : List ℕ) → list_any is_dashed (task ∷ cert ∷ []) ≡ false → takes program (codes "check" ∷ task ∷ cert ∷ []) ≡ true
unfolding clap_on_literals
take_check [] [] none = refl
take_check [] (b ∷ s) none = let e = (both_false false (b == 45) none).1 in simp e
take_check (a ∷ r) [] none = let e = (both_false (a == 45) false none).0 in simp e
take_check (a ∷ r) (b ∷ s) none =
    let p = both_false (a == 45) (b == 45) none in
    let d = p.0 in
    let e = p.1 in
    simp (d, e)

take_report : (task cert : List ℕ) → list_any is_dashed (task ∷ cert ∷ []) ≡ false → takes program (codes "report" ∷ task ∷ cert ∷ []) ≡ true
unfolding clap_on_literals
take_report [] [] none = refl
take_report [] (b ∷ s) none = let e = (both_false false (b == 45) none).1 in simp e
take_report (a ∷ r) [] none = let e = (both_false (a == 45) false none).0 in simp e
take_report (a ∷ r) (b ∷ s) none =
    let p = both_false (a == 45) (b == 45) none in
    let d = p.0 in
    let e = p.1 in
    simp (d, e)

take_search : (task : List ℕ) → list_any is_dashed (task ∷ []) ≡ false → takes program (codes "search" ∷ task ∷ []) ≡ true
unfolding clap_on_literals
take_search [] none = refl
take_search (a ∷ r) none = let e = (both_false (a == 45) false none).0 in simp e

take_expand : (task cert : List ℕ) → list_any is_dashed (task ∷ cert ∷ []) ≡ false → takes program (codes "expand" ∷ task ∷ cert ∷ []) ≡ true
unfolding clap_on_literals
take_expand [] [] none = refl
take_expand [] (b ∷ s) none = let e = (both_false false (b == 45) none).1 in simp e
take_expand (a ∷ r) [] none = let e = (both_false (a == 45) false none).0 in simp e
take_expand (a ∷ r) (b ∷ s) none =
    let p = both_false (a == 45) (b == 45) none in
    let d = p.0 in
    let e = p.1 in
    simp (d, e)

give_run : (task schedule : List ℕ) → list_any is_dashed (task ∷ schedule ∷ []) ≡ false → parsed_order (subcommand_of program (codes "run" ∷ task ∷ schedule ∷ [])) ≡ Some (Run task schedule)
unfolding clap_on_literals
give_run [] [] none = refl
give_run [] (b ∷ s) none = let e = (both_false false (b == 45) none).1 in simp e
give_run (a ∷ r) [] none = let e = (both_false (a == 45) false none).0 in simp e
give_run (a ∷ r) (b ∷ s) none =
    let p = both_false (a == 45) (b == 45) none in
    let d = p.0 in
    let e = p.1 in
    simp (d, e)

give_check : (task cert : List ℕ) → list_any is_dashed (task ∷ cert ∷ []) ≡ false → parsed_order (subcommand_of program (codes "check" ∷ task ∷ cert ∷ [])) ≡ Some (Check task cert)
unfolding clap_on_literals
give_check [] [] none = refl
give_check [] (b ∷ s) none = let e = (both_false false (b == 45) none).1 in simp e
give_check (a ∷ r) [] none = let e = (both_false (a == 45) false none).0 in simp e
give_check (a ∷ r) (b ∷ s) none =
    let p = both_false (a == 45) (b == 45) none in
    let d = p.0 in
    let e = p.1 in
    simp (d, e)

give_report : (task cert : List ℕ) → list_any is_dashed (task ∷ cert ∷ []) ≡ false → parsed_order (subcommand_of program (codes "report" ∷ task ∷ cert ∷ [])) ≡ Some (Report task cert)
unfolding clap_on_literals
give_report [] [] none = refl
give_report [] (b ∷ s) none = let e = (both_false false (b == 45) none).1 in simp e
give_report (a ∷ r) [] none = let e = (both_false (a == 45) false none).0 in simp e
give_report (a ∷ r) (b ∷ s) none =
    let p = both_false (a == 45) (b == 45) none in
    let d = p.0 in
    let e = p.1 in
    simp (d, e)

give_search : (task : List ℕ) → list_any is_dashed (task ∷ []) ≡ false → parsed_order (subcommand_of program (codes "search" ∷ task ∷ [])) ≡ Some (Search task)
unfolding clap_on_literals
give_search [] none = refl
give_search (a ∷ r) none = let e = (both_false (a == 45) false none).0 in simp e

give_expand : (task cert : List ℕ) → list_any is_dashed (task ∷ cert ∷ []) ≡ false → parsed_order (subcommand_of program (codes "expand" ∷ task ∷ cert ∷ [])) ≡ Some (Expand task cert)
unfolding clap_on_literals
give_expand [] [] none = refl
give_expand [] (b ∷ s) none = let e = (both_false false (b == 45) none).1 in simp e
give_expand (a ∷ r) [] none = let e = (both_false (a == 45) false none).0 in simp e
give_expand (a ∷ r) (b ∷ s) none =
    let p = both_false (a == 45) (b == 45) none in
    let d = p.0 in
    let e = p.1 in
    simp (d, e)

-- A line none of whose words begins with `-` is taken.
pub takes_line : (order : Order) → list_any is_dashed (order_words order) ≡ false → takes program (order_words order) ≡ true
unfolding clap_on_literals
takes_line Example none = refl
takes_line (Run task schedule) none = take_run task schedule none
takes_line (Check task cert) none = take_check task cert none
takes_line (Report task cert) none = take_report task cert none
takes_line (Search task) none = take_search task none
takes_line (Expand task cert) none = take_expand task cert none

-- And it gives the order.
pub gives_line : (order : Order) → list_any is_dashed (order_words order) ≡ false → parsed_order (subcommand_of program (order_words order)) ≡ Some order
unfolding clap_on_literals
gives_line Example none = refl
gives_line (Run task schedule) none = give_run task schedule none
gives_line (Check task cert) none = give_check task cert none
gives_line (Report task cert) none = give_report task cert none
gives_line (Search task) none = give_search task none
gives_line (Expand task cert) none = give_expand task cert none
