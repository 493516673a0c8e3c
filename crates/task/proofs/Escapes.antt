-- The tasks that aren't confined, each by a run.
use Rattle.std.proofs.Common.{◌≡◌, ℕ, [], ◌∷◌, codes, refl, lit<, subst}
use Rattle.std.specs.Prelude.{true, false, replicate}
use Rattle.std.proofs.Math.Decide.{ℕ_discrete}
use Rattle.rights.specs.Operations.{Create, Write}
use Rattle.rights.specs.Sets.{further_right}
use Rattle.file_tree.specs.Places.{is_file_name, path_components}
use Rattle.file_tree.specs.Nodes.{node_at, child_of}
use Rattle.file_tree.specs.WellFormed.{is_within_limits}
use Rattle.lookup.specs.Paths.{last_component, path_fault}
use Rattle.lookup.specs.ByNodes.{by_nodes}
use Rattle.lookup.specs.Looks.{lookup_fault}
use Rattle.lookup.specs.Walks.{first_handled, handled}
use Rattle.instruction_set.specs.Programs.{Invoke, Mkdirat, Number, Recvfd, Sendfd, Syscall, Use}
use Rattle.fd_table.specs.OpenFiles.{any_below, lowest_from}
use Rattle.kernel.specs.World.{World, Choice, IsFresh}
use Rattle.kernel.specs.Answers.{Event, unless, held, at_object, at_number}
use Rattle.kernel.specs.Calls.{looks, looks_twice, answer}
use Rattle.kernel.specs.Changes.{files_after, changed}
use Rattle.kernel.specs.Steps.{answered, jumped, executed, stepped_at, stepped_by, stepped, step}
use Rattle.kernel.specs.Hostile.{Act, Own, Does, IsAct, IsSpoken, about}
use Rattle.kernel.specs.Walks.{lookups_of}
use Rattle.kernel.proofs.Hostile.{files_about, next_world_as_well}
use Rattle.task.specs.Begins.{first_files, first_world}
use Rattle.task.specs.Confined.{IsConfined, IsContained}
use Rattle.task.specs.Escapes.{SomeAreNotConfined, letting_plan, making_plan, trusting_plan, using_plan}
use Rattle.task.specs.Limits.{is_plan}
use Rattle.task.specs.Plans.{Plan, programs_of_plan}
use Rattle.task.proofs.Breaches.{forbidden}
use Rattle.task.proofs.FirstWorlds.{first_well_formed, zeros}

-- an event of a process
abbrev event : ℕ → Event
event p = record { process = p; input = 0; refuse = false }

-- the child makes this call, whatever its program has
abbrev child_calls : Syscall → Act
child_calls call = Does (record { instruction = Invoke call 0; registers = replicate 8 0; point = 0 })

abbrev after : Plan → World → ℕ → Act → Choice → World
after plan w p act c = (step (programs_of_plan plan) (about w p act) (event p) c).world

abbrev Contains : Plan → World → ℕ → Act → Choice → Type 0
Contains plan w p act c = IsContained (programs_of_plan plan) plan.grants w (event p) act (step (programs_of_plan plan) (about w p act) (event p) c)

fresh_in : (w : World) (p : ℕ) (act : Act) (c : Choice) → IsFresh (about w p act).files c → IsFresh w.files c
fresh_in w p act c fresh = subst (λ f. IsFresh f c) (files_about w p act) fresh

-- A valid task with a run whose last step isn't contained, whatever numbers are chosen, isn't confined.
one_step : (plan : Plan) → is_plan plan ≡ true → (p : ℕ) (act : Act) → IsSpoken plan.wide act → IsAct (programs_of_plan plan) (first_world plan) p act →
    ((c : Choice) → Contains plan (first_world plan) p act c → ⊥) → IsConfined plan → ⊥
one_step plan valid p act spoken is escapes confined =
    let programs = programs_of_plan plan in
    let formed = first_well_formed plan valid in
    let first = next_world_as_well programs (first_world plan) (event p) act formed.0 formed.1 (lit< tt) is in
    let run = confined ((event p, act) ∷ []) (spoken, tt) first.some.0 (fresh_in (first_world plan) p act first.some.0 first.some.1) (lit< tt) is in
    escapes first.some.0 run.0

three_steps : (plan : Plan) → is_plan plan ≡ true → (p q r : ℕ) (one two three : Act)
    → IsSpoken plan.wide one × IsSpoken plan.wide two × IsSpoken plan.wide three → IsAct (programs_of_plan plan) (first_world plan) p one →
    ((c : Choice) → IsAct (programs_of_plan plan) (after plan (first_world plan) p one c) q two) →
    ((c d : Choice) → IsAct (programs_of_plan plan) (after plan (after plan (first_world plan) p one c) q two d) r three) →
    ((c d f : Choice) → Contains plan (after plan (after plan (first_world plan) p one c) q two d) r three f → ⊥) → IsConfined plan → ⊥
three_steps plan valid p q r one two three spoken is also last escapes confined =
    let programs = programs_of_plan plan in
    let formed = first_well_formed plan valid in
    let first = next_world_as_well programs (first_world plan) (event p) one formed.0 formed.1 (lit< tt) is in
    let c : Choice = first.some.0 in
    let w : World = after plan (first_world plan) p one c in
    let second = next_world_as_well programs w (event q) two formed.0 (first.each c first.some.1) (lit< tt) (also c) in
    let d : Choice = second.some.0 in
    let v : World = after plan w q two d in
    let third = next_world_as_well programs v (event r) three formed.0 (second.each d second.some.1) (lit< tt) (last c d) in
    let f : Choice = third.some.0 in
    let run = confined ((event p, one) ∷ (event q, two) ∷ (event r, three) ∷ []) (spoken.0, (spoken.1, (spoken.2, tt))) c (fresh_in (first_world plan) p one c first.some.1) (lit< tt) is in
    let rest = run.1 d (fresh_in w q two d second.some.1) (lit< tt) (also c) in
    let end = rest.1 f (fresh_in v r three f third.some.1) (lit< tt) (last c d) in
    escapes c d f end.0

right_too_many : IsConfined making_plan → ⊥
unfolding is_within_limits is_file_name ℕ_discrete looks looks_twice lookup_fault path_fault path_components last_component first_handled handled
    by_nodes node_at child_of unless held at_object at_number any_below lowest_from answer files_after changed answered jumped executed stepped_at stepped_by
    stepped step first_world first_files lookups_of
right_too_many =
    one_step making_plan refl 1 (child_calls (Mkdirat (Number 1) (codes "x"))) refl (λ hostile. record { paths = refl; placed = tt; eight = refl; small = zeros 8 })
    (λ c contains. forbidden making_plan.grants Create (codes "work" ∷ codes "x" ∷ []) refl (contains.allowed refl).0)

trusted_end : IsConfined trusting_plan → ⊥
unfolding is_within_limits is_file_name ℕ_discrete looks looks_twice lookup_fault path_fault path_components last_component first_handled handled
    by_nodes node_at child_of unless held at_object at_number any_below lowest_from answer files_after changed answered jumped executed stepped_at stepped_by
    stepped step first_world first_files lookups_of
trusted_end =
    three_steps trusting_plan refl 1 0 0 (child_calls (Sendfd (Number 0) (Number 1) (Number 0))) Own Own (refl, tt, tt)
    (λ hostile. record { paths = refl; placed = tt; eight = refl; small = zeros 8 }) (λ c. tt) (λ c d. tt) (λ c d f contains. contains.unrefused refl)

channel_too_wide : IsConfined letting_plan → ⊥
unfolding is_within_limits is_file_name ℕ_discrete looks looks_twice lookup_fault path_fault path_components last_component first_handled handled
    by_nodes node_at child_of unless held at_object at_number any_below lowest_from answer files_after changed answered jumped executed stepped_at stepped_by
    stepped step first_world first_files lookups_of
channel_too_wide =
    three_steps letting_plan refl 0 1 1 Own (child_calls (Recvfd (Number 0))) (child_calls (Mkdirat (Number 1) (codes "x"))) (tt, refl, refl) tt
    (λ c. λ hostile. record { paths = refl; placed = tt; eight = refl; small = zeros 8 })
    (λ c d. λ hostile. record { paths = refl; placed = tt; eight = refl; small = zeros 8 })
    (λ c d f contains. forbidden letting_plan.grants Create (codes "x" ∷ []) refl (contains.allowed refl).0)

further_right_too_many : IsConfined using_plan → ⊥
unfolding is_within_limits is_file_name ℕ_discrete unless held at_object answer files_after changed answered jumped executed stepped_at stepped_by
    stepped step first_world first_files lookups_of
further_right_too_many =
    one_step using_plan refl 1 (child_calls (Use (Number 1) (further_right 7))) refl (λ hostile. record { paths = refl; placed = tt; eight = refl; small = zeros 8 })
    (λ c contains. forbidden using_plan.grants Write (codes "work" ∷ []) refl (contains.allowed refl).0)

pub some_are_not_confined : SomeAreNotConfined
some_are_not_confined = record { right_too_many = right_too_many; further_right_too_many = further_right_too_many; trusted_end = trusted_end; channel_too_wide = channel_too_wide }
