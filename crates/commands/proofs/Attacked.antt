-- The two tasks are confined, and run, by computation.
use Rattle.std.proofs.Common.{◌≡◌, ℕ, true, List, ◌++◌, codes, refl, subst, lit<}
use Rattle.std.specs.Prelude.{None}
use Rattle.std.proofs.Math.Decide.{ℕ_discrete}
use Rattle.std.specs.Fmt.{digits}
use Rattle.certificate.specs.Bounds.{Certificate, bound_in}
use Rattle.file_tree.specs.Nodes.{child_of, node_at, parent_of}
use Rattle.file_tree.specs.Places.{is_file_name, is_target, path_components}
use Rattle.file_tree.specs.WellFormed.{is_within_limits}
use Rattle.lookup.specs.Paths.{last_component, path_fault}
use Rattle.lookup.specs.ByNodes.{by_nodes}
use Rattle.lookup.specs.Walks.{first_handled, handled}
use Rattle.lookup.specs.Looks.{lookup_fault}
use Rattle.fd_table.specs.OpenFiles.{any_below, lowest_from}
use Rattle.kernel.specs.World.{Choice}
use Rattle.kernel.specs.Answers.{Event, unless, held, at_object, at_number}
use Rattle.kernel.specs.Calls.{answer, looks, looks_twice}
use Rattle.kernel.specs.Changes.{files_after, changed}
use Rattle.kernel.specs.Hostile.{Act}
use Rattle.kernel.specs.Steps.{answered, jumped, executed, stepped_at, stepped_by, stepped, step}
use Rattle.kernel.specs.Walks.{lookups_of}
use Rattle.task.specs.Begins.{first_files, first_world}
use Rattle.task.specs.Limits.{is_plan}
use Rattle.task.specs.Plans.{Plan}
use Rattle.task.specs.Policies.{grant_named}
use Rattle.task.proofs.FirstWorlds.{zeros}
use Rattle.rules.specs.Authority.{authority_in, ceiling_in}
use Rattle.rules.specs.Slots.{slots_in, free_numbers}
use Rattle.rules.specs.Uses.{uses}
use Rattle.rules.specs.Channels.{channel_at}
use Rattle.rules.specs.Outcomes.{successes, successes_in, error_outcomes}
use Rattle.rules.specs.Rules.{tests, tests_without, authority_tests, mark_tests}
use Rattle.rules.specs.Verdicts.{IsFirst, MeetsRules, found_with, found_at, first_found}
use Rattle.rules.proofs.First.{first_is_found}
use Rattle.rules.proofs.Sound.{confining}
use Rattle.commands.specs.Attacked.{ActsConfined, AreActs, attack_text, entering_certificate, entering_plan, entering_run, handing_certificate, handing_plan, handing_run}

-- a task whose certificate is found to meet the rules, and of which every run of these events shows this text
attacked :
    (plan : Plan) (certificate : Certificate) (events : List (Event × Act)) (text : List ℕ) → is_plan plan ≡ true → first_found plan certificate ≡ None
    → ((choose : ℕ → Choice) → AreActs plan (first_world plan) events choose) → ((choose : ℕ → Choice) → attack_text plan (first_world plan) events choose ≡ text)
    → ActsConfined plan certificate events text
attacked plan certificate events text valid none acts shows =
    let meets : MeetsRules plan certificate = subst (IsFirst plan certificate) none (first_is_found plan certificate) in
    record { meets = meets; confined = confining plan certificate valid meets; acts = acts; shows = shows }

handing_is_task : is_plan handing_plan ≡ true
unfolding is_within_limits is_file_name is_target
handing_is_task = refl

handing_meets : first_found handing_plan handing_certificate ≡ None
unfolding first_found found_at found_with tests tests_without bound_in grant_named slots_in free_numbers uses channel_at successes successes_in error_outcomes mark_tests authority_tests
    authority_in ceiling_in
handing_meets = refl

handing_acts : (choose : ℕ → Choice) → AreActs handing_plan (first_world handing_plan) handing_run choose
unfolding ℕ_discrete digits first_handled handled looks looks_twice lookup_fault path_fault path_components last_component by_nodes node_at
    child_of parent_of unless held at_object at_number any_below lowest_from answer files_after changed answered jumped executed stepped_at stepped_by stepped step
    first_world first_files lookups_of
handing_acts choose = (
  lit< tt,
  (λ hostile. record { paths = refl; placed = tt; eight = refl; small = zeros 8 }),
  (
    lit< tt,
    tt,
    (
      lit< tt,
      tt,
      (
        lit< tt,
        (λ hostile. record { paths = refl; placed = tt; eight = refl; small = zeros 8 }),
        (
          lit< tt,
          (λ hostile. record { paths = refl; placed = tt; eight = refl; small = zeros 8 }),
          (
            lit< tt,
            (λ hostile. record { paths = refl; placed = tt; eight = refl; small = zeros 8 }),
            (
              lit< tt,
              (λ hostile. record { paths = refl; placed = tt; eight = refl; small = zeros 8 }),
              (
                lit< tt,
                (λ hostile. record { paths = refl; placed = tt; eight = refl; small = zeros 8 }),
                tt,
              ),
            ),
          ),
        ),
      ),
    ),
  ),
)

abbrev handing_text : List ℕ
handing_text =
    codes "1 child:0 ! ECAPMODE CapMode\n0 main:0 = 0\n0 main:1 = 1\n1 child:0 = 1\n1 child:0 ! ENOTCAPABLE MissingRight\n" ++
    codes "1 child:0 ! ENOTCAPABLE Escape\n1 child:0 = 1\n1 child:0 = 2\n"

handing_shows : (choose : ℕ → Choice) → attack_text handing_plan (first_world handing_plan) handing_run choose ≡ handing_text
unfolding ℕ_discrete digits first_handled handled looks looks_twice lookup_fault path_fault path_components last_component by_nodes node_at
    child_of parent_of unless held at_object at_number any_below lowest_from answer files_after changed answered jumped executed stepped_at stepped_by stepped step
    first_world first_files lookups_of
handing_shows choose = refl

pub handing : ActsConfined handing_plan handing_certificate handing_run handing_text
handing = attacked handing_plan handing_certificate handing_run handing_text handing_is_task handing_meets handing_acts handing_shows

entering_is_task : is_plan entering_plan ≡ true
unfolding is_within_limits is_file_name is_target
entering_is_task = refl

entering_meets : first_found entering_plan entering_certificate ≡ None
unfolding first_found found_at found_with tests tests_without bound_in grant_named slots_in free_numbers uses channel_at successes successes_in error_outcomes mark_tests authority_tests
    authority_in ceiling_in
entering_meets = refl

entering_acts : (choose : ℕ → Choice) → AreActs entering_plan (first_world entering_plan) entering_run choose
unfolding ℕ_discrete digits first_handled handled looks looks_twice lookup_fault path_fault path_components last_component by_nodes node_at
    child_of parent_of unless held at_object at_number any_below lowest_from answer files_after changed answered jumped executed stepped_at stepped_by stepped step
    first_world first_files lookups_of
entering_acts choose = (
  lit< tt,
  tt,
  (
    lit< tt,
    tt,
    (
      lit< tt,
      tt,
      (
        lit< tt,
        (λ hostile. record { paths = refl; placed = tt; eight = refl; small = zeros 8 }),
        (
          lit< tt,
          (λ hostile. record { paths = refl; placed = tt; eight = refl; small = zeros 8 }),
          (
            lit< tt,
            (λ hostile. record { paths = refl; placed = tt; eight = refl; small = zeros 8 }),
            (
              lit< tt,
              (λ hostile. record { paths = refl; placed = tt; eight = refl; small = zeros 8 }),
              tt,
            ),
          ),
        ),
      ),
    ),
  ),
)

abbrev entering_text : List ℕ
entering_text =
    codes "0 main:0 = 0\n0 main:1 = 0\n0 main:2 = 0\n0 main:3 ! ENOTCAPABLE MissingRight\n0 main:0 ! ECAPMODE CapMode\n" ++
    codes "0 main:0 = 1\n1 main:0 = 1\n"

entering_shows : (choose : ℕ → Choice) → attack_text entering_plan (first_world entering_plan) entering_run choose ≡ entering_text
unfolding ℕ_discrete digits first_handled handled looks looks_twice lookup_fault path_fault path_components last_component by_nodes node_at
    child_of parent_of unless held at_object at_number any_below lowest_from answer files_after changed answered jumped executed stepped_at stepped_by stepped step
    first_world first_files lookups_of
entering_shows choose = refl

pub entering : ActsConfined entering_plan entering_certificate entering_run entering_text
entering = attacked entering_plan entering_certificate entering_run entering_text entering_is_task entering_meets entering_acts entering_shows
