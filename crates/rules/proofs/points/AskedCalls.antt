-- What the rules that are kept at the point of a call say of it, and of each slot that it goes through.
use Rattle.std.proofs.Common.{◌≡◌, ℕ, Bool, true, false, List, [], ◌∷◌, refl, inl}
use Rattle.std.specs.Prelude.{◌&&◌, ◌||◌, not, cond}
use Rattle.std.specs.Cmp.Derive.{both_true}
use Rattle.rights.specs.Sets.{is_within}
use Rattle.rights.specs.Operations.{Operation}
use Rattle.rights.proofs.Tests.{both_left, both_right, not_true}
use Rattle.certificate.specs.Bounds.{ModeBound, Off, On, Either, with_interval, Bound, Certificate}
use Rattle.certificate.specs.Describes.{mode_describes}
use Rattle.instruction_set.specs.Programs.{Syscall, Invoke}
use Rattle.task.specs.Plans.{Grant, Plan, program_name}
use Rattle.rules.specs.Slots.{OpenSlot, may_be_on}
use Rattle.rules.specs.Uses.{Use, uses}
use Rattle.rules.specs.Channels.{keeps_channel_bound, has_channel}
use Rattle.rules.specs.Demands.{demands, keeps_single, keeps_numbers}
use Rattle.rules.specs.Outcomes.{Outcome, is_surely_on, is_formed, error_interval, successes_of, successes, error_outcomes}
use Rattle.rules.specs.Rules.{keeps_rights, keeps_commands, keeps_limit, is_known, works_on_known, target_lists, keeps_policy, names_known, same_grant, moves_within}
use Rattle.rules.proofs.Members.{Among, each_of}
use Rattle.rules.proofs.points.Asked.{Leads, AllLead, Asked}

-- a test that is asked where another passes
pub if_passes : (a b : Bool) → (not a || b) ≡ true → a ≡ true → b ≡ true
if_passes true b is passes = is
if_passes false b is passes = absurd cc

-- what doesn't pass with another test that passes
pub not_both : (a b : Bool) → not (a && b) ≡ true → a ≡ true → b ≡ false
not_both true b is passes = not_true b is
not_both false b is passes = absurd cc

-- a bound that describes a process in the mode may be on
pub on_may_be : (m : ModeBound) (on : Bool) → mode_describes m on ≡ true → on ≡ true → may_be_on m ≡ true
on_may_be Off true is on = absurd cc
on_may_be Off false is on = absurd cc
on_may_be On on is is_on = refl
on_may_be Either on is is_on = refl

surely_may_be : (m : ModeBound) (b : Bool) → not (may_be_on m && b) ≡ true → not (is_surely_on m && b) ≡ true
surely_may_be Off b is = refl
surely_may_be On b is = is
surely_may_be Either b is = refl

-- what is said of each slot that a call may go through
pub record AskedOf (grants : List Grant) (certificate : Certificate) (b : Bound) (u : Use) : Type 0 where
  pub rights : is_within u.need.rights u.slot.held.least ≡ true
  pub commands : is_within u.need.commands u.slot.held.least_fcntls ≡ true
  pub further : is_within u.need.further u.slot.held.least ≡ true
  pub kept_rights : is_within u.need.kept_rights u.slot.held.least ≡ true
  pub kept_commands : is_within u.need.kept_commands u.slot.held.least_fcntls ≡ true
  pub known : may_be_on b.mode ≡ true → u.need.works ≡ true → is_known u.slot.held.target ≡ true
  pub listed : may_be_on b.mode ≡ true → (operation : Operation) → Among operation u.need.operations → target_lists grants u.slot.held.target operation ≡ true
  pub names : u.need.changes_names ≡ true → is_known u.slot.held.target ≡ true
  pub moves : (t : OpenSlot) → Among t u.targets → same_grant u.slot.held.target t.held.target ≡ true
  pub channel_bound : keeps_channel_bound certificate u u.passing ≡ true
  pub channel : has_channel certificate u u.passing ≡ true

-- what is said of the call
pub record AskedCall (plan : Plan) (certificate : Certificate) (program point : ℕ) (b : Bound) (call : Syscall) (otherwise : ℕ) : Type 0 where
  pub successes : AllLead certificate (program_name plan program) (successes_of plan.grants certificate (program_name plan program) point b call)
  pub errors : (demands call).never_fails ≡ false → Leads certificate (program_name plan program) (record { point = otherwise; bound = with_interval b 7 error_interval })
  pub single : keeps_single b call ≡ true
  pub numbers : keeps_numbers b call ≡ true
  pub beneath : may_be_on b.mode ≡ true → (demands call).is_global ≡ false
  pub global_names : (demands call).changes_global_names ≡ false
  pub each : (u : Use) → Among u (uses b call) → AskedOf plan.grants certificate b u

module _ (plan : Plan) (certificate : Certificate) (program point : ℕ) (b : Bound) (call : Syscall) (otherwise : ℕ) (all : Asked plan certificate program point (Invoke call otherwise) b) where
  of_use : (u : Use) → Among u (uses b call) → AskedOf plan.grants certificate b u
  of_use u among =
      let through = uses b call in
      let mode = may_be_on b.mode in
      let limits = each_of keeps_limit through all.limits u among in
      let gone_by = each_of keeps_commands through all.commands u among in
      record {
        rights = each_of keeps_rights through all.rights u among;
        commands = both_left _ (is_within u.need.further u.slot.held.least) gone_by;
        further = both_right (is_within u.need.commands u.slot.held.least_fcntls) _ gone_by;
        kept_rights = both_left _ (is_within u.need.kept_commands u.slot.held.least_fcntls) limits;
        kept_commands = both_right (is_within u.need.kept_rights u.slot.held.least) _ limits;
        known = λ may works. if_passes u.need.works _ (each_of works_on_known through (if_passes mode _ all.known may) u among) works;
        listed = λ may operation one.
            each_of (target_lists plan.grants u.slot.held.target) u.need.operations
            (each_of (keeps_policy plan.grants) through (if_passes mode _ all.policy may) u among) operation one;
        names = λ changes. if_passes u.need.changes_names _ (each_of names_known through all.names u among) changes;
        moves = λ t one. each_of (λ (x : OpenSlot). same_grant u.slot.held.target x.held.target) u.targets (each_of moves_within through all.moves u among) t one;
        channel_bound = each_of (λ (x : Use). keeps_channel_bound certificate x x.passing) through all.channel_bounds u among;
        channel = each_of (λ (x : Use). has_channel certificate x x.passing) through all.channels u among;
      }

  formed : is_formed certificate b call ≡ true
  formed =
      both_true (both_true all.single all.channels) (surely_may_be b.mode (demands call).is_global all.beneath)

  all_succeed : AllLead certificate (program_name plan program) (successes_of plan.grants certificate (program_name plan program) point b call)
  unfolding successes
  all_succeed o among = go (is_formed certificate b call) formed (all.successes o)
    where
      outs : List Outcome
      outs = successes_of plan.grants certificate (program_name plan program) point b call

      go : (f : Bool) → f ≡ true → (Among o (cond f outs []) → Leads certificate (program_name plan program) o) → Leads certificate (program_name plan program) o
      go true is all_of = all_of among
      go false is all_of = absurd cc

  fails : (demands call).never_fails ≡ false → Leads certificate (program_name plan program) (record { point = otherwise; bound = with_interval b 7 error_interval })
  unfolding error_outcomes
  fails may = go (demands call).never_fails may (all.errors o)
    where
      o : Outcome
      o = record { point = otherwise; bound = with_interval b 7 error_interval }

      go : (f : Bool) → f ≡ false → (Among o (cond f [] (o ∷ [])) → Leads certificate (program_name plan program) o) → Leads certificate (program_name plan program) o
      go false is all_of = all_of (inl refl)
      go true is all_of = absurd cc

  pub asked_call : AskedCall plan certificate program point b call otherwise
  asked_call = record {
    successes = all_succeed;
    errors = fails;
    single = all.single;
    numbers = all.numbers;
    beneath = λ may. not_both (may_be_on b.mode) (demands call).is_global all.beneath may;
    global_names = not_true (demands call).changes_global_names all.global_names;
    each = of_use;
  }
