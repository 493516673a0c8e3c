-- What the probes find, by computation.
use Rattle.std.proofs.Common.{refl}
use Rattle.certificate.specs.Bounds.{bound_in}
use Rattle.task.specs.Policies.{grant_named}
use Rattle.rules.specs.Slots.{slots_in, free_numbers}
use Rattle.rules.specs.Uses.{uses}
use Rattle.rules.specs.Channels.{channel_at}
use Rattle.rules.specs.Outcomes.{successes, successes_in, error_outcomes}
use Rattle.rules.specs.Rules.{tests, tests_without, authority_tests, mark_tests}
use Rattle.rules.specs.Verdicts.{found_with, found_at, first_found}
use Rattle.rules.specs.Refusals.{EachRuleIsBroken, EachRuleIsKept, LeastIsTold}

pub each_is_broken : EachRuleIsBroken
unfolding first_found found_at found_with tests tests_without bound_in grant_named slots_in free_numbers uses channel_at successes successes_in error_outcomes mark_tests authority_tests
each_is_broken = record {
  k1 = refl;
  k2 = refl;
  k3 = refl;
  k4 = refl;
  k5 = refl;
  k6 = refl;
  k7 = refl;
  k8 = refl;
  k9 = refl;
  k10 = refl;
  k11 = refl;
  k12 = refl;
  k13 = refl;
  k14 = refl;
  k15 = refl;
  k16 = refl;
}

pub each_is_kept : EachRuleIsKept
unfolding first_found found_at found_with tests tests_without bound_in grant_named slots_in free_numbers uses channel_at successes successes_in error_outcomes mark_tests authority_tests
each_is_kept = record {
  k1 = refl;
  k2 = refl;
  k3 = refl;
  k4 = refl;
  k5 = refl;
  k6 = refl;
  k7_k10_k11 = refl;
  k8 = refl;
  k9 = refl;
  k12 = refl;
  k13 = refl;
  k14 = refl;
  k15 = refl;
  k16 = refl;
}

pub least_is_told : LeastIsTold
unfolding first_found found_at found_with tests tests_without bound_in grant_named slots_in free_numbers uses channel_at successes successes_in error_outcomes mark_tests authority_tests
least_is_told = record {
  k1_k2 = refl;
  k2_k3 = refl;
  k3_k4 = refl;
  k4_k9 = refl;
  k5_k6 = refl;
  k5_k7 = refl;
  k6_k12 = refl;
  k7_k8 = refl;
  k7_k10 = refl;
  k8_k16 = refl;
  k9_k16 = refl;
  k10_k11 = refl;
  k11_k13 = refl;
  k12_k13 = refl;
  k13_k16 = refl;
  k14_k15 = refl;
  k15_k16 = refl;
}
