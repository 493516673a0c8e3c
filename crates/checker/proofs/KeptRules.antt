-- What keeps several rules at once breaks none of them.
use Rattle.std.proofs.Common.{◌≡◌, ℕ, Bool, true, false, List, [], ◌∷◌, None, refl}
use Rattle.std.specs.Prelude.{not, ◌&&◌, ◌||◌}
use Rattle.std.specs.List.{list_all}
use Rattle.certificate.specs.Bounds.{Bound, Certificate}
use Rattle.certificate.proofs.Growing.{and_left, and_right, both_true}
use Rattle.instruction_set.specs.Programs.{Syscall, Invoke}
use Rattle.task.specs.Plans.{Plan}
use Rattle.rules.specs.Channels.{all_have_channels, keeps_channel_bound}
use Rattle.rules.specs.Demands.{demands, keeps_beneath, keeps_numbers, keeps_single}
use Rattle.rules.specs.Rules.{keeps_commands, keeps_limit, keeps_policy, keeps_rights, moves_within, names_known, works_on_known, least_broken, tests}
use Rattle.rules.specs.Slots.{may_be_on}
use Rattle.rules.specs.Uses.{Use, uses}
use Rattle.checker.specs.KeptUses.{keeps_all, keeps_call_rules, tests_of_call}

pub all_both : {A : Type 0} (p q : A → Bool) (us : List A) → list_all (λ u. p u && q u) us ≡ true → (list_all p us ≡ true) × (list_all q us ≡ true)
all_both p q [] all = (refl, refl)
all_both p q (u ∷ us) all =
    let here = and_left (p u && q u) (list_all (λ u. p u && q u) us) all in
    let rest = all_both p q us (and_right (p u && q u) (list_all (λ u. p u && q u) us) all) in
    (both_true (p u) (list_all p us) (and_left (p u) (q u) here) rest.0, both_true (q u) (list_all q us) (and_right (p u) (q u) here) rest.1)

all_if : (on : Bool) (p : Use → Bool) (us : List Use) → list_all (λ u. not on || p u) us ≡ true → (not on || list_all p us) ≡ true
all_if true p us all = all
all_if false p us all = refl

module _ (plan : Plan) (c : Certificate) (on : Bool) where
  abbrev to_8 : Use → Bool
  to_8 u = keeps_rights u && keeps_commands u

  abbrev to_9 : Use → Bool
  to_9 u = to_8 u && keeps_limit u

  abbrev to_10 : Use → Bool
  to_10 u = to_9 u && (not on || works_on_known u)

  abbrev to_11 : Use → Bool
  to_11 u = to_10 u && (not on || keeps_policy plan.grants u)

  abbrev to_12 : Use → Bool
  to_12 u = to_11 u && names_known u

  abbrev to_13 : Use → Bool
  to_13 u = to_12 u && moves_within u

  abbrev at_channel : Use → Bool
  at_channel u = keeps_channel_bound c u u.passing

  record AllKept (us : List Use) : Type 0 where
    pub rights : list_all keeps_rights us ≡ true
    pub commands : list_all keeps_commands us ≡ true
    pub limit : list_all keeps_limit us ≡ true
    pub known : (not on || list_all works_on_known us) ≡ true
    pub policy : (not on || list_all (keeps_policy plan.grants) us) ≡ true
    pub names : list_all names_known us ≡ true
    pub moves : list_all moves_within us ≡ true
    pub channel : list_all at_channel us ≡ true

  each_kept : (us : List Use) → list_all (keeps_all plan c on) us ≡ true → AllKept us
  each_kept us all =
      let at_14 = all_both to_13 at_channel us all in
      let at_13 = all_both to_12 moves_within us at_14.0 in
      let at_12 = all_both to_11 names_known us at_13.0 in
      let at_11 = all_both to_10 (λ u. not on || keeps_policy plan.grants u) us at_12.0 in
      let at_10 = all_both to_9 (λ u. not on || works_on_known u) us at_11.0 in
      let at_9 = all_both to_8 keeps_limit us at_10.0 in
      let at_8 = all_both keeps_rights keeps_commands us at_9.0 in
      record {
        rights = at_8.0;
        commands = at_8.1;
        limit = at_9.1;
        known = all_if on works_on_known us at_10.1;
        policy = all_if on (keeps_policy plan.grants) us at_11.1;
        names = at_12.1;
        moves = at_13.1;
        channel = at_14.1;
      }

pub none_broken : (plan : Plan) (c : Certificate) (point : ℕ) (b : Bound) (call : Syscall) (otherwise : ℕ) → keeps_call_rules plan c b call ≡ true
    → least_broken (tests_of_call plan c point b (Invoke call otherwise)) ≡ None
unfolding tests
none_broken plan c point b call otherwise all =
    let us = uses b call in
    let on = may_be_on b.mode in
    let to_numbers = keeps_single b call && keeps_numbers b call in
    let to_beneath = to_numbers && keeps_beneath b call in
    let to_changes = to_beneath && not (demands call).changes_global_names in
    let to_uses = to_changes && list_all (keeps_all plan c on) us in
    let all_uses = and_left to_uses (all_have_channels c us) all in
    let channels = and_right to_uses (all_have_channels c us) all in
    let each = each_kept plan c on us (and_right to_changes (list_all (keeps_all plan c on) us) all_uses) in
    let all_changes = and_left to_changes (list_all (keeps_all plan c on) us) all_uses in
    let changes = and_right to_beneath (not (demands call).changes_global_names) all_changes in
    let all_beneath = and_left to_beneath (not (demands call).changes_global_names) all_changes in
    let beneath = and_right to_numbers (keeps_beneath b call) all_beneath in
    let all_numbers = and_left to_numbers (keeps_beneath b call) all_beneath in
    let single = and_left (keeps_single b call) (keeps_numbers b call) all_numbers in
    let numbers = and_right (keeps_single b call) (keeps_numbers b call) all_numbers in
    rw (single, numbers, beneath, each.rights, each.commands, each.limit, each.known, each.policy, changes, each.names, each.moves, each.channel, channels) refl
