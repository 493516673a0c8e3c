-- The rules of the code, by their numbers; and what each asks of a slot.
use Rattle.std.specs.Prelude.{ℕ, Bool}
use Rattle.certificate.specs.Bounds.{Authority, Certificate}
use Rattle.task.specs.Plans.{Plan}
use Rattle.rules.specs.Authority.{keeps_ceilings, keeps_moves, keeps_received, keeps_sent}
use Rattle.rules.specs.Channels.{has_channel, keeps_channel_bound}
use Rattle.rules.specs.Rules.{keeps_commands, keeps_limit, keeps_policy, keeps_rights, moves_within, names_known, works_on_known}
use Rattle.rules.specs.Uses.{Use}
use Rattle.checker.specs.declared.rule.Rule.{Rule}
use Rattle.checker.specs.declared.rule.Rule.TheVariants as rules
use Rattle.checker.specs.declared.rule.CallRule.{CallRule}
use Rattle.checker.specs.declared.rule.CallRule.TheVariants as calls
use Rattle.checker.specs.declared.rule.SlotRule.{SlotRule}
use Rattle.checker.specs.declared.rule.SlotRule.TheVariants as slots
use Rattle.checker.specs.declared.rule.AuthorityRule.{AuthorityRule}
use Rattle.checker.specs.declared.rule.AuthorityRule.TheVariants as authorities

abbrev pub slot_rule_number : SlotRule → ℕ
slot_rule_number slots.Rights = 7
slot_rule_number slots.Commands = 8
slot_rule_number slots.Limit = 9
slot_rule_number slots.KnownObject = 10
slot_rule_number slots.Policy = 11
slot_rule_number slots.KnownNames = 12
slot_rule_number slots.Moves = 13
slot_rule_number slots.Sent = 14
slot_rule_number slots.Channel = 15

abbrev pub call_rule_number : CallRule → ℕ
call_rule_number calls.OneNumber = 4
call_rule_number calls.FreeNumbers = 5
call_rule_number calls.NoGlobalPath = 6
call_rule_number (calls.OfSlot rule) = slot_rule_number rule

abbrev pub authority_rule_number : AuthorityRule → ℕ
authority_rule_number authorities.Ceilings = 19
authority_rule_number authorities.Moves = 20
authority_rule_number authorities.Received = 21
authority_rule_number authorities.Sent = 22

abbrev pub rule_number : Rule → ℕ
rule_number rules.StartsWithin = 1
rule_number rules.SuccessesWithin = 2
rule_number rules.ErrorsWithin = 3
rule_number (rules.OfCall rule) = call_rule_number rule
rule_number rules.LeadsToBounds = 16
rule_number rules.BoundsOutside = 17
rule_number rules.TakesWithin = 18
rule_number (rules.OfAuthority rule) = authority_rule_number rule

-- what a rule asks of a slot that a call goes through
abbrev pub keeps_at_slot : SlotRule → Plan → Certificate → Use → Bool
keeps_at_slot slots.Rights plan c u = keeps_rights u
keeps_at_slot slots.Commands plan c u = keeps_commands u
keeps_at_slot slots.Limit plan c u = keeps_limit u
keeps_at_slot slots.KnownObject plan c u = works_on_known u
keeps_at_slot slots.Policy plan c u = keeps_policy plan.grants u
keeps_at_slot slots.KnownNames plan c u = names_known u
keeps_at_slot slots.Moves plan c u = moves_within u
keeps_at_slot slots.Sent plan c u = keeps_channel_bound c u u.passing
keeps_at_slot slots.Channel plan c u = has_channel c u u.passing

-- what a rule asks of an authority
abbrev pub keeps_in_authority : AuthorityRule → Bool → Plan → Certificate → Authority → Bool
keeps_in_authority authorities.Ceilings wide plan c a = keeps_ceilings wide plan.grants a
keeps_in_authority authorities.Moves wide plan c a = keeps_moves a
keeps_in_authority authorities.Received wide plan c a = keeps_received wide c a
keeps_in_authority authorities.Sent wide plan c a = keeps_sent c a
