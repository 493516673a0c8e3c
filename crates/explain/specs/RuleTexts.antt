-- What each rule asks, in a sentence, of a task that asks for further rights or of another. (own)
use Rattle.std.specs.Prelude.{ℕ, ◌≡◌, ◌++◌, Bool, true, false, List, codes}
use Rattle.checker.specs.declared.rule.Rule.{Rule}
use Rattle.checker.specs.declared.rule.Rule.TheVariants as rules
use Rattle.checker.specs.declared.rule.CallRule.{CallRule}
use Rattle.checker.specs.declared.rule.CallRule.TheVariants as calls
use Rattle.checker.specs.declared.rule.SlotRule.{SlotRule}
use Rattle.checker.specs.declared.rule.SlotRule.TheVariants as slots
use Rattle.checker.specs.declared.rule.AuthorityRule.{AuthorityRule}
use Rattle.checker.specs.declared.rule.AuthorityRule.TheVariants as authorities

abbrev pub slot_rule_words : Bool → SlotRule → List ℕ
slot_rule_words wide slots.Rights = codes "each right that a call needs is surely held"
slot_rule_words false slots.Commands = codes "each command that a call needs is surely held"
slot_rule_words true slots.Commands = codes "each command or further right that a call needs is surely held"
slot_rule_words wide slots.Limit = codes "a limit keeps what is surely held"
slot_rule_words wide slots.KnownObject = codes "in the mode a call works on what is in a grant or a socket"
slot_rule_words wide slots.Policy = codes "in the mode a call does what the grant lists"
slot_rule_words wide slots.KnownNames = codes "in either mode names are made, removed and moved beneath grants alone"
slot_rule_words wide slots.Moves = codes "in either mode nothing is moved from one grant into another"
slot_rule_words wide slots.Sent = codes "what is sent lies within its channel's line"
slot_rule_words wide slots.Channel = codes "a channel that is used has a line"

abbrev pub call_rule_words : Bool → CallRule → List ℕ
call_rule_words wide calls.OneNumber = codes "a call that changes a slot names it by one number"
call_rule_words wide calls.FreeNumbers = codes "the free numbers that a call takes are determined"
call_rule_words wide calls.NoGlobalPath = codes "in the mode no call reaches a global path"
call_rule_words wide (calls.OfSlot rule) = slot_rule_words wide rule

abbrev pub authority_rule_words : AuthorityRule → List ℕ
authority_rule_words authorities.Ceilings = codes "a ceiling's grant lists what the ceiling's rights are for"
authority_rule_words authorities.Moves = codes "by no two ceilings can a name be moved from one grant into another"
authority_rule_words authorities.Received = codes "what may come by a listed end is within the authority"
authority_rule_words authorities.Sent = codes "whoever receives from a listed end expects anything"

abbrev pub rule_words : Bool → Rule → List ℕ
rule_words wide rules.StartsWithin = codes "the bound of point 0 is too narrow for how a process starts"
rule_words wide rules.SuccessesWithin = codes "a success leads to a point whose bound is too narrow for it"
rule_words wide rules.ErrorsWithin = codes "an error leads to a point whose bound is too narrow for it"
rule_words wide (rules.OfCall rule) = call_rule_words wide rule
rule_words wide rules.LeadsToBounds = codes "a point that is reached has a bound"
rule_words wide rules.BoundsOutside = codes "the points of an untrusted program bound it outside the mode alone"
rule_words wide rules.TakesWithin = codes "what an untrusted program holds in the mode is within its authority"
rule_words wide (rules.OfAuthority rule) = authority_rule_words rule

-- a text begins with what a rule asks
abbrev pub BeginsWithRule : Bool → Rule → List ℕ → Type 0
BeginsWithRule wide rule text = (more : List ℕ) × (text ≡ rule_words wide rule ++ more)
