use Rattle.std.proofs.Common.{◌≡◌, ◌++◌, ◌∷◌, ◌+◌, ◌<◌, [], ℕ, List, length, map, take, ap, sym, subst, ◌∙◌}
use Rattle.std.specs.Prelude.{option_map}
use Rattle.std.specs.List.{slice_index_or}
use Rattle.std.proofs.lemmas.List.{map-append, take_more}
use Rattle.checker.specs.Findings.{BrokenRule}
use Rattle.checker.specs.FindingViews.{broken_rule_of}
use Rattle.checker.specs.declared.findings.BrokenRule.{BrokenRule as BrokenRuleCode}
use Rattle.checker.specs.declared.rule.Rule.TheVariants as rules
use Rattle.explain.proofs.Tellings.{ToldSoFar, none_told, one_told}
use Rattle.explain.proofs.refusing.add_findings.Goals as goal

abbrev none : BrokenRuleCode
none = record { program = 0; point = 0; rule = rules.StartsWithin }

one_longer : (found : List BrokenRuleCode) (i : ℕ) → i < length found
    → map broken_rule_of (take (i + 1) found) ≡ map broken_rule_of (take i found) ++ (broken_rule_of (slice_index_or found i none) ∷ [])
one_longer found i low = ap (map broken_rule_of) (take_more found i none low) ∙ map-append broken_rule_of (take i found) (slice_index_or found i none ∷ [])

pub loop-finding-init : goal.loop-finding-init
loop-finding-init c = none_told c.args.scene.now.task.now c.args.scene.now.cert.now (map broken_rule_of c.args.found.now) c.args.page.now

pub loop-finding-preserved : goal.loop-finding-preserved
loop-finding-preserved c =
    let plan = c.args.scene.now.task.now in
    let bounds = c.args.scene.now.cert.now in
    let found = c.args.found.now in
    let all = map broken_rule_of found in
    let i = c.loop-finding.finding-index in
    let finding = broken_rule_of (slice_index_or found i none) in
    let so_far = c.loop-finding.invariant in
    let before = map broken_rule_of (take i found) in
    let last = option_map broken_rule_of c.loop-finding.last in
    let next = option_map broken_rule_of c.add_next-last.result in
    let step = c.add_next-last.ensures before so_far.told so_far.each in
    let told = one_told plan bounds all c.args.page.now c.loop-finding.page c.add_next-last.new.page last next before finding so_far step in
    subst (λ (fs : List BrokenRule). ToldSoFar plan bounds all c.args.page.now c.add_next-last.new.page next fs)
    (sym (one_longer found i c.loop-finding-test.true)) told
