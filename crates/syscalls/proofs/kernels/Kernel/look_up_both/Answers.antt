use Rattle.std.proofs.Common.{◌≡◌, Some, None, ap, ◌∙◌}
use Rattle.lookup.specs.Answers.{Beneath, Keep}
use Rattle.lookup.specs.UnderWay.{IsUnderWay}
use Rattle.lookup.proofs.UnderWay.{under_way_in_tree}
use Rattle.process.specs.Views.{walking_in}
use Rattle.kernel.specs.Calls.{looks_twice, existing, walked_both}
use Rattle.syscalls.specs.Views.{world_with}
use Rattle.syscalls.proofs.Walked.{both_first, looks_none, looks_one, looks_two, renames_as, two_are}
use Rattle.syscalls.proofs.kernels.Kernel.look_up_both.Goals as goal

pub returns-in-None-clause-leads : goal.returns-in-None-clause-leads
returns-in-None-clause-leads g c = λ s same f processes p e.
    let w = world_with (g.T.Tree.nodes c.args.self.now.tree.now) f processes in
    let is : s.walk ≡ None = same ∙ ap walking_in c.in-None.is in
    renames_as (λ rest. looks_twice w p s e c.args.start c.args.path.now c.args.target c.args.new_path.now rest)
    (both_first w p s e c.args.start c.args.path.now c.args.target c.args.new_path.now) existing c.step_both_first.result
    (λ rest. looks_none w p s e c.args.start c.args.path.now c.args.target c.args.new_path.now rest is) (c.step_both_first.ensures.leads s f processes p e)

pub returns-in-One-clause-leads : goal.returns-in-One-clause-leads
returns-in-One-clause-leads g c = λ s same f processes p e.
    let w = world_with (g.T.Tree.nodes c.args.self.now.tree.now) f processes in
    let is = same ∙ ap walking_in (c.in-Some.is ∙ ap Some c.in-One.is) in
    renames_as (λ rest. looks_twice w p s e c.args.start c.args.path.now c.args.target c.args.new_path.now rest)
    (both_first w p s e c.args.start c.args.path.now c.args.target c.args.new_path.now) existing c.step_both_first-in-One.result
    (λ rest. looks_one w p s e c.args.start c.args.path.now c.args.target c.args.new_path.now rest c.in-One.field-0 is) (c.step_both_first-in-One.ensures.leads s f processes p e)

pub step_both-requires-clause-one : goal.step_both-requires-clause-one
step_both-requires-clause-one g c =
    let t = g.T.Tree.nodes c.args.self.now.tree.now in
    under_way_in_tree t c.args.path.now Beneath Keep c.in-Two.one
    (two_are (IsUnderWay t c.args.path.now Beneath Keep) (IsUnderWay t c.args.new_path.now Beneath Keep) c.args.walk c.in-Some.walking c.in-Two.one c.in-Two.other
    c.in-Some.is c.in-Two.is c.requires.under).0

pub step_both-requires-clause-other : goal.step_both-requires-clause-other
step_both-requires-clause-other g c =
    let t = g.T.Tree.nodes c.args.self.now.tree.now in
    under_way_in_tree t c.args.new_path.now Beneath Keep c.in-Two.other
    (two_are (IsUnderWay t c.args.path.now Beneath Keep) (IsUnderWay t c.args.new_path.now Beneath Keep) c.args.walk c.in-Some.walking c.in-Two.one c.in-Two.other
    c.in-Some.is c.in-Two.is c.requires.under).1

pub returns-clause-leads : goal.returns-clause-leads
returns-clause-leads g c = λ s same f processes p e.
    let w = world_with (g.T.Tree.nodes c.args.self.now.tree.now) f processes in
    let is = same ∙ ap walking_in (c.in-Some.is ∙ ap Some c.in-Two.is) in
    renames_as (λ rest. looks_twice w p s e c.args.start c.args.path.now c.args.target c.args.new_path.now rest)
    (λ rest. walked_both w p s e rest c.in-Two.one c.in-Two.other) existing c.step_both.result
    (λ rest. looks_two w p s e c.args.start c.args.path.now c.args.target c.args.new_path.now rest c.in-Two.one c.in-Two.other is) (c.step_both.ensures.leads s f processes p e)

pub returns-clause-found : goal.returns-clause-found
returns-clause-found g c =
    let t = g.T.Tree.nodes c.args.self.now.tree.now in
    let under = two_are (IsUnderWay t c.args.path.now Beneath Keep) (IsUnderWay t c.args.new_path.now Beneath Keep) c.args.walk c.in-Some.walking c.in-Two.one c.in-Two.other
    c.in-Some.is c.in-Two.is c.requires.under in
    c.step_both.ensures.found c.args.path.now c.args.new_path.now c.requires.tree under.0 under.1
