use Rattle.std.proofs.Common.{refl, subst, sym, ap, ◌∙◌}
use Rattle.lookup.specs.Answers.{Beneath, Keep}
use Rattle.lookup.specs.Looks.{lookup_fault}
use Rattle.lookup.specs.UnderWay.{IsUnderWay}
use Rattle.lookup.specs.Views.{fault_of}
use Rattle.lookup.specs.Walks.{begun}
use Rattle.lookup.proofs.UnderWay.{begun_under_way}
use Rattle.kernel.specs.Calls.{existing, or_fails, walked_both}
use Rattle.syscalls.specs.AnswerViews.{Refuses}
use Rattle.syscalls.specs.Views.{world_with}
use Rattle.syscalls.proofs.Walked.{renames_as, told_lost}
use Rattle.syscalls.proofs.kernels.Kernel.step_both_first.Goals as goal

pub returns-in-Err-clause-leads : goal.returns-in-Err-clause-leads
returns-in-Err-clause-leads g c = λ s f processes p e rest tells.
    told_lost c.refusal_of.result (lookup_fault (g.T.Tree.nodes c.args.self.now.tree.now) c.args.start c.args.path.now Beneath Keep) (fault_of c.in-Err.fault) _ c.refusal_of.ensures
    c.in-Err.ensures.refused

pub returns-in-Err-begin-clause-leads : goal.returns-in-Err-begin-clause-leads
returns-in-Err-begin-clause-leads g c = λ s f processes p e rest tells.
    let refused = c.refusal_of-in-Err-begin.result in
    let other = or_fails (lookup_fault (g.T.Tree.nodes c.args.self.now.tree.now) c.args.target c.args.new_path.now Beneath Keep) _ in
    subst (λ fault. Refuses refused (or_fails fault other)) (sym c.in-Ok.ensures.allowed)
    (told_lost refused (lookup_fault (g.T.Tree.nodes c.args.self.now.tree.now) c.args.target c.args.new_path.now Beneath Keep) (fault_of c.in-Err-begin.fault) _ c.refusal_of-in-Err-begin.ensures
    c.in-Err-begin.ensures.refused)

pub returns-clause-leads : goal.returns-clause-leads
returns-clause-leads g c = λ s f processes p e.
    let t = g.T.Tree.nodes c.args.self.now.tree.now in
    let w = world_with t f processes in
    let one = begun c.args.start c.args.path.now Beneath Keep in
    let other = begun c.args.target c.args.new_path.now Beneath Keep in
    renames_as (λ rest. or_fails (lookup_fault t c.args.start c.args.path.now Beneath Keep)
    (or_fails (lookup_fault t c.args.target c.args.new_path.now Beneath Keep) (walked_both w p s e rest one other)))
    (λ rest. walked_both w p s e rest c.in-Ok.walk c.in-Ok-begin.walk) existing c.step_both.result
    (λ rest. ap (λ fault. or_fails fault (or_fails (lookup_fault t c.args.target c.args.new_path.now Beneath Keep) (walked_both w p s e rest one other))) c.in-Ok.ensures.allowed
    ∙ ap (λ fault. or_fails fault (walked_both w p s e rest one other)) c.in-Ok-begin.ensures.allowed
    ∙ ap (λ first. walked_both w p s e rest first other) (sym c.in-Ok.ensures.begun)
    ∙ ap (λ second. walked_both w p s e rest c.in-Ok.walk second) (sym c.in-Ok-begin.ensures.begun))
    (c.step_both.ensures.leads s f processes p e)

pub returns-clause-found : goal.returns-clause-found
returns-clause-found g c =
    let t = g.T.Tree.nodes c.args.self.now.tree.now in
    let tree = c.begin.ensures.tree in
    c.step_both.ensures.found c.args.path.now c.args.new_path.now tree
    (subst (IsUnderWay t c.args.path.now Beneath Keep) (sym c.in-Ok.ensures.begun)
    (begun_under_way t c.args.path.now Beneath Keep tree c.args.start c.requires.opened refl c.in-Ok.ensures.allowed))
    (subst (IsUnderWay t c.args.new_path.now Beneath Keep) (sym c.in-Ok-begin.ensures.begun)
    (begun_under_way t c.args.new_path.now Beneath Keep tree c.args.target c.requires.target_opened refl c.in-Ok-begin.ensures.allowed))
