use Rattle.std.proofs.Common.{sym, subst, refl, ap, ◌∙◌}
use Rattle.std.specs.Prelude.{Err}
use Rattle.fd_table.specs.Kept.{open_files}
use Rattle.lookup.specs.Answers.{Beneath, Last}
use Rattle.lookup.specs.Views.{found_of}
use Rattle.lookup.specs.Walks.{first_handled, handled}
use Rattle.process.specs.State.{One}
use Rattle.process.specs.Views.{walking_in}
use Rattle.kernel.specs.Calls.{answer, last_if, looks, opened, resumed_one, walked}
use Rattle.syscalls.specs.AnswerViews.{Finds, Meets, Refuses, state_with, world_at}
use Rattle.syscalls.proofs.Finding.{handed_on, refused_look}
use Rattle.syscalls.proofs.kernels.Kernel.open_beneath.Goals as goal

pub returns-in_err-beneath : goal.returns-in_err-beneath
unfolding answer
returns-in_err-beneath g c = λ processes e same.
    handed_on c.from_residual.result c.in_err-beneath.field-0.0 (world_at g.T.Tree.nodes c.args.self processes) _ _ c.from_residual.ensures.1 (c.in_err-beneath.ensures.passes _)

pub returns-in_err-dir : goal.returns-in_err-dir
unfolding answer
returns-in_err-dir g c = λ processes e same.
    let w = world_at g.T.Tree.nodes c.args.self processes in
    handed_on c.from_residual-in_err-dir.result c.in_err-dir.field-0.0 w _ _ c.from_residual-in_err-dir.ensures.1
    (subst (Refuses c.in_err-dir.field-0.0) (sym (c.in_ok-beneath.ensures.passes _))
    (c.in_err-dir.ensures.passes processes c.args.self.caller.number (state_with c.args.self.caller c.args.walk) e _))

pub returns-in_err-found : goal.returns-in_err-found
unfolding answer looks
returns-in_err-found g c = λ processes e same.
    let t = g.T.Tree.nodes c.args.self.tree.now in
    let w = world_at g.T.Tree.nodes c.args.self processes in
    let p = c.args.self.caller.number in
    let s = state_with c.args.self.caller c.args.walk in
    let how = c.in_ok-beneath.beneath.how in
    let dir = c.in_ok-dir.dir in
    let path = c.args.path.now in
    let event = λ (last : Last). resumed_one (walking_in c.args.walk) (first_handled t dir path Beneath last) (handled t) in
    handed_on c.from_residual-in_err-found.result c.in_err-found.field-0.0 w _ _ c.from_residual-in_err-found.ensures.1
    (subst (Refuses c.in_err-found.field-0.0) (sym (c.in_ok-beneath.ensures.passes _ ∙ c.in_ok-dir.ensures.passes processes p s e _))
    (refused_look c.in_err-found.field-0.0 (event (last_if c.args.flags.create)) (opened w p s e c.args.flags how.rights.0 how.fcntls.0 path) (λ fault. refl)
    (subst (λ (last : Last). Finds (event last) (Err c.in_err-found.field-0.0)) c.last_if.ensures c.in_err-found.ensures.finds)))

pub returns : goal.returns
unfolding answer looks
returns g c = λ processes e same.
    let t = g.T.Tree.nodes c.args.self.tree.now in
    let w = world_at g.T.Tree.nodes c.args.self processes in
    let p = c.args.self.caller.number in
    let s = state_with c.args.self.caller c.args.walk in
    let how = c.in_ok-beneath.beneath.how in
    let dir = c.in_ok-dir.dir in
    let path = c.args.path.now in
    let found = found_of c.in_ok-found.found in
    let event = λ (last : Last). resumed_one (walking_in c.args.walk) (first_handled t dir path Beneath last) (handled t) in
    let after = Meets w p (g.T.Tree.nodes c.open_found.new.self.0) (open_files c.open_found.new.self.1.0) c.open_found.result in
    subst after
    (sym (c.in_ok-beneath.ensures.passes _ ∙ c.in_ok-dir.ensures.passes processes p s e _
    ∙ ap (walked One (opened w p s e c.args.flags how.rights.0 how.fcntls.0 path)) (ap event (sym c.last_if.ensures) ∙ c.in_ok-found.ensures.finds)))
    (subst (λ f. after (opened w p s e f how.rights.0 how.fcntls.0 path found)) c.in_ok-beneath.ensures.flags (c.open_found.ensures s processes e same))
