use Rattle.std.proofs.Common.{◌≡◌}
use Rattle.std.specs.Prelude.{IfSome}
use Rattle.lookup.specs.Answers.{Follow, Keep, Found_node}
use Rattle.lookup.specs.Looks.{start_place, walk_of}
use Rattle.lookup.specs.Promises.{IsBelow, IsBeneath, IsFollowed, IsFreeName, IsFindingThere, IsUnderName, MayBeMade}
use Rattle.lookup.specs.Views.{answer_of, last_of, way_of}
use Rattle.lookup.proofs.Answered.{answers_exactly, answers_related, answers_only, found}
use Rattle.lookup.proofs.PlaceLaws.{looks_there, looks_beneath, kept_below, kept_named, kept_free, kept_may_be_made, followed_good}
use Rattle.lookup.proofs.AlongLaws.{looks_along}
use Rattle.lookup.proofs.lookups.find.Goals as goal

pub returns-clause-exact : goal.returns-clause-exact
returns-clause-exact g c = answers_exactly (g.T.Tree.nodes c.args.tree.now) c.args.start c.args.path.now (way_of c.args.way)
    (last_of c.args.last) c.walked.ensures.tree c.walked.result c.walked.ensures.exact

pub returns-clause-related : goal.returns-clause-related
returns-clause-related g c = answers_related (g.T.Tree.nodes c.args.tree.now) c.args.start c.args.path.now (way_of c.args.way)
    (last_of c.args.last) c.walked.ensures.tree c.walked.result c.walked.ensures.exact

pub returns-clause-only : goal.returns-clause-only
returns-clause-only g c = answers_only (g.T.Tree.nodes c.args.tree.now) c.args.start c.args.path.now (way_of c.args.way)
    (last_of c.args.last) c.walked.ensures.tree c.walked.result c.walked.ensures.exact

pub returns-clause-there : goal.returns-clause-there
returns-clause-there g c = found (g.T.Tree.nodes c.args.tree.now) c.args.start c.args.path.now (way_of c.args.way)
    (last_of c.args.last) c.walked.ensures.tree c.walked.result c.walked.ensures.exact (IsFindingThere (g.T.Tree.nodes c.args.tree.now))
    (looks_there (g.T.Tree.nodes c.args.tree.now) c.args.start c.args.path.now (way_of c.args.way) (last_of c.args.last))

pub returns-clause-beneath : goal.returns-clause-beneath
returns-clause-beneath g c = found (g.T.Tree.nodes c.args.tree.now) c.args.start c.args.path.now (way_of c.args.way)
    (last_of c.args.last) c.walked.ensures.tree c.walked.result c.walked.ensures.exact
    (IsBeneath (g.T.Tree.nodes c.args.tree.now) (start_place (g.T.Tree.nodes c.args.tree.now) c.args.start (way_of c.args.way)))
    (looks_beneath (g.T.Tree.nodes c.args.tree.now) c.args.start c.args.path.now (way_of c.args.way) (last_of c.args.last))

pub returns-clause-below : goal.returns-clause-below
returns-clause-below g c = λ kept.
    let walked : IfSome (answer_of c.walked.result) (λ a. a ≡ walk_of (g.T.Tree.nodes c.args.tree.now) c.args.start c.args.path.now (way_of c.args.way) Keep) = rw kept at c.walked.ensures.exact in
    found (g.T.Tree.nodes c.args.tree.now) c.args.start c.args.path.now (way_of c.args.way) Keep c.walked.ensures.tree c.walked.result walked
    (IsBelow (g.T.Tree.nodes c.args.tree.now) (start_place (g.T.Tree.nodes c.args.tree.now) c.args.start (way_of c.args.way)) c.args.path.now)
    (kept_below (g.T.Tree.nodes c.args.tree.now) c.args.start c.args.path.now (way_of c.args.way) c.walked.ensures.tree)

pub returns-clause-named : goal.returns-clause-named
returns-clause-named g c = λ kept.
    let walked : IfSome (answer_of c.walked.result) (λ a. a ≡ walk_of (g.T.Tree.nodes c.args.tree.now) c.args.start c.args.path.now (way_of c.args.way) Keep) = rw kept at c.walked.ensures.exact in
    found (g.T.Tree.nodes c.args.tree.now) c.args.start c.args.path.now (way_of c.args.way) Keep c.walked.ensures.tree c.walked.result walked
    (IsUnderName (g.T.Tree.nodes c.args.tree.now) c.args.path.now)
    (kept_named (g.T.Tree.nodes c.args.tree.now) c.args.start c.args.path.now (way_of c.args.way) c.walked.ensures.tree)

pub returns-clause-free : goal.returns-clause-free
returns-clause-free g c = λ kept.
    let walked : IfSome (answer_of c.walked.result) (λ a. a ≡ walk_of (g.T.Tree.nodes c.args.tree.now) c.args.start c.args.path.now (way_of c.args.way) Keep) = rw kept at c.walked.ensures.exact in
    found (g.T.Tree.nodes c.args.tree.now) c.args.start c.args.path.now (way_of c.args.way) Keep c.walked.ensures.tree c.walked.result walked
    (IsFreeName (g.T.Tree.nodes c.args.tree.now) c.args.path.now)
    (kept_free (g.T.Tree.nodes c.args.tree.now) c.args.start c.args.path.now (way_of c.args.way) c.walked.ensures.tree)

pub returns-clause-may_be_made : goal.returns-clause-may_be_made
returns-clause-may_be_made g c = λ kept.
    let walked : IfSome (answer_of c.walked.result) (λ a. a ≡ walk_of (g.T.Tree.nodes c.args.tree.now) c.args.start c.args.path.now (way_of c.args.way) Keep) = rw kept at c.walked.ensures.exact in
    found (g.T.Tree.nodes c.args.tree.now) c.args.start c.args.path.now (way_of c.args.way) Keep c.walked.ensures.tree c.walked.result walked
    (MayBeMade c.args.path.now) (kept_may_be_made (g.T.Tree.nodes c.args.tree.now) c.args.start c.args.path.now (way_of c.args.way))

pub returns-clause-followed : goal.returns-clause-followed
returns-clause-followed g c = λ kept.
    let walked : IfSome (answer_of c.walked.result) (λ a. a ≡ walk_of (g.T.Tree.nodes c.args.tree.now) c.args.start c.args.path.now (way_of c.args.way) Follow) = rw kept at c.walked.ensures.exact in
    found (g.T.Tree.nodes c.args.tree.now) c.args.start c.args.path.now (way_of c.args.way) Follow c.walked.ensures.tree c.walked.result walked
    (IsFollowed (g.T.Tree.nodes c.args.tree.now))
    (followed_good (g.T.Tree.nodes c.args.tree.now) c.args.start c.args.path.now (way_of c.args.way) c.walked.ensures.tree c.requires.opened)

pub returns-clause-along : goal.returns-clause-along
returns-clause-along g c = λ n none spells. answers_only (g.T.Tree.nodes c.args.tree.now) c.args.start c.args.path.now (way_of c.args.way)
    (last_of c.args.last) c.walked.ensures.tree c.walked.result c.walked.ensures.exact (Found_node n)
    (looks_along (g.T.Tree.nodes c.args.tree.now) c.args.start c.args.path.now (way_of c.args.way)
    (last_of c.args.last) n c.walked.ensures.tree none spells)
