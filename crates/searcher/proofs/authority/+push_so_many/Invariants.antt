use Rattle.searcher.proofs.authority.+push_so_many.Given as goal

abbrev pub decreases-push_so_many : goal.decreases-push_so_many
decreases-push_so_many l = l.left
