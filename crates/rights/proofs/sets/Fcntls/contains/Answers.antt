use Rattle.std.proofs.Common.{sym, ◌∙◌}
use Rattle.rights.proofs.Subsets.{is_within-members, is_within-from_members}
use Rattle.rights.proofs.sets.Fcntls.contains.Goals as goal

pub returns-clause-members : goal.returns-clause-members
returns-clause-members c = (
  λ yes. is_within-members _ _ (sym (c.contains.ensures tt) ∙ yes),
  λ members. c.contains.ensures tt ∙ is_within-from_members _ _ members,
)
