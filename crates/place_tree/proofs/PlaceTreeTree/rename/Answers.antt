use Rattle.file_tree.proofs.KeptByRename.{renamed_is_tree}
use Rattle.file_tree.proofs.Tried.{kept_by}
use Rattle.file_tree.proofs.PlaceTexts.{one_name}
use Rattle.place_tree.proofs.PlaceTreeTree.rename.Goals as goal

pub invariant_of-self : goal.invariant_of-self
invariant_of-self c =
    kept_by _ _ _ _ c.rename_in.result c.self.invariant c.rename_in.ensures.ok c.rename_in.ensures.allowed c.rename_in.ensures.err
    (λ allowed. renamed_is_tree _ _ _ _ c.self.invariant (rw (c.self.view_is, c.number-2.ensures) c.requires.directory) c.requires.name allowed)

pub rename_in-requires-clause-name : goal.rename_in-requires-clause-name
rename_in-requires-clause-name c = one_name c.args.name.now c.requires.name
