use Rattle.file_tree.proofs.KeptByCreate.{created_is_tree}
use Rattle.file_tree.proofs.Tried.{kept_by_create, new_fits}
use Rattle.file_tree.proofs.PlaceTexts.{one_name}
use Rattle.place_tree.proofs.PlaceTreeTree.create.Goals as goal

pub invariant_of-self : goal.invariant_of-self
invariant_of-self c =
    kept_by_create _ _ _ _ _ _ c.create_in.result c.self.invariant c.create_in.ensures.ok c.create_in.ensures.allowed c.create_in.ensures.bytes c.create_in.ensures.err
    (λ allowed bytes. created_is_tree _ _ _ _ _ c.self.invariant (rw (c.self.view_is, c.number.ensures) c.requires.directory) c.requires.name (new_fits c.args.what c.requires.target) bytes allowed)

pub create_in-requires-clause-name : goal.create_in-requires-clause-name
create_in-requires-clause-name c = one_name c.args.name.now c.requires.name
