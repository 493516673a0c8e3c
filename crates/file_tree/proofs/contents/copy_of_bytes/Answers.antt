use Rattle.file_tree.proofs.Tried.{bytes_fit}
use Rattle.file_tree.proofs.contents.copy_of_bytes.Goals as goal

pub returns-clause-bytes : goal.returns-clause-bytes
returns-clause-bytes c = bytes_fit c.args.bytes.now c.type_inv.bytes
