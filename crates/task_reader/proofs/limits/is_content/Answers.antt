use Rattle.file_tree.proofs.Tried.{bytes_fit}
use Rattle.task_reader.proofs.limits.is_content.Goals as goal

pub returns-in-File-clause-bytes : goal.returns-in-File-clause-bytes
returns-in-File-clause-bytes c = bytes_fit c.args.content.now c.type_inv.content

pub returns-in-Dir-clause-bytes : goal.returns-in-Dir-clause-bytes
returns-in-Dir-clause-bytes c = bytes_fit c.args.content.now c.type_inv.content

pub returns-in-Link-clause-bytes : goal.returns-in-Link-clause-bytes
returns-in-Link-clause-bytes c = bytes_fit c.args.content.now c.type_inv.content
