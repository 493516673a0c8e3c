use Rattle.std.proofs.Common.{◌∙◌, ap, arith, refl}
use Rattle.file_tree.specs.Refusals.{created}
use Rattle.file_tree.specs.Views.{new_kind, new_content}
use Rattle.file_tree.proofs.TreeLaws.{created_length, created_new}
use Rattle.syscalls.proofs.Keeping.{made_is}
use Rattle.syscalls.proofs.Tests.{mapped}
use Rattle.syscalls.proofs.changes.create_node.Goals as goal

pub returns : goal.returns
returns g c =
    let (number, tree) = mapped _ _ c.create.result c.map_err.result c.map_err.ensures.cases c.map_err.ensures.variant c.in_ok-n.was c.create.ensures.ok in
    let t = g.T.Tree.nodes c.args.tree.now in
    let d = c.args.dir in
    let name = c.args.name.now in
    let kind = new_kind c.args.what in
    record {
      number = number;
      there = rw (number, tree, created_length t d name kind (new_content c.args.what)) (omega arith);
      place = rw (number, tree, created_new t d name kind (new_content c.args.what)) refl;
      tree = tree ∙ ap (created t d name kind) c.requires.empty ∙ made_is t d name kind;
      only_memory = tt;
    }
