use Rattle.std.proofs.Common.{◌≡◌, true, false, ap, sym, ◌∙◌, refl}
use Rattle.std.specs.Prelude.{Bool, ◌&&◌}
use Rattle.std.specs.List.{list_all}
use Rattle.file_tree.specs.Places.{is_file_name}
use Rattle.file_tree.specs.Nodes.{Node}
use Rattle.file_tree.specs.Views.{kind_of}
use Rattle.file_tree.specs.WellFormed.{is_byte, is_content, is_within_limits}
use Rattle.task.specs.Views.{node_of}
use Rattle.task_reader.proofs.limits.is_within_limits.Goals as goal

both : (names content : Bool) → (names && content && true) ≡ (names && content)
both true true = refl
both true false = refl
both false content = refl

limits-are : (m : Node) (names content : Bool) → list_all is_file_name m.place ≡ names → is_content m.kind m.content ≡ content →
    list_all is_byte m.content ≡ true → is_within_limits m ≡ (names && content)
unfolding is_within_limits
limits-are m names content n c b = rw (n, c, b) (both names content)

pub returns-then-are_names : goal.returns-then-are_names
returns-then-are_names c =
    let names = sym c.are_names.ensures ∙ c.if-are_names.true in
    let content = ap (is_content (kind_of c.args.node.now.kind)) (sym c.deref.ensures.value) ∙ sym c.is_content-content.ensures.value in
    let bytes = ap (list_all is_byte) (sym c.deref.ensures.value) ∙ c.is_content-content.ensures.bytes in
    sym (limits-are (node_of c.args.node.now) _ _ names content bytes)

pub returns-else-are_names : goal.returns-else-are_names
returns-else-are_names c =
    let names = sym c.are_names.ensures ∙ c.if-are_names.false in
    let content = ap (is_content (kind_of c.args.node.now.kind)) (sym c.deref.ensures.value) ∙ sym c.is_content-content.ensures.value in
    let bytes = ap (list_all is_byte) (sym c.deref.ensures.value) ∙ c.is_content-content.ensures.bytes in
    c.if-are_names.false ∙ sym (limits-are (node_of c.args.node.now) _ _ names content bytes)
