use Rattle.std.proofs.Common.{◌≡◌, ◌<◌, ◌≤◌, ◌-◌, ◌++◌, List, [], ◌∷◌, Some, length, take, true, sym, subst, ap, ◌∙◌, arith}
use Rattle.std.proofs.lemmas.List.{length-take-le, take-map}
use Rattle.std.proofs.Math.ListN.{length-map}
use Rattle.file_tree.specs.Nodes.{Node, node}
use Rattle.file_tree.specs.Places.{above, at_name}
use Rattle.rights.specs.Limits.{most_nodes}
use Rattle.std.specs.Prelude.{slice_get}
use Rattle.std.specs.Option.{option_copied}
use Rattle.file_tree.proofs.PlaceLaws.{last_named, none_last}
use Rattle.file_tree.specs.WellFormed.{has_directory, is_directory_at}
use Rattle.task.specs.Limits.{can_follow}
use Rattle.task.specs.Views.{node_of, nodes_of}
use Rattle.simulator.specs.Starts.{IsMadeIn}
use Rattle.simulator.proofs.Built.{any_default, can_at, few_nodes, has_holder, has_name, made_in, nodes_more, take_more}
use Rattle.simulator.proofs.building.build_next.Goals as goal

pub directory_near-directory-requires : goal.directory_near-directory-requires
directory_near-directory-requires g c =
    let nodes : List Node = nodes_of c.args.nodes.now in
    let same : node nodes c.args.made ≡ node_of c.index-nodes-made.result = nodes_more node_of c.args.nodes.now c.args.made c.index-nodes-made.result c.requires.within c.index-nodes-made.is in
    (λ i. has_directory (sym (take-map node_of c.args.made c.args.nodes.now) i) (above (sym same i).place))
    ∙ has_holder (take c.args.made nodes) (node nodes c.args.made)
    (can_at nodes c.args.made c.requires.valid c.requires.some
    (subst (λ n. c.args.made < n) (sym (length-map c.args.nodes.now node_of)) c.requires.within))

pub build_node-requires-clause-made : goal.build_node-requires-clause-made
build_node-requires-clause-made g c =
    let nodes : List Node = nodes_of c.args.nodes.now in
    let m : Node = node_of c.index-nodes-made.result in
    let low : c.args.made < length nodes = subst (λ n. c.args.made < n) (sym (length-map c.args.nodes.now node_of)) c.requires.within in
    let same : node nodes c.args.made ≡ m = nodes_more node_of c.args.nodes.now c.args.made c.index-nodes-made.result c.requires.within c.index-nodes-made.is in
    let test : can_follow (take c.args.made nodes) m ≡ true = subst (λ n. can_follow (take c.args.made nodes) n ≡ true) same (can_at nodes c.args.made c.requires.valid c.requires.some low) in
    let few : length nodes ≤ most_nodes = few_nodes nodes c.requires.valid in
    let made : length (take c.args.made nodes) ≡ c.args.made = length-take-le c.args.made nodes (omega arith) in
    let there : is_directory_at (above m.place) (node (take c.args.made nodes) c.directory_near-directory.result) ≡ true =
    (λ i. is_directory_at (above m.place) (node (take-map node_of c.args.made c.args.nodes.now i) c.directory_near-directory.result))
    ∙ c.directory_near-directory.ensures.directory
    in
    let name : slice_get m.place (length m.place - 1) ≡ Some c.in-Some.name.now = sym c.in-Some.ensures in
    let named : at_name (above m.place) c.in-Some.name.now ≡ m.place = last_named m.place c.in-Some.name.now name in
    let number : c.directory_near-directory.result < length c.args.numbers.now =
    (let below : c.directory_near-directory.result < length (take c.args.made c.args.nodes.now) = c.directory_near-directory.ensures.below in let slice : length
    (take c.args.made c.args.nodes.now) ≡ c.args.made = length-take-le c.args.made c.args.nodes.now
    (let w : c.args.made < length c.args.nodes.now = c.requires.within in omega arith) in omega (arith, c.requires.count)) in
    let directory : c.index-numbers-directory.result ≡ c.directory_near-directory.result =
    c.index-numbers-directory.is
    ∙ any_default c.args.numbers.now c.directory_near-directory.result c.index-numbers-directory.result 0 number
    ∙ c.requires.numbers c.directory_near-directory.result number
    in
    subst (λ t. IsMadeIn t c.index-numbers-directory.result c.in-Some.name.now m) (sym c.requires.made)
    (subst (λ d. IsMadeIn (take c.args.made nodes) d c.in-Some.name.now m) (sym directory)
    (made_in (take c.args.made nodes) m c.directory_near-directory.result c.in-Some.name.now (omega arith) test there named))

pub returns-clause-nodes : goal.returns-clause-nodes
returns-clause-nodes g c =
    let nodes : List Node = nodes_of c.args.nodes.now in
    let low : c.args.made < length nodes = subst (λ n. c.args.made < n) (sym (length-map c.args.nodes.now node_of)) c.requires.within in
    let same : node nodes c.args.made ≡ node_of c.index-nodes-made.result = nodes_more node_of c.args.nodes.now c.args.made c.index-nodes-made.result c.requires.within c.index-nodes-made.is in
    c.in_ok-number.ensures.nodes
    ∙ ap (λ t. t ++ node_of c.index-nodes-made.result ∷ []) c.requires.made
    ∙ take_more nodes c.args.made (node_of c.index-nodes-made.result) low same

pub unreachable-requires : goal.unreachable-requires
unreachable-requires g c =
    let nodes : List Node = nodes_of c.args.nodes.now in
    let low : c.args.made < length nodes = subst (λ n. c.args.made < n) (sym (length-map c.args.nodes.now node_of)) c.requires.within in
    let same : node nodes c.args.made ≡ node_of c.index-nodes-made.result = nodes_more node_of c.args.nodes.now c.args.made c.index-nodes-made.result c.requires.within c.index-nodes-made.is in
    has_name nodes c.args.made c.requires.valid c.requires.some low
    (ap (λ (m : Node). m.place) same ∙ none_last c.index-nodes-made.result.place (sym c.name.ensures ∙ ap option_copied c.in_default.is))

pub build_node-requires-clause-there : goal.build_node-requires-clause-there
build_node-requires-clause-there g c =
    let nodes : List Node = nodes_of c.args.nodes.now in
    let within : c.args.made < length c.args.nodes.now = c.requires.within in
    let low : c.args.made < length nodes = subst (λ n. c.args.made < n) (sym (length-map c.args.nodes.now node_of)) within in
    let below : c.directory_near-directory.result < length (take c.args.made c.args.nodes.now) = c.directory_near-directory.ensures.below in
    let slice : length (take c.args.made c.args.nodes.now) ≡ c.args.made = length-take-le c.args.made c.args.nodes.now (omega arith) in
    let made : length (take c.args.made nodes) ≡ c.args.made = length-take-le c.args.made nodes (omega arith) in
    let number : c.directory_near-directory.result < length c.args.numbers.now = omega (arith, c.requires.count) in
    let directory : c.index-numbers-directory.result ≡ c.directory_near-directory.result =
    c.index-numbers-directory.is
    ∙ any_default c.args.numbers.now c.directory_near-directory.result c.index-numbers-directory.result 0 number
    ∙ c.requires.numbers c.directory_near-directory.result number
    in
    subst (λ t. c.index-numbers-directory.result < length t) (sym c.requires.made)
    (subst (λ d. d < length (take c.args.made nodes)) (sym directory) (omega arith))
