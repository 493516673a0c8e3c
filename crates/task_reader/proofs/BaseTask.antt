-- The document of the base task.
use Rattle.std.proofs.Common.{◌≡◌, ℕ, List, [], ◌∷◌, ◌++◌, codes, refl, Some}
use Rattle.std.specs.Prelude.{pos}
use Rattle.toml.specs.Data.{Data, string, integer, array, table, Items, no_items, item, Members, no_members, member}
use Rattle.toml.specs.Parse.{parse_document}
use Rattle.toml.proofs.OnLiterals.{toml_on_literals}

abbrev pub base_text : List ℕ
base_text = codes "node = [\n {path=\"/work\", kind=\"dir\"},\n {path=\"/work/in\", kind=\"file\", content=\"AB\"},\n" ++
    codes " {path=\"/work/out\", kind=\"dir\"},\n {path=\"/work/same\", kind=\"link\", target=\"out/../in\"},\n" ++
    codes " {path=\"/work/up\", kind=\"link\", target=\"../etc/passwd\"},\n {path=\"/work/abs\", kind=\"link\", target=\"/etc/passwd\"},\n" ++
    codes " {path=\"/workshop\", kind=\"dir\"},\n {path=\"/workshop/x\", kind=\"file\", content=\"w\"},\n {path=\"/log\", kind=\"dir\"},\n" ++
    codes " {path=\"/etc\", kind=\"dir\"},\n {path=\"/etc/passwd\", kind=\"file\", content=\"x\"}]\ngrant = [\n" ++
    codes " {name=\"work\", path=\"/work\", ops=[\"look\",\"read\"]},\n" ++
    codes " {name=\"log\", path=\"/log\", ops=[\"create\",\"write\",\"remove\"]}]\nprocess = [{program=\"main\", fd=[\n" ++
    codes " {number=0, path=\"/work\"}, {number=1, path=\"/log\"}]}]\n[[program]]\nname = \"main\"\ncode = '''\nhalt\n'''\n"

abbrev pub directory : List ℕ → Data
directory path = table (member (codes "kind") (string (codes "dir")) (member (codes "path") (string path) no_members))

abbrev pub file : List ℕ → List ℕ → Data
file path content =
    table (member (codes "content") (string content) (member (codes "kind") (string (codes "file")) (member (codes "path") (string path) no_members)))

abbrev pub link : List ℕ → List ℕ → Data
link path target =
    table (member (codes "kind") (string (codes "link")) (member (codes "path") (string path) (member (codes "target") (string target) no_members)))

abbrev pub words : List (List ℕ) → Items
words [] = no_items
words (word ∷ rest) = item (string word) (words rest)

abbrev pub list : List Data → Items
list [] = no_items
list (d ∷ ds) = item d (list ds)

abbrev pub grant : List ℕ → List ℕ → List (List ℕ) → Data
grant name path operations =
    table (member (codes "name") (string name) (member (codes "ops") (array (words operations)) (member (codes "path") (string path) no_members)))

abbrev pub on : ℕ → List ℕ → Data
on number path = table (member (codes "number") (integer (pos number)) (member (codes "path") (string path) no_members))

abbrev pub process : List Data → Data
process descriptors =
    table (member (codes "fd") (array (list descriptors)) (member (codes "program") (string (codes "main")) no_members))

abbrev pub program : List ℕ → List ℕ → Data
program name text = table (member (codes "code") (string text) (member (codes "name") (string name) no_members))

abbrev pub base_nodes : List Data
base_nodes =
    directory (codes "/work") ∷ file (codes "/work/in") (codes "AB") ∷ directory (codes "/work/out")
    ∷ link (codes "/work/same") (codes "out/../in") ∷ link (codes "/work/up") (codes "../etc/passwd")
    ∷ link (codes "/work/abs") (codes "/etc/passwd") ∷ directory (codes "/workshop") ∷ file (codes "/workshop/x") (codes "w")
    ∷ directory (codes "/log") ∷ directory (codes "/etc") ∷ file (codes "/etc/passwd") (codes "x") ∷ []

abbrev pub base_grants : List Data
base_grants =
    grant (codes "work") (codes "/work") (codes "look" ∷ codes "read" ∷ [])
    ∷ grant (codes "log") (codes "/log") (codes "create" ∷ codes "write" ∷ codes "remove" ∷ []) ∷ []

abbrev pub base_process : Data
base_process = process (on 0 (codes "/work") ∷ on 1 (codes "/log") ∷ [])

abbrev pub base_program : Data
base_program = program (codes "main") (codes "halt\n")

abbrev pub document : List Data → List Data → List Data → List Data → Members
document nodes grants processes programs =
    member (codes "grant") (array (list grants))
    (member (codes "node") (array (list nodes))
    (member (codes "process") (array (list processes)) (member (codes "program") (array (list programs)) no_members)))

abbrev pub base_document : Members
base_document = document base_nodes base_grants (base_process ∷ []) (base_program ∷ [])

pub base_is_read : parse_document base_text ≡ Some base_document
unfolding toml_on_literals
base_is_read = refl
