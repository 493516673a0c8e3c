-- The program's commands, as `clap` is told them, and the order that a parse of them gives.
use Rattle.std.specs.Prelude.{ℕ, true, List, codes, Option, Some, None, option_map, option_and_then, if◌then◌else◌}
use Rattle.std.specs.Str.{bytes_eq}
use Rattle.clap.specs.Words.{App, Row, Rule, first_of, new_app, new_rule, with_rule, with_subcommand}
use Rattle.command_line.specs.Orders.{Order, Example, Run, Check, Report, Search, Expand}

-- an argument that has to be there
abbrev pub required_rule : List ℕ → Rule
required_rule name = record (new_rule name) { required = true }

-- a command without help
abbrev pub command_app : List ℕ → App
command_app name =
    let app = new_app name in
    record app { top = record app.top { disable_help_flag = true } }

-- a command of one word, which has to be there
abbrev pub command_of_one : List ℕ → List ℕ → App
command_of_one name first = with_rule (command_app name) (required_rule first)

-- a command of two words, each of which has to be there
abbrev pub command_of_two : List ℕ → List ℕ → List ℕ → App
command_of_two name first second = with_rule (command_of_one name first) (required_rule second)

-- no help, no version, and no word for the program's own name
abbrev pub bare_program : App
bare_program =
    let app = new_app (codes "capcheck") in
    record app {
      top =
          record app.top {
            no_binary_name = true;
            disable_help_flag = true;
            disable_version_flag = true;
            disable_help_subcommand = true;
          };
    }

-- with no command the example, and the commands `run`, `check`, `report`, `search` and `expand`
abbrev pub program : App
program =
    with_subcommand
    (with_subcommand
    (with_subcommand
    (with_subcommand
    (with_subcommand bare_program (command_of_two (codes "run") (codes "TASK") (codes "SCHEDULE")).top)
    (command_of_two (codes "check") (codes "TASK") (codes "CERT")).top)
    (command_of_two (codes "report") (codes "TASK") (codes "CERT")).top)
    (command_of_one (codes "search") (codes "TASK")).top)
    (command_of_two (codes "expand") (codes "TASK") (codes "CERT")).top

-- the order of a command with these values
abbrev pub command_order : List ℕ → List Row → List ℕ → Option Order
command_order name values task =
    if bytes_eq name (codes "run") then option_map (λ schedule. Run task schedule) (first_of (codes "SCHEDULE") values)
    else (if bytes_eq name (codes "check") then option_map (λ cert. Check task cert) (first_of (codes "CERT") values)
    else (if bytes_eq name (codes "report") then option_map (λ cert. Report task cert) (first_of (codes "CERT") values)
    else (if bytes_eq name (codes "search") then Some (Search task)
    else (if bytes_eq name (codes "expand") then option_map (λ cert. Expand task cert) (first_of (codes "CERT") values) else None))))

abbrev pub named_order : List ℕ → List Row → Option Order
named_order name values = option_and_then (command_order name values) (first_of (codes "TASK") values)

abbrev pub parsed_order : Option (List ℕ × List Row) → Option Order
parsed_order None = Some Example
parsed_order (Some command) = named_order command.0 command.1
