-- What `clap` refuses, or gives no order for, is no right line.
use Rattle.std.proofs.Common.{◌≡◌, ◌∙◌, sym, ap, ℕ, true, false, List}
use Rattle.std.specs.Prelude.{Option, Some, None, Err}
use Rattle.std.specs.List.{list_any}
use Rattle.clap.specs.Words.{App, Row, Text, is_simple, takes, subcommand_of}
use Rattle.command_line.specs.declared.faults.WordsFault.{WordsFault}
use Rattle.command_line.specs.declared.faults.WordsFault.TheVariants.{Words, Memory}
use Rattle.command_line.specs.Commands.{program, parsed_order}
use Rattle.command_line.specs.Orders.{Order, AsksFor, order_words, is_dashed}
use Rattle.command_line.specs.OrderViews.{ReadsWords}
use Rattle.command_line.proofs.Lines.{program_is_simple, takes_line, gives_line}

undashed : (words : List (List ℕ)) (order : Order) → AsksFor words order → list_any is_dashed (order_words order) ≡ false
undashed words order asked = sym (ap (list_any is_dashed) asked.line) ∙ asked.undashed

pub taken : (words : List (List ℕ)) (order : Order) → AsksFor words order → takes program words ≡ true
taken words order asked = ap (takes program) asked.line ∙ takes_line order (undashed words order asked)

pub given : (words : List (List ℕ)) (order : Order) → AsksFor words order → parsed_order (subcommand_of program words) ≡ Some order
given words order asked =
    ap (λ (line : List (List ℕ)). parsed_order (subcommand_of program line)) asked.line
    ∙ gives_line order (undashed words order asked)

-- `clap` fails on a line that it takes for want of memory alone.
pub failed : (fault : WordsFault) (words : List (List ℕ)) → (takes program words ≡ true → fault ≡ Memory) → ReadsWords (Err fault) words
failed Memory words when = tt
failed Words words when = λ order asked. let e : Words ≡ Memory = when (taken words order asked) in absurd (cc)

-- What the parse of a right line found is its order.
pub found : {X : Type 0} (app : App) (words : List (List ℕ)) (rows : Option (Text × List Row)) → app ≡ program →
    (is_simple app ≡ true → X × (rows ≡ subcommand_of app words)) → (order : Order) → AsksFor words order → parsed_order rows ≡ Some order
found app words rows is parsed order asked =
    ap parsed_order ((parsed (ap is_simple is ∙ program_is_simple)).1 ∙ ap (λ (a : App). subcommand_of a words) is)
    ∙ given words order asked

-- And the words are the line of what was found.
pub line_found : (words : List (List ℕ)) (rows : Option (Text × List Row)) (order other : Order) → Some order ≡ parsed_order rows →
    parsed_order rows ≡ Some other → AsksFor words other → words ≡ order_words order
line_found words rows order other is found asked = let same : other ≡ order = cc in asked.line ∙ ap order_words same

-- So something is found.
pub none_found : (rows : Option (Text × List Row)) (order : Order) → None ≡ parsed_order rows → parsed_order rows ≡ Some order → ⊥
none_found rows order none is = cc
