-- What the code's orders ask for, and what its reading of words comes to.
use Rattle.std.specs.Prelude.{ℕ, List, Result, Ok, Err}
use Rattle.command_line.specs.declared.faults.WordsFault.{WordsFault}
use Rattle.command_line.specs.declared.faults.WordsFault.TheVariants.{Words, Memory}
use Rattle.command_line.specs.declared.orders.Order.{Order as OrderCode}
use Rattle.command_line.specs.declared.orders.Order.TheVariants as code
use Rattle.command_line.specs.Orders.{Order, Example, Run, Check, Report, Search, Expand, AsksFor}

abbrev pub order_of : OrderCode → Order
order_of code.Example = Example
order_of (code.Run task schedule) = Run task.now schedule.now
order_of (code.Check task cert) = Check task.now cert.now
order_of (code.Report task cert) = Report task.now cert.now
order_of (code.Search task) = Search task.now
order_of (code.Expand task cert) = Expand task.now cert.now

-- The words ask for the order that is read, and for none where the fault is theirs. Want of memory may come in place of
-- any answer.
abbrev pub ReadsWords : Result OrderCode WordsFault → List (List ℕ) → Type 0
ReadsWords (Ok order) words = AsksFor words (order_of order)
ReadsWords (Err Words) words = (order : Order) → AsksFor words order → ⊥
ReadsWords (Err Memory) words = Unit {0}
