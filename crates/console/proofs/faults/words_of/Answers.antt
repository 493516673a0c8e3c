use Rattle.std.proofs.Common.{rules}
use Rattle.std.specs.Fmt.{digits}
use Rattle.console.proofs.faults.words_of.Goals as goal

pub returns-in-Cert-Syntax : goal.returns-in-Cert-Syntax
unfolding digits
returns-in-Cert-Syntax c = search rules

pub returns-in-Cert-Limit : goal.returns-in-Cert-Limit
unfolding digits
returns-in-Cert-Limit c = search rules

pub returns-in-Cert-Order : goal.returns-in-Cert-Order
unfolding digits
returns-in-Cert-Order c = search rules
