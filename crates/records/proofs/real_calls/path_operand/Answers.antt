use Rattle.std.proofs.Common.{rules}
use Rattle.records.proofs.Within.{text_fits}
use Rattle.records.proofs.real_calls.path_operand.Goals as goal

pub returns-clause-within : goal.returns-clause-within
returns-clause-within c = search (rules, text_fits)
