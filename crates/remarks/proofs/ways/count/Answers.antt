use Rattle.std.proofs.Common.{sym}
use Rattle.std.proofs.lemmas.List.{length-map}
use Rattle.instruction_set.specs.Views.{instruction_of}
use Rattle.remarks.proofs.ways.count.Goals as goal

pub returns : goal.returns
returns c = sym (length-map c.args.code.now instruction_of)
