use Rattle.std.proofs.Common.{◌+◌, ◌<◌, ◌^◌, length, arith, rules}
use Rattle.texts.proofs.LineLaws.{few-lines}
use Rattle.texts.proofs.lines.Lines.new.Goals as goal

pub returns-clause-few : goal.returns-clause-few
returns-clause-few c =
    let text = c.args.text.now in
    let few = few-lines text in
    let bound : length text + 1 < 2 ^ 64 = search rules in
    omega (arith, few, bound)
