use Rattle.std.specs.Prelude.{string_bytes}
use Rattle.answers.proofs.LearntLaws.{all_read}
use Rattle.answers.proofs.learning.calls_of_files.Goals as goal

pub returns : goal.returns
returns g c = all_read _ string_bytes c.args.names.now c.loop-name.name-index _ c.loop-name-test.false c.loop-name.invariant.read
