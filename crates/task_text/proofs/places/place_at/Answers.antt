use Rattle.std.proofs.Common.{sym}
use Rattle.task_text.proofs.PlaceLaws.{none-before}
use Rattle.task_text.proofs.places.place_at.Goals as goal

pub go_to-requires : goal.go_to-requires
go_to-requires c = sym (none-before c.args.file.now (1, 1))
