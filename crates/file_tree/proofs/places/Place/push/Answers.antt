use Rattle.std.proofs.Common.{rules}
use Rattle.file_tree.proofs.PlaceNames.{pushed}
use Rattle.file_tree.proofs.places.Place.push.Goals as goal

pub returns-clause-ok : goal.returns-clause-ok
returns-clause-ok c = rw (← c.self.view_is) (pushed c.self.inside.text.items c.extend_from_slice.new.self.items c.args.name.now (search rules) c.requires)
