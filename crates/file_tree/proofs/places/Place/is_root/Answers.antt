use Rattle.std.proofs.Common.{ap, ◌∙◌}
use Rattle.std.specs.Prelude.{◌==◌}
use Rattle.file_tree.proofs.PlaceNames.{root-text}
use Rattle.file_tree.proofs.places.Place.is_root.Goals as goal

pub returns : goal.returns
returns c = rw (← c.self.view_is) (c.is_empty.ensures ∙ ap (λ n. n == 0) c.self.inside.text.ok.0 ∙ root-text c.self.inside.text.items c.self.invariant)
