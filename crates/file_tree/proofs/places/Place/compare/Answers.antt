use Rattle.std.proofs.Common.{◌≡◌, refl, ◌∙◌}
use Rattle.std.specs.Cmp.Lexicographic.{slice_cmp}
use Rattle.std.specs.Ordering.{nat_cmp}
use Rattle.std.proofs.lemmas.Iterator.Consumers.{YieldsList-from_first}
use Rattle.std.proofs.lemmas.Iterator.Search.{cmp_from_yields_List}
use Rattle.file_tree.proofs.places.Place.compare.Goals as goal

pub returns : goal.returns
returns c =
    cmp_from_yields_List {v = λ name. name.now} (λ x y. y ≡ x) c.names-2.result (slice_cmp nat_cmp) c.cmp.result c.cmp.ensures.ran
    (YieldsList-from_first (λ name. name.now) (λ names. names) c.args.self.now c.names.ensures)
    (λ it is. YieldsList-from_first (λ name. name.now) (λ names. names) c.args.other.now (is ∙ c.names-2.ensures))
    (λ x y. refl)
