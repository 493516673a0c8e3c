use Rattle.std.proofs.Common.{List, [], ◌∷◌, map, ap, sym, ◌∙◌}
use Rattle.instruction_set.specs.Views.{code_of}
use Rattle.remarks.specs.declared.warnings.Difference.{Difference}
use Rattle.remarks.specs.declared.warnings.Difference.TheVariants as variants
use Rattle.remarks.specs.RemarkViews.{bounds_of, difference_of}
use Rattle.remarks.specs.Warnings.{differs_at}
use Rattle.remarks.proofs.Lists.{filtered_map}
use Rattle.remarks.proofs.bounded.Bounded.differences_at.Goals as goal

abbrev all_differences : List Difference
all_differences =
    variants.AbsolutePath ∷ variants.WayOut ∷ variants.LastLink ∷ variants.CommandsGone ∷ variants.NoNumberLeft ∷ variants.OneNumberLeft
    ∷ variants.UnlistedLook ∷ []

pub returns : goal.returns
returns c =
    let bounded = c.args.self.now in
    ap (map difference_of) c.in_ok-found.ensures
    ∙ sym (filtered_map (λ d. differs_at c.args.task.now (code_of bounded.code.now) (bounds_of bounded.bounds.items) d c.args.point) difference_of all_differences)
