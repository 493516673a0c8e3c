use Rattle.std.proofs.Common.{◌∙◌, ◌+◌, ◌*◌, ap, arith, slice_set}
use Rattle.fd_table.specs.EntryViews.{entry_kept}
use Rattle.fd_table.proofs.Padding.{kept_set}
use Rattle.fd_table.proofs.entries.Entries.set.Goals as goal

pub returns : goal.returns
returns c =
    kept_set c.keep.new.kept.items (c.args.p * 16 + c.args.n) c.args.descriptor (omega (arith, c.keep.ensures.enough))
    ∙ ap (λ es. slice_set es (c.args.p * 16 + c.args.n) (entry_kept c.args.descriptor)) (c.keep.ensures.same ∙ c.self.view_is)
