-- The entries of the code, and what is kept of them.
use Rattle.std.proofs.Common.{◌≡◌, Option, Some, None, refl}
use Rattle.std.specs.Prelude.{is_some}
use Rattle.fd_table.specs.declared.descriptors.Descriptor.{Descriptor as DescriptorCode}
use Rattle.fd_table.specs.EntryViews.{entry_kept}

pub some_kept : (o : Option DescriptorCode) → is_some (entry_kept o) ≡ is_some o
some_kept None = refl
some_kept (Some d) = refl
