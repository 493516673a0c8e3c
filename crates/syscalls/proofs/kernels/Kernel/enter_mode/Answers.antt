use Rattle.std.proofs.Common.{true, refl, []}
use Rattle.fd_table.specs.Kept.{open_files}
use Rattle.kernel.specs.Answers.{same as unchanged}
use Rattle.kernel.specs.Calls.{answer}
use Rattle.kernel.specs.Changes.{files_after}
use Rattle.syscalls.proofs.Keeping.{alike_refl, any_choice, meets}
use Rattle.syscalls.proofs.kernels.Kernel.enter_mode.Goals as goal

pub returns : goal.returns
unfolding answer files_after
returns g c = λ processes e same. meets c.besides.ensures (record {
  change = record unchanged { enters = true };
  effects = [];
  choice = any_choice;
  is = refl;
  prints = refl;
  suits = tt;
  makes = record { process = λ s value. refl; children = λ s. refl };
  tree = refl;
  files = alike_refl (open_files c.args.self.files.now) c.requires.idle;
})
