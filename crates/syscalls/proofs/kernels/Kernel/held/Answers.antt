use Rattle.std.proofs.Common.{ap, refl, sym, ◌∙◌}
use Rattle.fd_table.specs.Filled.{by_entry}
use Rattle.fd_table.specs.Kept.{open_files}
use Rattle.syscalls.specs.AnswerViews.{held_seen}
use Rattle.syscalls.proofs.kernels.Kernel.held.Goals as goal

pub returns-in-Some-clause-held : goal.returns-in-Some-clause-held
returns-in-Some-clause-held g c =
    let k = c.args.self.now in
    let held = c.in-Some.held in
    let is = sym c.in-Some.ensures.entry in
    record {
      entry = ap ((open_files k.files.now).table k.caller.number) c.in-Some.ensures.number ∙ is;
      number = c.in-Some.ensures.number ∙ c.value_of.ensures;
      named = by_entry k.caller.number _ (held_seen held) is refl;
      ready = c.requires.entries _ (held_seen held) is;
    }
