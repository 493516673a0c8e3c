use Rattle.std.proofs.Common.{false, subst, sym}
use Rattle.rights.specs.Views.{side_seen}
use Rattle.fd_table.specs.Kept.{open_files}
use Rattle.task.specs.declared.starts.FirstObject.TheVariants as object
use Rattle.simulator.specs.declared.owned.OwnedDescriptor.{OwnedDescriptor as OwnedCode}
use Rattle.simulator.proofs.Begun.{IsReady, share_there, share_free, ready_alone, ready_by, ready_may, ready_opened}
use Rattle.simulator.proofs.starting.open_end.Goals as goal
use Rattle.simulator.proofs.starting.open_end.Goals.{in-Some, in_default}

abbrev none : OwnedCode
none = record {
  process = 0;
  given = record {
    number = 0;
    object = object.Node 0 (record { readable = false; writable = false });
    rights = record { 0 = 0 };
    fcntls = record { 0 = 0 };
  };
}

pub share-requires-clause-there : goal.share-requires-clause-there
share-requires-clause-there c =
    share_there c.args.owned.now c.args.at none c.requires.there c.requires.owned c.args.pair (side_seen c.args.side) c.requires.end
    (open_files c.args.files.now) c.requires.begun c.last_of.result c.last_of.ensures c.in-Some.entry c.in-Some.is

pub share-requires-clause-free : goal.share-requires-clause-free
share-requires-clause-free c =
    share_free c.args.owned.now c.args.at none c.requires.there c.requires.owned c.args.pair (side_seen c.args.side) c.requires.end
    (open_files c.args.files.now) c.requires.begun c.last_of.result c.last_of.ensures c.in-Some.entry c.in-Some.is

pub limit-requires : goal.limit-requires
limit-requires c =
    ready_may c.args.owned.now c.args.at none c.requires.there c.requires.owned c.args.pair (side_seen c.args.side) c.requires.end
    (open_files c.args.files.now) c.requires.begun c.last_of.result c.last_of.ensures (open_files c.match-last_of.files)
    (elim c.match-last_of.branch [
      | in-Some w ↦ subst (λ f. IsReady c.args.owned.now c.args.at none c.requires.there c.requires.owned c.args.pair
          (side_seen c.args.side) c.requires.end (open_files c.args.files.now) c.requires.begun c.last_of.result c.last_of.ensures (open_files f))
          (sym w.files-is) (ready_by c.args.owned.now c.args.at none c.requires.there c.requires.owned c.args.pair
          (side_seen c.args.side) c.requires.end (open_files c.args.files.now) c.requires.begun c.last_of.result c.last_of.ensures w.in-Some.entry
          w.in-Some.is (open_files w.share.new.self) w.share.ensures)
      | in_default w ↦ subst (λ f. IsReady c.args.owned.now c.args.at none c.requires.there c.requires.owned c.args.pair
          (side_seen c.args.side) c.requires.end (open_files c.args.files.now) c.requires.begun c.last_of.result c.last_of.ensures (open_files f))
          (sym w.files-is) (ready_alone c.args.owned.now c.args.at none c.requires.there c.requires.owned c.args.pair
          (side_seen c.args.side) c.requires.end (open_files c.args.files.now) c.requires.begun c.last_of.result c.last_of.ensures w.in_default.is)
    ])

pub returns : goal.returns
returns c =
    ready_opened c.args.owned.now c.args.at none c.requires.there c.requires.owned c.args.pair (side_seen c.args.side) c.requires.end
    (open_files c.args.files.now) c.requires.begun c.last_of.result c.last_of.ensures (open_files c.match-last_of.files)
    (elim c.match-last_of.branch [
      | in-Some w ↦ subst (λ f. IsReady c.args.owned.now c.args.at none c.requires.there c.requires.owned c.args.pair
          (side_seen c.args.side) c.requires.end (open_files c.args.files.now) c.requires.begun c.last_of.result c.last_of.ensures (open_files f))
          (sym w.files-is) (ready_by c.args.owned.now c.args.at none c.requires.there c.requires.owned c.args.pair
          (side_seen c.args.side) c.requires.end (open_files c.args.files.now) c.requires.begun c.last_of.result c.last_of.ensures w.in-Some.entry
          w.in-Some.is (open_files w.share.new.self) w.share.ensures)
      | in_default w ↦ subst (λ f. IsReady c.args.owned.now c.args.at none c.requires.there c.requires.owned c.args.pair
          (side_seen c.args.side) c.requires.end (open_files c.args.files.now) c.requires.begun c.last_of.result c.last_of.ensures (open_files f))
          (sym w.files-is) (ready_alone c.args.owned.now c.args.at none c.requires.there c.requires.owned c.args.pair
          (side_seen c.args.side) c.requires.end (open_files c.args.files.now) c.requires.begun c.last_of.result c.last_of.ensures w.in_default.is)
    ]) (open_files c.limit.new.self) c.limit.ensures
