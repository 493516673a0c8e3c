use Rattle.std.proofs.Common.{◌≡◌, arith, subst}
use Rattle.fd_table.specs.Kept.{open_files}
use Rattle.simulator.specs.OwnedViews.{owned_descriptors_of}
use Rattle.simulator.specs.Starts.{HasPairs}
use Rattle.simulator.proofs.Paired.{all_pairs, no_pair}
use Rattle.simulator.proofs.starting.open_initials.Goals as goal

pub loop-pair-init : goal.loop-pair-init
loop-pair-init c = no_pair (owned_descriptors_of c.args.owned.now) c.requires.owned (open_files c.args.files.now) c.requires.empty

pub returns : goal.returns
returns c =
    let all : c.loop-pair.pair ≡ 32 = omega (arith, c.loop-pair.auto.pair-end, c.loop-pair-test.false) in
    all_pairs (owned_descriptors_of c.args.owned.now) c.requires.owned (open_files c.loop-pair.files)
    (subst (λ n. HasPairs (owned_descriptors_of c.args.owned.now) n (open_files c.loop-pair.files)) all c.loop-pair.invariant)
