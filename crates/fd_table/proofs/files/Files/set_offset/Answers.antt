use Rattle.std.proofs.Common.{ap}
use Rattle.fd_table.specs.Descriptions.{State}
use Rattle.fd_table.specs.Kept.{open_files}
use Rattle.fd_table.specs.Holders.{empty_hand}
use Rattle.fd_table.specs.StoredViews.{tables_kept}
use Rattle.fd_table.proofs.Answering.{alike_follows, follows_itself}
use Rattle.fd_table.proofs.Answering.{there_named}
use Rattle.fd_table.proofs.Following.{follows_described}
use Rattle.fd_table.proofs.files.Files.set_offset.Goals as goal

pub description_of-description-requires : goal.description_of-description-requires
description_of-description-requires c =
    rw c.number-at.ensures (there_named (tables_kept c.self.inside.tables) c.args.d empty_hand c.self.invariant (rw (← c.self.view_is) at c.requires))

pub set_description-requires : goal.set_description-requires
set_description-requires c =
    rw c.number-at.ensures (there_named (tables_kept c.self.inside.tables) c.args.d empty_hand c.self.invariant (rw (← c.self.view_is) at c.requires))

pub invariant_of-self : goal.invariant_of-self
unfolding open_files
invariant_of-self c =
    let there = there_named (tables_kept c.self.inside.tables) c.args.d empty_hand c.self.invariant (rw (← c.self.view_is) at c.requires) in
    let change = rw c.number-at.ensures at c.set_description.ensures in
    let object = rw c.number-at.ensures at c.description_of-description.ensures.object in
    let state = rw c.number-at.ensures at c.description_of-description.ensures.state in
    let set = follows_described (open_files (tables_kept c.self.inside.tables)) (tables_kept c.self.inside.tables) _ c.args.d _ _ empty_hand
    (follows_itself (tables_kept c.self.inside.tables) empty_hand c.self.invariant) there change object
    (ap (λ (s : State). record s { offset = c.args.offset }) state) in
    set.kept

pub returns : goal.returns
unfolding open_files
returns c =
    let there = there_named (tables_kept c.self.inside.tables) c.args.d empty_hand c.self.invariant (rw (← c.self.view_is) at c.requires) in
    let change = rw c.number-at.ensures at c.set_description.ensures in
    let object = rw c.number-at.ensures at c.description_of-description.ensures.object in
    let state = rw c.number-at.ensures at c.description_of-description.ensures.state in
    let set = follows_described (open_files (tables_kept c.self.inside.tables)) (tables_kept c.self.inside.tables) _ c.args.d _ _ empty_hand
    (follows_itself (tables_kept c.self.inside.tables) empty_hand c.self.invariant) there change object
    (ap (λ (s : State). record s { offset = c.args.offset }) state) in
    rw (← c.self.view_is) (alike_follows _ _ set)
