use Rattle.std.proofs.Common.{◌≡◌, true, false, refl, sym, subst, ◌∙◌}
use Rattle.std.specs.Prelude.{Option, Some, None, is_some, option_map}
use Rattle.fd_table.specs.Descriptions.{Initial}
use Rattle.fd_table.specs.declared.descriptors.Entry.{Entry as EntryCode}
use Rattle.fd_table.specs.Filled.{IsFree, AreApart, Pairs}
use Rattle.fd_table.specs.Views.{entry_seen}
use Rattle.fd_table.specs.Kept.{open_files}
use Rattle.fd_table.proofs.QueueLaws.{on_ok_so}
use Rattle.simulator.specs.OwnedViews.{owned_descriptors_of}
use Rattle.simulator.specs.Starts.{last_owned}
use Rattle.simulator.proofs.Paired.{apart_ends, free_at, not_listed, pair_opened}
use Rattle.simulator.proofs.starting.open_initial.Goals as goal
use Rattle.simulator.proofs.starting.open_initial.Goals.{else-is_none-via-then-is_none+else-is_none-2, else-is_none-via-else-is_none}

pub open_pair-requires-clause-free_a : goal.open_pair-requires-clause-free_a
open_pair-requires-clause-free_a c =
    subst (IsFree (open_files c.args.files.now)) (sym c.last_of-a.ensures)
    (free_at (owned_descriptors_of c.args.owned.now) c.requires.owned c.args.pair c.requires.few (open_files c.args.files.now) c.requires.begun 0)

pub open_pair-requires-clause-free_b : goal.open_pair-requires-clause-free_b
open_pair-requires-clause-free_b c =
    subst (IsFree (open_files c.args.files.now)) (sym c.last_of-b.ensures)
    (free_at (owned_descriptors_of c.args.owned.now) c.requires.owned c.args.pair c.requires.few (open_files c.args.files.now) c.requires.begun 1)

-- nowhere is nowhere
not_some : (o : Option EntryCode) → option_map entry_seen o ≡ None → is_some o ≡ true → ⊥
not_some None is some = absurd cc
not_some (Some e) is some = absurd cc

is_nowhere : (o : Option EntryCode) → is_some o ≡ false → option_map entry_seen o ≡ None
is_nowhere None is = refl
is_nowhere (Some e) is = absurd cc

pub open_pair-requires-clause-apart : goal.open_pair-requires-clause-apart
open_pair-requires-clause-apart c =
    subst (λ b. AreApart (option_map entry_seen c.last_of-a.result) b) (sym c.last_of-b.ensures)
    (subst (λ a. AreApart a (last_owned c.args.pair 1 (owned_descriptors_of c.args.owned.now))) (sym c.last_of-a.ensures)
    (apart_ends (owned_descriptors_of c.args.owned.now) c.requires.owned c.args.pair c.requires.few (open_files c.args.files.now) c.requires.begun
    (λ none_a none_b.
    elim c.else-is_none.branch [
      | else-is_none-via-then-is_none+else-is_none-2 w ↦ not_some c.last_of-b.result (c.last_of-b.ensures ∙ none_b) w.if-is_none-2.ensures
      | else-is_none-via-else-is_none w ↦ not_some c.last_of-a.result (c.last_of-a.ensures ∙ none_a) w.if-is_none.ensures
    ])))

pub returns-then-is_none-2 : goal.returns-then-is_none-2
returns-then-is_none-2 c =
    not_listed (owned_descriptors_of c.args.owned.now) c.requires.owned c.args.pair c.requires.few (open_files c.args.files.now) c.requires.begun
    (sym c.last_of-a.ensures ∙ is_nowhere c.last_of-a.result c.if-is_none.ensures) (sym c.last_of-b.ensures ∙ is_nowhere c.last_of-b.result c.if-is_none-2.ensures)

pub returns : goal.returns
returns c =
    on_ok_so c.open_pair.result c.open_pair.ensures.ok
    (λ x. pair_opened (owned_descriptors_of c.args.owned.now) c.requires.owned c.args.pair c.requires.few (open_files c.args.files.now) c.requires.begun (open_files c.open_pair.new.self)
    (subst (λ b. Pairs (open_files c.args.files.now) (open_files c.open_pair.new.self) (Initial c.args.pair) (last_owned c.args.pair 0 (owned_descriptors_of c.args.owned.now)) b) c.last_of-b.ensures
    (subst (λ a. Pairs (open_files c.args.files.now) (open_files c.open_pair.new.self) (Initial c.args.pair) a (option_map entry_seen c.last_of-b.result)) c.last_of-a.ensures x)))
