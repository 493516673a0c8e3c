use Rattle.std.proofs.Common.{refl}
use Rattle.rights.specs.Sets.{all_commands, all_rights}
use Rattle.fd_table.specs.Descriptions.{descriptor_of}
use Rattle.fd_table.specs.Holders.{empty_hand, with_hand}
use Rattle.std.proofs.Common.{Some}
use Rattle.fd_table.specs.StoredViews.{tables_kept}
use Rattle.fd_table.proofs.Answering.{alike_follows}
use Rattle.fd_table.proofs.files.Files.open_pair.Goals as goal

pub place-requires-clause-kept : goal.place-requires-clause-kept
place-requires-clause-kept c =
    let made = c.in_ok-first.ensures.made.follows (descriptor_of c.in_ok-first.first all_rights all_commands) (descriptor_of c.in_ok-first.second all_rights all_commands) refl refl in
    record { hand = with_hand (Some (descriptor_of c.in_ok-first.second all_rights all_commands)) empty_hand; kept = made.kept }

pub place-requires-2-clause-kept : goal.place-requires-2-clause-kept
place-requires-2-clause-kept c =
    let made = c.in_ok-first.ensures.made.follows (descriptor_of c.in_ok-first.first all_rights all_commands) (descriptor_of c.in_ok-first.second all_rights all_commands) refl refl in
    let first = c.place.ensures _ (with_hand (Some (descriptor_of c.in_ok-first.second all_rights all_commands)) empty_hand) made in
    record { hand = empty_hand; kept = first.kept }

pub invariant_of-self-2 : goal.invariant_of-self-2
invariant_of-self-2 c =
    let made = c.in_ok-first.ensures.made.follows (descriptor_of c.in_ok-first.first all_rights all_commands) (descriptor_of c.in_ok-first.second all_rights all_commands) refl refl in
    let first = c.place.ensures _ (with_hand (Some (descriptor_of c.in_ok-first.second all_rights all_commands)) empty_hand) made in
    let second = c.place-2.ensures _ empty_hand first in
    second.kept

pub returns-clause-ok : goal.returns-clause-ok
returns-clause-ok c =
    let made = c.in_ok-first.ensures.made.follows (descriptor_of c.in_ok-first.first all_rights all_commands) (descriptor_of c.in_ok-first.second all_rights all_commands) refl refl in
    let first = c.place.ensures _ (with_hand (Some (descriptor_of c.in_ok-first.second all_rights all_commands)) empty_hand) made in
    rw (← c.self.view_is)
    (record {
      first = c.in_ok-first.first;
      second = c.in_ok-first.second;
      pair = c.in_ok-first.ensures.made.pair;
      first_fresh = c.in_ok-first.ensures.made.first_fresh;
      second_fresh = c.in_ok-first.ensures.made.second_fresh;
      apart = c.in_ok-first.ensures.made.apart;
      unused = c.in_ok-first.ensures.made.unused;
      alike = alike_follows _ (tables_kept c.place-2.new.self) (c.place-2.ensures _ empty_hand first);
    })
