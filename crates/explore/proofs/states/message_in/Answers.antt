use Rattle.std.proofs.Common.{◌≡◌, Some, ap, refl, ◌∙◌, subst}
use Rattle.std.specs.List.{slice_get}
use Rattle.std.specs.Option.{option_map}
use Rattle.std.proofs.lemmas.Option.{slice_get-map, slice_get_read}
use Rattle.fd_table.specs.Filled.{by_message}
use Rattle.fd_table.specs.StoredViews.{message_kept}
use Rattle.fd_table.specs.Views.{descriptor_seen}
use Rattle.explore.proofs.states.message_in.Goals as goal

pub what-what-requires : goal.what-what-requires
what-what-requires c =
    let message = c.in-Some.message.now in
    let read = c.in-Some.ensures.lookup in
    let here : slice_get c.sent.result.now c.args.at ≡ Some message = slice_get_read c.sent.result.now _ c.args.at message refl read.3.0 read.1 in
    let shown = slice_get-map message_kept c.sent.result.now c.args.at ∙ ap (option_map message_kept) here in
    by_message _ _ c.args.at (message_kept message) (descriptor_seen c.in-Some-passed.descriptor)
    (subst (λ queue. slice_get queue c.args.at ≡ Some (message_kept message)) c.sent.ensures shown)
    (ap (option_map descriptor_seen) c.in-Some-passed.is)
    refl
