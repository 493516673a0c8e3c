use Rattle.std.proofs.Common.{refl, subst, map, Err, Global}
use Rattle.std.specs.Prelude.{string_bytes}
use Rattle.std.proofs.lemmas.Result.{IfErr-weaker}
use Rattle.command_line.specs.OrderViews.{ReadsWords}
use Rattle.commands.specs.Fails.{asked_for, not_asked, unread}
use Rattle.commands.proofs.serving.serve_words.Goals as goal

pub returns-in-Ok-clause-fails : goal.returns-in-Ok-clause-fails
returns-in-Ok-clause-fails g c = IfErr-weaker c.perform.result _ _ (λ fault fails. asked_for _ c.in-Ok.ensures fails) c.perform.ensures.fails

pub returns-in-Err-Words-clause-fails : goal.returns-in-Err-Words-clause-fails
returns-in-Err-Words-clause-fails g c =
    let words = map (string_bytes {Z = Global}) c.args.words.now in
    not_asked (subst (λ e. ReadsWords (Err e) words) c.in-Err-Words.field-0-is c.in-Err-Words.ensures) refl

pub returns-in-Err-Memory-clause-fails : goal.returns-in-Err-Memory-clause-fails
returns-in-Err-Memory-clause-fails g c = unread refl
