use Rattle.std.proofs.Common.{◌≡◌, ap, sym, ◌∙◌, length}
use Rattle.std.specs.Prelude.{false, max, nat_lt}
use Rattle.std.proofs.lemmas.Bool.{le-ltb}
use Rattle.task_text.proofs.NearLaws.{meant-edited, meant-prefixed}
use Rattle.task_text.proofs.near.is_meant.Goals as goal

pub returns-then-is_prefixed : goal.returns-then-is_prefixed
returns-then-is_prefixed c =
    sym (meant-prefixed c.args.known.now c.args.word.now (sym c.is_alike.ensures ∙ c.if-is_alike.false) (sym c.is_prefixed.ensures ∙ c.if-is_prefixed.true))

pub returns : goal.returns
returns c =
    let word = c.args.word.now in
    let known = c.args.known.now in
    let long : nat_lt (max (length word) (length known)) 3 ≡ false = ap (λ n. nat_lt n 3) (sym c.max.ensures) ∙ le-ltb c.max.result 3 c.if-max-lt3.false in
    c.is_within_one_edit.ensures
    ∙ sym (meant-edited known word (sym c.is_alike.ensures ∙ c.if-is_alike.false) (sym c.is_prefixed.ensures ∙ c.if-is_prefixed.false) long)
