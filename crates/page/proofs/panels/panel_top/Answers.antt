use Rattle.std.proofs.Common.{◌≡◌, ◌+◌, ℕ, List, ap, sym, ◌∙◌, arith}
use Rattle.std.specs.Prelude.{Some}
use Rattle.std.specs.List.{slice_get}
use Rattle.page.proofs.WireLaws.{none-near}
use Rattle.page.proofs.panels.panel_top.Goals as goal

pub returns-clause-free : goal.returns-clause-free
returns-clause-free c row at =
    let held = c.is_free.ensures.taken c.if-is_free.false in
    let rows : List ℕ = c.args.rows.now.items.items in
    let there : slice_get rows held.0 ≡ Some (c.max-top.result + 18) = ap (λ l. slice_get l held.0) (sym c.deref.ensures.value) ∙ held.1 in
    let higher : c.max-top.result + 3 + 18 ≡ c.max-top.result + 18 + 3 = omega arith in
    absurd (none-near rows held.0 row (c.max-top.result + 18) c.args.rows.now.rise there (at ∙ ap Some higher))
