use Rattle.std.proofs.Common.{◌≡◌, ◌+◌, ◌≤◌, ◌∙◌, ℕ, Bool, true, List, [], ◌∷◌, ◌++◌, ap, length, length-append, subst, arith}
use Rattle.std.specs.Prelude.{cond, not}
use Rattle.std.proofs.lemmas.Option.{get_or_from_slice_get}
use Rattle.page.specs.declared.lanes.Placed.{Placed}
use Rattle.page.specs.WireViews.{ArrivesFree}
use Rattle.page.proofs.WireLaws.{free-push}
use Rattle.page.proofs.panels.add_panels.Goals as goal

-- The next wire may arrive 18 below the board's end: a panel ends 12 below its top at least, or past where panels begin.
still-above : (next top moved added below : ℕ) → next ≤ top + 18 + 4 → (top ≤ 1_000_000_000 → top ≤ moved) → top ≤ 990_000_003 → moved ≤ added
    → (added ≤ 1_000_000_000 → below ≡ added + 12) → added ≤ below → next ≤ below + 18
still-above next top moved added below near at low grows more also = grind arith

one-more : (before after : List ℕ) (stop i : ℕ) (ok : Bool) → after ≡ cond ok (before ++ stop ∷ []) before → ok ≡ true → length before ≡ i → length after ≡ i + 1
one-more before after stop i ok is done many =
    let long = length-append before (stop ∷ []) in ap length (is ∙ ap (λ (b : Bool). cond b (before ++ stop ∷ []) before) done) ∙ omega (arith, long, many)

pub loop-place-preserved : goal.loop-place-preserved
loop-place-preserved c = record {
  strip_is = c.space.ensures.strip ∙ c.add.ensures.strip ∙ c.move_to.ensures.strip ∙ c.loop-place.invariant.strip_is;
  next = still-above _ _ _ _ _ c.push.ensures.next c.move_to.ensures.below c.panel_top-top.ensures.low c.add.ensures.grows c.space.ensures.more c.space.ensures.grows;
  many = one-more _ _ _ _ _ c.push.ensures.items (c.is_err.ensures.negation ∙ ap not c.if-is_err.false) c.loop-place.invariant.many;
  free =
      free-push c.args.nets.now c.args.rows.now.items.items c.args.placed.now _ _ (c.panel_top-top.result + 18) c.loop-place.place-index _ c.push.ensures.items
      c.loop-place.invariant.many c.loop-place.invariant.free
      (λ (p : Placed) at. subst (λ (q : Placed). ArrivesFree c.args.nets.now c.args.rows.now.items.items q.panel (c.panel_top-top.result + 18))
      (get_or_from_slice_get c.args.placed.now c.loop-place.place-index p _ at) c.panel_top-top.ensures.free);
}

pub returns-then-is_err-clause-free : goal.returns-then-is_err-clause-free
returns-then-is_err-clause-free c =
    free-push c.args.nets.now c.args.rows.now.items.items c.args.placed.now _ _ (c.panel_top-top.result + 18) c.loop-place.place-index _ c.push.ensures.items
    c.loop-place.invariant.many c.loop-place.invariant.free
    (λ (p : Placed) at. subst (λ (q : Placed). ArrivesFree c.args.nets.now c.args.rows.now.items.items q.panel (c.panel_top-top.result + 18))
    (get_or_from_slice_get c.args.placed.now c.loop-place.place-index p _ at) c.panel_top-top.ensures.free)
