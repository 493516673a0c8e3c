use Rattle.std.proofs.Common.{◌≡◌, ◌+◌, ◌==◌, ℕ, true, false, List, [], ◌∷◌, ◌++◌, map, drop, append_assoc, ap, sym, subst, ◌∙◌, None, Vec, Global, arith}
use Rattle.std.specs.Prelude.{if◌then◌else◌}
use Rattle.std.specs.List.{filter, slice_index_or}
use Rattle.std.proofs.lemmas.List.{map-append}
use Rattle.simulator.proofs.Splitting.{map-drop}
use Rattle.follow.specs.declared.numbers.FdMapping.{FdMapping as FdMappingCode}
use Rattle.follow.specs.Numbers.{FdMapping, child_mappings, of_child}
use Rattle.follow.specs.Views.{mapping_of, mappings_seen}
use Rattle.follow.proofs.numbers.child_mappings.Goals as goal
use Rattle.follow.proofs.numbers.child_mappings.Goals.{then-mapping-parent+in_ok-push, else-mapping-parent}

-- a mapping of the parent is added, and another one isn't, and then those that are left
child-more : (before after left all : List FdMapping) (n : FdMapping) (parent child : ℕ) → (n.process == parent) ≡ true → after ≡ before ++ of_child child n ∷ []
    → before ++ child_mappings (n ∷ left) parent child ≡ all → after ++ child_mappings left parent child ≡ all
child-more before after left all n parent child is more whole =
    ap (λ ns. ns ++ child_mappings left parent child) more ∙ append_assoc before (of_child child n ∷ []) (child_mappings left parent child)
    ∙ ap (λ b. before ++ map (of_child child) (if b then n ∷ filter (λ (m : FdMapping). m.process == parent) left else filter (λ (m : FdMapping). m.process == parent) left)) (sym is)
    ∙ whole

child-same : (before left all : List FdMapping) (n : FdMapping) (parent child : ℕ) → (n.process == parent) ≡ false
    → before ++ child_mappings (n ∷ left) parent child ≡ all → before ++ child_mappings left parent child ≡ all
child-same before left all n parent child is whole =
    ap (λ b. before ++ map (of_child child) (if b then n ∷ filter (λ (m : FdMapping). m.process == parent) left else filter (λ (m : FdMapping). m.process == parent) left)) (sym is)
    ∙ whole

is-same : (a b : ℕ) → a ≡ b → (a == b) ≡ true
is-same a b same = grind arith

is-apart : (a b : ℕ) → (a ≡ b → ⊥) → (a == b) ≡ false
is-apart a b apart = grind arith

pub loop-mapping-preserved : goal.loop-mapping-preserved
loop-mapping-preserved c =
    let none : FdMappingCode = record { process = 0; real = 0; model = None } in
    let n : FdMapping = mapping_of (slice_index_or c.args.mappings.now c.loop-mapping.mapping-index none) in
    let left : List FdMapping = mappings_seen (drop (c.loop-mapping.mapping-index + 1) c.args.mappings.now) in
    let all : List FdMapping = child_mappings (mappings_seen c.args.mappings.now) c.args.parent c.args.child in
    let split : mappings_seen (drop c.loop-mapping.mapping-index c.args.mappings.now) ≡ n ∷ left =
    map-drop mapping_of c.args.mappings.now c.loop-mapping.mapping-index none c.loop-mapping-test.true
    in
    let whole : mappings_seen c.loop-mapping.added.items ++ child_mappings (n ∷ left) c.args.parent c.args.child ≡ all =
    subst (λ (ns : List FdMapping). mappings_seen c.loop-mapping.added.items ++ child_mappings ns c.args.parent c.args.child ≡ all) split c.loop-mapping.invariant
    in
    elim c.if-mapping-parent.branch [
      | then-mapping-parent+in_ok-push w ↦
          child-more (mappings_seen c.loop-mapping.added.items) (mappings_seen c.if-mapping-parent.added.items) left all n c.args.parent c.args.child
          (is-same n.process c.args.parent w.if-mapping-parent.true)
          (ap (λ (v : Vec FdMappingCode Global). mappings_seen v.items) w.added-is ∙ ap mappings_seen w.in_ok-push.ensures.items
          ∙ map-append mapping_of c.loop-mapping.added.items _)
          whole
      | else-mapping-parent w ↦
          subst (λ (v : Vec FdMappingCode Global). mappings_seen v.items ++ child_mappings left c.args.parent c.args.child ≡ all) (sym w.added-is)
          (child-same (mappings_seen c.loop-mapping.added.items) left all n c.args.parent c.args.child (is-apart n.process c.args.parent w.if-mapping-parent.false) whole)
    ]
