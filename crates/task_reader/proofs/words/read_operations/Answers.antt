use Rattle.std.proofs.Common.{List, map, refl, ap, sym, Bor, ℕ}
use Rattle.rights.specs.Views.{operation_of}
use Rattle.task_reader.specs.Reading.{Wrong_field, or_mistake}
use Rattle.task_reader.specs.Written.{operation_named, operations_named}
use Rattle.task_reader.proofs.OneByOne.{goes-on, stops, ends}
use Rattle.task_reader.proofs.words.read_operations.Goals as goal

pub loop-word-preserved : goal.loop-word-preserved
loop-word-preserved c =
    goes-on {S = Bor (List ℕ)} (λ ws. operations_named (map (λ w. w.now) ws)) (λ w. operation_named w.now) operation_of (λ x xs. refl)
    _ c.args.words.now c.loop-word.word-index _ c.loop-word.operations.items _ c.in-Some.operation
    c.loop-word.invariant c.loop-word-test.true (sym c.in-Some.ensures) c.in_ok-push-in-Some.ensures.items

pub returns-in-None : goal.returns-in-None
returns-in-None c =
    ap (or_mistake Wrong_field) (stops {S = Bor (List ℕ)} (λ ws. operations_named (map (λ w. w.now) ws)) (λ w. operation_named w.now) operation_of (λ x xs. refl)
    _ c.args.words.now c.loop-word.word-index _ c.loop-word.operations.items
    c.loop-word.invariant c.loop-word-test.true (sym c.in-None.ensures))

pub returns : goal.returns
returns c =
    ap (or_mistake Wrong_field) (ends {S = Bor (List ℕ)} (λ ws. operations_named (map (λ w. w.now) ws)) (λ w. operation_named w.now) operation_of (λ x xs. refl)
    _ c.args.words.now c.loop-word.word-index c.loop-word.operations.items c.loop-word.invariant c.loop-word-test.false refl)
