use Rattle.std.proofs.Common.{◌≡◌, ◌≤◌, [], List, ◌∷◌, zero, suc, ℕ, drop, length, refl, subst, arith}
use Rattle.std.proofs.Math.ListN.{length-map}
use Rattle.fd_table.specs.Kept.{open_files}
use Rattle.task.specs.Views.{starts_of}
use Rattle.simulator.specs.OwnedViews.{owned_descriptor_of, owned_descriptors_of}
use Rattle.simulator.specs.Starts.{Awaits, owned_from}
use Rattle.simulator.proofs.starting.open_all.Goals as goal

all_dropped : {A : Type 0} (xs : List A) (k : ℕ) → length xs ≤ k → drop k xs ≡ []
all_dropped [] zero far = refl
all_dropped [] (suc k) far = refl
all_dropped (x ∷ xs) zero far = absurd (omega arith)
all_dropped (x ∷ xs) (suc k) far = all_dropped xs k (omega arith)

pub returns : goal.returns
returns c =
    let same : owned_descriptors_of c.in_ok-owned.owned.items ≡ owned_from 0 (starts_of c.args.starts.now) = c.in_ok-owned.ensures in
    let none : drop c.loop-at.at (owned_descriptors_of c.in_ok-owned.owned.items) ≡ [] = all_dropped _ c.loop-at.at
    (let count = length-map c.in_ok-owned.owned.items owned_descriptor_of in omega (arith, count, c.len-at-end.ensures, c.loop-at-test.false)) in
    subst (λ owned. Awaits owned [] (open_files c.loop-at.files)) same
    (subst (λ rest. Awaits (owned_descriptors_of c.in_ok-owned.owned.items) rest (open_files c.loop-at.files)) none c.loop-at.invariant)
