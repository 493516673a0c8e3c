-- Maps from numbers, as functions, and what becomes of one that is changed at a number.
use Rattle.std.specs.Prelude.{ℕ}
use Rattle.std.proofs.Math.Decide.{ℕ_discrete}

-- the first where the decision says yes, else the second
abbrev pub pick : {A P : Type 0} → Dec P → A → A → A
pick (yes p) a b = a
pick (no p) a b = b

-- the map with this value at n
abbrev pub put : {A : Type 0} → (ℕ → A) → ℕ → A → ℕ → A
put f n v m = pick (ℕ_discrete m n) v (f m)

-- the same over pairs of numbers
abbrev pub put2 : {A : Type 0} → (ℕ → ℕ → A) → ℕ → ℕ → A → ℕ → ℕ → A
put2 f p n v = put f p (put (f p) n v)
