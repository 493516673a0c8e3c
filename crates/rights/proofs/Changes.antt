-- Maps that are changed at a number.
use Rattle.std.proofs.Common.{◌≡◌, ℕ, refl, subst}
use Rattle.std.specs.Prelude.{◌≢◌}
use Rattle.std.proofs.Math.Decide.{ℕ_discrete}
use Rattle.rights.specs.Maps.{pick, put, put2}

-- what holds of both choices, each where it is taken, holds of the choice
pub pick-cases : {A P : Type 0} (Q : A → Type 0) (d : Dec P) (a b : A) → (P → Q a) → (¬ P → Q b) → Q (pick d a b)
pick-cases Q (yes p) a b here there = here p
pick-cases Q (no h) a b here there = there h

pub put-cases : {A : Type 0} (Q : A → Type 0) (f : ℕ → A) (n : ℕ) (v : A) (m : ℕ) → (m ≡ n → Q v) → (m ≢ n → Q (f m)) → Q (put f n v m)
put-cases Q f n v m here there = pick-cases Q (ℕ_discrete m n) v (f m) here there

-- at the number there is the value, and elsewhere what was there
pub put-same : {A : Type 0} (f : ℕ → A) (n : ℕ) (v : A) → put f n v n ≡ v
put-same f n v = put-cases (λ x. x ≡ v) f n v n (λ _. refl) (λ other. absurd (other refl))

pub put-other : {A : Type 0} (f : ℕ → A) (n : ℕ) (v : A) (m : ℕ) → m ≢ n → put f n v m ≡ f m
put-other f n v m other = put-cases (λ x. x ≡ f m) f n v m (λ same. absurd (other same)) (λ _. refl)

-- two maps that are changed at one number keep a relation that holds at every number
pub pick-both : {A B P : Type 0} (Q : A → B → Type 0) (d : Dec P) (a c : A) (b e : B) → Q a b → Q c e → Q (pick d a c) (pick d b e)
pick-both Q (yes p) a c b e here there = here
pick-both Q (no h) a c b e here there = there

pub put-both : {A B : Type 0} (Q : A → B → Type 0) (f : ℕ → A) (g : ℕ → B) (n : ℕ) (a : A) (b : B) → Q a b → ((m : ℕ) → Q (f m) (g m)) → (m : ℕ) → Q (put f n a m) (put g n b m)
put-both Q f g n a b here there m = pick-both Q (ℕ_discrete m n) a (f m) b (g m) here (there m)

-- the same over pairs of numbers
pub put2-cases : {A : Type 0} (Q : A → Type 0) (f : ℕ → ℕ → A) (p n : ℕ) (v : A) (q m : ℕ) → Q v → Q (f q m) → Q (put2 f p n v q m)
put2-cases Q f p n v q m here there =
    put-cases (λ (row : ℕ → _). Q (row m)) f p (put (f p) n v) q
    (λ same. put-cases Q (f p) n v m (λ _. here) (λ _. let P : ℕ → Type 0 = λ r. Q (f r m) in subst P same there))
    (λ _. there)
