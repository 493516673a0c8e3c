-- Places of bytes.
use Rattle.std.proofs.Common.{◌≡◌, ◌<◌, ◌≤◌, ℕ, zero, suc, List, [], ◌∷◌, length, refl, arith}
use Rattle.std.specs.List.{slice_index_or}
use Rattle.task_text.specs.Places.{counted_from, passed}

-- The first byte stands where it is said to stand.
pub none-before : (text : List ℕ) (place : ℕ × ℕ) → counted_from text 0 place ≡ place
none-before [] place = refl
none-before (byte ∷ text) place = refl

-- A byte further on is behind one more.
pub one_on : (text : List ℕ) (n other : ℕ) (place : ℕ × ℕ) → n < length text → counted_from text (suc n) place ≡ passed (slice_index_or text n other) (counted_from text n place)
one_on [] n other place below = absurd (omega arith)
one_on (byte ∷ text) zero other place below = none-before text (passed byte place)
one_on (byte ∷ text) (suc n) other place below = one_on text n other (passed byte place) (omega (arith, below))

-- Behind the end all is one place.
pub past_end : (text : List ℕ) (n m : ℕ) (place : ℕ × ℕ) → length text ≤ n → length text ≤ m → counted_from text n place ≡ counted_from text m place
past_end [] n m place past further = refl
past_end (byte ∷ text) zero m place past further = absurd (omega arith)
past_end (byte ∷ text) (suc n) zero place past further = absurd (omega arith)
past_end (byte ∷ text) (suc n) (suc m) place past further = past_end text n m (passed byte place) (omega (arith, past)) (omega (arith, further))
