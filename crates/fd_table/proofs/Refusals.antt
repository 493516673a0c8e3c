-- Which messages are refused, and what the message in front is.
use Rattle.std.proofs.Common.{◌≡◌, ℕ, ◌<◌, ◌≤◌, Bool, true, false, List, [], ◌∷◌, length, ap, ◌∙◌}
use Rattle.std.specs.Prelude.{Option, Some, None, cond, nat_lt}
use Rattle.std.specs.Option.{IsSome, option_map}
use Rattle.std.proofs.lemmas.Bool.{lt-ltb, le-ltb}
use Rattle.rights.specs.Sides.{other_side}
use Rattle.fd_table.specs.Descriptions.{Message}
use Rattle.fd_table.specs.OpenFiles.{OpenFiles, is_open}
use Rattle.fd_table.specs.Filled.{Closed, Full, send_refusal, front_byte, front_passed}
use Rattle.fd_table.specs.Changes.{front_message, passed_in}

pub closed_is : (f : OpenFiles) (pair side : ℕ) → is_open f pair (other_side side) ≡ false → send_refusal f pair side ≡ Some Closed
closed_is f pair side closed = ap (λ b. cond b (cond (nat_lt (length (f.queue pair side)) 16) None (Some Full)) (Some Closed)) closed

heard_is : (f : OpenFiles) (pair side : ℕ) (b : Bool) → is_open f pair (other_side side) ≡ true → nat_lt (length (f.queue pair side)) 16 ≡ b → send_refusal f pair side ≡ cond b None (Some Full)
heard_is f pair side b there is =
    ap (λ b. cond b (cond (nat_lt (length (f.queue pair side)) 16) None (Some Full)) (Some Closed)) there ∙ ap (λ b. cond b None (Some Full)) is

pub full_is : (f : OpenFiles) (pair side : ℕ) → is_open f pair (other_side side) ≡ true → 16 ≤ length (f.queue pair side) → send_refusal f pair side ≡ Some Full
full_is f pair side there full = heard_is f pair side false there (le-ltb _ _ full)

pub none_is : (f : OpenFiles) (pair side : ℕ) → is_open f pair (other_side side) ≡ true → length (f.queue pair side) < 16 → send_refusal f pair side ≡ None
none_is f pair side there room = heard_is f pair side true there (lt-ltb _ _ room)

-- what is in front
pub byte_is : (o : Option Message) (ms : List Message) → o ≡ front_message ms → option_map (λ (m : Message). m.byte) o ≡ front_byte ms
byte_is o [] is = ap (λ x. option_map (λ (m : Message). m.byte) x) is
byte_is o (m ∷ ms) is = ap (λ x. option_map (λ (m : Message). m.byte) x) is

pub passed_is : (m : Message) (ms : List Message) → Some m ≡ front_message ms → m.passed ≡ front_passed ms
passed_is m [] is = ap passed_in is
passed_is m (x ∷ ms) is = ap passed_in is

pub none_passed : (ms : List Message) → None ≡ front_message ms → IsSome (front_passed ms) → ⊥
none_passed [] is some = absurd cc
none_passed (m ∷ ms) is some = absurd cc
