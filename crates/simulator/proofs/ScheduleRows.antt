-- The worked rows on schedules, by computation.
use Rattle.std.proofs.Common.{◌≡◌, [], ◌∷◌, codes, refl}
use Rattle.std.specs.Prelude.{true, false, Ok, Err}
use Rattle.simulator.specs.Schedules.{schedule_of, Faulty}

two_events : schedule_of (codes "0 0\n15 255 refuse\n") ≡ Ok (record { process = 0; input = 0; refuse = false } ∷ record { process = 15; input = 255; refuse = true } ∷ [])
two_events = refl

nothing_at_all : schedule_of [] ≡ Ok []
nothing_at_all = refl

-- the last line is not ended
unended : schedule_of (codes "0 0\n0") ≡ Err (Faulty 2)
unended = refl

unended_event : schedule_of (codes "0 0") ≡ Err (Faulty 1)
unended_event = refl

leading_zero : schedule_of (codes "0 0\n0 00\n") ≡ Err (Faulty 2)
leading_zero = refl

too_large : schedule_of (codes "16 0\n") ≡ Err (Faulty 1)
too_large = refl

too_large_byte : schedule_of (codes "0 256\n") ≡ Err (Faulty 1)
too_large_byte = refl

empty_line : schedule_of (codes "\n") ≡ Err (Faulty 1)
empty_line = refl

blank_at_the_end : schedule_of (codes "0 0 \n") ≡ Err (Faulty 1)
blank_at_the_end = refl

carriage_return : schedule_of (codes "0 0\r\n") ≡ Err (Faulty 1)
carriage_return = refl

first_fault : schedule_of (codes "0 0\nx\ny\n") ≡ Err (Faulty 2)
first_fault = refl
