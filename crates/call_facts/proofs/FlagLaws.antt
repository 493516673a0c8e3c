-- How a file is opened, as a set of flags and back.
use Rattle.std.proofs.Common.{◌≡◌, ℕ, ◌<◌, ◌≤◌, ◌^◌, Bool, true, false, cond, refl, ap, ◌∙◌, arith}
use Rattle.std.specs.Prelude.{Some, None}
use Rattle.rights.specs.Opens.{OpenRequest, is_valid, open_request}
use Rattle.call_facts.specs.Sets.{bit_if, flag_rows, flag_set, if_valid, request_of_set, request_of_word, set_word}
use Rattle.call_facts.proofs.SetLaws.{good-flags, set-back}

five-back : (read write append create trunc : Bool) → request_of_set (flag_set (open_request read write append create trunc)) ≡ open_request read write append create trunc
unfolding request_of_set flag_set
five-back true true true true true = refl
five-back true true true true false = refl
five-back true true true false true = refl
five-back true true true false false = refl
five-back true true false true true = refl
five-back true true false true false = refl
five-back true true false false true = refl
five-back true true false false false = refl
five-back true false true true true = refl
five-back true false true true false = refl
five-back true false true false true = refl
five-back true false true false false = refl
five-back true false false true true = refl
five-back true false false true false = refl
five-back true false false false true = refl
five-back true false false false false = refl
five-back false true true true true = refl
five-back false true true true false = refl
five-back false true true false true = refl
five-back false true true false false = refl
five-back false true false true true = refl
five-back false true false true false = refl
five-back false true false false true = refl
five-back false true false false false = refl
five-back false false true true true = refl
five-back false false true true false = refl
five-back false false true false true = refl
five-back false false true false false = refl
five-back false false false true true = refl
five-back false false false true false = refl
five-back false false false false true = refl
five-back false false false false false = refl

at-most : (is : Bool) (bit : ℕ) → bit_if is bit ≤ bit
at-most true bit = omega arith
at-most false bit = omega arith

few-flags : (request : OpenRequest) → flag_set request < 2 ^ 5
unfolding flag_set
few-flags request =
    omega (arith, at-most request.read 1, at-most request.write 2, at-most request.append 4, at-most request.create 8, at-most request.trunc 16)

-- The word of valid flags is read as them.
pub flags-back : (request : OpenRequest) → is_valid request ≡ true → request_of_word (set_word flag_rows (flag_set request)) ≡ Some request
unfolding request_of_word
flags-back request valid =
    ap (λ set. if_valid (request_of_set set)) (set-back flag_rows (flag_set request) good-flags (few-flags request))
    ∙ ap if_valid (five-back request.read request.write request.append request.create request.trunc)
    ∙ ap (λ (is : Bool). cond is (Some request) None) valid
