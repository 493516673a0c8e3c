-- Sets of rights in their two parts: the fourteen rights, and the further ones.
use Rattle.std.proofs.Common.{◌≡◌, ℕ, ◌%◌, ◌-◌, ◌^◌, ◌<◌, ◌≤◌, true, ap, sym, ◌∙◌, subst, bit_and, bit_or, arith, eqb-true, eq-eqb}
use Rattle.std.specs.Int.Bits.{and_zero_r, or_add_and}
use Rattle.std.proofs.lemmas.Nat.{and_assoc, and_comm, and_le_l, and_mask}
use Rattle.rights.specs.Sets.{all_rights, both_parts, further_part, further_rights, is_within, plain_part, plain_rights}
use Rattle.certificate.proofs.ToldLaws.{and_same, within_or}

-- a set within all is no greater
pub within-most : (set all : ℕ) → is_within set all ≡ true → set ≤ all
within-most set all is =
    let same = eqb-true (bit_and all set) set is in
    let most = and_le_l all set in
    omega (arith, same, most)

-- the parts of a set of two parts
pub plain-small : (plain : ℕ) → is_within plain plain_rights ≡ true → plain < 2 ^ 14
plain-small plain is = let most = within-most plain plain_rights is in omega (arith, most)

pub plain-of : (plain further : ℕ) → plain < 2 ^ 14 → plain_part (both_parts plain further) ≡ plain
plain-of plain further small = omega (arith, small)

pub further-of : (plain further : ℕ) → plain < 2 ^ 14 → further < 2 ^ 32 → further_part (both_parts plain further) ≡ further
further-of plain further small few = omega (arith, small, few)

-- and the set of the two parts of a set
pub parts-whole : (set : ℕ) → set ≤ all_rights → both_parts (plain_part set) (further_part set) ≡ set
parts-whole set most = omega (arith, most)

pub plain-within : (set : ℕ) → is_within (plain_part set) plain_rights ≡ true
plain-within set =
    let twice : set % 2 ^ 14 % 2 ^ 14 ≡ set % 2 ^ 14 = omega arith in
    eq-eqb (bit_and plain_rights (plain_part set)) (plain_part set) (and_comm plain_rights (plain_part set) ∙ and_mask (plain_part set) 14 ∙ twice)

pub plain-below : (set : ℕ) → plain_part set < 16 ^ 4
plain-below set = omega arith

pub further-below : (set : ℕ) → further_part set < 16 ^ 8
further-below set = omega arith

-- sets of which nothing is told of further rights: the least has none, and the greatest has all
pub none-further : (set : ℕ) → is_within set plain_rights ≡ true → further_part set ≡ 0
none-further set is = let most = within-most set plain_rights is in omega (arith, most)

pub all-further : (set : ℕ) → is_within further_rights set ≡ true → set ≤ all_rights → further_part set ≡ 2 ^ 32 - 1
all-further set is most = let least = within-most further_rights set is in omega (arith, least, most)

pub least-told : (plain : ℕ) → is_within plain plain_rights ≡ true → is_within (both_parts plain 0) plain_rights ≡ true
least-told plain is =
    let same : plain ≡ both_parts plain 0 = omega arith in subst (λ n. is_within n plain_rights ≡ true) same is

pub greatest-told : (plain : ℕ) → is_within plain plain_rights ≡ true → is_within further_rights (both_parts plain (2 ^ 32 - 1)) ≡ true
greatest-told plain is =
    let apart : bit_and plain further_rights ≡ 0 =
    ap (λ n. bit_and n further_rights) (sym (and_same plain plain_rights is)) ∙ and_assoc further_rights plain plain_rights ∙ and_zero_r plain
    in
    let sum = or_add_and plain further_rights in
    let same : bit_or plain further_rights ≡ both_parts plain (2 ^ 32 - 1) = omega (arith, apart, sum) in
    subst (λ n. is_within further_rights n ≡ true) same (within_or plain further_rights)
