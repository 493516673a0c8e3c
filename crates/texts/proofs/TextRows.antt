-- Numbers, words and lines that are written out here, and what they stand for.
use Rattle.std.proofs.Common.{◌≡◌, [], ◌∷◌, decimal, refl}
use Rattle.std.specs.Prelude.{Some, None, codes}
use Rattle.std.specs.Fmt.{digits}
use Rattle.texts.specs.Hex.{hex_of, hex_text}
use Rattle.texts.specs.Numbers.{number_of}
use Rattle.texts.specs.Parts.{joined, parts}

decimal-0 : decimal 0 ≡ codes "0"
unfolding digits
decimal-0 = refl

decimal-7 : decimal 7 ≡ codes "7"
unfolding digits
decimal-7 = refl

decimal-10 : decimal 10 ≡ codes "10"
unfolding digits
decimal-10 = refl

decimal-255 : decimal 255 ≡ codes "255"
unfolding digits
decimal-255 = refl

decimal-most : decimal 4294967295 ≡ codes "4294967295"
unfolding digits
decimal-most = refl

number-most : number_of (codes "4294967295") ≡ Some 4294967295
number-most = refl

hex-zero : hex_text 4 0 ≡ codes "0000"
hex-zero = refl

hex-all : hex_text 4 0x3fff ≡ codes "3fff"
hex-all = refl

hex-low : hex_text 4 0x0081 ≡ codes "0081"
hex-low = refl

hex-one : hex_text 1 11 ≡ codes "b"
hex-one = refl

read-all : hex_of 4 (codes "3fff") ≡ Some 0x3fff
read-all = refl

read-mixed : hex_of 4 (codes "0a9f") ≡ Some 2719
read-mixed = refl

read-upper : hex_of 4 (codes "3FFF") ≡ None
read-upper = refl

read-short : hex_of 4 (codes "3ff") ≡ None
read-short = refl

read-long : hex_of 4 (codes "03fff") ≡ None
read-long = refl

read-empty : hex_of 4 [] ≡ None
read-empty = refl

three-words : parts 32 (codes "open etc 0081") ≡ codes "open" ∷ codes "etc" ∷ codes "0081" ∷ []
three-words = refl

three-joined : joined 32 (codes "open" ∷ codes "etc" ∷ codes "0081" ∷ []) ≡ codes "open etc 0081"
three-joined = refl

empty-words : parts 32 (codes " a  b") ≡ [] ∷ codes "a" ∷ [] ∷ codes "b" ∷ []
empty-words = refl
