-- The URI of a name, by the set of the bytes that are escaped.
use Rattle.std.proofs.Common.{◌≡◌, ℕ, List, [], ◌∷◌, ◌++◌, Bool, true, false, not, refl, ap₂}
use Rattle.std.specs.Prelude.{◌&&◌, ◌||◌, nat_eq, codes, if◌then◌else◌}
use Rattle.std.specs.Char.{is_ascii, is_ascii_alphanumeric}
use Rattle.std.specs.List.{flat_map, list_any}
use Rattle.std.proofs.lemmas.Bool.{agree_below, agree_below_at, ltb-true}
use Rattle.percent_encoding.specs.AsciiSet.{contains, should_percent_encode}
use Rattle.percent_encoding.specs.Percent.{encode_byte, percent_encode}
use Rattle.sarif.specs.Uris.{byte_in_path, stands_in_path}
use Rattle.sarif.specs.declared.uris.TheConstants.{ESCAPED}

-- what an ASCII byte is tested for
abbrev is_plain : ℕ → Bool
is_plain byte = is_ascii_alphanumeric byte || list_any (nat_eq byte) (codes "-._~!$&'()*+,;=@/")

table : agree_below (contains ESCAPED) (λ b. not (is_plain b)) 128 ≡ true
table = refl

either : (ascii escaped plain : Bool) → (ascii ≡ true → escaped ≡ not plain) → (not ascii || escaped) ≡ not (ascii && plain)
either true escaped plain at = at refl
either false escaped plain at = refl

-- a byte is escaped where it doesn't stand in a path as it is
escaped : (byte : ℕ) → should_percent_encode ESCAPED byte ≡ not (stands_in_path byte)
unfolding should_percent_encode
escaped byte = either (is_ascii byte) (contains ESCAPED byte) (is_plain byte) (λ ascii. agree_below_at (contains ESCAPED) (λ b. not (is_plain b)) 128 byte table (ltb-true byte 128 ascii))

turned : (s t : Bool) (x y : List ℕ) → s ≡ not t → (if s then x else y) ≡ (if t then y else x)
turned s true x y is = rw is refl
turned s false x y is = rw is refl

encoded : (byte : ℕ) → encode_byte ESCAPED byte ≡ byte_in_path byte
encoded byte = turned (should_percent_encode ESCAPED byte) (stands_in_path byte) _ _ (escaped byte)

all_encoded : (name : List ℕ) → flat_map (encode_byte ESCAPED) name ≡ flat_map byte_in_path name
all_encoded [] = refl
all_encoded (byte ∷ name) = ap₂ (λ a b. a ++ b) (encoded byte) (all_encoded name)

-- A name with those bytes escaped is the path.
pub percent_encode-path : (name : List ℕ) → percent_encode ESCAPED name ≡ flat_map byte_in_path name
unfolding percent_encode
percent_encode-path name = all_encoded name
