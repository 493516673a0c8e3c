-- What stands in the tables of a TOML document.
use Rattle.std.specs.Prelude.{ℕ, ℤ, Bool, true, false, ◌&&◌, ◌||◌, not, List, [], ◌∷◌, Option, Some, None, option_map, option_and_then, if◌then◌else◌}
use Rattle.std.specs.Str.{bytes_eq, is_utf8}
use Rattle.toml.specs.Data.{Data, Items, no_items, item, Members, no_members, member, get_member, as_str, as_integer, as_array}
use Rattle.toml.specs.Parse.{parse_document}

-- the document that some bytes are; bytes that are no text are none
abbrev pub document_of : List ℕ → Option Members
document_of bytes = if is_utf8 bytes then parse_document bytes else None

abbrev pub is_among : List ℕ → List (List ℕ) → Bool
is_among word [] = false
is_among word (w ∷ words) = bytes_eq word w || is_among word words

-- whether no word is given twice
abbrev pub are_once : List (List ℕ) → Bool
are_once [] = true
are_once (word ∷ words) = not (is_among word words) && are_once words

-- whether a table has no keys but these
abbrev pub only_keys : List (List ℕ) → Members → Bool
only_keys keys no_members = true
only_keys keys (member key d ms) = is_among key keys && only_keys keys ms

-- the text, the integer and the list at a key, if there is such a value
abbrev pub text_at : List ℕ → Members → Option (List ℕ)
text_at key ms = option_and_then as_str (get_member key ms)

abbrev pub integer_at : List ℕ → Members → Option ℤ
integer_at key ms = option_and_then as_integer (get_member key ms)

abbrev pub items_at : List ℕ → Members → Option Items
items_at key ms = option_and_then as_array (get_member key ms)

-- what each item of a list is read as, if each is
abbrev pub each_item : {A : Type 0} → (Data → Option A) → Items → Option (List A)
each_item read no_items = Some []
each_item read (item d ds) = option_and_then (λ x. option_map (λ rest. x ∷ rest) (each_item read ds)) (read d)

-- a list of texts in which none is twice
abbrev pub once : List (List ℕ) → Option (List (List ℕ))
once words = if are_once words then Some words else None

abbrev pub words_of : Items → Option (List (List ℕ))
words_of items = option_and_then once (each_item as_str items)

abbrev pub words_in : Data → Option (List (List ℕ))
words_in d = option_and_then words_of (as_array d)

-- what a value is read as, or what stands for it where there is none
abbrev pub read_or : {A : Type 0} → A → (Data → Option A) → Option Data → Option A
read_or absent read None = Some absent
read_or absent read (Some d) = read d
