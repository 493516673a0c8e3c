use Rattle.std.proofs.Common.{take}
use Rattle.std.specs.List.{flat_map}
use Rattle.std.specs.Str.{encode_utf8_all}
use Rattle.texts.specs.PageViews.{Adds}
use Rattle.page.specs.Escaping.{shown_byte, shown_letter}
use Rattle.page.proofs.escaping.add_shown.Given as goal

abbrev pub invariant-loop-letter : goal.invariant-loop-letter
invariant-loop-letter l = Adds l.fn.page l.page (encode_utf8_all (flat_map shown_letter l.yielded))

abbrev pub invariant-loop-byte : goal.invariant-loop-byte
invariant-loop-byte l = Adds l.fn.page l.page (encode_utf8_all (flat_map shown_byte (take l.byte-index l.text)))
