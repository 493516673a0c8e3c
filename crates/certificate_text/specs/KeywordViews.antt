-- The words that lines have by their kinds.
use Rattle.std.specs.Prelude.{ℕ, List, codes}
use Rattle.certificate_text.specs.declared.keywords.Keyword.{Keyword}
use Rattle.certificate_text.specs.declared.keywords.Keyword.TheVariants as keyword

abbrev pub keyword_text : Keyword → List ℕ
keyword_text keyword.At = codes "at"
keyword_text keyword.Fd = codes "fd"
keyword_text keyword.Chan = codes "chan"
keyword_text keyword.Auth = codes "auth"
keyword_text keyword.Ceil = codes "ceil"
keyword_text keyword.Hold = codes "hold"
keyword_text keyword.Off = codes "off"
keyword_text keyword.On = codes "on"
keyword_text keyword.Maybe = codes "maybe"
keyword_text keyword.Open = codes "open"
keyword_text keyword.Grant = codes "grant"
keyword_text keyword.Any = codes "any"
keyword_text keyword.Sock = codes "sock"
keyword_text keyword.Unknown = codes "unknown"
keyword_text keyword.None = codes "none"
keyword_text keyword.A = codes "a"
keyword_text keyword.B = codes "b"
