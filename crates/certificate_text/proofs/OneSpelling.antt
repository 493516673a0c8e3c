-- A certificate has one spelling: its text is read as it, and bytes that are read as it are its text.
use Rattle.std.proofs.Common.{◌≡◌, ℕ, ◌+◌, Bool, true, false, cond, List, [], ◌∷◌, ◌++◌, length, refl, ap, sym, ◌∙◌, subst, append_assoc, append-nil}
use Rattle.std.specs.Prelude.{◌==◌, Option, Some, None, Result, Ok, Err}
use Rattle.std.specs.List.{flat_map}
use Rattle.std.specs.Str.{bytes_eq}
use Rattle.std.proofs.lemmas.Grind.{flat_map-append}
use Rattle.rights.proofs.Words.{same_bytes}
use Rattle.texts.specs.Lines.{Line as TextLine, lines_from}
use Rattle.texts.specs.Parts.{joined, parts, parts_from}
use Rattle.texts.proofs.WordLaws.{lacks, joined-parts, parts-more}
use Rattle.certificate.specs.Bounds.{Version, One, Two, Three, Four, Certificate}
use Rattle.certificate.specs.Growth.{IsCertificate, begins, grows, empty, No_room, Out_of_order, Refused, taken}
use Rattle.certificate.specs.Lines.{Line, is_line, is_of_version, lines_of}
use Rattle.certificate.proofs.Growing.{taken_keeps}
use Rattle.certificate_text.specs.Faults.{Fault, Syntax}
use Rattle.certificate_text.specs.Readings.{line_taken, certificate_of_text, closed, fails, going_on, grown_by_line, line_of_text, read_behind, read_lines, read_versioned, version_of_line}
use Rattle.certificate_text.specs.Texts.{certificate_text, ended_line, first_line, end_line, line_text}
use Rattle.certificate_text.proofs.Growing.{lines-grow}
use Rattle.certificate_text.proofs.LineBack.{line-back, text-goes-on, text-lacks}
use Rattle.certificate_text.proofs.LineText.{line-text}

-- the texts of some lines, each with its line feed
abbrev body : Version → List Line → List ℕ
body version lines = flat_map (λ line. ended_line (line_text version line)) lines

-- the body with one line more, and what stands behind it
body-more : (version : Version) (lines : List Line) (line : Line) (rest : List ℕ)
    → body version (lines ++ line ∷ []) ++ rest ≡ body version lines ++ (ended_line (line_text version line) ++ rest)
body-more version lines line rest =
    ap (λ text. text ++ rest)
    (flat_map-append (λ l. ended_line (line_text version l)) lines (line ∷ []) ∙ ap (λ last. body version lines ++ last) (append-nil (ended_line (line_text version line))))
    ∙ append_assoc (body version lines) (ended_line (line_text version line)) rest

-- a text has a line at least
is_some_text : List (List ℕ) → Bool
is_some_text [] = false
is_some_text (text ∷ texts) = true

some-text : (text begun : List ℕ) → is_some_text (parts_from 10 text begun) ≡ true
unfolding is_some_text
some-text [] begun = refl
some-text (b ∷ text) begun = go (b == 10) (some-text text (begun ++ b ∷ []))
  where
    go : (ends : Bool) → is_some_text (parts_from 10 text (begun ++ b ∷ [])) ≡ true → is_some_text (cond ends (begun ∷ parts_from 10 text []) (parts_from 10 text (begun ++ b ∷ []))) ≡ true
    go true some = refl
    go false some = some

-- A TEXT IS READ

-- A part that others follow is a line with its line feed.
lines-more : (offset : ℕ) (part text begun : List ℕ)
    → lines_from offset (part ∷ parts_from 10 text begun) ≡ (record { text = part; offset = offset; is_ended = true }) ∷ lines_from (offset + length part + 1) (parts_from 10 text begun)
lines-more offset part [] begun = refl
lines-more offset part (b ∷ text) begun = go (b == 10) (lines-more offset part text (begun ++ b ∷ []))
  where
    ends-or : Bool → List (List ℕ)
    ends-or ends = cond ends (begun ∷ parts_from 10 text []) (parts_from 10 text (begun ++ b ∷ []))

    go : (ends : Bool)
        → lines_from offset (part ∷ parts_from 10 text (begun ++ b ∷ []))
        ≡ (record { text = part; offset = offset; is_ended = true }) ∷ lines_from (offset + length part + 1) (parts_from 10 text (begun ++ b ∷ []))
        → lines_from offset (part ∷ ends-or ends) ≡ (record { text = part; offset = offset; is_ended = true }) ∷ lines_from (offset + length part + 1) (ends-or ends)
    go true more = refl
    go false more = more

-- the first line of a text
first-line : (offset : ℕ) (line rest : List ℕ) → lacks 10 line ≡ true
    → lines_from offset (parts 10 (ended_line line ++ rest)) ≡ (record { text = line; offset = offset; is_ended = true }) ∷ lines_from (offset + length line + 1) (parts 10 rest)
first-line offset line rest lack =
    ap (λ text. lines_from offset (parts 10 text)) (append_assoc line (10 ∷ []) rest)
    ∙ ap (lines_from offset) (parts-more 10 line rest lack) ∙ lines-more offset line rest []

-- reading goes on behind a line that the certificate takes
one-line : (c d : Certificate) (line : Line) (offset : ℕ) (lines : List TextLine) → is_line line ≡ true → is_of_version c.version line ≡ true → taken c line ≡ Ok d
    → read_behind c ((record { text = line_text c.version line; offset = offset; is_ended = true }) ∷ lines) ≡ read_behind d lines
unfolding read_behind
one-line c d line offset lines proper own take =
    ap (λ (last : Bool). cond last (closed c lines) (going_on offset (λ e. read_behind e lines) (grown_by_line c (line_of_text c.version (line_text c.version line)))))
    (text-goes-on c.version line proper own)
    ∙ ap (λ read. going_on offset (λ e. read_behind e lines) (grown_by_line c read)) (line-back c.version line proper own)
    ∙ ap (λ after. going_on offset (λ e. read_behind e lines) (line_taken after)) take

-- the lines of a certificate are read as it, whatever follows them
read-body : (c : Certificate) → IsCertificate c → (offset : ℕ) (rest : List ℕ)
    → (behind : ℕ) × (read_behind (empty c.version) (lines_from offset (parts 10 (body c.version (lines_of c) ++ rest))) ≡ read_behind c (lines_from behind (parts 10 rest)))
read-body _ (begins version) offset rest = (offset, refl)
read-body d (grows {c = c} is line proper own take) offset rest =
    let before = read-body c is offset (ended_line (line_text c.version line) ++ rest) in
    let text = ap (λ lines. body c.version lines ++ rest) (lines-grow c d line is proper take) ∙ body-more c.version (lines_of c) line rest in (
      before.0 + length (line_text c.version line) + 1,
      ap (λ version. read_behind (empty version) (lines_from offset (parts 10 (body version (lines_of d) ++ rest)))) (taken_keeps c d line take)
          ∙ ap (λ t. read_behind (empty c.version) (lines_from offset (parts 10 t))) text ∙ before.1
          ∙ ap (read_behind c) (first-line before.0 (line_text c.version line) rest (text-lacks c.version line proper))
          ∙ one-line c d line before.0 (lines_from (before.0 + length (line_text c.version line) + 1) (parts 10 rest)) proper own take,
    )

at-end : (c : Certificate) (offset : ℕ) → read_behind c (lines_from offset (parts 10 (ended_line end_line))) ≡ Ok c
unfolding read_behind
at-end c offset = refl

-- the first line of each version is read as it
version-back : (version : Version) (lines : List TextLine) → read_versioned 0 (version_of_line (first_line version)) lines ≡ read_behind (empty version) lines
version-back One lines = refl
version-back Two lines = refl
version-back Three lines = refl
version-back Four lines = refl

version-lacks : (version : Version) → lacks 10 (first_line version) ≡ true
version-lacks One = refl
version-lacks Two = refl
version-lacks Three = refl
version-lacks Four = refl

-- The text of a certificate is read as that certificate.
pub text-back : (c : Certificate) → IsCertificate c → certificate_of_text (certificate_text c) ≡ Ok c
unfolding certificate_of_text
text-back c is =
    let first = first_line c.version in
    let behind = 0 + length first + 1 in
    let read = read-body c is behind (ended_line end_line) in
    ap (λ text. read_lines (lines_from 0 (parts 10 text))) (append_assoc (ended_line first) (body c.version (lines_of c)) (ended_line end_line))
    ∙ ap read_lines (first-line 0 first (body c.version (lines_of c) ++ ended_line end_line) (version-lacks c.version))
    ∙ version-back c.version (lines_from behind (parts 10 (body c.version (lines_of c) ++ ended_line end_line))) ∙ read.1 ∙ at-end c read.0

-- A READING IS OF A TEXT

-- a certificate of this version of which these bytes are the lines and the last line
record Spelled (version : Version) (bytes : List ℕ) (c : Certificate) : Type 0 where
  same : c.version ≡ version
  text : body c.version (lines_of c) ++ ended_line end_line ≡ bytes
  made : IsCertificate c

-- nothing stands behind the last line
closed-is : (c d : Certificate) (next : List ℕ) (texts : List (List ℕ)) (offset : ℕ) → closed c (lines_from offset (next ∷ texts)) ≡ Ok d → (next ∷ texts ≡ [] ∷ []) × (c ≡ d)
closed-is c d next [] offset is = go (bytes_eq next []) refl is
  where
    go : (empty : Bool) → bytes_eq next [] ≡ empty → cond empty (Ok c) (fails Syntax offset) ≡ Ok d → (next ∷ [] ≡ [] ∷ []) × (c ≡ d)
    go true empty is = (ap (λ text. text ∷ []) (same_bytes next [] empty), cc)
    go false empty is = absurd cc
closed-is c d next (text ∷ []) offset is = absurd cc
closed-is c d next (text ∷ more ∷ texts) offset is = absurd cc

-- the last line
end-line : (c d : Certificate) (first next : List ℕ) (texts : List (List ℕ)) (offset : ℕ) → IsCertificate c → bytes_eq first end_line ≡ true
    → closed c (lines_from offset (next ∷ texts)) ≡ Ok d → Spelled c.version (body c.version (lines_of c) ++ joined 10 (first ∷ next ∷ texts)) d
end-line c d first next texts offset is last closes =
    let rest = closed-is c d next texts offset closes in
    let first_is = same_bytes first end_line last in
    record {
      same = ap (λ (e : Certificate). e.version) (sym rest.1);
      text = λ i. body (sym rest.1 i).version (lines_of (sym rest.1 i)) ++ joined 10 (sym first_is i ∷ sym rest.0 i);
      made = subst IsCertificate rest.1 is;
    }

-- a line that the certificate takes
taken-line : (c d e : Certificate) (line : Line) (first rest : List ℕ) → IsCertificate c → line_of_text c.version first ≡ Ok line → taken c line ≡ Ok e
    → (IsCertificate e → Spelled e.version (body e.version (lines_of e) ++ rest) d) → Spelled c.version (body c.version (lines_of c) ++ (first ++ 10 ∷ rest)) d
taken-line c d e line first rest is read take more =
    let fact = line-text c.version first line read in
    let bytes =
    ap (λ version. body version (lines_of e) ++ rest) (taken_keeps c e line take)
    ∙ ap (λ lines. body c.version lines ++ rest) (lines-grow c e line is fact.1 take) ∙ body-more c.version (lines_of c) line rest
    ∙ ap (λ text. body c.version (lines_of c) ++ (ended_line text ++ rest)) fact.0 ∙ ap (λ text. body c.version (lines_of c) ++ text) (append_assoc first (10 ∷ []) rest)
    in
    subst (λ version. Spelled version (body c.version (lines_of c) ++ (first ++ 10 ∷ rest)) d) (taken_keeps c e line take)
    (subst (λ text. Spelled e.version text d) bytes (more (grows is line fact.1 fact.2 take)))

-- a line that isn't the last one
next-line : (c d : Certificate) (first rest : List ℕ) (offset : ℕ) (lines : List TextLine) → IsCertificate c
    → ((e : Certificate) → IsCertificate e → read_behind e lines ≡ Ok d → Spelled e.version (body e.version (lines_of e) ++ rest) d)
    → going_on offset (λ e. read_behind e lines) (grown_by_line c (line_of_text c.version first)) ≡ Ok d → Spelled c.version (body c.version (lines_of c) ++ (first ++ 10 ∷ rest)) d
next-line c d first rest offset lines is more reads = go (line_of_text c.version first) refl reads
  where
    grow : (line : Line) → line_of_text c.version first ≡ Ok line → (after : Result Certificate Refused) → taken c line ≡ after
        → going_on offset (λ e. read_behind e lines) (line_taken after) ≡ Ok d → Spelled c.version (body c.version (lines_of c) ++ (first ++ 10 ∷ rest)) d
    grow line read (Ok e) take reads = taken-line c d e line first rest is read take (λ made. more e made reads)
    grow line read (Err No_room) take reads = absurd cc
    grow line read (Err Out_of_order) take reads = absurd cc

    go : (read : Result Line Fault) → line_of_text c.version first ≡ read → going_on offset (λ e. read_behind e lines) (grown_by_line c read) ≡ Ok d →
        Spelled c.version (body c.version (lines_of c) ++ (first ++ 10 ∷ rest)) d
    go (Ok line) read reads = grow line read (taken c line) refl reads
    go (Err fault) read reads = absurd cc

-- the lines behind those that made a certificate
read-texts : (c d : Certificate) (first : List ℕ) (texts : List (List ℕ)) (offset : ℕ) → IsCertificate c → read_behind c (lines_from offset (first ∷ texts)) ≡ Ok d
    → Spelled c.version (body c.version (lines_of c) ++ joined 10 (first ∷ texts)) d
unfolding read_behind
read-texts c d first [] offset is reads = absurd cc
read-texts c d first (next ∷ texts) offset is reads =
    go (bytes_eq first end_line) refl (λ e made more. read-texts e d next texts (offset + length first + 1) made more) reads
  where
    lines : List TextLine
    lines = lines_from (offset + length first + 1) (next ∷ texts)

    go : (last : Bool) → bytes_eq first end_line ≡ last
        → ((e : Certificate) → IsCertificate e → read_behind e lines ≡ Ok d → Spelled e.version (body e.version (lines_of e) ++ joined 10 (next ∷ texts)) d)
        → cond last (closed c lines) (going_on offset (λ e. read_behind e lines) (grown_by_line c (line_of_text c.version first))) ≡ Ok d
        → Spelled c.version (body c.version (lines_of c) ++ joined 10 (first ∷ next ∷ texts)) d
    go true last more reads = end-line c d first next texts (offset + length first + 1) is last reads
    go false last more reads = next-line c d first (joined 10 (next ∷ texts)) offset lines is more reads

-- a line that tells a version is that version's first one
version-line : (text : List ℕ) (version : Version) → version_of_line text ≡ Some version → text ≡ first_line version
version-line text version tells =
    go (bytes_eq text (first_line One)) (bytes_eq text (first_line Two)) (bytes_eq text (first_line Three)) (bytes_eq text (first_line Four)) refl refl refl refl tells
  where
    go : (first second third fourth : Bool) → bytes_eq text (first_line One) ≡ first → bytes_eq text (first_line Two) ≡ second → bytes_eq text (first_line Three) ≡ third
        → bytes_eq text (first_line Four) ≡ fourth
        → cond first (Some One) (cond second (Some Two) (cond third (Some Three) (cond fourth (Some Four) None))) ≡ Some version → text ≡ first_line version
    go true second third fourth one two three four tells = let is : One ≡ version = cc in same_bytes text (first_line One) one ∙ ap first_line is
    go false true third fourth one two three four tells = let is : Two ≡ version = cc in same_bytes text (first_line Two) two ∙ ap first_line is
    go false false true fourth one two three four tells = let is : Three ≡ version = cc in same_bytes text (first_line Three) three ∙ ap first_line is
    go false false false true one two three four tells = let is : Four ≡ version = cc in same_bytes text (first_line Four) four ∙ ap first_line is
    go false false false false one two three four tells = absurd cc

-- the lines of a text, from the first one on
whole-text : (c : Certificate) (texts : List (List ℕ)) → is_some_text texts ≡ true → read_lines (lines_from 0 texts) ≡ Ok c → (certificate_text c ≡ joined 10 texts) × IsCertificate c
unfolding is_some_text
whole-text c [] some reads = absurd cc
whole-text c (first ∷ []) some reads = absurd cc
whole-text c (first ∷ next ∷ texts) some reads = go (version_of_line first) refl reads
  where
    go : (told : Option Version) → version_of_line first ≡ told → read_versioned 0 told (lines_from (0 + length first + 1) (next ∷ texts)) ≡ Ok c
        → (certificate_text c ≡ joined 10 (first ∷ next ∷ texts)) × IsCertificate c
    go (Some version) tells reads =
        let rest = read-texts (empty version) c next texts (0 + length first + 1) (begins version) reads in
        let first_is : first_line c.version ≡ first = ap first_line rest.same ∙ sym (version-line first version tells) in (
          append_assoc (ended_line (first_line c.version)) (body c.version (lines_of c)) (ended_line end_line) ∙ ap (λ text. ended_line (first_line c.version) ++ text) rest.text
              ∙ append_assoc (first_line c.version) (10 ∷ []) (joined 10 (next ∷ texts)) ∙ ap (λ line. line ++ 10 ∷ joined 10 (next ∷ texts)) first_is,
          rest.made,
        )
    go None tells reads = absurd cc

-- Bytes that are read as a certificate are its text, and it is one that lines make.
pub text-read : (text : List ℕ) (c : Certificate) → certificate_of_text text ≡ Ok c → (certificate_text c ≡ text) × IsCertificate c
unfolding certificate_of_text
text-read text c reads =
    let whole = whole-text c (parts 10 text) (some-text text []) reads in
    (whole.0 ∙ joined-parts 10 text, whole.1)
