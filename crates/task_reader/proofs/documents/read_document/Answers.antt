use Rattle.std.proofs.Common.{◌≡◌, ℕ, List, Some, None, IsUtf8, refl, inl, inr, rules}
use Rattle.std.specs.Str.{is_utf8}
use Rattle.std.proofs.lemmas.Bool.{cases_Bool}
use Rattle.std.proofs.lemmas.Str.{IsUtf8-from_is_utf8, is_utf8-from_IsUtf8}
use Rattle.toml.specs.Data.{Members}
use Rattle.toml.specs.Parse.{parse_document}
use Rattle.task_reader.specs.Documents.{document_of}
use Rattle.task_reader.proofs.documents.read_document.Goals as goal

document_of-read : (bytes : List ℕ) (ms : Members) → IsUtf8 bytes → parse_document bytes ≡ Some ms → document_of bytes ≡ Some ms
document_of-read bytes ms text read = rw (is_utf8-from_IsUtf8 bytes text) read

document_of-refused : (bytes : List ℕ) → (IsUtf8 bytes → parse_document bytes ≡ None) → document_of bytes ≡ None
document_of-refused bytes refused =
    elim (cases_Bool (is_utf8 bytes)) [
      | inl is ↦ rw is (refused (IsUtf8-from_is_utf8 bytes is))
      | inr not ↦ rw not refl
    ]

pub returns-in-Ok : goal.returns-in-Ok
returns-in-Ok c = rw (document_of-read c.args.bytes.now _ c.in-Ok.ensures.ok.0 c.in-Ok.ensures.ok.1) refl

pub returns-else-is_memory : goal.returns-else-is_memory
returns-else-is_memory c = rw (document_of-refused c.args.bytes.now (c.in-Err.ensures.refused (search rules))) refl
