-- What is written on a page.
use Rattle.std.specs.Prelude.{◌≡◌, ◌++◌, ℕ, false, List}
use Rattle.texts.specs.declared.pages.Page.{Page}

-- Some text that tells so was added, unless memory is refused by now.
pub record AddsSome (Tells : List ℕ → Type 0) (before after : Page) : Type 0 where
  pub keeps : after.is_short ≡ false → before.is_short ≡ false
  pub writes : after.is_short ≡ false → (text : List ℕ) × Tells text × (after.bytes.items ≡ before.bytes.items ++ text)
