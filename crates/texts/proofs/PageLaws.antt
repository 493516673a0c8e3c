-- What is added to a page, one after another.
use Rattle.std.proofs.Common.{ℕ, List, ◌++◌, append_assoc, ap, ◌∙◌}
use Rattle.texts.specs.PageViews.{Adds}
use Rattle.texts.specs.declared.pages.Page.{Page}

pub adds_both : (before between after : Page) (first second : List ℕ) → Adds before between first → Adds between after second → Adds before after (first ++ second)
adds_both before between after first second one two = record {
  keeps = λ whole. one.keeps (two.keeps whole);
  adds = λ whole. two.adds whole ∙ ap (λ text. text ++ second) (one.adds (two.keeps whole)) ∙ append_assoc before.bytes.items first second;
}
