use Rattle.page.proofs.SafeTexts.{text-bytes, text-references, text-safe}
use Rattle.page.proofs.laws.what_is_shown_is_safe.Goals as goal

pub returns-clause-letters : goal.returns-clause-letters
returns-clause-letters c = text-safe c.args.text.now

pub returns-clause-references : goal.returns-clause-references
returns-clause-references c = text-references c.args.text.now

pub returns-clause-bytes : goal.returns-clause-bytes
returns-clause-bytes c = text-bytes c.args.text.now
