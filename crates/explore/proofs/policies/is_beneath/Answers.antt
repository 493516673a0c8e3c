use Rattle.explore.proofs.BeneathTexts.{lies-beneath}
use Rattle.explore.proofs.policies.is_beneath.Goals as goal

pub returns : goal.returns
returns c = rw (c.lies_at.ensures, c.names_text.ensures) (lies-beneath c.args.place.now c.args.text.now)
