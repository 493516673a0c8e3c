use Rattle.answers.proofs.NoAnswerLaws.{listing_says}
use Rattle.answers.proofs.laws.a_listing_says_programs.Goals as goal

pub returns : goal.returns
returns c = listing_says
