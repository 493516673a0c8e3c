use Rattle.answers.proofs.ShownLaws.{stands}
use Rattle.answers.proofs.showing.stands_in.Goals as goal

pub returns-in-Some : goal.returns-in-Some
returns-in-Some c = λ _. stands c.args.words.now c.args.text.now c.in-Some._back.now c.loop-at.at _ c.in-Some.ensures
