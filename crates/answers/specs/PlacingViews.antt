-- What a word's places stand for.
use Rattle.answers.specs.declared.placing_words.PlacingWord.{PlacingWord as PlacingCode}
use Rattle.follow.specs.Places.{Placing}

abbrev pub placing_seen : PlacingCode → Placing
placing_seen p = record { real = p.real.now; model = p.model.now }
