-- How far the code has read a quoted text, and what a byte does.
use Rattle.records.specs.declared.quoting.Progress.{Progress as ProgressCode}
use Rattle.records.specs.declared.quoting.Progress.TheVariants as progress
use Rattle.records.specs.declared.quoting.Effect.{Effect as EffectCode}
use Rattle.records.specs.declared.quoting.Effect.TheVariants as effects
use Rattle.records.specs.Quoted.{QuoteProgress, Before, Within, Escaped, Lettered, Halfway, Behind, QuoteEffect, Leads, Gives, Stops}

abbrev pub progress_seen : ProgressCode → QuoteProgress
progress_seen progress.Before = Before
progress_seen progress.Within = Within
progress_seen progress.Escaped = Escaped
progress_seen progress.Lettered = Lettered
progress_seen (progress.Halfway digit) = Halfway digit
progress_seen progress.Behind = Behind

abbrev pub effect_seen : EffectCode → QuoteEffect
effect_seen (effects.Leads next) = Leads (progress_seen next)
effect_seen (effects.Gives byte) = Gives byte
effect_seen effects.Stops = Stops
