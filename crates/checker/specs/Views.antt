-- What the values of the code stand for.
use Rattle.checker.specs.declared.verdicts.Verdict.{Verdict as VerdictCode}
use Rattle.checker.specs.declared.verdicts.Verdict.TheVariants as verdict
use Rattle.checker.specs.Verdicts.{Verdict, Yes, No}

abbrev pub verdict_of : VerdictCode → Verdict
verdict_of verdict.Yes = Yes
verdict_of (verdict.No program point rule) = No program point rule
