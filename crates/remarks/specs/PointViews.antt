-- What the tests of a program's points stand for. (own)
use Rattle.std.specs.Prelude.{◌&&◌, not, ℕ, Bool, List, Option}
use Rattle.certificate.specs.Bounds.{Bound}
use Rattle.instruction_set.specs.Programs.{Instruction}
use Rattle.remarks.specs.Listed.{has_bound, may_enter_at}
use Rattle.remarks.specs.Marked.{goes_on_mixed, is_skipping_marked}
use Rattle.remarks.specs.Remarks.{bound_here, has_both, is_doubled, is_either_at, is_halt, is_skipping, is_stray, is_there, is_working, may_close, may_name_number, stays_idle}
use Rattle.remarks.specs.Warnings.{is_call}
use Rattle.remarks.specs.Ways.{is_flagged}
use Rattle.remarks.specs.declared.point_test.PointTest.{PointTest}
use Rattle.remarks.specs.declared.point_test.PointTest.TheVariants as test

abbrev pub holds : List Instruction → List (Option Bound) → PointTest → ℕ → Bool
holds code bounds test.Bounded = has_bound bounds
holds code bounds test.Calls = is_there code is_call
holds code bounds test.Works = is_there code is_working
holds code bounds (test.Names n) = λ point. is_there code (may_name_number n (bound_here bounds point)) point
holds code bounds (test.Closes n) = λ point. is_there code (may_close n (bound_here bounds point)) point
holds code bounds (test.Stray n) = is_stray code bounds n
holds code bounds test.Unsettled = λ point. is_either_at bounds point && not (is_there code is_halt point)
holds code bounds test.Skipping = is_skipping code bounds
holds code bounds (test.UnsettledMarked mixed) = goes_on_mixed code mixed.now
holds code bounds (test.SkippingMarked mixed) = is_skipping_marked code bounds mixed.now
holds code bounds (test.MayEnter is_untold) = may_enter_at code bounds is_untold
holds code bounds (test.Idle named worked n) = stays_idle code bounds named.now worked.now n
holds code bounds (test.Both n m) = has_both bounds n m
holds code bounds (test.Doubled closed others n m) = is_doubled code bounds closed.now others.now n m
holds code bounds (test.Unflagged flags) = λ point. not (is_flagged flags.now point)
