-- Lines keep a certificate's version, and the flat certificate is of its task's version.
use Rattle.std.proofs.Common.{◌≡◌, Bool, true, false, List, [], refl}
use Rattle.std.specs.Prelude.{OnOk, Some, None, Result, Ok, Err, if◌then◌else◌}
use Rattle.certificate.specs.Bounds.{Three, Four, Certificate, has_authorities}
use Rattle.certificate.specs.Growths.{grown}
use Rattle.certificate.specs.GrowthViews.{Grows}
use Rattle.certificate.specs.declared.lines.Refusal.{Refusal}
use Rattle.certificate.specs.Lines.{Line}
use Rattle.certificate.proofs.Growths.{grown_keeps}
use Rattle.searcher.specs.Flat.{flat, plain_flat, flat_points, have_own}
use Rattle.searcher.specs.Versions.{flat_version, marked_version}
use Rattle.task.specs.Plans.{Plan, none_marked}

pub grows_keep : (lines : List Line) (c d : Certificate) (r : Result (Unit {0}) Refusal) → Grows r d (grown lines c) → OnOk r (d.version ≡ c.version)
grows_keep lines c d (Ok _) grows = grown_keeps lines c d grows
grows_keep lines c d (Err refusal) grows = tt

pub flat_is_versioned : (plan : Plan) (c : Certificate) → flat plan ≡ Some c → c.version ≡ flat_version plan
unfolding plain_flat
flat_is_versioned plan c is = unmarked (none_marked plan) is
  where
    go : (own : Bool) → (if own then Some (record { version = flat_version plan; points = flat_points plan; channels = []; authorities = [] }) else None) ≡ Some c → c.version ≡ flat_version plan
    go true is = cc
    go false is = absurd cc

    unmarked : (none : Bool) → (if none then plain_flat plan else None) ≡ Some c → c.version ≡ flat_version plan
    unmarked true is = go (have_own plan.starts) is
    unmarked false is = absurd cc

-- That of a task with a marked program has authorities.
pub marked_has : (plan : Plan) → has_authorities (marked_version plan) ≡ true
marked_has plan = go plan.wide
  where
    go : (wide : Bool) → has_authorities (if wide then Four else Three) ≡ true
    go true = refl
    go false = refl
