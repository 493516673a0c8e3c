use Rattle.std.proofs.Common.{◌≡◌, drop, map}
use Rattle.std.specs.List.{filter}
use Rattle.certificate.specs.Growths.{grown_by}
use Rattle.certificate.specs.Told.{told_point}
use Rattle.certificate.specs.Views.{points_of}
use Rattle.searcher.specs.Shortening.{is_at_named}
use Rattle.searcher.proofs.shortening.push_named.Given as goal

-- What the points from this one on make of the certificate is what all of them make of the first one; and its version stays.
abbrev pub invariant-loop-point : goal.invariant-loop-point
invariant-loop-point l =
    (grown_by (map (told_point l.fn.short.version) (filter (is_at_named l.task) (points_of (drop l.point-index l.points)))) l.short
    ≡ grown_by (map (told_point l.fn.short.version) (filter (is_at_named l.task) (points_of l.points))) l.fn.short)
    × (l.short.version ≡ l.fn.short.version)
