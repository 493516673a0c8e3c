-- What the code claims of a plan stands for.
use Rattle.answers.specs.declared.planning.Claim.{Claim as ClaimCode}
use Rattle.answers.specs.Planned.{Claim}

abbrev pub claim_seen : ClaimCode → Claim
claim_seen claim = record { trusted = claim.trusted; left = claim.left; untrusted = claim.untrusted }
