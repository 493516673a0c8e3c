use Rattle.std.proofs.Common.{◌∙◌, ap, codes, inl, inr, refl, subst, sym, Bool, true, false}
use Rattle.std.specs.Prelude.{◌≡◌, List, ℕ, Option, Some, Ok, Err, IfSome}
use Rattle.certificate.specs.Bounds.{Certificate}
use Rattle.certificate_text.specs.Readings.{certificate_of_text}
use Rattle.certificate_text.specs.Texts.{certificate_text}
use Rattle.certificate_text.specs.WritingViews.{Writes}
use Rattle.checker.specs.Verdicts.{IsAccepted}
use Rattle.rights.specs.Output.{Took, TookFront}
use Rattle.rights.specs.declared.stops.Stop.{Stop}
use Rattle.rights.specs.declared.stops.Stop.TheVariants.{Memory, Device, Spent}
use Rattle.rules.specs.Expansions.{expansion}
use Rattle.rules.proofs.Sound.{sound}
use Rattle.searcher.specs.Versions.{flat_version}
use Rattle.task.specs.Limits.{is_plan}
use Rattle.task.specs.Plans.{Plan, none_marked}
use Rattle.commands.specs.Searched.{Proposes}
use Rattle.commands.proofs.proposing.propose.Goals as goal

not_false : (b : Bool) → (b ≡ false → ⊥) → b ≡ true
not_false true marked = refl
not_false false marked = absurd (marked refl)

-- a certificate that is found, and written
proposes : (plan : Plan) (bounds : Certificate) (found : Option Certificate) (before after : Option (List ℕ)) → is_plan plan ≡ true →
    (none_marked plan ≡ false → ⊥) → found ≡ Some bounds → IfSome found (λ cert. IsAccepted plan cert) →
    IfSome found (λ cert. cert.version ≡ flat_version plan) → certificate_of_text (certificate_text bounds) ≡ Ok bounds →
    Took before after (certificate_text bounds) → Proposes plan before after
proposes plan bounds found before after valid marked is accepted two back took =
    let accepts : IsAccepted plan bounds = subst (λ found. IfSome found (λ cert. IsAccepted plan cert)) is accepted in
    record {
      bounds = bounds;
      version = subst (λ found. IfSome found (λ cert. cert.version ≡ flat_version plan)) is two;
      accepted = accepts;
      sandboxed = sound plan (expansion plan bounds) valid (not_false (none_marked plan) marked) accepts;
      reads_back = back;
      writes = took;
    }

-- what a writer that failed has taken
front-taken : (stop : Stop) (before after : Option (List ℕ)) (faults failed : ℕ) (text : List ℕ) → Writes (Err stop) before after faults failed text → TookFront before after text
front-taken Device before after faults failed text wrote = wrote.0
front-taken Memory before after faults failed text wrote = absurd wrote
front-taken Spent before after faults failed text wrote = absurd wrote

pub returns-in_ok-write_cert-in-Some-clause-proposed : goal.returns-in_ok-write_cert-in-Some-clause-proposed
returns-in_ok-write_cert-in-Some-clause-proposed g c =
    inl (
      refl,
      proposes c.args.task.now c.in-Some.cert _ _ _ c.in_ok-cert.ensures.valid
          (λ marked. let clash = sym (ap Ok c.in-Some.is) ∙ c.in_ok-cert.ensures.marked marked in cc) c.in-Some.is c.in_ok-cert.ensures.accepted c.in_ok-cert.ensures.version
          c.write_cert.ensures.reads_back c.in_ok-write_cert-in-Some.ensures.written.0,
    )

pub returns-in_err-write_cert-in-Some-clause-begun : goal.returns-in_err-write_cert-in-Some-clause-begun
returns-in_err-write_cert-in-Some-clause-begun g c stop = record {
  status = 0;
  text = certificate_text c.in-Some.cert;
  whole =
      inl (
        refl,
        proposes c.args.task.now c.in-Some.cert _ _ _ c.in_ok-cert.ensures.valid
            (λ marked. let clash = sym (ap Ok c.in-Some.is) ∙ c.in_ok-cert.ensures.marked marked in cc) c.in-Some.is c.in_ok-cert.ensures.accepted
            c.in_ok-cert.ensures.version c.write_cert.ensures.reads_back refl,
      );
  begun = front-taken c.in_err-write_cert-in-Some.field-0.0 _ _ _ _ _ c.in_err-write_cert-in-Some.ensures.written;
}

pub returns-in_err-write_all-in-None-clause-begun : goal.returns-in_err-write_all-in-None-clause-begun
returns-in_err-write_all-in-None-clause-begun g c stop = record {
  status = 1;
  text = codes "none\n";
  whole = inr (refl, record { flat_fails = c.in_ok-cert.ensures.flat (ap Ok c.in-None.is); writes = refl });
  begun = c.in_err-write_all-in-None.ensures.err;
}
