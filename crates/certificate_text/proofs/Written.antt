-- A text that is written piece by piece.
use Rattle.std.proofs.Common.{◌≡◌, ◌<◌, ℕ, List, [], ◌++◌, refl, ap, sym, ◌∙◌, subst, append_assoc, append-nil}
use Rattle.std.specs.Prelude.{Option, Some, None, Result, Ok, Err}
use Rattle.std.specs.Result.{IsErr, IsErrAnd}
use Rattle.rights.specs.declared.stops.Stop.{Stop}
use Rattle.rights.specs.declared.stops.Stop.TheVariants.{Memory, Device, Spent}
use Rattle.rights.specs.Output.{Took, TookFront}
use Rattle.rights.proofs.Taken.{took_more, front_after}
use Rattle.certificate_text.specs.WritingViews.{Writes}

-- So much of the whole is written, without a failure, and this is left.
pub record Written (before now : Option (List ℕ)) (faults failed : ℕ) (whole left : List ℕ) : Type 0 where
  pub front : List ℕ
  pub took : Took before now front
  pub steady : failed ≡ faults
  pub whole_is : front ++ left ≡ whole

took_nothing : (before : Option (List ℕ)) → Took before before []
took_nothing None = refl
took_nothing (Some bytes) = ap Some (sym (append-nil bytes))

pub written-start : (before : Option (List ℕ)) (faults : ℕ) (whole : List ℕ) → Written before before faults faults whole whole
written-start before faults whole = record { front = []; took = took_nothing before; steady = refl; whole_is = refl }

module _ (before now after : Option (List ℕ)) (faults so failed : ℕ) (whole piece left : List ℕ) (so_far : Written before now faults so whole (piece ++ left)) where
  pub written-next : (u : Unit {0}) → Writes (Ok u) now after so failed piece → Written before after faults failed whole left
  written-next u wrote = record {
    front = so_far.front ++ piece;
    took = took_more before now after _ _ so_far.took wrote.0;
    steady = wrote.1 ∙ so_far.steady;
    whole_is = append_assoc so_far.front piece left ∙ so_far.whole_is;
  }

  pub written-failed : (stop : Stop) → Writes (Err stop) now after so failed piece → Writes (Err stop) before after faults failed whole
  written-failed Device wrote = (
    subst (TookFront before after) so_far.whole_is (front_after before now after so_far.front (piece ++ left) so_far.took
        (record { front = wrote.0.front; rest = wrote.0.rest ++ left; whole = sym (append_assoc wrote.0.front wrote.0.rest left) ∙ ap (λ p. p ++ left) wrote.0.whole; took = wrote.0.took })),
    subst (λ n. n < failed) so_far.steady wrote.1,
  )
  written-failed Memory wrote = wrote
  written-failed Spent wrote = wrote

pub written-all : (before now : Option (List ℕ)) (faults failed : ℕ) (whole : List ℕ) (u : Unit {0}) → Written before now faults failed whole [] → Writes (Ok u) before now faults failed whole
written-all before now faults failed whole u so_far = (
  subst (Took before now) (sym (append-nil so_far.front) ∙ so_far.whole_is) so_far.took,
  so_far.steady,
)

-- the last piece
pub written-last : (before now after : Option (List ℕ)) (faults so failed : ℕ) (whole piece : List ℕ) (r : Result (Unit {0}) Stop) →
    Written before now faults so whole piece → Writes r now after so failed piece → Writes r before after faults failed whole
written-last before now after faults so failed whole piece (Ok u) so_far wrote =
    written-all before after faults failed whole u
    (written-next before now after faults so failed whole piece []
    (subst (Written before now faults so whole) (sym (append-nil piece)) so_far) u wrote)
written-last before now after faults so failed whole piece (Err stop) so_far wrote =
    written-failed before now after faults so failed whole piece []
    (subst (Written before now faults so whole) (sym (append-nil piece)) so_far) stop wrote

-- the first of two pieces, and then both
pub written-front : (before after : Option (List ℕ)) (faults failed : ℕ) (piece rest : List ℕ) (stop : Stop) (r : Result (Unit {0}) Stop) →
    r ≡ Err stop → Writes (Err stop) before after faults failed piece → Writes r before after faults failed (piece ++ rest)
written-front before after faults failed piece rest Device r is wrote =
    subst (λ r. Writes r before after faults failed (piece ++ rest)) (sym is)
    (record { front = wrote.0.front; rest = wrote.0.rest ++ rest; whole = sym (append_assoc wrote.0.front wrote.0.rest rest) ∙ ap (λ p. p ++ rest) wrote.0.whole; took = wrote.0.took }, wrote.1)
written-front before after faults failed piece rest Memory r is wrote = absurd wrote
written-front before after faults failed piece rest Spent r is wrote = absurd wrote

pub written-both : (before now after : Option (List ℕ)) (faults so failed : ℕ) (piece rest : List ℕ) (u : Unit {0}) (r : Result (Unit {0}) Stop) →
    Writes (Ok u) before now faults so piece → Writes r now after so failed rest → Writes r before after faults failed (piece ++ rest)
written-both before now after faults so failed piece rest u (Ok v) wrote then = (took_more before now after piece rest wrote.0 then.0, then.1 ∙ wrote.1)
written-both before now after faults so failed piece rest u (Err Device) wrote then = (front_after before now after piece rest wrote.0 then.0, subst (λ n. n < failed) wrote.1 then.1)
written-both before now after faults so failed piece rest u (Err Memory) wrote then = then
written-both before now after faults so failed piece rest u (Err Spent) wrote then = then

-- an error that is passed on
pub passed_on : {A E : Type 0} (r : Result A E) (e : E) → IsErr r × IsErrAnd r (λ x. x ≡ e) → r ≡ Err e
passed_on (Ok a) e is = absurd is.1
passed_on (Err x) e is = ap Err is.1

-- the same text, otherwise said
pub written-as : (r : Result (Unit {0}) Stop) (before after : Option (List ℕ)) (faults failed : ℕ) (text said : List ℕ) → text ≡ said →
    Writes r before after faults failed text → Writes r before after faults failed said
written-as r before after faults failed text said same wrote = subst (Writes r before after faults failed) same wrote
