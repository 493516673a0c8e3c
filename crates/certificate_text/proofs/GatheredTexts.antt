-- A text that is gathered piece by piece, and handed on to a writer.
use Rattle.std.proofs.Common.{◌≡◌, ◌<◌, ℕ, List, [], ◌++◌, refl, ap, sym, ◌∙◌, subst, append_assoc, append-nil}
use Rattle.std.specs.Prelude.{Option, Result, Ok, Err}
use Rattle.rights.specs.declared.stops.Stop.{Stop}
use Rattle.rights.specs.declared.stops.Stop.TheVariants.{Memory, Device, Spent}
use Rattle.rights.specs.Output.{Took, TookFront}
use Rattle.rights.proofs.Taken.{took_more, front_after, front_of_more}
use Rattle.certificate_text.specs.WritingViews.{Gathers, HandsOn, Writes}

-- the same text, otherwise said
pub gathered-as : (r : Result (Unit {0}) Stop) (before after : Option (List ℕ)) (faults failed : ℕ) (old new text said : List ℕ) → text ≡ said →
    Gathers r before after faults failed old new text → Gathers r before after faults failed old new said
gathered-as r before after faults failed old new text said same wrote = subst (Gathers r before after faults failed old new) same wrote

-- the first of two pieces, and then both
pub gathered-front : (before after : Option (List ℕ)) (faults failed : ℕ) (old new piece rest : List ℕ) (stop : Stop) (r : Result (Unit {0}) Stop) →
    r ≡ Err stop → Gathers (Err stop) before after faults failed old new piece → Gathers r before after faults failed old new (piece ++ rest)
gathered-front before after faults failed old new piece rest Device r is wrote =
    subst (λ r. Gathers r before after faults failed old new (piece ++ rest)) (sym is)
    (subst (TookFront before after) (append_assoc old piece rest) (front_of_more before after (old ++ piece) rest wrote.0), wrote.1)
gathered-front before after faults failed old new piece rest Memory r is wrote = absurd wrote
gathered-front before after faults failed old new piece rest Spent r is wrote = absurd wrote

-- what is handed on of two pieces
whole-both : (first second old mid new piece rest : List ℕ) → first ++ mid ≡ old ++ piece → second ++ new ≡ mid ++ rest → (first ++ second) ++ new ≡ old ++ (piece ++ rest)
whole-both first second old mid new piece rest one two =
    append_assoc first second new
    ∙ ap (λ text. first ++ text) two
    ∙ sym (append_assoc first mid rest)
    ∙ ap (λ text. text ++ rest) one
    ∙ append_assoc old piece rest

hands-both : (before now after : Option (List ℕ)) (old mid new piece rest : List ℕ)
    → HandsOn before now old mid piece → HandsOn now after mid new rest → HandsOn before after old new (piece ++ rest)
hands-both before now after old mid new piece rest one two = record {
  handed = one.handed ++ two.handed;
  took = took_more before now after one.handed two.handed one.took two.took;
  whole = whole-both one.handed two.handed old mid new piece rest one.whole two.whole;
}

front-both : (before now after : Option (List ℕ)) (old mid piece rest : List ℕ)
    → HandsOn before now old mid piece → TookFront now after (mid ++ rest) → TookFront before after (old ++ (piece ++ rest))
front-both before now after old mid piece rest one two =
    subst (TookFront before after)
    (sym (append_assoc one.handed mid rest) ∙ ap (λ text. text ++ rest) one.whole ∙ append_assoc old piece rest)
    (front_after before now after one.handed (mid ++ rest) one.took two)

pub gathered-both : (before now after : Option (List ℕ)) (faults so failed : ℕ) (old mid new piece rest : List ℕ) (u : Unit {0}) (r : Result (Unit {0}) Stop) →
    Gathers (Ok u) before now faults so old mid piece → Gathers r now after so failed mid new rest → Gathers r before after faults failed old new (piece ++ rest)
gathered-both before now after faults so failed old mid new piece rest u (Ok v) wrote then = (hands-both before now after old mid new piece rest wrote.0 then.0, then.1 ∙ wrote.1)
gathered-both before now after faults so failed old mid new piece rest u (Err Device) wrote then =
    (front-both before now after old mid piece rest wrote.0 then.0, subst (λ n. n < failed) wrote.1 then.1)
gathered-both before now after faults so failed old mid new piece rest u (Err Memory) wrote then = then
gathered-both before now after faults so failed old mid new piece rest u (Err Spent) wrote then = then

-- So much of the whole is gathered and written, without a failure, and this is left.
pub record Gathered (before now : Option (List ℕ)) (faults failed : ℕ) (old mid whole left : List ℕ) : Type 0 where
  pub front : List ℕ
  pub hands : HandsOn before now old mid front
  pub steady : failed ≡ faults
  pub whole_is : front ++ left ≡ whole

module _ (before now after : Option (List ℕ)) (faults so failed : ℕ) (old mid new whole piece left : List ℕ) (so_far : Gathered before now faults so old mid whole (piece ++ left)) where
  pub gathered-next : (u : Unit {0}) → Gathers (Ok u) now after so failed mid new piece → Gathered before after faults failed old new whole left
  gathered-next u wrote = record {
    front = so_far.front ++ piece;
    hands = hands-both before now after old mid new so_far.front piece so_far.hands wrote.0;
    steady = wrote.1 ∙ so_far.steady;
    whole_is = append_assoc so_far.front piece left ∙ so_far.whole_is;
  }

  pub gathered-failed : (stop : Stop) → Gathers (Err stop) now after so failed mid new piece → Gathers (Err stop) before after faults failed old new whole
  gathered-failed stop wrote =
      gathered-as (Err stop) before after faults failed old new (so_far.front ++ (piece ++ left)) whole so_far.whole_is
      (gathered-both before now after faults so failed old mid new so_far.front (piece ++ left) tt (Err stop) (so_far.hands, so_far.steady)
      (gathered-front now after so failed mid new piece left stop (Err stop) refl wrote))

pub gathered-all : (before now : Option (List ℕ)) (faults failed : ℕ) (old mid whole : List ℕ) (u : Unit {0}) → Gathered before now faults failed old mid whole [] →
    Gathers (Ok u) before now faults failed old mid whole
gathered-all before now faults failed old mid whole u so_far =
    (subst (HandsOn before now old mid) (sym (append-nil so_far.front) ∙ so_far.whole_is) so_far.hands, so_far.steady)

-- at the end what is gathered is handed on
pub handed-all : (before now after : Option (List ℕ)) (faults so failed : ℕ) (mid text : List ℕ) (u : Unit {0}) (r : Result (Unit {0}) Stop) →
    Gathers (Ok u) before now faults so [] mid text → Writes r now after so failed mid → Writes r before after faults failed text
handed-all before now after faults so failed mid text u (Ok v) wrote then =
    (subst (Took before after) wrote.0.whole (took_more before now after wrote.0.handed mid wrote.0.took then.0), then.1 ∙ wrote.1)
handed-all before now after faults so failed mid text u (Err Device) wrote then =
    (subst (TookFront before after) wrote.0.whole (front_after before now after wrote.0.handed mid wrote.0.took then.0), subst (λ n. n < failed) wrote.1 then.1)
handed-all before now after faults so failed mid text u (Err Memory) wrote then = then
handed-all before now after faults so failed mid text u (Err Spent) wrote then = then
