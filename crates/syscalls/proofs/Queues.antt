-- What a call through a socket answers, by the front message.
use Rattle.std.proofs.Common.{◌≡◌, ℕ, Bool, true, false, List, [], ◌∷◌, refl, ap, sym, subst, ◌∙◌}
use Rattle.std.specs.Prelude.{Option, Some, None, is_some, nat_lt, length, if◌then◌else◌}
use Rattle.process.specs.State.{ProcessState}
use Rattle.rights.specs.Sides.{other_side}
use Rattle.fd_table.specs.Descriptions.{Descriptor, Message}
use Rattle.fd_table.specs.OpenFiles.{is_open}
use Rattle.fd_table.specs.Filled.{Front, SendRefusal, Closed, Full, front_shown, front_passed, send_refusal}
use Rattle.kernel.specs.World.{World}
use Rattle.kernel.specs.Answers.{Event, Fails, Gives, Pop, Push, Set_entry, same, gives, unless}
use Rattle.kernel.specs.Calls.{read_end, sent_end, receive_end, received, blocked}
use Rattle.rights.specs.Errors.{EINVAL, EPIPE, Refused}
use Rattle.fd_table.specs.declared.faults.SendFault.{SendFault}
use Rattle.fd_table.specs.declared.faults.SendFault.TheVariants as fault
use Rattle.fd_table.specs.Views.{TellsSendFault}
use Rattle.syscalls.proofs.Tests.{passes, fails}

pub read_none : (w : World) (p : ℕ) (s : ProcessState) (e : Event) (d : ℕ) (pair side : ℕ) (messages : List Message) → None ≡ front_shown messages →
    read_end w p s e d pair side messages ≡ (if is_open w.files pair (other_side side) then blocked w p s e
    (w.files.states d).nonblock else gives 256)
read_none w p s e d pair side [] is = refl
read_none w p s e d pair side (m ∷ messages) is = absurd cc

pub read_some : (w : World) (p : ℕ) (s : ProcessState) (e : Event) (d : ℕ) (pair side : ℕ) (messages : List Message) (front : Front) →
    Some front ≡ front_shown messages → read_end w p s e d pair side messages ≡ Gives front.byte
    (record same { queue = Pop pair (other_side side) }) []
read_some w p s e d pair side [] front is = absurd cc
read_some w p s e d pair side (m ∷ messages) front is =
    let byte : m.byte ≡ front.byte = ap (λ (f : Front). f.byte) (sym (some_same is)) in
    ap (λ b. Gives b (record same { queue = Pop pair (other_side side) }) []) byte
  where
    some_same : {x y : Front} → Some x ≡ Some y → x ≡ y
    some_same same = cc

-- what a refused message, and a taken one, tell
refusal_none : (there room : Bool) → (if there then (if room then None else Some Full) else Some Closed) ≡ None → (there ≡ true) × (room ≡ true)
refusal_none true true is = (refl, refl)
refusal_none true false is = absurd cc
refusal_none false room is = absurd cc

refusal_closed : (there room : Bool) → (if there then (if room then None else Some Full) else Some Closed) ≡ Some Closed → there ≡ false
refusal_closed true true is = absurd cc
refusal_closed true false is = absurd cc
refusal_closed false room is = refl

refusal_full : (there room : Bool) → (if there then (if room then None else Some Full) else Some Closed) ≡ Some Full → (there ≡ true) × (room ≡ false)
refusal_full true true is = absurd cc
refusal_full true false is = (refl, refl)
refusal_full false room is = absurd cc

module _ (w : World) (p : ℕ) (s : ProcessState) (e : Event) (d : ℕ) (pair side : ℕ) (message : Message) where
  pub sends : send_refusal w.files pair side ≡ None → sent_end w p s e d pair side message ≡ Gives 1 (record same { queue = Push pair side message }) []
  sends is =
      let (other, room) = refusal_none (is_open w.files pair (other_side side)) (nat_lt (length (w.files.queue pair side)) 16) is in
      passes _ _ _ _ other ∙ ap (λ b. if b then Gives 1 (record same { queue = Push pair side message }) [] else blocked w p s e (w.files.states d).nonblock) room

  pub sends_closed : send_refusal w.files pair side ≡ Some Closed → sent_end w p s e d pair side message ≡ Fails EPIPE Refused
  sends_closed is = fails _ _ _ _ (refusal_closed (is_open w.files pair (other_side side)) (nat_lt (length (w.files.queue pair side)) 16) is)

  pub sends_full : send_refusal w.files pair side ≡ Some Full → sent_end w p s e d pair side message ≡ blocked w p s e (w.files.states d).nonblock
  sends_full is =
      let (other, room) = refusal_full (is_open w.files pair (other_side side)) (nat_lt (length (w.files.queue pair side)) 16) is in
      passes _ _ _ _ other ∙ ap (λ b. if b then Gives 1 (record same { queue = Push pair side message }) [] else blocked w p s e (w.files.states d).nonblock) room

pub told_closed : (o : Option SendRefusal) (e : SendFault) → TellsSendFault o e → e ≡ fault.Closed → o ≡ Some Closed
told_closed o e tells is = subst (TellsSendFault o) is tells (λ same. absurd cc)

pub told_full : (o : Option SendRefusal) (e : SendFault) → TellsSendFault o e → e ≡ fault.Full → o ≡ Some Full
told_full o e tells is = subst (TellsSendFault o) is tells (λ same. absurd cc)

-- ## Receiving a descriptor
module _ (w : World) (p : ℕ) (s : ProcessState) (e : Event) (d : ℕ) (pair side number : ℕ) where
  pub receives_none : (messages : List Message) → None ≡ front_shown messages →
      receive_end w p s e d pair side number messages ≡ unless (is_open w.files pair (other_side side)) EINVAL Refused
      (blocked w p s e (w.files.states d).nonblock)
  receives_none [] is = refl
  receives_none (m ∷ messages) is = absurd cc

  pub receives_plain : (messages : List Message) (front : Front) → Some front ≡ front_shown messages → front.carries ≡ false → receive_end w p s e d pair side number messages ≡ Fails EINVAL Refused
  receives_plain [] front is plain = absurd cc
  receives_plain (m ∷ messages) front is plain = at m.passed (ap (λ (f : Front). f.carries) (front_same is) ∙ plain)
    where
      front_same : {x y : Front} → Some x ≡ Some y → y ≡ x
      front_same same = cc

      at : (o : Option Descriptor) → is_some o ≡ false → received w p s e pair side number o ≡ Fails EINVAL Refused
      at None none = refl
      at (Some passed) none = absurd cc

  -- the descriptor that comes
  pub record Arrives (messages : List Message) : Type 0 where
    pub passed : Descriptor
    pub front : front_passed messages ≡ Some passed
    pub is : receive_end w p s e d pair side number messages ≡ Gives number (record same { queue = Pop pair (other_side side); table = Set_entry number passed }) []

  pub receives : (messages : List Message) (front : Front) → Some front ≡ front_shown messages → front.carries ≡ true → Arrives messages
  receives [] front is carries = absurd cc
  receives (m ∷ messages) front is carries = at m.passed refl (ap (λ (f : Front). f.carries) (front_same is) ∙ carries)
    where
      front_same : {x y : Front} → Some x ≡ Some y → y ≡ x
      front_same same = cc

      at : (o : Option Descriptor) → m.passed ≡ o → is_some o ≡ true → Arrives (m ∷ messages)
      at None same none = absurd cc
      at (Some passed) same none = record { passed = passed; front = same; is = ap (received w p s e pair side number) same }
