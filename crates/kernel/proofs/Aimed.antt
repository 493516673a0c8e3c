-- A renaming is turned so that one fresh choice is the other under it: at what is named nothing changes.
use Rattle.std.proofs.Common.{◌≡◌, ℕ, false, List, [], ◌∷◌, inl, inr, refl, ap, sym, ◌∙◌, subst}
use Rattle.std.specs.Prelude.{◌≢◌, Option, Some, None}
use Rattle.std.proofs.lemmas.Bool.{eq-eqb, both_ways}
use Rattle.std.proofs.lemmas.Bool.Decides.{eqb_tells}
use Rattle.rights.specs.Maps.{put}
use Rattle.rights.proofs.Changes.{put-cases, put-same, put-other}
use Rattle.fd_table.specs.Descriptions.{PairClass, Object, At_node, At_end, Descriptor, Message, IfHeld}
use Rattle.fd_table.specs.OpenFiles.{OpenFiles, is_end}
use Rattle.kernel.specs.World.{World, Choice, IsFresh}
use Rattle.kernel.specs.Steps.{Programs, step}
use Rattle.kernel.specs.WellFormed.{Numbering, EachMessage, IsWorld}
use Rattle.kernel.specs.Renamings.{Renaming, SameObject, EachNamed, SameFiles, NumbersDoNotMatter, renamed_object, renamed_entry, renamed_messages}
use Rattle.kernel.proofs.Brings.{ground, Known}
use Rattle.kernel.proofs.Fresh.{IsApart, known_entries, known_messages}
use Rattle.kernel.proofs.ChangedAlike.{Aims, each_named}
use Rattle.kernel.proofs.SteppedAlike.{SameStep, steps_same}

-- ## Two numbers change places
pub swap : ℕ → ℕ → ℕ → ℕ
swap a b = put (put (λ n. n) a b) b a

pub swap-left : (a b : ℕ) → swap a b a ≡ b
unfolding swap
swap-left a b = put-cases (λ x. x ≡ b) (put (λ n. n) a b) b a a (λ same. same) (λ other. put-same (λ n. n) a b)

pub swap-right : (a b : ℕ) → swap a b b ≡ a
unfolding swap
swap-right a b = put-same (put (λ n. n) a b) b a

pub swap-other : (a b n : ℕ) → n ≢ a → n ≢ b → swap a b n ≡ n
unfolding swap
swap-other a b n one two = put-other (put (λ n. n) a b) b a n two ∙ put-other (λ n. n) a b n one

pub swap-back : (a b n : ℕ) → swap a b (swap a b n) ≡ n
swap-back a b n =
    elim (eqb_tells n b) [
      | inl right ↦ ap (swap a b) (ap (swap a b) right.1 ∙ swap-right a b) ∙ swap-left a b ∙ sym right.1
      | inr not_right ↦ elim (eqb_tells n a) [
        | inl left ↦ ap (swap a b) (ap (swap a b) left.1 ∙ swap-left a b) ∙ swap-right a b ∙ sym left.1
        | inr not_left ↦ ap (swap a b) (swap-other a b n not_left.1 not_right.1) ∙ swap-other a b n not_left.1 not_right.1
      ]
    ]

-- ## The renaming, turned so that n goes to k
abbrev pub aimed : Renaming → ℕ → ℕ → Renaming
aimed r n k = record {
  description = λ m. swap (r.description n) k (r.description m);
  pair = r.pair;
  description_back = λ m. r.description_back (swap (r.description n) k m);
  pair_back = r.pair_back;
  description_there = λ m. ap (swap (r.description n) k) (r.description_there (swap (r.description n) k m)) ∙ swap-back (r.description n) k m;
  description_here = λ m. ap r.description_back (swap-back (r.description n) k (r.description m)) ∙ r.description_here m;
  pair_there = r.pair_there;
  pair_here = r.pair_here;
}

abbrev aimed_pair : Renaming → ℕ → ℕ → Renaming
aimed_pair r n k = record {
  description = r.description;
  pair = λ m. swap (r.pair n) k (r.pair m);
  description_back = r.description_back;
  pair_back = λ m. r.pair_back (swap (r.pair n) k m);
  description_there = r.description_there;
  description_here = r.description_here;
  pair_there = λ m. ap (swap (r.pair n) k) (r.pair_there (swap (r.pair n) k m)) ∙ swap-back (r.pair n) k m;
  pair_here = λ m. ap r.pair_back (swap-back (r.pair n) k (r.pair m)) ∙ r.pair_here m;
}

pub aim-kept : (r : Renaming) (n k m : ℕ) → m ≢ n → r.description m ≢ k → (aimed r n k).description m ≡ r.description m
aim-kept r n k m other away =
    swap-other (r.description n) k (r.description m)
    (λ same. other (sym (r.description_here m) ∙ ap r.description_back same ∙ r.description_here n)) away

aim-pair-kept : (r : Renaming) (n k m : ℕ) → m ≢ n → r.pair m ≢ k → (aimed_pair r n k).pair m ≡ r.pair m
aim-pair-kept r n k m other away =
    swap-other (r.pair n) k (r.pair m) (λ same. other (sym (r.pair_here m) ∙ ap r.pair_back same ∙ r.pair_here n)) away

abbrev pub aimed_at : Renaming → Choice → Choice → Renaming
aimed_at r j k = aimed_pair (aimed (aimed r j.first k.first) j.second k.second) j.pair k.pair

pub aims : (r : Renaming) (j k : Choice) → j.first ≢ j.second → k.first ≢ k.second → Aims (aimed_at r j k) j k
aims r j k one two =
    let turned : Renaming = aimed r j.first k.first in
    let first : turned.description j.first ≡ k.first = swap-left (r.description j.first) k.first in
    record {
      first = aim-kept turned j.second k.second j.first one (λ same. two (sym first ∙ same)) ∙ first;
      second = swap-left (turned.description j.second) k.second;
      pair = swap-left (r.pair j.pair) k.pair;
    }

-- ## What is named keeps its other number
pub record Separate (r : Renaming) (w v : OpenFiles) (j k : Choice) (n : ℕ) : Type 0 where
  pub twin : SameObject r w v n
  pub here : IsApart w j n
  pub there : IsApart v k (r.description n)

not_end : (pair q side : ℕ) (class : PairClass) → is_end pair side (At_end q side class) ≡ false → q ≢ pair
not_end pair q side class none same = both_ways (is_end pair side (At_end q side class)) none (rw (eq-eqb q pair same, eq-eqb side side refl) refl)

module _ (r : Renaming) (w v : OpenFiles) (j k : Choice) where
  number_again : (n : ℕ) → Separate r w v j k n → (aimed_at r j k).description n ≡ r.description n
  number_again n apart =
      let turned : Renaming = aimed r j.first k.first in
      let once : turned.description n ≡ r.description n = aim-kept r j.first k.first n apart.here.first apart.there.first in
      aim-kept turned j.second k.second n apart.here.second (λ same. apart.there.second (sym once ∙ same)) ∙ once

  object_again : (o other : Object) → other ≡ renamed_object r o → ((side : ℕ) → is_end j.pair side o ≡ false) →
      ((side : ℕ) → is_end k.pair side other ≡ false) → other ≡ renamed_object (aimed_at r j k) o
  object_again (At_node n access) other is here there = is
  object_again (At_end q side class) other is here there =
      is
      ∙ ap (λ x. At_end x side class)
      (sym (aim-pair-kept (aimed (aimed r j.first k.first) j.second k.second) j.pair k.pair q
      (not_end j.pair q side class (here side))
      (not_end k.pair (r.pair q) side class (ap (is_end k.pair side) (sym is) ∙ there side))))

  twin_again : (n : ℕ) → Separate r w v j k n → SameObject (aimed_at r j k) w v n
  twin_again n apart = record {
    object = ap v.objects (number_again n apart) ∙ object_again (w.objects n) (v.objects (r.description n)) apart.twin.object apart.here.ends apart.there.ends;
    state = ap v.states (number_again n apart) ∙ apart.twin.state;
  }

  entry_again : (o : Option Descriptor) → IfHeld (λ d. Separate r w v j k d.description) o → renamed_entry r o ≡ renamed_entry (aimed_at r j k) o
  entry_again None apart = refl
  entry_again (Some d) apart = ap (λ x. Some (record d { description = x })) (sym (number_again d.description apart))

  messages_again : (messages : List Message) → EachNamed (Separate r w v j k) messages → renamed_messages r messages ≡ renamed_messages (aimed_at r j k) messages
  messages_again [] apart = refl
  messages_again (m ∷ messages) apart = λ i. record { byte = m.byte; passed = entry_again m.passed apart.0 i } ∷ messages_again messages apart.1 i

  held_again : (o : Option Descriptor) → IfHeld (λ d. Separate r w v j k d.description) o → IfHeld (λ d. SameObject (aimed_at r j k) w v d.description) o
  held_again None apart = tt
  held_again (Some d) apart = twin_again d.description apart

  no_messages : (messages : List Message) → renamed_messages r messages ≡ [] → messages ≡ []
  no_messages [] is = refl
  no_messages (m ∷ messages) is = absurd cc

  pub aimed_files : SameFiles r w v → ((p n : ℕ) → IfHeld (λ d. Separate r w v j k d.description) (w.table p n)) →
      ((pair side : ℕ) → EachNamed (Separate r w v j k) (w.queue pair side)) → ((side : ℕ) → w.queue j.pair side ≡ []) →
      ((side : ℕ) → v.queue k.pair side ≡ []) → SameFiles (aimed_at r j k) w v
  aimed_files same entries messages empty there = record {
    table = λ p n. same.table p n ∙ entry_again (w.table p n) (entries p n);
    queue = queue;
    entries = λ p n. held_again (w.table p n) (entries p n);
    messages = λ pair side. each_named (Separate r w v j k) (SameObject (aimed_at r j k) w v) twin_again (w.queue pair side) (messages pair side);
  }
    where
      queue : (pair side : ℕ) → v.queue ((aimed_at r j k).pair pair) side ≡ renamed_messages (aimed_at r j k) (w.queue pair side)
      queue pair side =
          elim (eqb_tells pair j.pair) [
            | inl own ↦
                ap (λ q. v.queue ((aimed_at r j k).pair q) side) own.1 ∙ ap (λ q. v.queue q side) (swap-left (r.pair j.pair) k.pair) ∙ there side
                ∙ ap (renamed_messages (aimed_at r j k)) (sym (ap (λ q. w.queue q side) own.1 ∙ empty side))
            | inr other ↦ elim (eqb_tells (r.pair pair) k.pair) [
              | inl hit ↦
                  (let none : w.queue pair side ≡ [] = no_messages (w.queue pair side) (sym (same.queue pair side) ∙ ap (λ q. v.queue q side) hit.1 ∙ there side) in
                  ap (λ q. v.queue (swap (r.pair j.pair) k.pair q) side) hit.1 ∙ ap (λ q. v.queue q side) (swap-right (r.pair j.pair) k.pair)
                  ∙ same.queue j.pair side ∙ ap (renamed_messages r) (empty side) ∙ ap (renamed_messages (aimed_at r j k)) (sym none))
              | inr away ↦
                  ap (λ q. v.queue q side) (aim-pair-kept (aimed (aimed r j.first k.first) j.second k.second) j.pair k.pair pair other.1 away.1)
                  ∙ same.queue pair side ∙ messages_again (w.queue pair side) (messages pair side)
            ]
          ]

-- ## What is named in two well-formed worlds
module _ (r : Renaming) (w v : World) (one two : Numbering) (j k : Choice) where
  separate_one : (o : Option Descriptor) → IfHeld (λ d. SameObject r w.files v.files d.description) o →
      IfHeld (Known (ground one w (IsApart w.files j))) o → IfHeld (Known (ground two v (IsApart v.files k))) (renamed_entry r o) →
      IfHeld (λ d. Separate r w.files v.files j k d.description) o
  separate_one None twin here there = tt
  separate_one (Some d) twin here there = record { twin = twin; here = here.1; there = there.1 }

  separate_each : (messages : List Message) → EachNamed (SameObject r w.files v.files) messages →
      EachMessage (Known (ground one w (IsApart w.files j))) messages →
      EachMessage (Known (ground two v (IsApart v.files k))) (renamed_messages r messages) → EachNamed (Separate r w.files v.files j k) messages
  separate_each [] twin here there = tt
  separate_each (m ∷ messages) twin here there = (separate_one m.passed twin.0 here.1 there.1, separate_each messages twin.1 here.2 there.2)

  aimed_worlds : (programs : Programs) → IsWorld programs one w → IsWorld programs two v → SameFiles r w.files v.files → IsFresh w.files j →
      IsFresh v.files k → SameFiles (aimed_at r j k) w.files v.files
  aimed_worlds programs good fine same fresh also =
      aimed_files r w.files v.files j k same
      (λ p n. separate_one (w.files.table p n) (same.entries p n) (known_entries programs one w good j fresh p n)
      (subst (IfHeld (Known (ground two v (IsApart v.files k)))) (same.table p n) (known_entries programs two v fine k also p n)))
      (λ pair side. separate_each (w.files.queue pair side) (same.messages pair side) (known_messages programs one w good j fresh pair side)
      (subst (EachMessage (Known (ground two v (IsApart v.files k)))) (same.queue pair side)
      (known_messages programs two v fine k also (r.pair pair) side)))
      fresh.pair.empty also.pair.empty

-- Whatever is chosen in both, the lines are the same, and the next worlds differ only in numbers again.
pub steps_alike : NumbersDoNotMatter
steps_alike programs w v e j k valid good fine d fresh also =
    let r : Renaming = aimed_at d.renaming j k in
    let files : SameFiles r w.files v.files = aimed_worlds d.renaming w v good.numbering fine.numbering j k programs good.world fine.world d.files fresh also in
    let both : SameStep r (step programs w e j) (step programs v e k) =
    steps_same r programs valid good.numbering w v good.world good.walks (record { tree = d.tree; processes = d.processes; files = files }) fine.world.idle j k
    (aims d.renaming j k fresh.apart also.apart) e
    in
    record {
      line = both.line;
      next = record { renaming = r; tree = both.world.tree; processes = both.world.processes; files = both.world.files };
    }
