-- What holds of a lookup by any rules: it leads to one answer, which is the one that is computed.
use Rattle.std.proofs.Common.{◌≡◌, ℕ, zero, suc, ◌+◌, ◌-◌, ◌≤◌, List, [], ◌∷◌, ◌++◌, Bool, true, false, Option, Some, None, ap, sym, ◌∙◌, refl, arith, cond}
use Rattle.std.specs.Prelude.{nat_le}
use Rattle.std.proofs.lemmas.Bool.{le-leb, lt-leb}
use Rattle.file_tree.specs.Places.{path_components}
use Rattle.lookup.specs.Paths.{is_absolute}
use Rattle.lookup.specs.Answers.{Loop, Finding, Not_found}
use Rattle.rights.specs.Limits.{most_links}
use Rattle.lookup.specs.Leads.{Stand, Next, Goes, Ends, followed_from, onward, next_from, next, Leads, here, there}
use Rattle.lookup.specs.Steps.{Move, Moves, Meets, Stops, Rules, target_cursor, moved_on, along, resumed, looked}

-- a lookup leads to one answer
pub one_answer : {Cursor : Type 0} (rules : Rules Cursor) (s : Stand Cursor) (a b : Finding) → Leads rules s a → Leads rules s b → a ≡ b
one_answer rules s a b (here g) (here h) = cc
one_answer rules s a b (here g) (there h hs) = cc
one_answer rules s a b (there g gs) (here h) = cc
one_answer rules s a b (there {after = p} g gs) (there {after = q} h hs) =
    let same : p ≡ q = cc in one_answer rules q a b (rw same at gs) hs

-- what a link that is met leads to
pub met : {Cursor : Type 0} → Rules Cursor → ℕ → Cursor → List (List ℕ) → List ℕ → Finding
met rules zero = λ cursor left target. Not_found Loop
met rules (suc links) = λ cursor left target. resumed (looked rules links) (path_components target ++ left) (target_cursor rules cursor target)

pub looked_is : {Cursor : Type 0} (rules : Rules Cursor) (links : ℕ) → looked rules links ≡ along rules (met rules links)
unfolding looked met
looked_is rules zero = refl
looked_is rules (suc links) = refl

-- what is left to be looked up leads to
abbrev pub rest_of : {Cursor : Type 0} → Rules Cursor → Stand Cursor → Finding
rest_of rules s = looked rules (most_links - s.followed) s.left s.cursor

-- One step leaves what the whole leads to.
abbrev pub Agrees : {Cursor : Type 0} → Rules Cursor → Next Cursor → Finding → Type 0
Agrees rules (Goes s) a = a ≡ rest_of rules s
Agrees rules (Ends b) a = a ≡ b

module _ {Cursor : Type 0} (rules : Rules Cursor) where
  followed_agrees : (left : List (List ℕ)) (followed links : ℕ) (cursor : Option Cursor) → most_links - followed ≡ links →
      Agrees rules (followed_from left followed cursor) (resumed (looked rules links) left cursor)
  followed_agrees left followed links None e = refl
  followed_agrees left followed links (Some cursor) e = ap (λ (k : ℕ). looked rules k left cursor) (sym e)

  -- a link that is met: none more is followed, or one
  meets_agrees : (cursor : Cursor) (left : List (List ℕ)) (followed links : ℕ) (target : List ℕ) → most_links - followed ≡ links →
      Agrees rules (onward rules cursor left followed (Meets target)) (met rules links cursor left target)
  unfolding met
  meets_agrees cursor left followed zero target e =
      let most : nat_le most_links followed ≡ true = le-leb most_links followed (omega arith) in rw most refl
  meets_agrees cursor left followed (suc links) target e =
      let more : nat_le most_links followed ≡ false = lt-leb most_links followed (omega arith) in
      rw more (followed_agrees (path_components target ++ left) (followed + 1) links (target_cursor rules cursor target) (omega arith))

  onward_agrees : (cursor : Cursor) (left : List (List ℕ)) (followed : ℕ) (move : Move Cursor) →
      Agrees rules (onward rules cursor left followed move)
      (moved_on (along rules (met rules (most_links - followed)) left) (met rules (most_links - followed) cursor left) move)
  onward_agrees cursor left followed (Moves to) = ap (λ (go : List (List ℕ) → Cursor → Finding). go left to) (sym (looked_is rules (most_links - followed)))
  onward_agrees cursor left followed (Meets target) = meets_agrees cursor left followed (most_links - followed) target refl
  onward_agrees cursor left followed (Stops a) = refl

  next_agrees : (left : List (List ℕ)) (cursor : Cursor) (followed : ℕ) → Agrees rules (next_from rules cursor left followed) (along rules (met rules (most_links - followed)) left cursor)
  next_agrees [] cursor followed = refl
  next_agrees (name ∷ left) cursor followed = onward_agrees cursor left followed (rules.component cursor name left)

  pub rest_agrees : (s : Stand Cursor) → Agrees rules (next rules s) (rest_of rules s)
  rest_agrees s = rw (looked_is rules (most_links - s.followed)) (next_agrees s.left s.cursor s.followed)

  pub rest_goes : (s r : Stand Cursor) → next rules s ≡ Goes r → rest_of rules s ≡ rest_of rules r
  rest_goes s r e = rw e at (rest_agrees s)

  pub rest_ends : (s : Stand Cursor) (a : Finding) → next rules s ≡ Ends a → rest_of rules s ≡ a
  rest_ends s a e = rw e at (rest_agrees s)

  -- The answer that is computed is one that the lookup leads to.
  abbrev IsLed : List (List ℕ) → Cursor → ℕ → Finding → Type 0
  IsLed left cursor followed a = Leads rules (record { cursor = cursor; left = left; followed = followed }) a

  names_led : (followed : ℕ) (follow : Cursor → List (List ℕ) → List ℕ → Finding) →
      ((cursor : Cursor) (name : List ℕ) (left : List (List ℕ)) (target : List ℕ) → rules.component cursor name left ≡ Meets target →
      IsLed (name ∷ left) cursor followed (follow cursor left target)) → (left : List (List ℕ)) (cursor : Cursor) →
      IsLed left cursor followed (along rules follow left cursor)
  names_led followed follow link [] cursor = here refl
  names_led followed follow link (name ∷ left) cursor = by_move (rules.component cursor name left) refl (names_led followed follow link left)
    where
      by_move : (move : Move Cursor) → rules.component cursor name left ≡ move → ((to : Cursor) → IsLed left to followed (along rules follow left to)) →
          IsLed (name ∷ left) cursor followed (moved_on (along rules follow left) (follow cursor left) move)
      by_move (Moves to) e rest = there (ap (onward rules cursor left followed) e) (rest to)
      by_move (Meets target) e rest = link cursor name left target e
      by_move (Stops a) e rest = here (ap (onward rules cursor left followed) e)

  too_many : (links followed : ℕ) → followed + links ≡ most_links → links ≡ 0 → nat_le most_links followed ≡ true
  too_many links followed sum none = le-leb most_links followed (omega arith)

  some_more : (links followed : ℕ) → followed + suc links ≡ most_links → nat_le most_links followed ≡ false
  some_more links followed sum = lt-leb most_links followed (omega arith)

  onward_met : {move : Move Cursor} (cursor : Cursor) (left : List (List ℕ)) (followed : ℕ) (target : List ℕ) (from : Option Cursor) →
      nat_le most_links followed ≡ false → target_cursor rules cursor target ≡ from → move ≡ Meets target →
      onward rules cursor left followed move ≡ followed_from (path_components target ++ left) (followed + 1) from
  onward_met cursor left followed target from more is e = ap (onward rules cursor left followed) e ∙ rw (more, is) refl

  pub looked_led : (links followed : ℕ) → followed + links ≡ most_links → (left : List (List ℕ)) (cursor : Cursor) → IsLed left cursor followed (looked rules links left cursor)
  unfolding looked
  looked_led zero followed sum left cursor =
      names_led followed (λ cursor left target. Not_found Loop)
      (λ cursor name left target e. here (ap (onward rules cursor left followed) e ∙ rw (too_many 0 followed sum refl) refl)) left cursor
  looked_led (suc links) followed sum left cursor =
      names_led followed (λ cursor left target. resumed (looked rules links) (path_components target ++ left) (target_cursor rules cursor target))
      (λ cursor name left target e. led_by (target_cursor rules cursor target) cursor name left target refl e (looked_led links (followed + 1) (omega arith))) left cursor
    where
      led_by : (o : Option Cursor) (cursor : Cursor) (name : List ℕ) (left : List (List ℕ)) (target : List ℕ) → target_cursor rules cursor target ≡ o →
          rules.component cursor name left ≡ Meets target →
          ((left : List (List ℕ)) (cursor : Cursor) → IsLed left cursor (followed + 1) (looked rules links left cursor)) →
          IsLed (name ∷ left) cursor followed (resumed (looked rules links) (path_components target ++ left) o)
      led_by None cursor name left target is e rest = here (onward_met cursor left followed target None (some_more links followed sum) is e)
      led_by (Some from) cursor name left target is e rest = there (onward_met cursor left followed target (Some from) (some_more links followed sum) is e) (rest (path_components target ++ left) from)

  -- So the answer that is computed is the one that the lookup leads to.
  pub leads_rest : (s : Stand Cursor) → s.followed ≤ most_links → Leads rules s (rest_of rules s)
  leads_rest s few = looked_led (most_links - s.followed) s.followed (omega arith) s.left s.cursor

  pub leads_only : (s : Stand Cursor) (a : Finding) → Leads rules s a → a ≡ rest_of rules s
  leads_only s a (here e) = sym (rest_ends s a e)
  leads_only s a (there {after = r} e led) = leads_only r a led ∙ sym (rest_goes s r e)

-- Two moves, and two cursors, that go together.
abbrev pub SameMove : {P Q : Type 0} → (P → Q → Type 0) → Move P → Move Q → Type 0
SameMove R (Moves p) (Moves q) = R p q
SameMove R (Meets x) (Meets y) = x ≡ y
SameMove R (Stops a) (Stops b) = a ≡ b
SameMove R _ _ = ⊥

abbrev pub SameCursor : {P Q : Type 0} → (P → Q → Type 0) → Option P → Option Q → Type 0
SameCursor R None None = Unit {0}
SameCursor R (Some p) (Some q) = R p q
SameCursor R _ _ = ⊥

-- Two lookups whose cursors go together give the same answers.
pub record Together {P Q : Type 0} (ps : Rules P) (qs : Rules Q) (R : P → Q → Type 0) : Type 0 where
  pub arrived : (p : P) (q : Q) → R p q → ps.arrived p ≡ qs.arrived q
  pub component : (p : P) (q : Q) (name : List ℕ) (left : List (List ℕ)) → R p q → SameMove R (ps.component p name left) (qs.component q name left)
  pub restart : SameCursor R ps.restart qs.restart

module _ {P Q : Type 0} (ps : Rules P) (qs : Rules Q) (R : P → Q → Type 0) (together : Together ps qs R) where
  taken_alike : (go : P → Finding) (go' : Q → Finding) (follow follow' : List ℕ → Finding) → ((p : P) (q : Q) → R p q → go p ≡ go' q) →
      ((target : List ℕ) → follow target ≡ follow' target) → (m : Move P) (n : Move Q) → SameMove R m n →
      moved_on go follow m ≡ moved_on go' follow' n
  taken_alike go go' follow follow' on off (Moves p) (Moves q) h = on p q h
  taken_alike go go' follow follow' on off (Moves p) (Meets y) h = absurd h
  taken_alike go go' follow follow' on off (Moves p) (Stops b) h = absurd h
  taken_alike go go' follow follow' on off (Meets x) (Moves q) h = absurd h
  taken_alike go go' follow follow' on off (Meets x) (Meets y) h = ap follow h ∙ off y
  taken_alike go go' follow follow' on off (Meets x) (Stops b) h = absurd h
  taken_alike go go' follow follow' on off (Stops a) (Moves q) h = absurd h
  taken_alike go go' follow follow' on off (Stops a) (Meets y) h = absurd h
  taken_alike go go' follow follow' on off (Stops a) (Stops b) h = h

  along_alike : (follow : P → List (List ℕ) → List ℕ → Finding) (follow' : Q → List (List ℕ) → List ℕ → Finding) →
      ((p : P) (q : Q) (left : List (List ℕ)) (target : List ℕ) → R p q → follow p left target ≡ follow' q left target) →
      (left : List (List ℕ)) (p : P) (q : Q) → R p q → along ps follow left p ≡ along qs follow' left q
  along_alike follow follow' met [] p q h = together.arrived p q h
  along_alike follow follow' met (name ∷ left) p q h =
      taken_alike (along ps follow left) (along qs follow' left) (follow p left) (follow' q left) (along_alike follow follow' met left)
      (λ target. met p q left target h) (ps.component p name left) (qs.component q name left) (together.component p q name left h)

  resumed_alike : (go : List (List ℕ) → P → Finding) (go' : List (List ℕ) → Q → Finding) →
      ((left : List (List ℕ)) (p : P) (q : Q) → R p q → go left p ≡ go' left q) → (left : List (List ℕ)) (o : Option P) (o' : Option Q) →
      SameCursor R o o' → resumed go left o ≡ resumed go' left o'
  resumed_alike go go' on left None None h = refl
  resumed_alike go go' on left None (Some q) h = absurd h
  resumed_alike go go' on left (Some p) None h = absurd h
  resumed_alike go go' on left (Some p) (Some q) h = on left p q h

  cursors_alike : (p : P) (q : Q) (target : List ℕ) → R p q → SameCursor R (target_cursor ps p target) (target_cursor qs q target)
  cursors_alike p q target h = by_text (is_absolute target)
    where
      by_text : (b : Bool) → SameCursor R (cond b ps.restart (Some p)) (cond b qs.restart (Some q))
      by_text true = together.restart
      by_text false = h

  pub looked_alike : (links : ℕ) (left : List (List ℕ)) (p : P) (q : Q) → R p q → looked ps links left p ≡ looked qs links left q
  unfolding looked
  looked_alike zero left p q h = along_alike (λ p left target. Not_found Loop) (λ q left target. Not_found Loop) (λ p q left target h. refl) left p q h
  looked_alike (suc links) left p q h =
      along_alike
      (λ p left target. resumed (looked ps links) (path_components target ++ left) (target_cursor ps p target))
      (λ q left target. resumed (looked qs links) (path_components target ++ left) (target_cursor qs q target))
      (λ p q left target h. resumed_alike (looked ps links) (looked qs links) (looked_alike links) (path_components target ++ left)
      (target_cursor ps p target) (target_cursor qs q target) (cursors_alike p q target h))
      left p q h
