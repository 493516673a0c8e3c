-- The flat certificate of a valid task is taken whole: where each first process has a program of its own, no line of it is refused.
use Rattle.std.proofs.Common.{◌≡◌, ◌≤◌, ◌<◌, ◌+◌, ◌⊎◌, inl, inr, ℕ, zero, suc, Bool, true, false, List, [], ◌∷◌, ◌++◌, length, map, refl, ap, sym, ◌∙◌, subst, append_assoc, append-nil, arith}
use Rattle.std.specs.Prelude.{◌&&◌, ◌==◌, not, nat_le, nat_lt, Option, Some, None, Err, slice_set, if◌then◌else◌}
use Rattle.std.specs.List.{list_all, list_any, slice_get, AllByRecursion, IsDistinct}
use Rattle.std.specs.Ordering.{is_lt, nat_cmp, ordering_then}
use Rattle.std.specs.declared.cmp.Ordering.{Ordering}
use Rattle.std.specs.declared.cmp.Ordering.TheVariants.{Less, Equal, Greater}
use Rattle.std.specs.Str.{bytes_eq}
use Rattle.std.proofs.Math.Dec.{eqb}
use Rattle.std.proofs.lemmas.Bool.{eqb-true, leb-true, ltb-true}
use Rattle.std.proofs.lemmas.Grind.{flat_map-append}
use Rattle.std.proofs.lemmas.List.{length-map, length-set}
use Rattle.std.proofs.lemmas.Map.Steps.{length-le_from_distinct_below}
use Rattle.rights.proofs.Tests.{both_left, both_right, either_one, not_true}
use Rattle.rights.specs.Limits.{most_programs}
use Rattle.file_tree.specs.Nodes.{Node, node}
use Rattle.file_tree.specs.Places.{begins}
use Rattle.texts.specs.Names.{is_name}
use Rattle.instruction_set.specs.Programs.{Instruction, ends_well, is_instruction, is_program}
use Rattle.task.specs.Plans.{FirstDescriptor, FirstObject, On_node, On_end, Grant, NamedProgram, Start, Plan, code_in}
use Rattle.task.specs.Limits.{all_apart, is_tree, are_grants, is_program_named, are_named_apart, is_start, are_descriptors, are_programs, are_starts, is_plan}
use Rattle.certificate.specs.Bounds.{ModeBound, Target, In_grant, Slot, Open, Bound, PointBound, Version, Held, Certificate, tells_further}
use Rattle.certificate.specs.Growth.{above_blocks, copies, distinct, distinct_behind, name_order, empty, open_bound, programs_of_block, programs_of_slot, programs_of_target}
use Rattle.certificate.proofs.Distinct.{behind-append}
use Rattle.certificate.proofs.Last.{above_blocks-last, above_blocks-none}
use Rattle.certificate.specs.Growths.{grown_by, then_grown}
use Rattle.certificate.specs.GrowthViews.{Grows}
use Rattle.certificate.specs.declared.lines.Refusal.{Refusal}
use Rattle.certificate.specs.declared.lines.Refusal.TheVariants.{Limit, Order, Memory}
use Rattle.certificate.specs.Told.{untold_held}
use Rattle.instruction_set.specs.Successors.{enters_mode}
use Rattle.searcher.specs.Flat.{code_of_start, first_held, first_target, plain_flat, flat_bound, flat_points, flat_points_of, grant_target, have_own, flat_mode, name_of_start}
use Rattle.searcher.specs.Flat.{nearer, next_behind, points_behind, points_from, with_first, with_next}
use Rattle.certificate.proofs.Growths.{by_append}
use Rattle.searcher.specs.Versions.{flat_version}
use Rattle.searcher.proofs.Taken.{AllPlain, flat_of, listed, names, of_points, one_more, plain_closed, points_grown, room_for, run_names}
use Rattle.searcher.proofs.Valid.{parts_valid, programs_named, starts_valid}

-- FIRST DESCRIPTORS name no program.
if_plain : (b : Bool) (here there : Target) → programs_of_target here ≡ [] → programs_of_target there ≡ [] → programs_of_target (if b then here else there) ≡ []
if_plain true here there one other = one
if_plain false here there one other = other

grant_plain : (grants : List Grant) (place : List (List ℕ)) → programs_of_target (grant_target grants place) ≡ []
unfolding grant_target
grant_plain [] place = refl
grant_plain (g ∷ grants) place = if_plain (begins g.path place) (In_grant g.name) (grant_target grants place) refl (grant_plain grants place)

target_plain : (plan : Plan) (object : FirstObject) → programs_of_target (first_target plan object) ≡ []
target_plain plan (On_node n access) = grant_plain plan.grants (node plan.nodes n).place
target_plain plan (On_end pair side) = refl

-- nor do they as a version tells them
if_same : (b : Bool) (h : Held) → (if b then h else untold_held h).target ≡ h.target
if_same true h = refl
if_same false h = refl

held_plain : (plan : Plan) (d : FirstDescriptor) → programs_of_target (first_held plan d).target ≡ []
held_plain plan d = ap programs_of_target (if_same (tells_further (flat_version plan)) _) ∙ target_plain plan d.object

set_plain : (slots : List Slot) (n : ℕ) (s : Slot) → AllPlain slots → programs_of_slot s ≡ [] → AllPlain (slice_set slots n s)
unfolding AllPlain
set_plain [] n s plain is = tt
set_plain (t ∷ slots) zero s plain is = (is, plain.1)
set_plain (t ∷ slots) (suc n) s plain is = (plain.0, set_plain slots n s plain.1 is)

module _ (plan : Plan) (b : Bound) where
  first_plain : (descriptors : List FirstDescriptor) → AllPlain b.slots → AllPlain (with_first plan b descriptors).slots
  first_plain [] plain = plain
  first_plain (d ∷ descriptors) plain =
      set_plain (with_first plan b descriptors).slots d.number (Open (first_held plan d)) (first_plain descriptors plain) (held_plain plan d)

  first_long : (descriptors : List FirstDescriptor) → length (with_first plan b descriptors).slots ≡ length b.slots
  first_long [] = refl
  first_long (d ∷ descriptors) =
      length-set (with_first plan b descriptors).slots d.number (Open (first_held plan d)) ∙ first_long descriptors

  first_form : (descriptors : List FirstDescriptor) → with_first plan b descriptors ≡ record b { slots = (with_first plan b descriptors).slots }
  first_form [] = refl
  first_form (d ∷ descriptors) =
      λ k. record (first_form descriptors k) { slots = slice_set (with_first plan b descriptors).slots d.number (Open (first_held plan d)) }

-- THE NEXT PROCESS has a name behind the one asked for.
chosen : {A : Type 0} (b : Bool) (x y z : A) → (if b then x else y) ≡ z → ((b ≡ true) × (x ≡ z)) ⊎ ((b ≡ false) × (y ≡ z))
chosen true x y z is = inl (refl, is)
chosen false x y z is = inr (refl, is)

pub same_some : {A : Type 0} (x y : A) → Some x ≡ Some y → x ≡ y
same_some x y is = cc

module _ (plan : Plan) (name : List ℕ) where
  abbrev IsNext : Start → Type 0
  IsNext s = (is_lt (name_order name (name_of_start plan s)) ≡ true) × (is_start plan.nodes (length plan.programs) s ≡ true)

  is_nearer : (t s : Start) (o : Option Start) → is_start plan.nodes (length plan.programs) t ≡ true → (o ≡ Some s → IsNext s)
      → nearer plan name t o ≡ Some s → IsNext s
  is_nearer t s None valid rest is = go (chosen (is_lt (name_order name (name_of_start plan t))) (Some t) None (Some s) is)
    where
      go : ((is_lt (name_order name (name_of_start plan t)) ≡ true) × (Some t ≡ Some s)) ⊎ ((is_lt (name_order name (name_of_start plan t)) ≡ false) × (None ≡ Some s)) → IsNext s
      go (inl (less, same)) = subst IsNext (same_some t s same) (less, valid)
      go (inr (less, same)) = absurd cc
  is_nearer t s (Some u) valid rest is =
      let less = is_lt (name_order name (name_of_start plan t)) in
      let before = is_lt (name_order (name_of_start plan t) (name_of_start plan u)) in
      go (chosen (less && before) (Some t) (Some u) (Some s) is)
    where
      go : (((is_lt (name_order name (name_of_start plan t)) && is_lt (name_order (name_of_start plan t) (name_of_start plan u))) ≡ true) × (Some t ≡ Some s))
          ⊎ (((is_lt (name_order name (name_of_start plan t)) && is_lt (name_order (name_of_start plan t) (name_of_start plan u))) ≡ false) × (Some u ≡ Some s)) → IsNext s
      go (inl (less, same)) =
          subst IsNext (same_some t s same) (both_left (is_lt (name_order name (name_of_start plan t))) (is_lt (name_order (name_of_start plan t) (name_of_start plan u))) less, valid)
      go (inr (less, same)) = rest same

  is_next : (starts : List Start) (s : Start) → list_all (is_start plan.nodes (length plan.programs)) starts ≡ true
      → next_behind plan name starts ≡ Some s → IsNext s
  unfolding next_behind
  is_next [] s valid is = absurd cc
  is_next (t ∷ starts) s valid is =
      let here = is_start plan.nodes (length plan.programs) t in
      let there = list_all (is_start plan.nodes (length plan.programs)) starts in
      is_nearer t s (next_behind plan name starts) (both_left here there valid) (is_next starts s (both_right here there valid)) is

-- A PROGRAM'S POINTS stand above each name behind its own.
abbrev Above : List PointBound → List ℕ → Type 0
Above points name = (q : List ℕ) → is_lt (name_order name q) ≡ true → above_blocks points q 0 ≡ true

less_then : (o p : Ordering) → is_lt o ≡ true → is_lt (ordering_then o p) ≡ true
less_then Less p is = refl
less_then Equal p is = absurd cc
less_then Greater p is = absurd cc

run_above : (name : List ℕ) (b : Bound) (points : List PointBound) (point : ℕ) (i : Instruction) (code : List Instruction)
    → Above (points ++ points_from name b point (i ∷ code)) name
unfolding points_from
run_above name b points point i [] q less =
    let last : PointBound = record { program = name; point = point; bound = b } in
    above_blocks-last q 0 points last ∙ less_then (name_order name q) (nat_cmp point 0) less
run_above name b points point i (j ∷ code) q less =
    let last : PointBound = record { program = name; point = point; bound = b } in
    ap (λ list. above_blocks list q 0) (sym (append_assoc points (last ∷ []) (points_from name b (point + 1) (j ∷ code))))
    ∙ run_above name b (points ++ last ∷ []) (point + 1) j code q less

code_there : (programs : List NamedProgram) (n : ℕ) → n < length programs → list_all is_program_named programs ≡ true
    → ends_well (code_in (slice_get programs n)) ≡ true
code_there [] n within named = absurd (omega arith)
code_there (p ∷ programs) zero within named =
    let is = both_right (is_name p.name) (is_program p.code) (both_left (is_program_named p) (list_all is_program_named programs) named) in
    both_right (nat_le (length p.code) 256 && list_all (is_instruction (length p.code)) p.code) (ends_well p.code) is
code_there (p ∷ programs) (suc n) within named = code_there programs n (omega arith) (both_right (is_program_named p) (list_all is_program_named programs) named)

some_above : (name : List ℕ) (b : Bound) (points : List PointBound) (code : List Instruction) → ends_well code ≡ true
    → Above (points ++ points_from name b 0 code) name
some_above name b points [] ends = absurd cc
some_above name b points (i ∷ code) ends = run_above name b points 0 i code

-- TURN BY TURN: more points that are taken behind others
IsGrown : Version → List PointBound → List PointBound → Type 0
IsGrown v points more = grown_by more (of_points v points) ≡ Some (of_points v (points ++ more))

module _ (v : Version) (plan : Plan) (valid : is_plan plan ≡ true) where
  start_form : (s : Start) → flat_bound plan s ≡ flat_of (flat_mode s.mode (list_any enters_mode (code_of_start plan s))) (flat_bound plan s).slots
  start_form s = first_form plan (open_bound (flat_mode s.mode (list_any enters_mode (code_of_start plan s)))) s.descriptors

  module _ (s : Start) where
    abbrev mode : ModeBound
    mode = flat_mode s.mode (list_any enters_mode (code_of_start plan s))

    abbrev slots : List Slot
    slots = (flat_bound plan s).slots

    long : length slots ≡ 16
    long = first_long plan (open_bound mode) s.descriptors

    plain : AllPlain slots
    unfolding AllPlain
    plain = first_plain plan (open_bound mode) s.descriptors (plain_closed [] 16 tt)

    start_grown : (points : List PointBound) → length (listed points) + 1 ≤ 8 → above_blocks points (name_of_start plan s) 0 ≡ true
        → IsGrown v points (flat_points_of plan s)
    unfolding IsGrown
    start_grown points few above =
        let name = name_of_start plan s in
        ap (λ b. grown_by (points_from name b 0 (code_of_start plan s)) (of_points v points)) (start_form s)
        ∙ points_grown name mode slots long plain v points 0 (code_of_start plan s) (room_for points name few) above
        ∙ ap (λ b. Some (of_points v (points ++ points_from name b 0 (code_of_start plan s)))) (sym (start_form s))

    start_listed : (points : List PointBound) → length (listed (points ++ flat_points_of plan s)) ≤ length (listed points) + 1
    start_listed points =
        let name = name_of_start plan s in
        let more = one_more (listed points) (length (code_of_start plan s)) name in
        let own : names (flat_points_of plan s) ≡ copies (length (code_of_start plan s)) name =
        ap (λ b. names (points_from name b 0 (code_of_start plan s))) (start_form s) ∙ run_names name mode slots long plain 0 (code_of_start plan s) in
        let same : listed (points ++ flat_points_of plan s) ≡ distinct_behind bytes_eq (listed points) (copies (length (code_of_start plan s)) name) =
        ap (λ list. distinct bytes_eq list) (flat_map-append programs_of_block points (flat_points_of plan s) ∙ ap (λ list. names points ++ list) own)
        ∙ behind-append bytes_eq [] (names points) (copies (length (code_of_start plan s)) name) in
        subst (λ list. length list ≤ length (listed points) + 1) (sym same) more

    start_above : is_start plan.nodes (length plan.programs) s ≡ true → (points : List PointBound) → Above (points ++ flat_points_of plan s) (name_of_start plan s)
    start_above is points =
        let within = ltb-true s.program (length plan.programs) (both_left (nat_lt s.program (length plan.programs)) (are_descriptors plan.nodes s.descriptors) is) in
        some_above (name_of_start plan s) (flat_bound plan s) points (code_of_start plan s) (code_there plan.programs s.program within (programs_named plan valid))

  none_grown : (points : List PointBound) → IsGrown v points []
  unfolding grown_by IsGrown
  none_grown points = ap (λ list. Some (of_points v list)) (sym (append-nil points))

  both_grown : (points own rest : List PointBound) → IsGrown v points own → IsGrown v (points ++ own) rest → IsGrown v points (own ++ rest)
  unfolding IsGrown
  both_grown points own rest first second =
      by_append own rest (of_points v points) ∙ ap (then_grown (grown_by rest)) first ∙ second ∙ ap (λ list. Some (of_points v list)) (append_assoc points own rest)

  -- with the next process, or with none
  next_grown : (turns : List Start) (name : List ℕ) (points : List PointBound) → Above points name → length (listed points) + suc (length turns) ≤ 8
      → ((s : Start) (more : List PointBound) → Above more (name_of_start plan s) → length (listed more) + length turns ≤ 8 → IsGrown v more (points_behind plan turns (name_of_start plan s)))
      → (o : Option Start) → next_behind plan name plan.starts ≡ o → IsGrown v points (with_next plan (points_behind plan turns) o)
  next_grown turns name points above few rest None same = none_grown points
  next_grown turns name points above few rest (Some s) same =
      let is = is_next plan name plan.starts s (starts_valid plan valid) same in
      let own = flat_points_of plan s in
      let more = start_listed s points in
      both_grown points own (points_behind plan turns (name_of_start plan s))
      (start_grown s points (omega (arith, few)) (above (name_of_start plan s) is.0))
      (rest s (points ++ own) (start_above s is.1 points) (omega (arith, few, more)))

  turns_grown : (turns : List Start) (name : List ℕ) (points : List PointBound) → Above points name → length (listed points) + length turns ≤ 8
      → IsGrown v points (points_behind plan turns name)
  unfolding points_behind
  turns_grown [] name points above few = none_grown points
  turns_grown (t ∷ turns) name points above few =
      next_grown turns name points above few (λ s more. turns_grown turns (name_of_start plan s) more) (next_behind plan name plan.starts) refl

-- Where each first process has a program of its own, they are at most as many as there are programs.
abbrev numbers : List Start → List ℕ
numbers starts = map (λ (s : Start). s.program) starts

apart : (n : ℕ) (starts : List Start) → list_all (λ (t : Start). not (n == t.program)) starts ≡ true → AllByRecursion (λ y. eqb n y ≡ false) (numbers starts)
apart n [] is = tt
apart n (t ∷ starts) is =
    let here = not (n == t.program) in
    let there = list_all (λ (u : Start). not (n == u.program)) starts in
    (not_true (n == t.program) (both_left here there is), apart n starts (both_right here there is))

own_distinct : (starts : List Start) → have_own starts ≡ true → IsDistinct eqb (numbers starts)
unfolding IsDistinct
own_distinct [] own = tt
own_distinct (s ∷ starts) own =
    let here = list_all (λ (t : Start). not (s.program == t.program)) starts in
    (apart s.program starts (both_left here (have_own starts) own), own_distinct starts (both_right here (have_own starts) own))

each_below : (starts : List Start) (tree : List Node) (n : ℕ) → list_all (is_start tree n) starts ≡ true → (q : ℕ) → list_any (eqb q) (numbers starts) ≡ true → q < n
each_below [] tree n valid q is = absurd cc
each_below (s ∷ starts) tree n valid q is =
    let here = is_start tree n s in
    let there = list_all (is_start tree n) starts in
    let within = ltb-true s.program n (both_left (nat_lt s.program n) (are_descriptors tree s.descriptors) (both_left here there valid)) in
    let rest = each_below starts tree n (both_right here there valid) q in
    first_or (either_one (eqb q s.program) (list_any (eqb q) (numbers starts)) is) within rest
  where
    first_or : (eqb q s.program ≡ true) ⊎ (list_any (eqb q) (numbers starts) ≡ true) → s.program < n → (list_any (eqb q) (numbers starts) ≡ true → q < n) → q < n
    first_or (inl same) within rest = let is = eqb-true q s.program same in omega (arith, is, within)
    first_or (inr found) within rest = rest found

few_programs : (plan : Plan) → is_plan plan ≡ true → length plan.programs ≤ 8
few_programs plan valid =
    let before = is_tree plan.nodes && are_grants plan.nodes plan.grants in
    let programs = are_programs plan.programs in
    let are : programs ≡ true =
    both_right before programs (both_left (before && programs) (are_starts plan.nodes (length plan.programs) plan.starts) (parts_valid plan valid)) in
    let few = nat_le (length plan.programs) most_programs in
    let each = list_all is_program_named plan.programs in
    leb-true (length plan.programs) 8 (both_left few each (both_left (few && each) (all_apart are_named_apart plan.programs) are))

few_starts : (plan : Plan) → is_plan plan ≡ true → have_own plan.starts ≡ true → length plan.starts ≤ 8
few_starts plan valid own =
    let few = few_programs plan valid in
    let most = length-le_from_distinct_below (numbers plan.starts) (length plan.programs) (own_distinct plan.starts own)
    (each_below plan.starts plan.nodes (length plan.programs) (starts_valid plan valid)) in
    let same = length-map plan.starts (λ (s : Start). s.program) in
    omega (arith, few, most, same)

pub flat_grows : (plan : Plan) → is_plan plan ≡ true → have_own plan.starts ≡ true
    → grown_by (flat_points plan) (empty (flat_version plan)) ≡ Some (of_points (flat_version plan) (flat_points plan))
unfolding distinct_behind IsGrown
flat_grows plan valid own =
    let few = few_starts plan valid own in
    turns_grown (flat_version plan) plan valid plan.starts [] [] (λ q less. above_blocks-none q 0) (omega (arith, few))

-- what the code's growing comes to, then
pub flat_taken : (plan : Plan) (starts others : List Start) (c : Certificate) (own : Bool) → starts ≡ plan.starts → others ≡ plan.starts → c ≡ empty (flat_version plan)
    → own ≡ have_own starts → own ≡ true → is_plan plan ≡ true → grown_by (points_behind plan others []) c ≡ Some (of_points (flat_version plan) (flat_points plan))
flat_taken plan starts others c own same again new is owned valid =
    (λ k. grown_by (points_behind plan (again k) []) (new k))
    ∙ flat_grows plan valid (ap have_own (sym same) ∙ sym is ∙ owned)

pub is_flat : (plan : Plan) (starts : List Start) (own : Bool) → starts ≡ plan.starts → own ≡ have_own starts → own ≡ true
    → plain_flat plan ≡ Some (of_points (flat_version plan) (flat_points plan))
unfolding plain_flat
is_flat plan starts own same is owned =
    ap (λ b. if b then Some (of_points (flat_version plan) (flat_points plan)) else None) (ap have_own (sym same) ∙ sym is ∙ owned)

pub not_refused : (refusal : Refusal) (new c : Certificate) (answer : Option Certificate) → Grows (Err refusal) new answer → answer ≡ Some c
    → (refusal ≡ Limit) ⊎ (refusal ≡ Order) → ⊥
not_refused Limit new c answer grows is which = cc
not_refused Order new c answer grows is which = cc
not_refused Memory new c answer grows is (inl which) = cc
not_refused Memory new c answer grows is (inr which) = cc
