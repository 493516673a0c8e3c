-- What the code's draft says of the lines that were judged.
use Rattle.std.proofs.Common.{◌≡◌, ◌+◌, ℕ, Bool, true, false, List, [], ◌∷◌, ◌++◌, length, map, drop, get_or, refl}
use Rattle.std.proofs.Common.{ap, sym, ◌∙◌, subst, append_assoc, append-nil, length-append, suc, zero, arith, ◌<◌, ◌≤◌, Bor}
use Rattle.std.specs.Prelude.{Option, Some, None, is_none, cond}
use Rattle.std.specs.List.{flat_map}
use Rattle.std.proofs.lemmas.List.{drop_all}
use Rattle.prog_asm.specs.declared.drafts.Draft.{Draft}
use Rattle.instruction_set.specs.Lines.{text_lines}
use Rattle.instruction_set.specs.Assembly.{Line, NoLabel, Step, TooMany, TwiceLabel, is_label, is_one_too_many, is_twice, line_with, lines_behind, point_named, steps_of, steps_on}
use Rattle.instruction_set.specs.Forms.{Alone, Leading, Written}
use Rattle.prog_asm.specs.DraftViews.{Drafts, JudgesLine, LabelAdded, OwnAdded, ReadsAll, StepAdded, new_label_of, draft_point, step_from}
use Rattle.prog_asm.specs.FaultPlaceViews.{faults_seen}
use Rattle.prog_asm.specs.LineFaults as model
use Rattle.prog_asm.specs.LineFaults.{LineFault, counted, faults_behind, faults_of, faults_on, faults_together, instruction_place, is_beyond}
use Rattle.prog_asm.specs.LineFaults.{label_in, label_place, missing_label, own_fault, placed_fault, with_new_label, wrong_on}
use Rattle.prog_asm.specs.LineViews.{has_point, point_in}
use Rattle.prog_asm.specs.WordPlaces.{Span, words_on}
use Rattle.prog_asm.proofs.DraftLaws.{is_twice-drafts, labels-after, length-drafts, steps-after}
use Rattle.prog_asm.proofs.JudgedLaws.{line-good}
use Rattle.prog_asm.proofs.Points.{points-drafts}

-- A line with its label, if that is new.
new-line : (before : List Line) (line : Line) → line_with (new_label_of (is_twice before line.label) line.label) line.instruction ≡ with_new_label before line
new-line before line = go (is_twice before line.label)
  where
    go : (twice : Bool) → line_with (cond twice None line.label) line.instruction ≡ cond twice (line_with None line.instruction) line
    go true = refl
    go false = refl

new-once : (before : List Line) (draft : Draft) (label : Option (List ℕ)) → Drafts before draft → has_point draft.labels (new_label_of (is_twice before label) label) ≡ false
new-once before draft label drafts = go (is_twice before label) refl
  where
    go : (twice : Bool) → is_twice before label ≡ twice → has_point draft.labels (cond twice None label) ≡ false
    go true is = refl
    go false is = sym (is_twice-drafts before draft label drafts) ∙ is

-- A label that no line before has.
pub label-added : (before after : Draft) (number : ℕ) (name : List ℕ) (point : ℕ) (span : Span) → has_point before.labels (Some name) ≡ false → point ≡ length before.steps.items →
    ((other : List ℕ) → point_in after.labels other ≡ cond (is_label other (Some name)) (Some point) (point_in before.labels other)) →
    after.steps ≡ before.steps → after.faults ≡ before.faults → LabelAdded before after number (Some name) span
label-added before after number name point span absent is added steps faults = record {
  faults =
      ap (λ faults. faults_seen faults.items) faults ∙ sym (append-nil (faults_seen before.faults.items))
      ∙ ap (λ is. faults_seen before.faults.items ++ cond is (placed_fault TwiceLabel number span ∷ []) []) (sym absent);
  labels = λ other.
      added other ∙ ap (λ point. cond (is_label other (Some name)) (Some point) (point_in before.labels other)) is
      ∙ ap (λ is. cond (is_label other (new_label_of is (Some name))) (Some (length before.steps.items)) (point_in before.labels other)) (sym absent);
  steps = steps;
}

-- A line that is judged, as it is seen.
pub record IsSeen (wide : Bool) (text : List ℕ) (number : ℕ) (read : Line) (own_faults : List LineFault) (at_label at_instruction : Span) : Type 0 where
  pub line : read ≡ counted wide text
  pub own : own_faults ≡ own_fault number (wrong_on wide text)
  pub label : at_label ≡ label_place (label_in (words_on text))
  pub instruction : at_instruction ≡ instruction_place text

-- What a line adds is its own faults, its label's, and its instruction.
pub line-judged : (wide : Bool) (before : List Line) (text : List ℕ) (old own labelled new : Draft) (number : ℕ) (line : Line) (wrong : List LineFault) (at_label at_instruction : Span) (more : Bool) →
    Drafts before old → number ≡ length before + 1 → IsSeen wide text number line wrong at_label at_instruction → OwnAdded old own wrong →
    LabelAdded own labelled number line.label at_label → StepAdded labelled new number line.instruction at_instruction more → JudgesLine wide before text old new more
line-judged wide before text old own labelled new number line wrong at_label at_instruction more drafts is seen owned named stepped = go more stepped
  where
    drafts_own : Drafts before own
    drafts_own = record {
      steps = ap (λ steps. map step_from steps.items) owned.steps ∙ drafts.steps;
      labels = λ name. ap (λ labels. point_in labels name) owned.labels ∙ drafts.labels name;
    }

    twice : has_point own.labels line.label ≡ is_twice before line.label
    twice = sym (is_twice-drafts before own line.label drafts_own)

    second : Bool → ℕ → Span → List LineFault
    second is n span = cond is (placed_fault TwiceLabel n span ∷ []) []

    told : faults_seen labelled.faults.items ≡ faults_seen old.faults.items ++ faults_on wide before text
    told =
        named.faults ∙ ap (λ faults. faults ++ second (has_point own.labels line.label) number at_label) owned.faults
        ∙ append_assoc (faults_seen old.faults.items) wrong (second (has_point own.labels line.label) number at_label)
        ∙ ap (λ more. faults_seen old.faults.items ++ more)
        (ap (λ is. wrong ++ second is number at_label) (twice ∙ ap (λ line. is_twice before line.label) seen.line)
        ∙ rw (seen.own, is, seen.label) refl)

    count : is_one_too_many (length labelled.steps.items) line.instruction ≡ is_beyond wide before text
    count = ap (λ steps. is_one_too_many (length steps.items) line.instruction) named.steps
        ∙ ap (λ n. is_one_too_many n line.instruction) (length-drafts before own drafts_own) ∙ ap (λ line. is_one_too_many (length (steps_of before)) line.instruction) seen.line

    added : Line
    added = line_with (new_label_of (is_twice before line.label) line.label) line.instruction

    there : added ≡ with_new_label before (counted wide text)
    there = new-line before line ∙ ap (with_new_label before) seen.line

    named_there : (name : List ℕ) → point_in labelled.labels name ≡ cond (is_label name added.label) (Some (length own.steps.items)) (point_in own.labels name)
    named_there name = named.labels name ∙ ap (λ twice. cond (is_label name (new_label_of twice line.label)) (Some (length own.steps.items)) (point_in own.labels name)) twice

    go : (more : Bool) → StepAdded labelled new number line.instruction at_instruction more → JudgesLine wide before text old new more
    go true s = (
      sym count ∙ s.0,
      subst (λ line. Drafts (before ++ line ∷ []) new) there (record {
        steps = steps-after before added own new number is drafts_own (s.1 ∙ ap (λ steps. map step_from steps.items ++ steps_on number line.instruction) named.steps);
        labels = labels-after before added own new drafts_own (new-once before own line.label drafts_own) (λ name. ap (λ labels. point_in labels name) s.2 ∙ named_there name);
      }),
      ap (λ faults. faults_seen faults.items) s.3 ∙ told,
    )
    go false s = (
      sym count ∙ s.0,
      s.1 ∙ ap (λ faults. faults ++ placed_fault TooMany number at_instruction ∷ []) told
          ∙ ap (λ n. faults_seen old.faults.items ++ faults_on wide before text ++ placed_fault TooMany n at_instruction ∷ []) is
          ∙ ap (λ span. faults_seen old.faults.items ++ faults_on wide before text ++ placed_fault TooMany (length before + 1) span ∷ []) seen.instruction,
    )

-- Labels are missing by the draft where they are by its lines.
missing-same : (lines : List (List ℕ)) (f g : List ℕ → Option ℕ) → ((name : List ℕ) → f name ≡ g name) → (steps : List Step) →
    flat_map (missing_label lines f) steps ≡ flat_map (missing_label lines g) steps
missing-same lines f g same [] = refl
missing-same lines f g same (step ∷ steps) =
    ap (λ here. here ++ flat_map (missing_label lines f) steps) (go step.written) ∙ ap (λ rest. missing_label lines g step ++ rest) (missing-same lines f g same steps)
  where
    go : (written : Written) → model.missing_in lines f step.line written ≡ model.missing_in lines g step.line written
    go (Alone instruction) = refl
    go (Leading jump name) =
        ap (λ point. cond (is_none point) (model.placed_fault NoLabel step.line (model.last_place (words_on (model.line_numbered lines step.line))) ∷ []) []) (same name)

pub missing-drafts : (lines : List (List ℕ)) (read : List Line) (draft : Draft) → Drafts read draft →
    flat_map (missing_label lines (draft_point draft)) (map step_from draft.steps.items)
    ≡ flat_map (missing_label lines (point_named read)) (steps_of read)
missing-drafts lines read draft drafts =
    ap (flat_map (missing_label lines (draft_point draft))) drafts.steps
    ∙ missing-same lines (draft_point draft) (point_named read) (points-drafts read draft drafts) (steps_of read)

-- So many lines are judged, and these are left. If nothing is wrong so far, they are read.
pub record JudgedSoFar (wide : Bool) (text : List ℕ) (lines : List (List ℕ)) (at : ℕ) (draft : Draft) : Type 0 where
  pub all : lines ≡ text_lines text
  pub read : List Line
  pub counts : at ≡ length read
  pub drafts : Drafts read draft
  pub same : faults_seen draft.faults.items ++ faults_behind wide lines read (drop at lines) ≡ faults_of wide text
  pub good : faults_seen draft.faults.items ≡ [] → lines_behind wide [] lines ≡ lines_behind wide read (drop at lines)

nothing-on : (faults more : List LineFault) → faults ++ more ≡ [] → (faults ≡ []) × (more ≡ [])
nothing-on [] more is = (refl, is)
nothing-on (fault ∷ faults) more is = absurd cc

-- one line more, and one instruction too many
pub one-judged : (wide : Bool) (text : List ℕ) (lines : List (List ℕ)) (line : List ℕ) (at : ℕ) (draft after : Draft) →
    (so_far : JudgedSoFar wide text lines at draft) → drop at lines ≡ line ∷ drop (at + 1) lines → JudgesLine wide so_far.read line draft after true →
    JudgedSoFar wide text lines (at + 1) after
one-judged wide text lines line at draft after so_far here judged =
    let read = so_far.read in
    let next = read ++ with_new_label read (counted wide line) ∷ [] in
    let rest = faults_behind wide lines next (drop (at + 1) lines) in
    let faults = faults_seen draft.faults.items in
    record {
      all = so_far.all;
      read = next;
      counts = ap (λ n. n + 1) so_far.counts ∙ sym (length-append read (with_new_label read (counted wide line) ∷ []));
      drafts = judged.1;
      same =
          ap (λ told. told ++ rest) judged.2 ∙ append_assoc faults (faults_on wide read line) rest
          ∙ sym (ap (λ left. faults ++ faults_behind wide lines read left) here
          ∙ ap (λ many. faults ++ (faults_on wide read line ++ cond many (placed_fault TooMany (length read + 1) (instruction_place line) ∷ []) rest)) judged.0)
          ∙ so_far.same;
      good = λ none.
          let nothing = nothing-on faults (faults_on wide read line) (sym judged.2 ∙ none) in
          so_far.good nothing.0 ∙ ap (lines_behind wide read) here ∙ line-good wide read line (drop (at + 1) lines) nothing.1 judged.0;
    }

pub one-beyond : (wide : Bool) (text : List ℕ) (lines : List (List ℕ)) (line : List ℕ) (at : ℕ) (draft after : Draft) →
    (so_far : JudgedSoFar wide text lines at draft) → drop at lines ≡ line ∷ drop (at + 1) lines → JudgesLine wide so_far.read line draft after false →
    faults_seen after.faults.items ≡ faults_of wide text
one-beyond wide text lines line at draft after so_far here judged =
    let read = so_far.read in
    let next = read ++ with_new_label read (counted wide line) ∷ [] in
    let rest = faults_behind wide lines next (drop (at + 1) lines) in
    let faults = faults_seen draft.faults.items in
    let many = placed_fault TooMany (length read + 1) (instruction_place line) ∷ [] in
    judged.1 ∙ append_assoc faults (faults_on wide read line) many
    ∙ sym (ap (λ left. faults ++ faults_behind wide lines read left) here
    ∙ ap (λ is. faults ++ (faults_on wide read line ++ cond is many rest)) judged.0)
    ∙ so_far.same

-- with an instruction too many something is wrong
pub beyond-reads : (wide : Bool) (text line : List ℕ) (read : List Line) (draft after : Draft) → JudgesLine wide read line draft after false → ReadsAll wide text after
beyond-reads wide text line read draft after judged none =
    absurd (something (faults_seen draft.faults.items ++ faults_on wide read line) _ [] (sym judged.1 ∙ none))
  where
    something : (faults : List LineFault) (fault : LineFault) (more : List LineFault) → faults ++ fault ∷ more ≡ [] → ⊥
    something [] fault more is = absurd cc
    something (first ∷ faults) fault more is = absurd cc

pub all-judged : (wide : Bool) (text : List ℕ) (lines : List (List ℕ)) (at : ℕ) (draft : Draft) (told : List LineFault) →
    (so_far : JudgedSoFar wide text lines at draft) → length lines ≤ at → told ≡ faults_seen draft.faults.items ++ faults_together lines so_far.read → told ≡ faults_of wide text
all-judged wide text lines at draft told so_far over is =
    is ∙ sym (ap (λ left. faults_seen draft.faults.items ++ faults_behind wide lines so_far.read left) (drop_all at lines over)) ∙ so_far.same

pub all-read : (wide : Bool) (text : List ℕ) (lines : List (List ℕ)) (at : ℕ) (draft after : Draft) (more : List LineFault) (so_far : JudgedSoFar wide text lines at draft) → length lines ≤ at →
    after.labels ≡ draft.labels → after.steps ≡ draft.steps → faults_seen after.faults.items ≡ faults_seen draft.faults.items ++ more → ReadsAll wide text after
all-read wide text lines at draft after more so_far over labels steps told none = (
  so_far.read,
  ap (lines_behind wide []) (sym so_far.all) ∙ so_far.good (nothing-on (faults_seen draft.faults.items) more (sym told ∙ none)).0 ∙ ap (lines_behind wide so_far.read) (drop_all at lines over),
  record {
    steps = ap (λ steps. map step_from steps.items) steps ∙ so_far.drafts.steps;
    labels = λ name. ap (λ labels. point_in labels name) labels ∙ so_far.drafts.labels name;
  },
)

pub none-judged : (wide : Bool) (text : List ℕ) (lines : List (List ℕ)) (draft : Draft) → lines ≡ text_lines text → Drafts [] draft → draft.faults.items ≡ [] → JudgedSoFar wide text lines 0 draft
none-judged wide text lines draft all drafts none = record {
  all = all;
  read = [];
  counts = refl;
  drafts = drafts;
  same = ap (λ faults. faults_seen faults ++ faults_behind wide lines [] lines) none ∙ ap (λ lines. faults_behind wide lines [] lines) all;
  good = λ none. refl;
}

-- a line of some, as the code reads it
pub line-here : (lines : List (Bor (List ℕ))) (at : ℕ) (d : Bor (List ℕ)) → at < length lines →
    drop at (map (λ line. line.now) lines) ≡ (get_or lines at d).now ∷ drop (at + 1) (map (λ line. line.now) lines)
line-here [] at d within = absurd (omega arith)
line-here (line ∷ lines) zero d within = refl
line-here (line ∷ lines) (suc at) d within = let next : suc at + 1 ≡ suc (at + 1) = omega arith in
    line-here lines at d (omega arith) ∙ ap (λ n. (get_or lines at d).now ∷ drop n (line.now ∷ map (λ line. line.now) lines)) (sym next)

pub nothing-behind : (faults more : List LineFault) → more ≡ [] → faults ≡ faults ++ more
nothing-behind faults more none = sym (ap (λ more. faults ++ more) none ∙ append-nil faults)
