-- The points that labels name, by how many instructions stand before them.
use Rattle.std.proofs.Common.{◌≡◌, ◌+◌, ◌<◌, ◌≤◌, ℕ, Bool, true, false, List, [], ◌∷◌, length, map, refl, ap, sym, ◌∙◌, arith}
use Rattle.std.specs.Prelude.{Option, Some, None, Ok, cond, option_map}
use Rattle.std.proofs.lemmas.Bool.{lt-ltb, le-ltb}
use Rattle.prog_asm.specs.declared.drafts.Draft.{Draft}
use Rattle.instruction_set.specs.Forms.{Written, Alone, Leading, led}
use Rattle.instruction_set.specs.Assembly.{Line, Step, code_from, complete, is_label, next_point, placed, placed_at, point_from, point_named}
use Rattle.instruction_set.specs.Assembly.{program_read, steps_of, steps_on, ◌>>=◌}
use Rattle.prog_asm.specs.LineViews.{point_in}
use Rattle.prog_asm.specs.DraftViews.{Drafts, below, labelled_from, draft_point, step_from}
use Rattle.prog_asm.proofs.DraftLaws.{length-drafts, length-steps_of}

-- an instruction follows where the point is one of all
next_point-below : (point : ℕ) (steps : List Step) → next_point point steps ≡ below (point + length steps) (Some point)
next_point-below point [] = let end : point + 0 ≤ point = omega arith in sym (ap (λ b. cond b (Some point) None) (le-ltb point (point + 0) end))
next_point-below point (step ∷ steps) = let more : point < point + length (step ∷ steps) = omega arith in sym (ap (λ b. cond b (Some point) None) (lt-ltb point (point + length (step ∷ steps)) more))

-- A label leads to a point if that is one.
point_from-labelled : (point : ℕ) (name : List ℕ) (lines : List Line) → point_from point name lines ≡ below (point + length (steps_of lines)) (labelled_from point name lines)
point_from-labelled point name [] = refl
point_from-labelled point name (line ∷ lines) =
    let rest : ℕ = point + length (steps_on 1 line.instruction) in
    let all : ℕ = point + length (steps_of (line ∷ lines)) in
    let same : rest + length (steps_of lines) ≡ all = omega (arith, length-steps_of line lines) in
    go (is_label name line.label) (next_point-below point (steps_of (line ∷ lines))) (point_from-labelled rest name lines ∙ ap (λ n. below n (labelled_from rest name lines)) same)
  where
    go : (is : Bool) → next_point point (steps_of (line ∷ lines)) ≡ below (point + length (steps_of (line ∷ lines))) (Some point) →
        point_from (point + length (steps_on 1 line.instruction)) name lines ≡ below (point + length (steps_of (line ∷ lines)))
        (labelled_from (point + length (steps_on 1 line.instruction)) name lines) →
        cond is (next_point point (steps_of (line ∷ lines))) (point_from (point + length (steps_on 1 line.instruction)) name lines) ≡ below
        (point + length (steps_of (line ∷ lines))) (cond is (Some point) (labelled_from (point + length (steps_on 1 line.instruction)) name lines))
    go true here rest = here
    go false here rest = rest

pub point_of-labelled : (lines : List Line) (name : List ℕ) → point_named lines name ≡ below (length (steps_of lines)) (labelled_from 0 name lines)
point_of-labelled lines name = let same : 0 + length (steps_of lines) ≡ length (steps_of lines) = omega arith in point_from-labelled 0 name lines ∙ ap (λ n. below n (labelled_from 0 name lines)) same

placed-same : (f g : List ℕ → Option ℕ) → ((name : List ℕ) → f name ≡ g name) → (written : Written) → placed f written ≡ placed g written
placed-same f g same (Alone instruction) = refl
placed-same f g same (Leading jump name) = ap (option_map (led jump)) (same name)

-- code is the same for points that are
pub code_from-same : (f g : List ℕ → Option ℕ) → ((name : List ℕ) → f name ≡ g name) → (steps : List Step) → code_from f steps ≡ code_from g steps
code_from-same f g same [] = refl
code_from-same f g same (step ∷ steps) =
    ap (λ read. placed_at step.line read >>= λ i. code_from f steps >>= λ code. Ok (i ∷ code)) (placed-same f g same step.written)
    ∙ ap (λ rest. placed_at step.line (placed g step.written) >>= λ i. rest >>= λ code. Ok (i ∷ code)) (code_from-same f g same steps)

-- the points of a draft are those that its lines name
pub points-drafts : (lines : List Line) (draft : Draft) → Drafts lines draft → (name : List ℕ) → draft_point draft name ≡ point_named lines name
points-drafts lines draft drafts name =
    ap (λ n. below n (point_in draft.labels name)) (length-drafts lines draft drafts) ∙ ap (below (length (steps_of lines))) (drafts.labels name) ∙ sym (point_of-labelled lines name)

-- What becomes of a draft is what its lines are read as.
pub completed-drafts : (lines : List Line) (draft : Draft) → Drafts lines draft →
    (code_from (draft_point draft) (map step_from draft.steps.items) >>= complete (map step_from draft.steps.items)) ≡ program_read lines
completed-drafts lines draft drafts =
    ap (λ steps. code_from (draft_point draft) steps >>= complete steps) drafts.steps
    ∙ ap (λ read. read >>= complete (steps_of lines)) (code_from-same (draft_point draft) (point_named lines) (points-drafts lines draft drafts) (steps_of lines))
