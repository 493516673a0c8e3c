-- What is listed, by its parts.
use Rattle.std.proofs.Common.{◌≡◌, ◌++◌, ◌∙◌, ℕ, Bool, List, [], ap, length, refl, subst}
use Rattle.std.specs.Prelude.{codes}
use Rattle.std.specs.List.{range_with_len}
use Rattle.std.proofs.lemmas.List.{append_assoc}
use Rattle.certificate.specs.Bounds.{Certificate}
use Rattle.remarks.specs.Ways.{points}
use Rattle.task.specs.Plans.{Plan, program_name, programs_of_plan}
use Rattle.texts.specs.PageViews.{Adds}
use Rattle.texts.specs.declared.pages.Page.{Page}
use Rattle.explain.specs.Listing.{InOrder, Lists, TellsPoint, TellsProgram, TellsRemark, TellsWarning, first_point}
use Rattle.explain.specs.ListingViews.{AddsSome}
use Rattle.explain.specs.Observed.{Headed, program_observed, program_warned, task_observed}
use Rattle.explain.specs.Telling.{point_with_line}
use Rattle.explain.proofs.Writing.{both, written}

-- a warning's line, by what it has of a place and a topic
abbrev line_of : List ℕ → ℕ → ℕ → List ℕ → List ℕ → List ℕ
line_of program point line words part =
    codes "  FreeBSD: " ++ (point_with_line program point line ++ (codes ": " ++ (words ++ (codes " (FREEBSD.md#" ++ (part ++ codes ")\n")))))

pub warning_written : (p q : Page) (program said : List ℕ) (at line : ℕ) (words part : List ℕ) (h : Headed) → said ≡ program → at ≡ first_point h.1 → part ≡ h.0
    → Adds p q (line_of said at line words part) → AddsSome (TellsWarning program h) p q
warning_written p q program said at line words part h is_program is_point is_part adds =
    written (TellsWarning program h) p q (line_of said at line words part) adds (
      line,
      words,
      ap (λ name. line_of name at line words part) is_program ∙ (ap (λ point. line_of program point line words part) is_point
          ∙ ap (λ name. line_of program (first_point h.1) line words name) is_part),
    )

-- ## A program, and all of them
module _ (plan : Plan) (c bounds : Certificate) (has_cert : Bool) where
  abbrev Points : ℕ → List ℕ → Type 0
  Points n text = InOrder TellsPoint (points (programs_of_plan plan n)) text

  abbrev Remarks : ℕ → List ℕ → Type 0
  Remarks n text = InOrder (TellsRemark (codes "  ")) (program_observed plan c n has_cert) text

  abbrev Warnings : ℕ → List ℕ → Type 0
  Warnings n text = InOrder (TellsWarning (program_name plan n)) (program_warned plan bounds n) text

  -- what stands behind a program's name and authority
  record Behind (n : ℕ) (text : List ℕ) : Type 0 where
    of_points : List ℕ
    tells_points : Points n of_points
    remarks : List ℕ
    tells_remarks : Remarks n remarks
    warnings : List ℕ
    tells_warnings : Warnings n warnings
    is_text : text ≡ of_points ++ (remarks ++ warnings)

  abbrev Observed : ℕ → List ℕ → Type 0
  Observed n text = (remarks : List ℕ) × Remarks n remarks × (warnings : List ℕ) × Warnings n warnings × (text ≡ remarks ++ warnings)

  behind_written : (q r s t : Page) (n : ℕ) → AddsSome (Points n) q r → AddsSome (Remarks n) r s → AddsSome (Warnings n) s t → AddsSome (Behind n) q t
  behind_written q r s t n of_points remarks warnings =
      both (Points n) (Observed n) (Behind n) q r t
      (λ a b told observed. record {
        of_points = a;
        tells_points = told;
        remarks = observed.0;
        tells_remarks = observed.1;
        warnings = observed.2;
        tells_warnings = observed.3;
        is_text = ap (λ text. a ++ text) observed.4;
      })
      of_points (both (Remarks n) (Warnings n) (Observed n) r s t (λ a b told warned. (a, told, b, warned, refl)) remarks warnings)

  pub program_written : (p q r s t : Page) (n : ℕ) (name authority : List ℕ) → name ≡ program_name plan n → Adds p q (name ++ (codes "\n" ++ authority))
      → AddsSome (Points n) q r → AddsSome (Remarks n) r s → AddsSome (Warnings n) s t → AddsSome (TellsProgram plan c bounds has_cert n) p t
  program_written p q r s t n name authority is_name adds of_points remarks warnings =
      both (λ (head : List ℕ). head ≡ name ++ (codes "\n" ++ authority)) (Behind n) (TellsProgram plan c bounds has_cert n) p q t
      (λ head text is behind. record {
        authority = authority;
        of_points = behind.of_points;
        tells_points = behind.tells_points;
        remarks = behind.remarks;
        tells_remarks = behind.tells_remarks;
        warnings = behind.warnings;
        tells_warnings = behind.tells_warnings;
        is_text =
            ap (λ front. front ++ text) (is ∙ ap (λ front. front ++ (codes "\n" ++ authority)) is_name)
            ∙ (append_assoc (program_name plan n) (codes "\n" ++ authority) text
            ∙ ap (λ more. program_name plan n ++ (codes "\n" ++ (authority ++ more))) behind.is_text);
      })
      (written (λ (head : List ℕ). head ≡ name ++ (codes "\n" ++ authority)) p q (name ++ (codes "\n" ++ authority)) adds refl)
      (behind_written q r s t n of_points remarks warnings)

  pub lists_written : (p q r : Page) (n : ℕ) → n ≡ length plan.programs → AddsSome (InOrder (TellsProgram plan c bounds has_cert) (range_with_len 0 n)) p q
      → AddsSome (InOrder (TellsRemark []) (task_observed plan c has_cert)) q r → AddsSome (Lists plan c bounds has_cert) p r
  lists_written p q r n all programs remarks =
      both (InOrder (TellsProgram plan c bounds has_cert) (range_with_len 0 (length plan.programs))) (InOrder (TellsRemark []) (task_observed plan c has_cert))
      (Lists plan c bounds has_cert) p q r
      (λ a b told remarked. record { programs = a; tells_programs = told; remarks = b; tells_remarks = remarked; is_text = refl })
      (subst (λ (count : ℕ). AddsSome (InOrder (TellsProgram plan c bounds has_cert) (range_with_len 0 count)) p q) all programs) remarks
