-- What is written of a certificate, piece by piece.
use Rattle.std.proofs.Common.{◌≡◌, ◌==◌, ◌<◌, ◌≤◌, ◌+◌, ◌∙◌, ℕ, Bool, true, false, List, [], ◌∷◌, ◌++◌, length, map, drop, take, codes}
use Rattle.std.proofs.Common.{refl, ap, sym, subst, arith, add-one, drop-cons, append_assoc, append-nil}
use Rattle.std.specs.Fmt.{decimal}
use Rattle.std.specs.List.{slice_index_or}
use Rattle.std.specs.Prelude.{Option, Some, None, Ok}
use Rattle.std.proofs.lemmas.Bool.Decides.{nat_tests}
use Rattle.std.proofs.lemmas.List.{drop_all, length-map, length-take-le, take-map}
use Rattle.bitflags.specs.declared.traits.Flag.{Flag}
use Rattle.rights.specs.declared.sets.Rights.{Rights}
use Rattle.rights.specs.Sets.{is_within, right_names}
use Rattle.texts.specs.Parts.{joined}
use Rattle.certificate.specs.Bounds.{Slot, Certificate, bound_at}
use Rattle.certificate_text.specs.Pieces.{in_order}
use Rattle.certificate_text.specs.WritingViews.{Writes}
use Rattle.instruction_set.specs.Programs.{Instruction}
use Rattle.task.specs.Plans.{Grant, NamedProgram, Plan}
use Rattle.rights.specs.Uses.{asked_rights}
use Rattle.rules.specs.Authority.{authority_at, ceiling_in}
use Rattle.commands.specs.ReportViews.{row_seen}
use Rattle.commands.specs.Reports.{ceiling_line, grant_line, names_in, own_names, parted, point_lines, point_text, program_lines, report_text, rights_there, rights_text}

-- the line of a grant at a point
abbrev pub line_at : Bool → List ℕ → ℕ → List Slot → ℕ → Grant → List ℕ
line_at wide program point slots n g = grant_line wide program point g.name (rights_there g.name slots)

-- the lines of a point of a program
abbrev pub lines_at : Bool → List Grant → Certificate → List ℕ → ℕ → Instruction → List ℕ
lines_at wide grants certificate name point i = point_lines wide grants name point (bound_at certificate name point)

-- the line of a grant, of a marked program's authority
abbrev pub ceiling_of_grant : Bool → Certificate → List ℕ → ℕ → Grant → List ℕ
ceiling_of_grant wide certificate program n g = ceiling_line wide program g.name (ceiling_in (authority_at certificate program).ceilings g.name)

-- names that nothing stands before are joined by commas
pub parted-behind : (name : List ℕ) (names : List (List ℕ)) → name ++ parted (codes ",") names ≡ joined 44 (name ∷ names)
parted-behind name [] = append-nil name
parted-behind name (next ∷ names) = ap (λ rest. name ++ 44 ∷ rest) (parted-behind next names)

parted-first : (names : List (List ℕ)) → parted [] names ≡ joined 44 names
parted-first [] = refl
parted-first (name ∷ names) = parted-behind name names

-- the rights with their own names come first in the table
pub own-listed : (rows : List (Flag Rights)) → map row_seen rows ≡ right_names → map row_seen (take 46 rows) ≡ own_names
own-listed rows all = sym (take-map row_seen 46 rows) ∙ ap (take 46) all

pub own-many : (rows : List (Flag Rights)) → map row_seen rows ≡ right_names → 46 ≡ length (take 46 rows)
own-many rows all = sym (length-take-le 46 rows (subst (λ n. 46 ≤ n) (ap length (sym all) ∙ length-map rows row_seen) (grind (arith))))

pub rights-listed : (set : ℕ) (rows : List (Flag Rights)) → map row_seen rows ≡ own_names → (set == 0) ≡ false →
    parted [] (names_in set (map row_seen rows)) ≡ rights_text set
rights-listed set rows own some =
    ap (λ (rows : List (List ℕ × ℕ)). parted [] (names_in set rows)) own ∙ (parted-first (names_in set own_names) ∙ rw some refl)

pub none-listed : (set : ℕ) → set ≡ 0 → codes "none" ≡ rights_text set
none-listed set none = sym (ap rights_text none)

-- nothing is written where nothing is to be
nothing-written : (before : Option (List ℕ)) (faults : ℕ) → Writes (Ok tt) before before faults faults []
nothing-written None faults = (refl, refl)
nothing-written (Some bytes) faults = (ap Some (sym (append-nil bytes)), refl)

pub nothing-as : (before : Option (List ℕ)) (faults : ℕ) (text : List ℕ) → [] ≡ text → Writes (Ok tt) before before faults faults text
nothing-as before faults text is = subst (Writes (Ok tt) before before faults faults) is (nothing-written before faults)

pub not-zero : (n : ℕ) → (n ≡ 0 → ⊥) → (n == 0) ≡ false
not-zero n some = grind (arith, nat_tests)

-- what is left of the names from a row on
module _ (set : ℕ) (rows : List (Flag Rights)) (i : ℕ) (d : Flag Rights) (within : i < length rows) (separator : List ℕ) where
  here : map row_seen (drop i rows) ≡ row_seen (slice_index_or rows i d) ∷ map row_seen (drop (i + 1) rows)
  here = ap (λ rows. map row_seen rows) (drop-cons rows i d within ∙ ap (λ n. slice_index_or rows i d ∷ drop n rows) (sym (add-one i)))

  pub named-here : (name : List ℕ) → name ≡ (slice_index_or rows i d).name.now → is_within (slice_index_or rows i d).value.0 set ≡ true →
      parted separator (names_in set (map row_seen (drop i rows)))
      ≡ (separator ++ (name ++ [])) ++ parted (codes ",") (names_in set (map row_seen (drop (i + 1) rows)))
  named-here name is has = ap (λ rows. parted separator (names_in set rows)) here ∙ rw (has, is, append-nil) refl

  pub passed-here : is_within (slice_index_or rows i d).value.0 set ≡ false →
      parted separator (names_in set (map row_seen (drop i rows))) ≡ parted separator (names_in set (map row_seen (drop (i + 1) rows)))
  passed-here lacks = ap (λ rows. parted separator (names_in set rows)) here ∙ rw lacks refl

pub names-end : (set : ℕ) (rows : List (Flag Rights)) (i : ℕ) (separator : List ℕ) → length rows ≤ i → parted separator (names_in set (map row_seen (drop i rows))) ≡ []
names-end set rows i separator past = ap (λ rows. parted separator (names_in set (map row_seen rows))) (drop_all i rows past)

-- the six pieces of the beginning of a line, and what is left behind them
six-joined : (a b c d e f : List ℕ) → a ++ (b ++ (c ++ (d ++ (e ++ (f ++ []))))) ≡ ((((a ++ b) ++ c) ++ d) ++ e) ++ f
six-joined a b c d e f = rw (append-nil, append_assoc, append_assoc, append_assoc, append_assoc) refl

pub place-joined : (program point grant rights : List ℕ) →
    (program ++ (codes ":" ++ (point ++ (codes " " ++ (grant ++ (codes " " ++ [])))))) ++ (rights ++ codes "\n")
    ≡ point_text program point grant ++ rights ++ codes "\n"
place-joined program point grant rights =
    ap (λ place. place ++ (rights ++ codes "\n")) (six-joined program (codes ":") point (codes " ") grant (codes " "))
    ∙ sym (append_assoc (point_text program point grant) rights (codes "\n"))

-- the line of a grant at a point, if there is one
module _ (wide : Bool) (program : List ℕ) (point : ℕ) (held slots : List Slot) (same : held ≡ slots) (name : List ℕ) (g : Grant) (named : name ≡ g.name) where
  so : grant_line wide program point name (rights_there name held) ≡ grant_line wide program point g.name (rights_there g.name slots)
  so =
      ap (λ slots. grant_line wide program point name (rights_there name slots)) same
      ∙ ap (λ name. grant_line wide program point name (rights_there name slots)) named

  pub line-is : (digits : List ℕ) (set shown : ℕ) → digits ≡ decimal point → Some set ≡ rights_there name held → shown ≡ asked_rights wide set →
      point_text program digits name ++ rights_text shown ++ codes "\n" ≡ grant_line wide program point g.name (rights_there g.name slots)
  line-is digits set shown written found asked =
      ap (λ digits. point_text program digits name ++ rights_text shown ++ codes "\n") written
      ∙ (ap (λ shown. point_text program (decimal point) name ++ rights_text shown ++ codes "\n") asked ∙ ap (grant_line wide program point name) found ∙ so)

  pub no-line : None ≡ rights_there name held → [] ≡ grant_line wide program point g.name (rights_there g.name slots)
  no-line found = ap (grant_line wide program point name) found ∙ so

-- the line of a grant, of a marked program's authority, if there is one
module _ (wide : Bool) (certificate : Certificate) (program name : List ℕ) (set n : ℕ) (g : Grant) (named : name ≡ g.name)
    (is : set ≡ ceiling_in (authority_at certificate program).ceilings name) where
  there : ceiling_line wide program name set ≡ ceiling_of_grant wide certificate program n g
  there =
      ap (ceiling_line wide program name) is
      ∙ ap (λ name. ceiling_line wide program name (ceiling_in (authority_at certificate program).ceilings name)) named

  pub ceiling-is : (shown : ℕ) → (set == 0) ≡ false → shown ≡ asked_rights wide set →
      point_text program (codes "*") name ++ rights_text shown ++ codes "\n" ≡ ceiling_of_grant wide certificate program n g
  ceiling-is shown some asked =
      ap (λ shown. point_text program (codes "*") name ++ rights_text shown ++ codes "\n") asked ∙ (line ∙ there)
    where
      line : point_text program (codes "*") name ++ rights_text (asked_rights wide set) ++ codes "\n" ≡ ceiling_line wide program name set
      line = rw some refl

  pub no-ceiling : set ≡ 0 → [] ≡ ceiling_of_grant wide certificate program n g
  no-ceiling none = sym (ap (ceiling_line wide program name) none) ∙ there

-- the lines of the points of a program, by its name and its code
pub points-as : (wide : Bool) (grants : List Grant) (certificate : Certificate) (name : List ℕ) (code : List Instruction) (p : NamedProgram) → name ≡ p.name →
    code ≡ p.code → in_order (lines_at wide grants certificate name) 0 code ≡ in_order (lines_at wide grants certificate p.name) 0 p.code
points-as wide grants certificate name code p named is =
    ap (λ name. in_order (lines_at wide grants certificate name) 0 code) named ∙ ap (λ code. in_order (lines_at wide grants certificate p.name) 0 code) is

-- the report, by the grants and the programs of the task
pub report-as : (plan : Plan) (certificate : Certificate) (wide : Bool) (grants : List Grant) (programs : List NamedProgram) → wide ≡ plan.wide → grants ≡ plan.grants → programs ≡ plan.programs →
    in_order (λ n. program_lines wide grants certificate) 0 programs ≡ report_text plan certificate
report-as plan certificate wide grants programs is same are =
    ap (λ wide. in_order (λ n. program_lines wide grants certificate) 0 programs) is
    ∙ ap (λ grants. in_order (λ n. program_lines plan.wide grants certificate) 0 programs) same
    ∙ ap (λ programs. in_order (λ n. program_lines plan.wide plan.grants certificate) 0 programs) are
