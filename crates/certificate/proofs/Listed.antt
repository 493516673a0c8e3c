-- The programs and classes that a line names, at values of the code.
use Rattle.std.proofs.Common.{◌≡◌, ◌<◌, ◌≤◌, ◌+◌, ◌++◌, ◌∷◌, [], List, ℕ, length, take, set, refl, ap, sym, ◌∙◌, arith}
use Rattle.std.specs.Prelude.{Option, Some, None}
use Rattle.std.proofs.lemmas.List.{take_more_set}
use Rattle.std.specs.Str.{bytes_eq}
use Rattle.rights.specs.Limits.{most_programs}
use Rattle.texts.specs.declared.names.Name.{Name}
use Rattle.certificate.specs.declared.program_names.ProgramNames.{ProgramNames}
use Rattle.certificate.specs.declared.classes.Class.{Class}
use Rattle.rights.specs.declared.sides.Side.{Side}
use Rattle.certificate.specs.declared.bounds.Target.{Target}
use Rattle.certificate.specs.declared.bounds.Target.TheVariants as target
use Rattle.certificate.specs.Growth.{programs_of_target}
use Rattle.certificate.specs.Room.{listed_with}
use Rattle.certificate.specs.GrowthViews.{names_there}
use Rattle.certificate.specs.CountViews.{programs_listed}
use Rattle.certificate.specs.Views.{target_of}
use Rattle.texts.specs.Views.{name_of}
use Rattle.certificate.proofs.Distinct.{listed_nothing}

pub programs_few : (p : ProgramNames) → length (programs_listed p) ≤ most_programs
programs_few p = omega (arith, p.few, p.filled)

pub programs_alone : (p : ProgramNames) → Some (programs_listed p) ≡ listed_with bytes_eq most_programs (programs_listed p) []
programs_alone p = sym (listed_nothing bytes_eq most_programs (programs_listed p) (programs_few p))

pub target-no_programs : (t : Target) → ((c : Class) (s : Side) → t ≡ target.Socket c s → ⊥) → programs_of_target (target_of t) ≡ []
target-no_programs (target.InGrant name) not = refl
target-no_programs target.AnyNode not = refl
target-no_programs (target.Socket c s) not = absurd (not c s refl)
target-no_programs target.Unknown not = refl

-- a name is put into the first empty place
names-append : (xs ys : List (Option Name)) → names_there (xs ++ ys) ≡ names_there xs ++ names_there ys
names-append [] ys = refl
names-append (None ∷ xs) ys = names-append xs ys
names-append (Some name ∷ xs) ys = ap (λ names. name_of name ∷ names) (names-append xs ys)

pub programs_pushed : (count : ℕ) (names : List (Option Name)) (name : Name) → count < length names
    → names_there (take (count + 1) (set names count (Some name))) ≡ names_there (take count names) ++ name_of name ∷ []
programs_pushed count names name room =
    ap names_there (take_more_set names count (Some name) room) ∙ names-append (take count names) (Some name ∷ [])
