use Rattle.std.proofs.Common.{◌≡◌, ◌∙◌, ap, refl, sym}
use Rattle.std.proofs.lemmas.Bool.{eqb-true}
use Rattle.rights.specs.Needs.{first_needs}
use Rattle.rights.specs.Uses.{companions_of}
use Rattle.instruction_set.specs.CallNeeds.{first_rights, flags_in, further_of}
use Rattle.instruction_set.specs.Programs.{called}
use Rattle.instruction_set.specs.Views.{syscall_of}
use Rattle.instruction_set.specs.declared.instructions.Syscall.{Syscall}
use Rattle.instruction_set.specs.declared.instructions.Syscall.TheVariants as call
use Rattle.instruction_set.proofs.instructions.Syscall.first_rights.Goals as goal

-- the needs of a call that goes by no further right
by_name : (c : Syscall) → further_of (syscall_of c) ≡ 0 → first_needs (called (syscall_of c)) (flags_in (syscall_of c)) ≡ first_rights (syscall_of c)
by_name (call.Use x right) none = sym (ap companions_of none)
by_name _ none = refl

pub returns-then-eq : goal.returns-then-eq
returns-then-eq c =
    c.needs.ensures ∙ ap (λ called. first_needs called c.flags.result) c.call.ensures
    ∙ ap (first_needs (called (syscall_of c.args.self.now))) c.flags.ensures
    ∙ by_name c.args.self.now (sym c.further-right.ensures ∙ eqb-true c.further-right.result.0 c.empty.result.0 (sym c.eq.ensures ∙ c.if-eq.true) ∙ c.empty.ensures)
