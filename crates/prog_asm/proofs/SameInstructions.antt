-- What is equal as a value of the code is the same instruction.
use denote.Struct.Field.{Field}
use denote.Struct.Values.{Values}
use denote.Enum.Declared.{Choice}
use denote.Enum.Compared.{Each, by}
use Rattle.std.proofs.Common.{◌≡◌, ℕ, Bool, true, false, List, [], ◌∷◌, inl, inr, refl, ap, sym, ◌∙◌}
use Rattle.std.specs.Prelude.{◌&&◌, bytes_eq}
use Rattle.std.specs.Cmp.Lexicographic.{same_text}
use Rattle.std.proofs.lemmas.Bool.{eqb-true}
use Rattle.std.specs.Bool.{beq}
use Rattle.rights.specs.contracts.opens.OpenFlagsPartialEq.TheImpl as flags_eq
use Rattle.rights.specs.Opens.{OpenRequest, open_request}
use Rattle.rights.specs.contracts.sets.RightsPartialEq.TheImpl as rights_eq
use Rattle.rights.specs.contracts.sets.FcntlsPartialEq.TheImpl as commands_eq
use Rattle.rights.specs.declared.sets.Rights.{Rights}
use Rattle.rights.specs.declared.sets.Fcntls.{Fcntls}
use Rattle.instruction_set.specs.contracts.operands.OperandPartialEq.TheImpl as operand_eq
use Rattle.instruction_set.specs.contracts.instructions.SyscallPartialEq.TheImpl as call_eq
use Rattle.instruction_set.specs.declared.operands.Operand.{Operand as OperandCode}
use Rattle.instruction_set.specs.declared.operands.Operand.TheVariants as operand
use Rattle.instruction_set.specs.declared.instructions.Syscall.{Syscall as SyscallCode}
use Rattle.instruction_set.specs.contracts.instructions.Syscall as calls
use Rattle.instruction_set.specs.contracts.instructions.Instruction as instructions
use Rattle.instruction_set.specs.contracts.instructions.InstructionPartialEq.TheImpl as instruction_eq
use Rattle.instruction_set.specs.declared.instructions.Instruction.{Instruction as InstructionCode}
use Rattle.instruction_set.specs.Programs as programs
use Rattle.instruction_set.specs.Views.{instruction_of, operand_of, syscall_of}

both : (x y : Bool) → (x && y) ≡ true → (x ≡ true) × (y ≡ true)
both true y same = (refl, same)
both false y same = absurd cc

two : {A B C : Type 0} (f : A → B → C) {a w : A} {b x : B} → a ≡ w → b ≡ x → f a b ≡ f w x
two f p q = cc

three : {A B C D : Type 0} (f : A → B → C → D) {a w : A} {b x : B} {c y : C} → a ≡ w → b ≡ x → c ≡ y → f a b c ≡ f w x y
three f p q r = cc

four : {A B C D E : Type 0} (f : A → B → C → D → E) {a w : A} {b x : B} {c y : C} {d z : D} → a ≡ w → b ≡ x → c ≡ y → d ≡ z → f a b c d ≡ f w x y z
four f p q r s = cc

five : {A B C D E F : Type 0} (f : A → B → C → D → E → F) {a v : A} {b w : B} {c x : C} {d y : D} {e z : E} → a ≡ v → b ≡ w → c ≡ x → d ≡ y → e ≡ z → f a b c d e ≡ f v w x y z
five f p q r s t = cc

pub same-operand : (a b : OperandCode) → operand_eq.ghosts.eq a b ≡ true → operand_of a ≡ operand_of b
same-operand (operand.Register r) (operand.Register s) same = ap programs.Register (eqb-true r s same)
same-operand (operand.Number m) (operand.Number n) same = ap programs.Number (eqb-true m n same)
same-operand (operand.Register r) (operand.Number n) same = absurd cc
same-operand (operand.Number m) (operand.Register s) same = absurd cc

same-path : (a b : List ℕ) → bytes_eq a b ≡ true → a ≡ b
same-path a b same = same_text a b (sym same)

same-truth : (a b : Bool) → beq a b ≡ true → a ≡ b
same-truth true true same = refl
same-truth false false same = refl
same-truth true false same = absurd cc
same-truth false true same = absurd cc

same-flags : (a b : OpenRequest) → flags_eq.ghosts.eq a b ≡ true → a ≡ b
same-flags a b same =
    let h0 = both _ _ same in
    let h1 = both _ _ h0.1 in
    let h2 = both _ _ h1.1 in
    let h3 = both _ _ h2.1 in
    five open_request (same-truth a.read b.read h0.0) (same-truth a.write b.write h1.0) (same-truth a.append b.append h2.0) (same-truth a.create b.create h3.0)
    (same-truth a.trunc b.trunc h3.1)

same-rights : (a b : Rights) → rights_eq.ghosts.eq a b ≡ true → a.0 ≡ b.0
same-rights a b same = eqb-true a.0 b.0 same

same-commands : (a b : Fcntls) → commands_eq.ghosts.eq a b ≡ true → a.0 ≡ b.0
same-commands a b same = eqb-true a.0 b.0 same

-- Each comparison of two values of one variant tells of which the same is made.
abbrev Tells : {B : Type 0} (Fss : List (List Field)) → Each Bool Fss → (Choice Fss → B) → Type 0
Tells [] each make = Unit {0}
Tells (Fs ∷ Fss) each make = ((x y : Values Fs) → each.0 x y ≡ true → make (inl x) ≡ make (inl y)) × Tells Fss each.1 (λ c. make (inr c))

tells-same : {B : Type 0} (Fss : List (List Field)) (each : Each Bool Fss) (make : Choice Fss → B) (c d : Choice Fss) → by false false Fss each c d ≡ true → Tells Fss each make → make c ≡ make d
tells-same [] each make c d same tells = absurd c
tells-same (Fs ∷ Fss) each make (inl x) (inl y) same tells = tells.0 x y same
tells-same (Fs ∷ Fss) each make (inl x) (inr d) same tells = absurd cc
tells-same (Fs ∷ Fss) each make (inr c) (inl y) same tells = absurd cc
tells-same (Fs ∷ Fss) each make (inr c) (inr d) same tells = tells-same Fss each.1 (λ c. make (inr c)) c d same tells.1

pub same-call : (a b : SyscallCode) → call_eq.ghosts.eq a b ≡ true → syscall_of a ≡ syscall_of b
same-call a b same =
    sym (ap syscall_of (calls.enum.eta a)) ∙ tells-same calls.enum.parts _ (λ c. syscall_of (calls.enum.make c)) (calls.enum.as_values a) (calls.enum.as_values b) same (
      λ x y same. let h0 = both _ _ same in two programs.Open (same-path x.0 y.0 h0.0) (same-flags x.1.0 y.1.0 h0.1),
      (
        λ x y same. let h0 = both _ _ same in let h1 = both _ _ h0.1 in three programs.Openat (same-operand x.0 y.0 h0.0) (same-path x.1.0 y.1.0 h1.0) (same-flags x.1.1.0 y.1.1.0 h1.1),
        (
          λ x y same. ap programs.Read (same-operand x.0 y.0 same),
          (
            λ x y same. let h0 = both _ _ same in two programs.Write (same-operand x.0 y.0 h0.0) (same-operand x.1.0 y.1.0 h0.1),
            (
              λ x y same. let h0 = both _ _ same in let h1 = both _ _ h0.1 in three programs.Sendfd (same-operand x.0 y.0 h0.0) (same-operand x.1.0 y.1.0 h1.0) (same-operand x.1.1.0 y.1.1.0 h1.1),
              (
                λ x y same. ap programs.Recvfd (same-operand x.0 y.0 same),
                (
                  λ x y same. let h0 = both _ _ same in two programs.Lseek (same-operand x.0 y.0 h0.0) (same-operand x.1.0 y.1.0 h0.1),
                  (
                    λ x y same. let h0 = both _ _ same in two programs.Ftruncate (same-operand x.0 y.0 h0.0) (same-operand x.1.0 y.1.0 h0.1),
                    (
                      λ x y same. ap programs.Fsync (same-operand x.0 y.0 same),
                      (
                        λ x y same. ap programs.Fstat (same-operand x.0 y.0 same),
                        (
                          λ x y same. ap programs.Fcntl_getfl (same-operand x.0 y.0 same),
                          (
                            λ x y same. let h0 = both _ _ same in two programs.Fcntl_setfl (same-operand x.0 y.0 h0.0) (same-operand x.1.0 y.1.0 h0.1),
                            (
                              λ x y same. let h0 = both _ _ same in two programs.Fstatat (same-operand x.0 y.0 h0.0) (same-path x.1.0 y.1.0 h0.1),
                              (
                                λ x y same. ap programs.Stat (same-path x.0 y.0 same),
                                (
                                  λ x y same. let h0 = both _ _ same in two programs.Mkdirat (same-operand x.0 y.0 h0.0) (same-path x.1.0 y.1.0 h0.1),
                                  (
                                    λ x y same. ap programs.Mkdir (same-path x.0 y.0 same),
                                    (
                                      λ x y same. let h0 = both _ _ same in let h1 = both _ _ h0.1 in
                                          three programs.Unlinkat (same-operand x.0 y.0 h0.0) (same-path x.1.0 y.1.0 h1.0) (same-truth x.1.1.0 y.1.1.0 h1.1),
                                      (
                                        λ x y same. let h0 = both _ _ same in two programs.Unlink (same-path x.0 y.0 h0.0) (same-truth x.1.0 y.1.0 h0.1),
                                        (
                                          λ x y same. let h0 = both _ _ same in let h1 = both _ _ h0.1 in let h2 = both _ _ h1.1 in
                                              four programs.Renameat (same-operand x.0 y.0 h0.0) (same-path x.1.0 y.1.0 h1.0) (same-operand x.1.1.0 y.1.1.0 h2.0) (same-path x.1.1.1.0 y.1.1.1.0 h2.1),
                                          (
                                            λ x y same. ap programs.Dup (same-operand x.0 y.0 same),
                                            (
                                              λ x y same. ap programs.Close (same-operand x.0 y.0 same),
                                              (
                                                λ x y same. let h0 = both _ _ same in two programs.Cap_rights_limit (same-operand x.0 y.0 h0.0) (same-rights x.1.0 y.1.0 h0.1),
                                                (
                                                  λ x y same. let h0 = both _ _ same in two programs.Cap_fcntls_limit (same-operand x.0 y.0 h0.0) (same-commands x.1.0 y.1.0 h0.1),
                                                  (
                                                    λ x y same. refl,
                                                    (
                                                      λ x y same. refl,
                                                      (
                                                        λ x y same. refl,
                                                        (
                                                          λ x y same. refl,
                                                          (
                                                            λ x y same. let h0 = both _ _ same in two programs.Use (same-operand x.0 y.0 h0.0) (same-rights x.1.0 y.1.0 h0.1),
                                                            tt,
                                                          ),
                                                        ),
                                                      ),
                                                    ),
                                                  ),
                                                ),
                                              ),
                                            ),
                                          ),
                                        ),
                                      ),
                                    ),
                                  ),
                                ),
                              ),
                            ),
                          ),
                        ),
                      ),
                    ),
                  ),
                ),
              ),
            ),
          ),
        ),
      ),
    ) ∙ ap syscall_of (calls.enum.eta b)

pub same-instruction : (a b : InstructionCode) → instruction_eq.ghosts.eq a b ≡ true → instruction_of a ≡ instruction_of b
same-instruction a b same =
    sym (ap instruction_of (instructions.enum.eta a))
    ∙ tells-same instructions.enum.parts _ (λ c. instruction_of (instructions.enum.make c)) (instructions.enum.as_values a) (instructions.enum.as_values b) same (
      λ x y same. let h0 = both _ _ same in two programs.Set (eqb-true x.0 y.0 h0.0) (eqb-true x.1.0 y.1.0 h0.1),
      (
        λ x y same. let h0 = both _ _ same in two programs.Mov (eqb-true x.0 y.0 h0.0) (eqb-true x.1.0 y.1.0 h0.1),
        (
          λ x y same. let h0 = both _ _ same in two programs.Add (eqb-true x.0 y.0 h0.0) (eqb-true x.1.0 y.1.0 h0.1),
          (
            λ x y same. ap programs.In (eqb-true x.0 y.0 same),
            (
              λ x y same. ap programs.Jmp (eqb-true x.0 y.0 same),
              (
                λ x y same. let h0 = both _ _ same in let h1 = both _ _ h0.1 in three programs.Jeq (eqb-true x.0 y.0 h0.0) (eqb-true x.1.0 y.1.0 h1.0) (eqb-true x.1.1.0 y.1.1.0 h1.1),
                (
                  λ x y same. let h0 = both _ _ same in let h1 = both _ _ h0.1 in three programs.Jlt (eqb-true x.0 y.0 h0.0) (eqb-true x.1.0 y.1.0 h1.0) (eqb-true x.1.1.0 y.1.1.0 h1.1),
                  (
                    λ x y same. refl,
                    (
                      λ x y same. let h0 = both _ _ same in two programs.Invoke (same-call x.0 y.0 h0.0) (eqb-true x.1.0 y.1.0 h0.1),
                      tt,
                    ),
                  ),
                ),
              ),
            ),
          ),
        ),
      ),
    ) ∙ ap instruction_of (instructions.enum.eta b)
