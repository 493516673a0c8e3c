-- Words are an instruction's if each is of the form that its place wants.
use Rattle.std.proofs.Common.{◌≡◌, ℕ, Bool, true, false, List, [], ◌∷◌, refl, ap, ◌∙◌}
use Rattle.std.specs.Prelude.{Option, Some, None, is_none, is_some, option_map, cond, codes}
use Rattle.std.specs.Str.{bytes_eq}
use Rattle.rights.specs.Calls.{Call}
use Rattle.rights.specs.Calls as calls
use Rattle.texts.specs.Names.{is_name}
use Rattle.instruction_set.specs.Fields.{read_name}
use Rattle.instruction_set.specs.Forms.{Field, Mnemonic, Set, Mov, Add, In, Jmp, Jeq, Jlt, Halt, Make, Written, Leading, After_error, nothing, one, two, three, four, whole, word_at, ◌>>=◌}
use Rattle.instruction_set.specs.Forms.{commands_at, directory_at, else_at, flags_at, further_at, label_at, number_at, operand_at, path_at, register_at, rights_at, syscall_at, written_at, written_of}
use Rattle.instruction_set.specs.Programs.{Syscall}
use Rattle.prog_asm.specs.OperandForms.{Form, Unfit, Register, Number, Operand, Path, Flags, Rights, AllRights, FurtherRight}
use Rattle.prog_asm.specs.OperandForms.{Commands, Label, Directory, Else, behind_one, call_forms, first_unfit, forms_of, is_of, rights_form}

-- whether words are of forms
abbrev fits : List Form → List (List ℕ) → Bool
fits forms words = is_none (first_unfit forms words)

-- whether what is left behind a field is of forms
abbrev fits_behind : {A : Type 0} → List Form → Option (A × List (List ℕ)) → Bool
fits_behind forms None = false
fits_behind forms (Some read) = fits forms read.1

-- A field takes words of these forms.
abbrev Takes : {A : Type 0} → (List Form → List Form) → Field A → Type 0
Takes before field = (forms : List Form) (words : List (List ℕ)) → fits (before forms) words ≡ fits_behind forms (field words)

behind-one : (found : Option Unfit) → is_none (behind_one found) ≡ is_none found
behind-one None = refl
behind-one (Some unfit) = refl

-- a word of a form that isn't `dir`
word-takes : {A : Type 0} (form : Form) (read : List ℕ → Option A)
    → ((forms : List Form) → fits (form ∷ forms) [] ≡ false)
    → ((forms : List Form) (word : List ℕ) (words : List (List ℕ)) → fits (form ∷ forms) (word ∷ words) ≡ cond (is_some (read word)) (fits forms words) false)
    → Takes (λ forms. form ∷ forms) (word_at read)
word-takes form read ends here forms [] = ends forms
word-takes {A = A} form read ends here forms (word ∷ words) = here forms word words ∙ go (read word)
  where
    go : (found : Option A) → cond (is_some found) (fits forms words) false ≡ fits_behind forms (option_map (λ a. (a, words)) found)
    go None = refl
    go (Some a) = refl

asked : (is : Bool) (forms : List Form) (words : List (List ℕ)) (wrong : Option Unfit) → is_none wrong ≡ false
    → is_none (cond is (behind_one (first_unfit forms words)) wrong) ≡ cond is (fits forms words) false
asked true forms words wrong fails = behind-one (first_unfit forms words)
asked false forms words wrong fails = fails

register-takes : Takes (λ forms. Register ∷ forms) register_at
unfolding register_at
register-takes = word-takes Register _ (λ forms. refl) (λ forms word words. asked (is_of Register word) forms words _ refl)

number-takes : Takes (λ forms. Number ∷ forms) number_at
unfolding number_at
number-takes = word-takes Number _ (λ forms. refl) (λ forms word words. asked (is_of Number word) forms words _ refl)

operand-takes : Takes (λ forms. Operand ∷ forms) operand_at
unfolding operand_at
operand-takes = word-takes Operand _ (λ forms. refl) (λ forms word words. asked (is_of Operand word) forms words _ refl)

path-takes : Takes (λ forms. Path ∷ forms) path_at
unfolding path_at
path-takes = word-takes Path _ (λ forms. refl) (λ forms word words. asked (is_of Path word) forms words _ refl)

flags-takes : Takes (λ forms. Flags ∷ forms) flags_at
unfolding flags_at
flags-takes = word-takes Flags _ (λ forms. refl) (λ forms word words. asked (is_of Flags word) forms words _ refl)

rights-takes : (wide : Bool) → Takes (λ forms. rights_form wide ∷ forms) (rights_at wide)
unfolding rights_at
rights-takes false = word-takes Rights _ (λ forms. refl) (λ forms word words. asked (is_of Rights word) forms words _ refl)
rights-takes true = word-takes AllRights _ (λ forms. refl) (λ forms word words. asked (is_of AllRights word) forms words _ refl)

further-takes : Takes (λ forms. FurtherRight ∷ forms) further_at
unfolding further_at
further-takes = word-takes FurtherRight _ (λ forms. refl) (λ forms word words. asked (is_of FurtherRight word) forms words _ refl)

commands-takes : Takes (λ forms. Commands ∷ forms) commands_at
unfolding commands_at
commands-takes = word-takes Commands _ (λ forms. refl) (λ forms word words. asked (is_of Commands word) forms words _ refl)

name-read : (word : List ℕ) → is_name word ≡ is_some (read_name word)
name-read word = go (is_name word)
  where
    go : (is : Bool) → is ≡ is_some (cond is (Some word) None)
    go true = refl
    go false = refl

label-takes : Takes (λ forms. Label ∷ forms) label_at
unfolding label_at
label-takes = word-takes Label _ (λ forms. refl)
    (λ forms word words. asked (is_of Label word) forms words _ refl ∙ ap (λ is. cond is (fits forms words) false) (name-read word))

directory-takes : Takes (λ forms. Directory ∷ forms) directory_at
unfolding directory_at
directory-takes forms [] = refl
directory-takes forms (word ∷ words) = go (bytes_eq word (codes "dir"))
  where
    go : (is : Bool) → is_none (cond is (behind_one (first_unfit forms words)) (first_unfit forms (word ∷ words)))
        ≡ fits_behind forms (cond is (Some (true, words)) (Some (false, word ∷ words)))
    go true = behind-one (first_unfit forms words)
    go false = refl

else-takes : Takes (λ forms. Else ∷ Label ∷ forms) else_at
unfolding else_at
else-takes forms [] = refl
else-takes forms (word ∷ words) = go (bytes_eq word (codes "else"))
  where
    go : (is : Bool) → is_none (cond is (behind_one (first_unfit (Label ∷ forms) words)) (Some (record { fit = 0; wants = Some Else })))
        ≡ fits_behind forms (cond is (label_at words) None)
    go true = behind-one (first_unfit (Label ∷ forms) words) ∙ label-takes forms words
    go false = refl

-- what is made of fields takes what these take
nothing-takes : {S : Type 0} (made : S) → Takes (λ forms. forms) (nothing made)
nothing-takes made forms words = refl

one-takes : {A S : Type 0} (before : List Form → List Form) (field : Field A) (make : A → S) → Takes before field → Takes before (one field make)
one-takes {A = A} before field make takes forms words = takes forms words ∙ go (field words)
  where
    go : (read : Option (A × List (List ℕ))) → fits_behind forms read ≡ fits_behind forms (read >>= (λ a. Some (make a.0, a.1)))
    go None = refl
    go (Some a) = refl

-- a field and what is made of the rest
bound-takes : {A S : Type 0} (before rest : List Form → List Form) (field : Field A) (next : A → Field S) → Takes before field → ((a : A) → Takes rest (next a))
    → (forms : List Form) (words : List (List ℕ)) → fits (before (rest forms)) words ≡ fits_behind forms (field words >>= (λ a. next a.0 a.1))
bound-takes {A = A} before rest field next takes behind forms words = takes (rest forms) words ∙ go (field words)
  where
    go : (read : Option (A × List (List ℕ))) → fits_behind (rest forms) read ≡ fits_behind forms (read >>= (λ a. next a.0 a.1))
    go None = refl
    go (Some a) = behind a.0 forms a.1

two-takes : {A B S : Type 0} (f g : List Form → List Form) (first : Field A) (second : Field B) (make : A → B → S) → Takes f first → Takes g second
    → Takes (λ forms. f (g forms)) (two first second make)
two-takes f g first second make firsts seconds = bound-takes f g first (λ a. one second (make a)) firsts (λ a. one-takes g second (make a) seconds)

three-takes : {A B C S : Type 0} (f g h : List Form → List Form) (first : Field A) (second : Field B) (third : Field C) (make : A → B → C → S)
    → Takes f first → Takes g second → Takes h third → Takes (λ forms. f (g (h forms))) (three first second third make)
three-takes f g h first second third make firsts seconds thirds =
    bound-takes f (λ forms. g (h forms)) first (λ a. two second third (make a)) firsts (λ a. two-takes g h second third (make a) seconds thirds)

four-takes : {A B C D S : Type 0} (f g h k : List Form → List Form) (first : Field A) (second : Field B) (third : Field C) (fourth : Field D) (make : A → B → C → D → S)
    → Takes f first → Takes g second → Takes h third → Takes k fourth → Takes (λ forms. f (g (h (k forms)))) (four first second third fourth make)
four-takes f g h k first second third fourth make firsts seconds thirds fourths =
    bound-takes f (λ forms. g (h (k forms))) first (λ a. three second third fourth (make a)) firsts (λ a. three-takes g h k second third fourth (make a) seconds thirds fourths)

-- a call and where it leads
call-takes : (wide : Bool) (call : Call) (words : List (List ℕ)) → fits (call_forms wide call) words ≡ fits_behind (Else ∷ Label ∷ []) (syscall_at wide call words)
unfolding syscall_at
call-takes wide calls.Open words = two-takes (λ forms. Path ∷ forms) (λ forms. Flags ∷ forms) path_at flags_at _ path-takes flags-takes (Else ∷ Label ∷ []) words
call-takes wide calls.Openat words =
    three-takes (λ forms. Operand ∷ forms) (λ forms. Path ∷ forms) (λ forms. Flags ∷ forms) operand_at path_at flags_at _ operand-takes path-takes flags-takes (Else ∷ Label ∷ []) words
call-takes wide calls.Read words = one-takes (λ forms. Operand ∷ forms) operand_at _ operand-takes (Else ∷ Label ∷ []) words
call-takes wide calls.Write words = two-takes (λ forms. Operand ∷ forms) (λ forms. Operand ∷ forms) operand_at operand_at _ operand-takes operand-takes (Else ∷ Label ∷ []) words
call-takes wide calls.Sendfd words =
    three-takes (λ forms. Operand ∷ forms) (λ forms. Operand ∷ forms) (λ forms. Operand ∷ forms) operand_at operand_at operand_at _ operand-takes operand-takes operand-takes
    (Else ∷ Label ∷ []) words
call-takes wide calls.Recvfd words = one-takes (λ forms. Operand ∷ forms) operand_at _ operand-takes (Else ∷ Label ∷ []) words
call-takes wide calls.Lseek words = two-takes (λ forms. Operand ∷ forms) (λ forms. Operand ∷ forms) operand_at operand_at _ operand-takes operand-takes (Else ∷ Label ∷ []) words
call-takes wide calls.Ftruncate words = two-takes (λ forms. Operand ∷ forms) (λ forms. Operand ∷ forms) operand_at operand_at _ operand-takes operand-takes (Else ∷ Label ∷ []) words
call-takes wide calls.Fsync words = one-takes (λ forms. Operand ∷ forms) operand_at _ operand-takes (Else ∷ Label ∷ []) words
call-takes wide calls.Fstat words = one-takes (λ forms. Operand ∷ forms) operand_at _ operand-takes (Else ∷ Label ∷ []) words
call-takes wide calls.Fcntl_getfl words = one-takes (λ forms. Operand ∷ forms) operand_at _ operand-takes (Else ∷ Label ∷ []) words
call-takes wide calls.Fcntl_setfl words = two-takes (λ forms. Operand ∷ forms) (λ forms. Operand ∷ forms) operand_at operand_at _ operand-takes operand-takes (Else ∷ Label ∷ []) words
call-takes wide calls.Fstatat words = two-takes (λ forms. Operand ∷ forms) (λ forms. Path ∷ forms) operand_at path_at _ operand-takes path-takes (Else ∷ Label ∷ []) words
call-takes wide calls.Stat words = one-takes (λ forms. Path ∷ forms) path_at _ path-takes (Else ∷ Label ∷ []) words
call-takes wide calls.Mkdirat words = two-takes (λ forms. Operand ∷ forms) (λ forms. Path ∷ forms) operand_at path_at _ operand-takes path-takes (Else ∷ Label ∷ []) words
call-takes wide calls.Mkdir words = one-takes (λ forms. Path ∷ forms) path_at _ path-takes (Else ∷ Label ∷ []) words
call-takes wide calls.Unlinkat words =
    three-takes (λ forms. Operand ∷ forms) (λ forms. Path ∷ forms) (λ forms. Directory ∷ forms) operand_at path_at directory_at _ operand-takes path-takes directory-takes
    (Else ∷ Label ∷ []) words
call-takes wide calls.Unlink words = two-takes (λ forms. Path ∷ forms) (λ forms. Directory ∷ forms) path_at directory_at _ path-takes directory-takes (Else ∷ Label ∷ []) words
call-takes wide calls.Renameat words =
    four-takes (λ forms. Operand ∷ forms) (λ forms. Path ∷ forms) (λ forms. Operand ∷ forms) (λ forms. Path ∷ forms) operand_at path_at operand_at path_at _ operand-takes path-takes
    operand-takes path-takes (Else ∷ Label ∷ []) words
call-takes wide calls.Dup words = one-takes (λ forms. Operand ∷ forms) operand_at _ operand-takes (Else ∷ Label ∷ []) words
call-takes wide calls.Close words = one-takes (λ forms. Operand ∷ forms) operand_at _ operand-takes (Else ∷ Label ∷ []) words
call-takes wide calls.Cap_rights_limit words = two-takes (λ forms. Operand ∷ forms) (λ forms. rights_form wide ∷ forms) operand_at (rights_at wide)
    _ operand-takes (rights-takes wide) (Else ∷ Label ∷ []) words
call-takes wide calls.Cap_fcntls_limit words = two-takes (λ forms. Operand ∷ forms) (λ forms. Commands ∷ forms) operand_at commands_at _ operand-takes commands-takes (Else ∷ Label ∷ []) words
call-takes wide calls.Cap_enter words = refl
call-takes wide calls.Cap_getmode words = refl
call-takes wide calls.Socketpair words = refl
call-takes wide calls.Fork words = refl
call-takes wide calls.Use words = two-takes (λ forms. Operand ∷ forms) (λ forms. FurtherRight ∷ forms) operand_at further_at _ operand-takes further-takes (Else ∷ Label ∷ []) words

written-takes : (wide : Bool) (mnemonic : Mnemonic) (words : List (List ℕ)) → fits (forms_of wide mnemonic) words ≡ fits_behind [] (written_at wide mnemonic words)
unfolding written_at
written-takes wide Set words = two-takes (λ forms. Register ∷ forms) (λ forms. Number ∷ forms) register_at number_at _ register-takes number-takes [] words
written-takes wide Mov words = two-takes (λ forms. Register ∷ forms) (λ forms. Register ∷ forms) register_at register_at _ register-takes register-takes [] words
written-takes wide Add words = two-takes (λ forms. Register ∷ forms) (λ forms. Register ∷ forms) register_at register_at _ register-takes register-takes [] words
written-takes wide In words = one-takes (λ forms. Register ∷ forms) register_at _ register-takes [] words
written-takes wide Jmp words = one-takes (λ forms. Label ∷ forms) label_at _ label-takes [] words
written-takes wide Jeq words =
    three-takes (λ forms. Register ∷ forms) (λ forms. Number ∷ forms) (λ forms. Label ∷ forms) register_at number_at label_at _ register-takes number-takes label-takes [] words
written-takes wide Jlt words =
    three-takes (λ forms. Register ∷ forms) (λ forms. Number ∷ forms) (λ forms. Label ∷ forms) register_at number_at label_at _ register-takes number-takes label-takes [] words
written-takes wide Halt words = refl
written-takes wide (Make call) words = call-takes wide call words ∙ go (syscall_at wide call words)
  where
    go : (read : Option (Syscall × List (List ℕ))) → fits_behind (Else ∷ Label ∷ []) read
        ≡ fits_behind [] (read >>= (λ a. one else_at (λ name. Leading (After_error a.0) name) a.1))
    go None = refl
    go (Some a) = one-takes (λ forms. Else ∷ Label ∷ forms) else_at (λ name. Leading (After_error a.0) name) else-takes [] a.1

none-left : {A : Type 0} (a : A) (words : List (List ℕ)) → fits [] words ≡ is_some (whole a words)
none-left a [] = refl
none-left a (word ∷ words) = refl

-- The first word that isn't of its form is there where the words are no instruction's.
pub unfit-written : (wide : Bool) (mnemonic : Mnemonic) (words : List (List ℕ)) → is_none (first_unfit (forms_of wide mnemonic) words) ≡ is_some (written_of wide mnemonic words)
unfit-written wide mnemonic words = written-takes wide mnemonic words ∙ go (written_at wide mnemonic words)
  where
    go : (read : Option (Written × List (List ℕ))) → fits_behind [] read ≡ is_some (read >>= (λ read. whole read.0 read.1))
    go None = refl
    go (Some read) = none-left read.0 read.1
