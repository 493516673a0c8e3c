-- What the grammar's fields and forms give is valid.
use Rattle.std.proofs.Common.{◌≡◌, ◌-◌, ◌<◌, ◌≤◌, ℕ, Bool, true, false, List, [], ◌∷◌, refl, ap, ◌∙◌, subst, sym, arith}
use Rattle.std.specs.Prelude.{◌&&◌, ◌||◌, bit_or, codes, Option, Some, None, cond, not, if◌then◌else◌, nat_lt, nat_le, option_map, option_and_then, ◌==◌}
use Rattle.std.proofs.lemmas.Bool.{ltb-true, lt-ltb, leb-true}
use Rattle.std.specs.List.{list_all}
use Rattle.std.specs.Str.{bytes_eq}
use Rattle.rights.proofs.Subsets.{is_within-none, is_within-or}
use Rattle.rights.proofs.Tests.{both_left, both_right}
use Rattle.rights.specs.Calls.{Call}
use Rattle.rights.specs.Calls as calls
use Rattle.rights.specs.Opens.{OpenRequest, is_valid}
use Rattle.rights.specs.Sets.{is_within, all_rights, all_commands, plain_rights, right_names, command_names}
use Rattle.rights.specs.Uses.{is_further_right}
use Rattle.texts.specs.Bytes.{comma}
use Rattle.texts.specs.Parts.{parts}
use Rattle.texts.specs.Numbers.{at_most, number_of}
use Rattle.instruction_set.specs.Programs.{Operand, Register, Number, Syscall, is_instruction, is_operand, is_path, is_register, is_syscall, is_value}
use Rattle.instruction_set.specs.Programs as programs
use Rattle.instruction_set.specs.Languages.{is_spoken, speaks}
use Rattle.instruction_set.specs.Fields.{before_last, read_commands, read_flags, further_in, is_word_among, set_of_word, read_further}
use Rattle.instruction_set.specs.Fields.{read_rights, rights_in, union_from, operand_from, read_operand, path_in, read_path}
use Rattle.instruction_set.specs.Fields.{read_register, request_of, set_of, flag_names, valid_request, read_value}
use Rattle.instruction_set.specs.Forms.{Field, Always, If_equal, If_less, After_error, Mnemonic, Set, Mov, Add, In, Jmp}
use Rattle.instruction_set.specs.Forms.{Jeq, Jlt, Halt, Make, Written, Alone, Leading, commands_at, further_at, is_wide_word, known_in}
use Rattle.instruction_set.specs.Forms.{directory_at, else_at, flags_at, four, label_at, led, nothing, number_at, one, operand_at, path_at, register_at, rights_at, syscall_at, three, two}
use Rattle.instruction_set.specs.Forms.{whole, word_at, written_at, written_of, ◌>>=◌}

-- what is read fulfils this
abbrev pub Gives : {A : Type 0} → Field A → (A → Type 0) → Type 0
Gives field Good = (words : List (List ℕ)) (a : _) → field words ≡ Some a → Good a.0

-- the test that passed
chosen : {A : Type 0} (b : Bool) (x y : A) → cond b (Some x) None ≡ Some y → (b ≡ true) × (x ≡ y)
chosen true x y h = (refl, cc)
chosen false x y h = absurd cc

bound : {A B : Type 0} (o : Option A) (f : A → Option B) (b : B) → (o >>= f) ≡ Some b → (a : A) × (o ≡ Some a) × (f a ≡ Some b)
bound None f b h = absurd cc
bound (Some a) f b h = (a, refl, h)

mapped : {A B : Type 0} (f : A → B) (o : Option A) (b : B) → option_map f o ≡ Some b → (a : A) × (o ≡ Some a) × (f a ≡ b)
mapped f None b h = absurd cc
mapped f (Some a) b h = (a, refl, cc)

-- a field of one word
word-good : {A : Type 0} (read : List ℕ → Option A) (Good : A → Type 0) → ((word : List ℕ) (a : A) → read word ≡ Some a → Good a) → Gives (word_at read) Good
word-good read Good good [] a h = absurd cc
word-good read Good good (word ∷ words) a h =
    let read_as = mapped (λ a. (a, words)) (read word) a h in
    subst (λ a. Good a.0) read_as.2 (good word read_as.0 read_as.1)

register-good : (word : List ℕ) (r : ℕ) → read_register word ≡ Some r → is_register r ≡ true
register-good [] r h = absurd cc
register-good (a ∷ []) r h = absurd cc
register-good (a ∷ digit ∷ []) r h =
    let found = chosen ((a == 114) && nat_le 48 digit && nat_lt digit 56) (digit - 48) r h in
    let high : digit < 56 = ltb-true digit 56 (both_right ((a == 114) && nat_le 48 digit) (nat_lt digit 56) found.0) in
    let low : 48 ≤ digit = leb-true 48 digit (both_right (a == 114) (nat_le 48 digit) (both_left ((a == 114) && nat_le 48 digit) (nat_lt digit 56) found.0)) in
    lt-ltb r 8 (omega (arith, found.1))
register-good (a ∷ b ∷ c ∷ word) r h = absurd cc

at_most-good : (o : Option ℕ) (n : ℕ) → at_most 4294967295 o ≡ Some n → is_value n ≡ true
at_most-good None n h = absurd cc
at_most-good (Some m) n h =
    let found = chosen (nat_le m 4294967295) m n h in
    let low : m ≤ 4294967295 = leb-true m 4294967295 found.0 in
    lt-ltb n 4294967296 (omega (arith, found.1))

value-good : (word : List ℕ) (n : ℕ) → read_value word ≡ Some n → is_value n ≡ true
value-good word n h = at_most-good (number_of word) n h

operand-good : (word : List ℕ) (o : Operand) → read_operand word ≡ Some o → is_operand o ≡ true
operand-good word o h = go (read_register word) refl h
  where
    go : (r : Option ℕ) → read_register word ≡ r → operand_from r (read_value word) ≡ Some o → is_operand o ≡ true
    go (Some r) is h = let same : Register r ≡ o = cc in subst (λ o. is_operand o ≡ true) same (register-good word r is)
    go None is h =
        let found = mapped Number (read_value word) o h in
        subst (λ o. is_operand o ≡ true) found.2 (value-good word found.0 found.1)

path_in-good : (o : Option (List ℕ)) (p : List ℕ) → path_in o ≡ Some p → is_path p ≡ true
path_in-good None p h = absurd cc
path_in-good (Some path) p h = let found = chosen (is_path path) path p h in subst (λ p. is_path p ≡ true) found.1 found.0

path-good : (word : List ℕ) (p : List ℕ) → read_path word ≡ Some p → is_path p ≡ true
path-good [] p h = absurd cc
path-good (b ∷ word) p h = go (b == 34) h
  where
    go : (is : Bool) → cond is (path_in (before_last 34 word)) None ≡ Some p → is_path p ≡ true
    go true h = path_in-good (before_last 34 word) p h
    go false h = absurd cc

flags-good : (word : List ℕ) (f : OpenRequest) → read_flags word ≡ Some f → is_valid f ≡ true
flags-good word f h = go (set_of flag_names word) h
  where
    go : (o : Option ℕ) → option_and_then (λ flags. valid_request (request_of flags)) o ≡ Some f → is_valid f ≡ true
    go None h = absurd cc
    go (Some flags) h = let found = chosen (is_valid (request_of flags)) (request_of flags) f h in subst (λ f. is_valid f ≡ true) found.1 found.0

-- THE SETS that lists name are within those that there are.
abbrev AllWithin : ℕ → List (List ℕ × ℕ) → Type 0
AllWithin all rows = list_all (λ (row : List ℕ × ℕ). is_within row.1 all) rows ≡ true

named-first : (all : ℕ) (row : List ℕ × ℕ) (other : Option ℕ) (set : ℕ) (is : Bool) → is_within row.1 all ≡ true → (other ≡ Some set → is_within set all ≡ true)
    → cond is (Some row.1) other ≡ Some set → is_within set all ≡ true
named-first all row other set true first behind h = let same : row.1 ≡ set = cc in subst (λ n. is_within n all ≡ true) same first
named-first all row other set false first behind h = behind h

named-good : (all : ℕ) (rows : List (List ℕ × ℕ)) (word : List ℕ) (set : ℕ) → AllWithin all rows → set_of_word rows word ≡ Some set → is_within set all ≡ true
named-good all [] word set each h = absurd cc
named-good all (row ∷ rows) word set each h =
    named-first all row (set_of_word rows word) set (bytes_eq word row.0) (both_left (is_within row.1 all) _ each)
    (named-good all rows word set (both_right (is_within row.1 all) _ each)) h

next-good : (all begun set : ℕ) (next : Option ℕ) (behind : ℕ → Option ℕ) (twice : Bool)
    → ((n : ℕ) → next ≡ Some n → behind (bit_or begun n) ≡ Some set → is_within set all ≡ true)
    → cond twice None (option_and_then (λ n. behind (bit_or begun n)) next) ≡ Some set → is_within set all ≡ true
next-good all begun set next behind true rest h = absurd cc
next-good all begun set None behind false rest h = absurd cc
next-good all begun set (Some n) behind false rest h = rest n refl h

union-good : (all : ℕ) (rows : List (List ℕ × ℕ)) → AllWithin all rows → (words : List (List ℕ)) (begun set : ℕ)
    → is_within begun all ≡ true → union_from rows begun words ≡ Some set → is_within set all ≡ true
union-good all rows each [] begun set within h = let same : begun ≡ set = cc in subst (λ n. is_within n all ≡ true) same within
union-good all rows each (word ∷ words) begun set within h =
    next-good all begun set (set_of_word rows word) (λ union. union_from rows union words) (is_word_among word words)
    (λ n is more. union-good all rows each words (bit_or begun n) set (is_within-or begun n all within (named-good all rows word n each is)) more) h

set-good : (all : ℕ) (rows : List (List ℕ × ℕ)) → AllWithin all rows → (word : List ℕ) (set : ℕ) → set_of rows word ≡ Some set → is_within set all ≡ true
set-good all rows each word set h = go (bytes_eq word (codes "none")) h
  where
    go : (is : Bool) → cond is (Some 0) (union_from rows 0 (parts comma word)) ≡ Some set → is_within set all ≡ true
    go true h = let same : 0 ≡ set = cc in subst (λ n. is_within n all ≡ true) same (is_within-none all)
    go false h = union-good all rows each (parts comma word) 0 set (is_within-none all) h

register_at-good : Gives register_at (λ r. is_register r ≡ true)
unfolding register_at
register_at-good = word-good read_register (λ r. is_register r ≡ true) register-good

number_at-good : Gives number_at (λ n. is_value n ≡ true)
unfolding number_at
number_at-good = word-good read_value (λ n. is_value n ≡ true) value-good

operand_at-good : Gives operand_at (λ o. is_operand o ≡ true)
unfolding operand_at
operand_at-good = word-good read_operand (λ o. is_operand o ≡ true) operand-good

path_at-good : Gives path_at (λ p. is_path p ≡ true)
unfolding path_at
path_at-good = word-good read_path (λ p. is_path p ≡ true) path-good

flags_at-good : Gives flags_at (λ f. is_valid f ≡ true)
unfolding flags_at
flags_at-good = word-good read_flags (λ f. is_valid f ≡ true) flags-good

-- A limit leaves rights that there are, in the narrow language plain ones alone.
abbrev GoodRights : Bool → ℕ → Type 0
GoodRights wide rights = (is_within rights all_rights ≡ true) × ((wide || is_within rights plain_rights) ≡ true)

rights-good : (wide : Bool) (word : List ℕ) (set : ℕ) → read_rights wide word ≡ Some set → GoodRights wide set
rights-good wide word set h = go (set_of right_names word) refl h
  where
    go : (o : Option ℕ) → set_of right_names word ≡ o → rights_in wide o ≡ Some set → GoodRights wide set
    go None is h = absurd cc
    go (Some rights) is h =
        let found = chosen (wide || is_within rights plain_rights) rights set h in
        subst (GoodRights wide) found.1 (set-good all_rights right_names refl word rights is, found.0)

rights_at-good : (wide : Bool) → Gives (rights_at wide) (GoodRights wide)
unfolding rights_at
rights_at-good wide = word-good (read_rights wide) (GoodRights wide) (rights-good wide)

further-good : (word : List ℕ) (right : ℕ) → read_further word ≡ Some right → is_further_right right ≡ true
further-good word right h = go (set_of_word right_names word) h
  where
    go : (o : Option ℕ) → further_in o ≡ Some right → is_further_right right ≡ true
    go None h = absurd cc
    go (Some own) h = let found = chosen (is_further_right own) own right h in subst (λ n. is_further_right n ≡ true) found.1 found.0

further_at-good : Gives further_at (λ right. is_further_right right ≡ true)
unfolding further_at
further_at-good = word-good read_further (λ right. is_further_right right ≡ true) further-good

commands_at-good : Gives commands_at (λ commands. is_within commands all_commands ≡ true)
unfolding commands_at
commands_at-good = word-good read_commands (λ commands. is_within commands all_commands ≡ true) (set-good all_commands command_names refl)

-- a field that may be anything
any_field : {A : Type 0} (field : Field A) → Gives field (λ _. Unit {0})
any_field field words a h = tt

-- what is made of good fields
nothing-good : {S : Type 0} (made : S) (Good : S → Type 0) → Good made → Gives (nothing made) Good
nothing-good made Good good words s h = let same : (made, words) ≡ s = cc in subst (λ s. Good s.0) same good

one-good : {A S : Type 0} (first : Field A) (make : A → S) (P : A → Type 0) (Good : S → Type 0) → Gives first P → ((a : A) → P a → Good (make a)) → Gives (one first make) Good
one-good first make P Good firsts made words s h =
    let a = bound (first words) (λ a. Some (make a.0, a.1)) s h in
    let same : (make a.0.0, a.0.1) ≡ s = let k = a.2 in cc in
    subst (λ s. Good s.0) same (made a.0.0 (firsts words a.0 a.1))

two-good : {A B S : Type 0} (first : Field A) (second : Field B) (make : A → B → S) (P : A → Type 0) (Q : B → Type 0) (Good : S → Type 0) →
    Gives first P → Gives second Q → ((a : A) (b : B) → P a → Q b → Good (make a b)) → Gives (two first second make) Good
two-good first second make P Q Good firsts seconds made words s h =
    let a = bound (first words) (λ a. second a.1 >>= λ b. Some (make a.0 b.0, b.1)) s h in
    one-good second (make a.0.0) Q Good seconds (λ b q. made a.0.0 b (firsts words a.0 a.1) q) a.0.1 s a.2

three-good : {A B C S : Type 0} (first : Field A) (second : Field B) (third : Field C) (make : A → B → C → S) (P : A → Type 0) (Q : B → Type 0)
    (R : C → Type 0) (Good : S → Type 0) → Gives first P → Gives second Q → Gives third R →
    ((a : A) (b : B) (c : C) → P a → Q b → R c → Good (make a b c)) → Gives (three first second third make) Good
three-good first second third make P Q R Good firsts seconds thirds made words s h =
    let a = bound (first words) (λ a. second a.1 >>= λ b. third b.1 >>= λ c. Some (make a.0 b.0 c.0, c.1)) s h in
    two-good second third (make a.0.0) Q R Good seconds thirds (λ b c q r. made a.0.0 b c (firsts words a.0 a.1) q r) a.0.1 s a.2

four-good : {A B C D S : Type 0} (first : Field A) (second : Field B) (third : Field C) (fourth : Field D) (make : A → B → C → D → S) (P : A → Type 0)
    (Q : B → Type 0) (R : C → Type 0) (O : D → Type 0) (Good : S → Type 0) → Gives first P → Gives second Q → Gives third R → Gives fourth O →
    ((a : A) (b : B) (c : C) (d : D) → P a → Q b → R c → O d → Good (make a b c d)) → Gives (four first second third fourth make) Good
four-good first second third fourth make P Q R O Good firsts seconds thirds fourths made words s h =
    let a = bound (first words) (λ a. second a.1 >>= λ b. third b.1 >>= λ c. fourth c.1 >>= λ d. Some (make a.0 b.0 c.0 d.0, d.1)) s h in
    three-good second third fourth (make a.0.0) Q R O Good seconds thirds fourths (λ b c d q r o. made a.0.0 b c d (firsts words a.0 a.1) q r o) a.0.1 s a.2

both : (a b : Bool) → a ≡ true → b ≡ true → (a && b) ≡ true
both a b p q = ap (λ a. a && b) p ∙ q

-- the calls' operands; and each call is of the language
abbrev GoodCall : Bool → Syscall → Type 0
GoodCall wide call = (is_syscall call ≡ true) × (speaks wide call ≡ true)

-- The language has the instruction.
abbrev pub Known : Bool → Mnemonic → Type 0
Known wide mnemonic = known_in wide (Some mnemonic) ≡ Some mnemonic

known-twice : (wide : Bool) (mnemonic : Option Mnemonic) → known_in wide (known_in wide mnemonic) ≡ known_in wide mnemonic
known-twice wide None = refl
known-twice wide (Some mnemonic) = kept (not (is_wide_word mnemonic) || wide) refl
  where
    kept : (known : Bool) → (not (is_wide_word mnemonic) || wide) ≡ known → known_in wide (known_in wide (Some mnemonic)) ≡ known_in wide (Some mnemonic)
    kept true is = ap (known_in wide) (ap (λ k. if k then Some mnemonic else None) is)
    kept false is = let unknown : known_in wide (Some mnemonic) ≡ None = ap (λ k. if k then Some mnemonic else None) is in
        ap (known_in wide) unknown ∙ sym unknown

pub known-is : (wide : Bool) (found : Option Mnemonic) (mnemonic : Mnemonic) → known_in wide found ≡ Some mnemonic → Known wide mnemonic
known-is wide found mnemonic is = subst (λ known. known_in wide known ≡ known) is (known-twice wide found)

D : (wide : Bool) (make : Operand → Syscall) → ((o : Operand) → is_operand o ≡ true → GoodCall wide (make o)) → Gives (one operand_at make) (GoodCall wide)
D wide make good = one-good operand_at make (λ o. is_operand o ≡ true) (GoodCall wide) operand_at-good good

DV : (wide : Bool) (make : Operand → Operand → Syscall) → ((o v : Operand) → is_operand o ≡ true → is_operand v ≡ true → GoodCall wide (make o v))
    → Gives (two operand_at operand_at make) (GoodCall wide)
DV wide make good = two-good operand_at operand_at make (λ o. is_operand o ≡ true) (λ o. is_operand o ≡ true) (GoodCall wide) operand_at-good operand_at-good good

DP : (wide : Bool) (make : Operand → List ℕ → Syscall) → ((o : Operand) (p : List ℕ) → is_operand o ≡ true → is_path p ≡ true → GoodCall wide (make o p))
    → Gives (two operand_at path_at make) (GoodCall wide)
DP wide make good = two-good operand_at path_at make (λ o. is_operand o ≡ true) (λ p. is_path p ≡ true) (GoodCall wide) operand_at-good path_at-good good

syscall-good : (wide : Bool) (call : Call) → Known wide (Make call) → Gives (syscall_at wide call) (GoodCall wide)
unfolding syscall_at
syscall-good wide calls.Open known = two-good path_at flags_at programs.Open (λ p. is_path p ≡ true) (λ f. is_valid f ≡ true) (GoodCall wide)
    path_at-good flags_at-good (λ p f a b. (both _ _ a b, refl))
syscall-good wide calls.Openat known = three-good operand_at path_at flags_at programs.Openat (λ o. is_operand o ≡ true) (λ p. is_path p ≡ true)
    (λ f. is_valid f ≡ true) (GoodCall wide) operand_at-good path_at-good flags_at-good (λ o p f a b c. (both _ _ (both _ _ a b) c, refl))
syscall-good wide calls.Read known = D wide programs.Read (λ o a. (a, refl))
syscall-good wide calls.Write known = DV wide programs.Write (λ o v a b. (both _ _ a b, refl))
syscall-good wide calls.Sendfd known = three-good operand_at operand_at operand_at programs.Sendfd (λ o. is_operand o ≡ true) (λ o. is_operand o ≡ true)
    (λ o. is_operand o ≡ true) (GoodCall wide) operand_at-good operand_at-good operand_at-good (λ o e v a b c. (both _ _ (both _ _ a b) c, refl))
syscall-good wide calls.Recvfd known = D wide programs.Recvfd (λ o a. (a, refl))
syscall-good wide calls.Lseek known = DV wide programs.Lseek (λ o v a b. (both _ _ a b, refl))
syscall-good wide calls.Ftruncate known = DV wide programs.Ftruncate (λ o v a b. (both _ _ a b, refl))
syscall-good wide calls.Fsync known = D wide programs.Fsync (λ o a. (a, refl))
syscall-good wide calls.Fstat known = D wide programs.Fstat (λ o a. (a, refl))
syscall-good wide calls.Fcntl_getfl known = D wide programs.Fcntl_getfl (λ o a. (a, refl))
syscall-good wide calls.Fcntl_setfl known = DV wide programs.Fcntl_setfl (λ o v a b. (both _ _ a b, refl))
syscall-good wide calls.Fstatat known = DP wide programs.Fstatat (λ o p a b. (both _ _ a b, refl))
syscall-good wide calls.Stat known = one-good path_at programs.Stat (λ p. is_path p ≡ true) (GoodCall wide) path_at-good (λ p a. (a, refl))
syscall-good wide calls.Mkdirat known = DP wide programs.Mkdirat (λ o p a b. (both _ _ a b, refl))
syscall-good wide calls.Mkdir known = one-good path_at programs.Mkdir (λ p. is_path p ≡ true) (GoodCall wide) path_at-good (λ p a. (a, refl))
syscall-good wide calls.Unlinkat known = three-good operand_at path_at directory_at programs.Unlinkat (λ o. is_operand o ≡ true) (λ p. is_path p ≡ true)
    (λ _. Unit {0}) (GoodCall wide) operand_at-good path_at-good (any_field directory_at) (λ o p d a b c. (both _ _ a b, refl))
syscall-good wide calls.Unlink known = two-good path_at directory_at programs.Unlink (λ p. is_path p ≡ true) (λ _. Unit {0}) (GoodCall wide)
    path_at-good (any_field directory_at) (λ p d a b. (a, refl))
syscall-good wide calls.Renameat known = four-good operand_at path_at operand_at path_at programs.Renameat (λ o. is_operand o ≡ true) (λ p. is_path p ≡ true)
    (λ o. is_operand o ≡ true) (λ p. is_path p ≡ true) (GoodCall wide) operand_at-good path_at-good operand_at-good path_at-good
    (λ o p t q a b c d. (both _ _ (both _ _ (both _ _ a b) c) d, refl))
syscall-good wide calls.Dup known = D wide programs.Dup (λ o a. (a, refl))
syscall-good wide calls.Close known = D wide programs.Close (λ o a. (a, refl))
syscall-good wide calls.Cap_rights_limit known = two-good operand_at (rights_at wide) programs.Cap_rights_limit (λ o. is_operand o ≡ true)
    (GoodRights wide) (GoodCall wide) operand_at-good (rights_at-good wide) (λ o r a b. (both _ _ a b.0, b.1))
syscall-good wide calls.Cap_fcntls_limit known = two-good operand_at commands_at programs.Cap_fcntls_limit (λ o. is_operand o ≡ true)
    (λ r. is_within r all_commands ≡ true) (GoodCall wide) operand_at-good commands_at-good (λ o r a b. (both _ _ a b, refl))
syscall-good wide calls.Cap_enter known = nothing-good programs.Cap_enter (GoodCall wide) (refl, refl)
syscall-good wide calls.Cap_getmode known = nothing-good programs.Cap_getmode (GoodCall wide) (refl, refl)
syscall-good wide calls.Socketpair known = nothing-good programs.Socketpair (GoodCall wide) (refl, refl)
syscall-good wide calls.Fork known = nothing-good programs.Fork (GoodCall wide) (refl, refl)
syscall-good wide calls.Use known = two-good operand_at further_at programs.Use (λ o. is_operand o ≡ true) (λ r. is_further_right r ≡ true)
    (GoodCall wide) operand_at-good further_at-good (λ o r a b. (both _ _ a b, (chosen wide (Make calls.Use) (Make calls.Use) known).0))

-- An instruction is valid at any target that is one, and of the language.
abbrev pub GoodWritten : Bool → Written → Type 0
GoodWritten wide (Alone instruction) = (points : ℕ) → (is_instruction points instruction ≡ true) × (is_spoken wide instruction ≡ true)
GoodWritten wide (Leading jump name) =
    (points target : ℕ) → nat_lt target points ≡ true → (is_instruction points (led jump target) ≡ true) × (is_spoken wide (led jump target) ≡ true)

written_at-good : (wide : Bool) (mnemonic : Mnemonic) → Known wide mnemonic → Gives (written_at wide mnemonic) (GoodWritten wide)
unfolding written_at
written_at-good wide Set known = two-good register_at number_at (λ r n. Alone (programs.Set r n)) (λ r. is_register r ≡ true)
    (λ n. is_value n ≡ true) (GoodWritten wide) register_at-good number_at-good (λ r n a b points. (both _ _ a b, refl))
written_at-good wide Mov known = two-good register_at register_at (λ r s. Alone (programs.Mov r s)) (λ r. is_register r ≡ true)
    (λ r. is_register r ≡ true) (GoodWritten wide) register_at-good register_at-good (λ r n a b points. (both _ _ a b, refl))
written_at-good wide Add known = two-good register_at register_at (λ r s. Alone (programs.Add r s)) (λ r. is_register r ≡ true)
    (λ r. is_register r ≡ true) (GoodWritten wide) register_at-good register_at-good (λ r n a b points. (both _ _ a b, refl))
written_at-good wide In known = one-good register_at (λ r. Alone (programs.In r)) (λ r. is_register r ≡ true) (GoodWritten wide) register_at-good (λ r a points. (a, refl))
written_at-good wide Jmp known = one-good label_at (λ name. Leading Always name) (λ _. Unit {0}) (GoodWritten wide) (any_field label_at) (λ name a points target below. (below, refl))
written_at-good wide Jeq known = three-good register_at number_at label_at (λ r n name. Leading (If_equal r n) name) (λ r. is_register r ≡ true)
    (λ n. is_value n ≡ true) (λ _. Unit {0}) (GoodWritten wide) register_at-good number_at-good (any_field label_at)
    (λ r n name a b c points target below. (both _ _ (both _ _ a b) below, refl))
written_at-good wide Jlt known = three-good register_at number_at label_at (λ r n name. Leading (If_less r n) name) (λ r. is_register r ≡ true)
    (λ n. is_value n ≡ true) (λ _. Unit {0}) (GoodWritten wide) register_at-good number_at-good (any_field label_at)
    (λ r n name a b c points target below. (both _ _ (both _ _ a b) below, refl))
written_at-good wide Halt known = nothing-good (Alone programs.Halt) (GoodWritten wide) (λ points. (refl, refl))
written_at-good wide (Make call) known = two-good (syscall_at wide call) else_at (λ call name. Leading (After_error call) name) (GoodCall wide) (λ _. Unit {0}) (GoodWritten wide)
    (syscall-good wide call known) (any_field else_at) (λ s name a b points target below. (both _ _ a.0 below, a.1))

whole-is : {A : Type 0} (a b : A) (words : List (List ℕ)) → whole a words ≡ Some b → a ≡ b
whole-is a b [] h = cc
whole-is a b (word ∷ words) h = absurd cc

pub written-good : (wide : Bool) (mnemonic : Mnemonic) (words : List (List ℕ)) (w : Written) → Known wide mnemonic → written_of wide mnemonic words ≡ Some w → GoodWritten wide w
written-good wide mnemonic words w known h =
    let read = bound (written_at wide mnemonic words) (λ read. whole read.0 read.1) w h in
    subst (GoodWritten wide) (whole-is read.0.0 w read.0.1 read.2) (written_at-good wide mnemonic known words read.0 read.1)
