-- What taking a line says of a certificate, and what it keeps.
use Rattle.std.proofs.Common.{◌≡◌, ◌≤◌, ◌&&◌, ◌++◌, [], ℕ, Bool, true, false, List, length, refl, ap, sym, ◌∙◌, arith}
use Rattle.std.specs.Prelude.{Option, Some, None, Ok, Err, is_some, nat_le, option_map, if◌then◌else◌}
use Rattle.std.specs.Str.{bytes_eq}
use Rattle.std.proofs.lemmas.Bool.Decides.{nat_tests}
use Rattle.rights.specs.Limits.{most_programs}
use Rattle.certificate.specs.Bounds.{Certificate}
use Rattle.certificate.specs.Order.{same_class}
use Rattle.certificate.specs.Lines.{Line, Begins_block, Bounds_register, Bounds_slot, Bounds_channel, Begins_authority, Bounds_grant, Holds_end}
use Rattle.certificate.specs.Growth.{No_room, Out_of_order, classes_in_line, classes_of, distinct, has_room, most_classes}
use Rattle.certificate.specs.Growth.{programs_in_line, programs_named, stands, taken, with_line}
use Rattle.certificate.specs.Room.{if_few, listed_with}
use Rattle.certificate.proofs.Distinct.{behind-append, few_none-back, few_some-back}

pub both_true : (a b : Bool) → a ≡ true → b ≡ true → (a && b) ≡ true
both_true a b p q = ap (λ x. x && b) p ∙ q

both_false_left : (a b : Bool) → a ≡ false → (a && b) ≡ false
both_false_left a b fails = ap (λ x. x && b) fails

both_false_right : (a b : Bool) → b ≡ false → (a && b) ≡ false
both_false_right true b fails = fails
both_false_right false b fails = refl

-- the answers
pub taken_no_room : (c : Certificate) (line : Line) → has_room c line ≡ false → taken c line ≡ Err No_room
unfolding taken
taken_no_room c line full = ap (λ (b : Bool). if b then (if stands c line then Ok (with_line c line) else Err Out_of_order) else Err No_room) full

pub taken_out_of_order : (c : Certificate) (line : Line) → has_room c line ≡ true → stands c line ≡ false → taken c line ≡ Err Out_of_order
unfolding taken
taken_out_of_order c line room astray =
    ap (λ (b : Bool). if b then (if stands c line then Ok (with_line c line) else Err Out_of_order) else Err No_room) room
    ∙ ap (λ (b : Bool). if b then Ok (with_line c line) else Err Out_of_order) astray

pub taken_ok : (c : Certificate) (line : Line) → has_room c line ≡ true → stands c line ≡ true → taken c line ≡ Ok (with_line c line)
unfolding taken
taken_ok c line room there =
    ap (λ (b : Bool). if b then (if stands c line then Ok (with_line c line) else Err Out_of_order) else Err No_room) room
    ∙ ap (λ (b : Bool). if b then Ok (with_line c line) else Err Out_of_order) there

-- and back
pub record IsTaken (c : Certificate) (line : Line) (d : Certificate) : Type 0 where
  pub room : has_room c line ≡ true
  pub place : stands c line ≡ true
  pub made : with_line c line ≡ d

taken_cases : (c : Certificate) (line : Line) (d : Certificate) (room place : Bool) → has_room c line ≡ room → stands c line ≡ place
    → (if room then (if place then Ok (with_line c line) else Err Out_of_order) else Err No_room) ≡ Ok d → IsTaken c line d
taken_cases c line d true true room place took = record { room = room; place = place; made = cc }
taken_cases c line d true false room place took = absurd cc
taken_cases c line d false place room stood took = absurd cc

pub taken-back : (c : Certificate) (line : Line) (d : Certificate) → taken c line ≡ Ok d → IsTaken c line d
unfolding taken
taken-back c line d took = taken_cases c line d (has_room c line) (stands c line) refl refl took

-- a line that is taken keeps the version
pub line_keeps : (c : Certificate) (line : Line) → (with_line c line).version ≡ c.version
line_keeps c (Begins_block program point mode) = refl
line_keeps c (Bounds_register register interval) = refl
line_keeps c (Bounds_slot number slot) = refl
line_keeps c (Bounds_channel channel) = refl
line_keeps c (Begins_authority program) = refl
line_keeps c (Bounds_grant ceiling) = refl
line_keeps c (Holds_end held) = refl

pub taken_keeps : (c d : Certificate) (line : Line) → taken c line ≡ Ok d → d.version ≡ c.version
taken_keeps c d line took = ap (λ (e : Certificate). e.version) (sym (taken-back c line d took).made) ∙ line_keeps c line

-- room, by what is listed of it
abbrev few_programs : Certificate → Line → Bool
few_programs c line = nat_le (length (distinct bytes_eq (programs_named c ++ programs_in_line line))) most_programs

abbrev few_classes : Certificate → Line → Bool
few_classes c line = nat_le (length (distinct same_class (classes_of c ++ classes_in_line line))) most_classes

map_some : {A B : Type 0} (f : A → B) (o : Option A) (b : B) → Some b ≡ option_map f o → (a : A) × (Some a ≡ o) × (b ≡ f a)
map_some f None b is = absurd cc
map_some f (Some a) b is = (a, refl, cc)

map_none : {A B : Type 0} (f : A → B) (o : Option A) → None ≡ option_map f o → None ≡ o
map_none f None is = refl
map_none f (Some a) is = absurd cc

-- what is listed is of all
listed_all : {A : Type 0} (same : A → A → Bool) (most : ℕ) (xs ys k : List A) → Some k ≡ listed_with same most (distinct same xs) ys
    → (nat_le (length (distinct same (xs ++ ys))) most ≡ true) × (k ≡ distinct same (xs ++ ys))
listed_all same most xs ys k is =
    let all = behind-append same [] xs ys in
    few_some-back most (distinct same (xs ++ ys)) k (is ∙ ap (if_few most) (sym all))

listed_over : {A : Type 0} (same : A → A → Bool) (most : ℕ) (xs ys : List A) → None ≡ listed_with same most (distinct same xs) ys
    → nat_le (length (distinct same (xs ++ ys))) most ≡ false
listed_over same most xs ys is =
    few_none-back most (distinct same (xs ++ ys)) (is ∙ ap (if_few most) (sym (behind-append same [] xs ys)))

pub record HasRoom (c : Certificate) (line : Line) (names : List (List ℕ)) (classes : ℕ) : Type 0 where
  pub room : has_room c line ≡ true
  pub named : names ≡ distinct bytes_eq (programs_named c ++ programs_in_line line)
  pub counted : classes ≡ length (distinct same_class (classes_of c ++ classes_in_line line))

pub room_yes : (c : Certificate) (line : Line) (names k : List (List ℕ)) (m : ℕ) → names ≡ distinct bytes_eq (programs_named c)
    → Some k ≡ listed_with bytes_eq most_programs names (programs_in_line line)
    → Some m ≡ option_map length (listed_with same_class most_classes (distinct same_class (classes_of c)) (classes_in_line line))
    → HasRoom c line k m
room_yes c line names k m are names_listed classes_listed =
    let named = listed_all bytes_eq most_programs (programs_named c) (programs_in_line line) k
    (names_listed ∙ ap (λ list. listed_with bytes_eq most_programs list (programs_in_line line)) are) in
    let counted = map_some length _ m classes_listed in
    let classed = listed_all same_class most_classes (classes_of c) (classes_in_line line) counted.0 counted.1 in
    record {
      room = both_true (few_programs c line) (few_classes c line) named.0 classed.0;
      named = named.1;
      counted = counted.2 ∙ ap length classed.1;
    }

-- an option that holds something, and one that doesn't
pub is_there : {A : Type 0} (o : Option A) → is_some o ≡ true → (k : A) × (Some k ≡ o)
is_there (Some k) is = (k, refl)
is_there None is = absurd cc

pub not_there : {A : Type 0} (o : Option A) → is_some o ≡ false → None ≡ o
not_there None is = refl
not_there (Some k) is = absurd cc

pub room_no_program : (c : Certificate) (line : Line) (names : List (List ℕ)) → names ≡ distinct bytes_eq (programs_named c)
    → None ≡ listed_with bytes_eq most_programs names (programs_in_line line) → has_room c line ≡ false
room_no_program c line names are over =
    both_false_left (few_programs c line) (few_classes c line)
    (listed_over bytes_eq most_programs (programs_named c) (programs_in_line line)
    (over ∙ ap (λ list. listed_with bytes_eq most_programs list (programs_in_line line)) are))

pub room_no_class : (c : Certificate) (line : Line)
    → None ≡ option_map length (listed_with same_class most_classes (distinct same_class (classes_of c)) (classes_in_line line)) → has_room c line ≡ false
room_no_class c line over =
    both_false_right (few_programs c line) (few_classes c line)
    (listed_over same_class most_classes (classes_of c) (classes_in_line line) (map_none length _ over))

pub and_right : (a b : Bool) → (a && b) ≡ true → b ≡ true
and_right true b both = both
and_right false b both = absurd cc

pub and_left : (a b : Bool) → (a && b) ≡ true → a ≡ true
and_left true b both = refl
and_left false b both = absurd cc

pub le_true : (m n : ℕ) → nat_le m n ≡ true → m ≤ n
le_true m n is = grind (arith, nat_tests, is)
