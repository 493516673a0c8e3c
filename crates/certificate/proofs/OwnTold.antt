-- What a certificate says is as its version tells it, since it is made line by line of lines of its version.
use Rattle.std.proofs.Common.{◌≡◌, ◌++◌, ℕ, Bool, true, List, [], ◌∷◌, zero, suc, refl, ◌∙◌, subst}
use Rattle.std.specs.Prelude.{slice_set}
use Rattle.std.specs.Cmp.Derive.{both_true}
use Rattle.std.specs.List.{list_all}
use Rattle.std.proofs.lemmas.List.Folds.{list_all-append}
use Rattle.rights.proofs.Tests.{both_left, both_right}
use Rattle.certificate.specs.Bounds.{Bound, PointBound, ChannelBound, Ceiling, Authority, Certificate, has_authorities, with_interval, with_slot}
use Rattle.certificate.specs.Lines.{Line, Begins_block, Bounds_register, Bounds_slot, Bounds_channel, Begins_authority, Bounds_grant, Holds_end, is_of_version}
use Rattle.certificate.specs.Growth.{IsCertificate, begins, grows, on_last, open_authority, open_bound, with_ceiling, with_held_end, with_last, with_line}
use Rattle.certificate.specs.Told.{are_told_authorities, are_told_ceilings, are_told_channels, are_told_points, is_told, is_told_bound, is_told_ceiling, is_told_slot}
use Rattle.certificate.proofs.Growing.{taken-back}

pub record OwnTold (c : Certificate) : Type 0 where
  pub points : are_told_points c.version c.points ≡ true
  pub channels : are_told_channels c.version c.channels ≡ true
  pub authorities : are_told_authorities c.version c.authorities ≡ true

-- one more that is asked, and the last one changed
one_more : {A : Type 0} (test : A → Bool) (xs : List A) (x : A) → list_all test xs ≡ true → test x ≡ true → list_all test (xs ++ x ∷ []) ≡ true
one_more test xs x all here = list_all-append test xs (x ∷ []) ∙ both_true all (both_true here refl)

last_changed : {A : Type 0} (test : A → Bool) (f : A → A) → ((x : A) → test x ≡ true → test (f x) ≡ true) → (xs : List A) → list_all test xs ≡ true
    → list_all test (with_last f xs) ≡ true
unfolding with_last
last_changed test f law [] all = refl
last_changed test f law (x ∷ []) all = both_true (law x (both_left (test x) _ all)) refl
last_changed test f law (x ∷ y ∷ xs) all =
    both_true (both_left (test x) (list_all test (y ∷ xs)) all) (last_changed test f law (y ∷ xs) (both_right (test x) (list_all test (y ∷ xs)) all))

last_bound_changed : (test : Bound → Bool) (f : Bound → Bound) → ((b : Bound) → test b ≡ true → test (f b) ≡ true) → (points : List PointBound)
    → list_all (λ (p : PointBound). test p.bound) points ≡ true → list_all (λ (p : PointBound). test p.bound) (on_last f points) ≡ true
unfolding on_last
last_bound_changed test f law [] all = refl
last_bound_changed test f law (p ∷ []) all = both_true (law p.bound (both_left (test p.bound) _ all)) refl
last_bound_changed test f law (p ∷ q ∷ points) all =
    both_true (both_left (test p.bound) _ all) (last_bound_changed test f law (q ∷ points) (both_right (test p.bound) _ all))

one_set : {A : Type 0} (test : A → Bool) (xs : List A) (n : ℕ) (x : A) → list_all test xs ≡ true → test x ≡ true → list_all test (slice_set xs n x) ≡ true
one_set test [] n x all here = refl
one_set test (y ∷ xs) zero x all here = both_true here (both_right (test y) (list_all test xs) all)
one_set test (y ∷ xs) (suc n) x all here =
    both_true (both_left (test y) (list_all test xs) all) (one_set test xs n x (both_right (test y) (list_all test xs) all) here)

told_line : (c : Certificate) (line : Line) → is_of_version c.version line ≡ true → OwnTold c → OwnTold (with_line c line)
told_line c (Begins_block program point mode) own told =
    record {
      points = one_more (λ (p : PointBound). is_told_bound c.version p.bound) c.points (record { program = program; point = point; bound = open_bound mode }) told.points refl;
      channels = told.channels;
      authorities = told.authorities;
    }
told_line c (Bounds_register register interval) own told =
    record {
      points = last_bound_changed (is_told_bound c.version) (λ b. with_interval b register interval) (λ b is. is) c.points told.points;
      channels = told.channels;
      authorities = told.authorities;
    }
told_line c (Bounds_slot number slot) own told =
    record {
      points = last_bound_changed (is_told_bound c.version) (λ b. with_slot b number slot)
          (λ b is. one_set (is_told_slot c.version) b.slots number slot is own) c.points told.points;
      channels = told.channels;
      authorities = told.authorities;
    }
told_line c (Bounds_channel channel) own told =
    record {
      points = told.points;
      channels = one_more (λ (a : ChannelBound). is_told c.version a.sends) c.channels channel told.channels own;
      authorities = told.authorities;
    }
told_line c (Begins_authority program) own told =
    record {
      points = told.points;
      channels = told.channels;
      authorities = one_more (λ (a : Authority). are_told_ceilings c.version a.ceilings) c.authorities (open_authority program) told.authorities refl;
    }
told_line c (Bounds_grant ceiling) own told =
    let here = both_right (has_authorities c.version) (is_told_ceiling c.version ceiling.rights) own in
    record {
      points = told.points;
      channels = told.channels;
      authorities = last_changed (λ (a : Authority). are_told_ceilings c.version a.ceilings) (with_ceiling ceiling)
          (λ a is. one_more (λ (k : Ceiling). is_told_ceiling c.version k.rights) a.ceilings ceiling is here) c.authorities told.authorities;
    }
told_line c (Holds_end held) own told =
    record {
      points = told.points;
      channels = told.channels;
      authorities = last_changed (λ (a : Authority). are_told_ceilings c.version a.ceilings) (with_held_end held) (λ a is. is) c.authorities told.authorities;
    }

-- a certificate's points, channels and authorities are told
pub own_told : (c : Certificate) → IsCertificate c → OwnTold c
own_told _ (begins version) = record { points = refl; channels = refl; authorities = refl }
own_told _ (grows {c} {d} valid line proper own took) =
    subst OwnTold (taken-back c line d took).made (told_line c line own (own_told c valid))
