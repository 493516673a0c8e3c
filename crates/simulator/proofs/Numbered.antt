-- What is open under other numbers, where nothing is queued: a number is turned, a description is made, an entry is filled.
use Rattle.std.proofs.Common.{◌≡◌, ℕ, [], refl, ap, sym, subst, ◌∙◌}
use Rattle.std.specs.Prelude.{◌≢◌, Bool, Option, Some, None}
use Rattle.rights.specs.Maps.{put, put2}
use Rattle.rights.proofs.Changes.{put-cases, put2-cases, put-both, put-same, put-other}
use Rattle.fd_table.specs.Descriptions.{At_node, At_end, Descriptor, Object, new_state, IfHeld}
use Rattle.fd_table.specs.Openings.{described, with_entry, with_table}
use Rattle.fd_table.specs.OpenFiles.{Alike, IsOther, IsUnnamed, OpenFiles}
use Rattle.kernel.specs.Renamings.{DiffersInNumbers, EachNamed, Renaming, SameObject, SameFiles, renamed_descriptor, renamed_entry, renamed_messages, renamed_object}
use Rattle.kernel.proofs.Aimed.{aim-kept, aimed}
use Rattle.kernel.proofs.Determined.{alike_share, differs_twice}
use Rattle.kernel.proofs.Fresh.{held_map}
use Rattle.syscalls.specs.Views.{world_with}

-- ## Worlds of open files alone
pub then_alike : (w f g : OpenFiles) → DiffersInNumbers (world_with [] w []) (world_with [] f []) → Alike f g → DiffersInNumbers (world_with [] w []) (world_with [] g [])
then_alike w f g differs alike =
    differs_twice _ _ _ differs (alike_share (world_with [] f []) (world_with [] g []) (record { tree = refl; processes = refl; files = alike }))

pub differs : (r : Renaming) (w f : OpenFiles) → SameFiles r w f → DiffersInNumbers (world_with [] w []) (world_with [] f [])
differs r w f same = record { renaming = r; tree = refl; processes = refl; files = same }

-- descriptions are the same whatever the tables
pub twin_of : (r : Renaming) (w f : OpenFiles) (t u : ℕ → ℕ → Option Descriptor) (n : ℕ) → SameObject r w f n → SameObject r (with_table w t) (with_table f u) n
twin_of r w f t u n twin = record { object = twin.object; state = twin.state }

twins_of : (r : Renaming) (w f : OpenFiles) (t u : ℕ → ℕ → Option Descriptor) (e : Option Descriptor) →
    IfHeld (λ d. SameObject r w f d.description) e → IfHeld (λ d. SameObject r (with_table w t) (with_table f u) d.description) e
twins_of r w f t u e = held_map (λ d. SameObject r w f d.description) (λ d. SameObject r (with_table w t) (with_table f u) d.description) (λ d. twin_of r w f t u d.description) e

-- a table that says the same at each number
pub retabled : (r : Renaming) (w f : OpenFiles) (table : ℕ → ℕ → Option Descriptor) → ((p n : ℕ) → table p n ≡ w.table p n) →
    ((pair side : ℕ) → w.queue pair side ≡ []) → SameFiles r w f → SameFiles r (with_table w table) f
retabled r w f table is empty same = record {
  table = λ p n. same.table p n ∙ ap (renamed_entry r) (sym (is p n));
  queue = same.queue;
  entries = λ p n. subst (IfHeld (λ d. SameObject r (with_table w table) f d.description)) (sym (is p n)) (twins_of r w f table f.table (w.table p n) (same.entries p n));
  messages = λ pair side. subst (EachNamed (SameObject r (with_table w table) f)) (sym (empty pair side)) tt;
}

-- an entry that is filled twice has what it got last
pub put-twice : {A : Type 0} (t : ℕ → ℕ → A) (p n : ℕ) (x y : A) → t p n ≡ y → (q m : ℕ) → t q m ≡ put2 (put2 t p n x) p n y q m
put-twice t p n x y is q m =
    put-cases (λ (row : ℕ → _). t q m ≡ row m) (put2 t p n x) p (put (put2 t p n x p) n y) q
    (λ same.
    put-cases (λ e. t q m ≡ e) (put2 t p n x p) n y m (λ number. ap (λ a. t a m) same ∙ ap (t p) number ∙ is)
    (λ other. ap (λ a. t a m) same ∙ sym (put-other (t p) n x m other) ∙ sym (ap (λ (row : ℕ → _). row m) (put-same t p (put (t p) n x)))))
    (λ other. sym (ap (λ (row : ℕ → _). row m) (put-other t p (put (t p) n x) q other)))

module _ (r : Renaming) (w f : OpenFiles) (same : SameFiles r w f) (empty : (pair side : ℕ) → w.queue pair side ≡ []) where
  no_messages : (P : ℕ → Type 0) (pair side : ℕ) → EachNamed P (w.queue pair side)
  no_messages P pair side = subst (EachNamed P) (sym (empty pair side)) tt

  -- ## A number is turned to one that nobody names
  module _ (n k : ℕ) (unnamed : (p m : ℕ) → IfHeld (λ d. d.description ≢ n) (w.table p m)) (fresh : IsUnnamed f k) where
    abbrev turned : Renaming
    turned = aimed r n k

    record IsKept (d : Descriptor) : Type 0 where
      twin : SameObject r w f d.description
      here : d.description ≢ n
      there : r.description d.description ≢ k

    number : (d : Descriptor) → IsKept d → turned.description d.description ≡ r.description d.description
    number d is = aim-kept r n k d.description is.here is.there

    kept_one : (e : Option Descriptor) → IfHeld (λ d. SameObject r w f d.description) e → IfHeld (λ d. d.description ≢ n) e → IsOther k (renamed_entry r e) → IfHeld IsKept e
    kept_one None twin here there = tt
    kept_one (Some d) twin here there = record { twin = twin; here = here; there = there }

    kept : (p m : ℕ) → IfHeld IsKept (w.table p m)
    kept p m = kept_one (w.table p m) (same.entries p m) (unnamed p m) (subst (IsOther k) (same.table p m) (fresh.entries p m))

    entry_again : (e : Option Descriptor) → IfHeld IsKept e → renamed_entry r e ≡ renamed_entry turned e
    entry_again None is = refl
    entry_again (Some d) is = ap (λ x. Some (record d { description = x })) (sym (number d is))

    object_again : (x : Object) → renamed_object r x ≡ renamed_object turned x
    object_again (At_node node access) = refl
    object_again (At_end pair side class) = refl

    twin_again : (d : Descriptor) → IsKept d → SameObject turned w f d.description
    twin_again d is = record {
      object = ap f.objects (number d is) ∙ is.twin.object ∙ object_again (w.objects d.description);
      state = ap f.states (number d is) ∙ is.twin.state;
    }

    pub turned_same : SameFiles turned w f
    turned_same = record {
      table = λ q j. same.table q j ∙ entry_again (w.table q j) (kept q j);
      queue = λ pair side. same.queue pair side ∙ ap (renamed_messages r) (empty pair side) ∙ sym (ap (renamed_messages turned) (empty pair side));
      entries = λ q j. held_map IsKept (λ d. SameObject turned w f d.description) twin_again (w.table q j) (kept q j);
      messages = no_messages _;
    }

  -- ## A description is made at a number that nobody names
  module _ (k : ℕ) (fresh : IsUnnamed f k) (object : Object) (append : Bool) where
    still : (e : Option Descriptor) → IsOther k (renamed_entry r e) → IfHeld (λ d. SameObject r w f d.description) e → IfHeld (λ d. SameObject r w (described f k object append) d.description) e
    still None other is = tt
    still (Some d) other is = record {
      object = put-other f.objects k object (r.description d.description) other ∙ is.object;
      state = put-other f.states k (new_state append) (r.description d.description) other ∙ is.state;
    }

    pub described_same : SameFiles r w (described f k object append)
    described_same = record {
      table = same.table;
      queue = same.queue;
      entries = λ p m. still (w.table p m) (subst (IsOther k) (same.table p m) (fresh.entries p m)) (same.entries p m);
      messages = no_messages _;
    }

  -- ## An entry is filled
  module _ (p n : ℕ) (d : Descriptor) (twin : SameObject r w f d.description) where
    pub filled_same : SameFiles r (with_entry w p n (Some d)) (with_entry f p n (Some (renamed_descriptor r d)))
    filled_same = record {
      table = λ q j.
          put-both (λ (c e : ℕ → Option Descriptor). e j ≡ renamed_entry r (c j)) w.table f.table p (put (w.table p) n (Some d)) (put (f.table p) n (Some (renamed_descriptor r d)))
          (put-both (λ c e. e ≡ renamed_entry r c) (w.table p) (f.table p) n (Some d) (Some (renamed_descriptor r d)) refl (same.table p) j)
          (λ x. same.table x j) q;
      queue = same.queue;
      entries = λ q j.
          twins_of r w f (put2 w.table p n (Some d)) (put2 f.table p n (Some (renamed_descriptor r d))) (put2 w.table p n (Some d) q j)
          (put2-cases (IfHeld (λ e. SameObject r w f e.description)) w.table p n (Some d) q j twin (same.entries q j));
      messages = no_messages _;
    }
