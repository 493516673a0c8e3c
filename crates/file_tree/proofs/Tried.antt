-- A change that is made where it is allowed, and else leaves the list, keeps it a tree.
use Rattle.std.proofs.Common.{◌≡◌, ℕ, ◌<◌, List, [], ◌∷◌, Bool, true, Option, None, Result, Ok, Err, get_or, Fits, w8, suc, refl}
use Rattle.std.specs.Prelude.{OnOk, OnErr, IfOk}
use Rattle.std.specs.List.{list_all}
use Rattle.std.specs.Cmp.Derive.{both_true}
use Rattle.std.proofs.lemmas.Bool.{lt-ltb}
use Rattle.file_tree.specs.Nodes.{Node}
use Rattle.file_tree.specs.Refusals.{ChangeFault}
use Rattle.file_tree.specs.WellFormed.{IsTree, is_byte}
use Rattle.file_tree.specs.Views.{is_new, new_kind, new_content}
use Rattle.file_tree.specs.declared.nodes.New.{New}
use Rattle.file_tree.specs.declared.nodes.New.TheVariants as new
use Rattle.file_tree.specs.WellFormed.{is_content}

pub kept_by : {A E : Type 0} (t u v : List Node) (fault : Option ChangeFault) (r : Result A E) → IsTree t → OnOk r (u ≡ v) → OnOk r (fault ≡ None) →
    OnErr r (u ≡ t) → (fault ≡ None → IsTree v) → IsTree u
kept_by t u v fault (Ok x) tree ok allowed err kept = rw ok (kept allowed)
kept_by t u v fault (Err e) tree ok allowed err kept = rw err tree

-- the same, of a new node's content too
pub kept_by_create : {E : Type 0} (t u v : List Node) (number : ℕ) (fault : Option ChangeFault) (bytes : Bool) (r : Result ℕ E) → IsTree t →
    IfOk r (λ n. (n ≡ number) × (u ≡ v)) → OnOk r (fault ≡ None) → OnOk r (bytes ≡ true) → OnErr r (u ≡ t) →
    (fault ≡ None → bytes ≡ true → IsTree v) → IsTree u
kept_by_create t u v number fault bytes (Ok x) tree ok allowed small err kept = rw ok.1 (kept allowed small)
kept_by_create t u v number fault bytes (Err e) tree ok allowed small err kept = rw err tree

-- what may be made has the content of its kind
pub new_fits : (what : New) → is_new what ≡ true → is_content (new_kind what) (new_content what) ≡ true
new_fits new.File h = refl
new_fits new.Dir h = refl
new_fits (new.Link target) h = h

-- numbers of a byte's type are bytes
pub bytes_fit : (xs : List ℕ) → ((i : ℕ) → Fits w8 (get_or xs i 0)) → list_all is_byte xs ≡ true
bytes_fit [] h = refl
bytes_fit (x ∷ xs) h = let first : x < 256 = (h 0).fits in both_true (lt-ltb x 256 first) (bytes_fit xs (λ i. h (suc i)))
