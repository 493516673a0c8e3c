-- The items of a list are read one by one.
use Rattle.std.proofs.Common.{◌≡◌, ℕ, ◌+◌, ◌<◌, List, [], ◌∷◌, ◌++◌, length, get_or, drop, Option, Some, None, option_map, Ok, refl, ap, sym, append_assoc}
use Rattle.toml.specs.Data.{Data}
use Rattle.toml.specs.View.{view, items_view}
use Rattle.toml.specs.declared.value.Value.{Value}
use Rattle.toml.proofs.Views.{items_view-drop}
use Rattle.task_reader.specs.Documents.{each_item}
use Rattle.task_reader.specs.Reading.{Mistake, or_mistake}

pub some_from : {X : Type 0} (m : Mistake) (x : Option X) (y : X) → or_mistake m x ≡ Ok y → x ≡ Some y
some_from m None y is = absurd cc
some_from m (Some x) y is = cc

pub behind : {A : Type 0} (so_far : List A) (x : A) (rest : Option (List A)) →
    option_map (λ rest. so_far ++ rest) (option_map (λ rest. x ∷ rest) rest) ≡ option_map (λ rest. (so_far ++ x ∷ []) ++ rest) rest
behind so_far x None = refl
behind so_far x (Some rest) = ap Some (sym (append_assoc so_far (x ∷ []) rest))

pub each-read :
    {A : Type 0} (read : Data → Option A) (vs : List Value) (i : ℕ) (d : Value) (so_far : List A) (x : A) → i < length vs
    → read (view (get_or vs i d)) ≡ Some x
    → option_map (λ rest. so_far ++ rest) (each_item read (items_view (drop i vs)))
    ≡ option_map (λ rest. (so_far ++ x ∷ []) ++ rest) (each_item read (items_view (drop (i + 1) vs)))
each-read read vs i d so_far x within is =
    rw (items_view-drop vs i d within, is) (behind so_far x (each_item read (items_view (drop (i + 1) vs))))

pub each-refused :
    {A : Type 0} (read : Data → Option A) (vs : List Value) (i : ℕ) (d : Value) → i < length vs
    → read (view (get_or vs i d)) ≡ None → each_item read (items_view (drop i vs)) ≡ None
each-refused read vs i d within is = rw (items_view-drop vs i d within, is) refl
