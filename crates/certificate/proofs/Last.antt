-- What is asked of the last one of a list, and how it is changed.
use Rattle.std.proofs.Common.{◌≡◌, ◌<◌, ◌≤◌, ◌+◌, ◌-◌, ◌&&◌, ◌++◌, ◌∷◌, [], ℕ, zero, suc, Bool, true, false, List, length, map, refl, ap, sym, ◌∙◌, get_or, set, subst, add-one, arith}
use Rattle.std.specs.Ordering.{is_lt}
use Rattle.std.proofs.lemmas.List.{get_or-map, length-map, map-append, map-set, nil_from_length}
use Rattle.certificate.specs.declared.points.Point.{Point}
use Rattle.certificate.specs.Bounds.{Bound, PointBound, ChannelBound}
use Rattle.certificate.specs.Lines.{is_closed, is_full}
use Rattle.certificate.specs.Growth.{above_blocks, above_channels, all_from, channel_order, may_bound_register, may_bound_slot, on_last, point_order}
use Rattle.certificate.specs.Views.{point_of, points_of}

-- a function of the last one of a list, where the list is seen by a view
pub at_last : {A B C : Type 0} (view : A → B) (of : List B → C) (last : B → C) → ((rest : List B) (x : B) → of (rest ++ x ∷ []) ≡ last x)
    → (xs rest : List A) (x : A) → xs ≡ rest ++ x ∷ [] → of (map view xs) ≡ last (view x)
at_last view of last law xs rest x is =
    ap (λ list. of (map view list)) is ∙ ap of (map-append view rest (x ∷ [])) ∙ law (map view rest) (view x)

pub at_none : {A B C : Type 0} (view : A → B) (of : List B → C) (xs : List A) → length xs ≡ 0 → of (map view xs) ≡ of []
at_none view of xs none = ap (λ list. of (map view list)) (nil_from_length xs none)

pub above_blocks-none : (program : List ℕ) (point : ℕ) → above_blocks [] program point ≡ true
unfolding above_blocks
above_blocks-none program point = refl

pub above_blocks-last : (program : List ℕ) (point : ℕ) (rest : List PointBound) (b : PointBound)
    → above_blocks (rest ++ b ∷ []) program point ≡ is_lt (point_order b.program b.point program point)
unfolding above_blocks
above_blocks-last program point [] b = refl
above_blocks-last program point (a ∷ []) b = refl
above_blocks-last program point (a ∷ c ∷ rest) b = above_blocks-last program point (c ∷ rest) b

pub above_channels-none : (channel : ChannelBound) → above_channels [] channel ≡ true
unfolding above_channels
above_channels-none channel = refl

pub above_channels-last : (channel : ChannelBound) (rest : List ChannelBound) (a : ChannelBound)
    → above_channels (rest ++ a ∷ []) channel ≡ is_lt (channel_order a channel)
unfolding above_channels
above_channels-last channel [] a = refl
above_channels-last channel (b ∷ []) a = refl
above_channels-last channel (b ∷ c ∷ rest) a = above_channels-last channel (c ∷ rest) a

-- all from one on: one step, and at the end
pub all_from-more : {A : Type 0} (test : A → Bool) (n : ℕ) (xs : List A) (d : A) → n < length xs
    → all_from test n xs ≡ (test (get_or xs n d) && all_from test (suc n) xs)
unfolding all_from
all_from-more test n [] d in_range = absurd (omega arith)
all_from-more test zero (x ∷ xs) d in_range = refl
all_from-more test (suc n) (x ∷ xs) d in_range = let here : n < length xs = omega arith in all_from-more test n xs d here

pub all_from-past : {A : Type 0} (test : A → Bool) (n : ℕ) (xs : List A) → length xs ≤ n → all_from test n xs ≡ true
unfolding all_from
all_from-past test n [] past = refl
all_from-past test zero (x ∷ xs) past = absurd (omega arith)
all_from-past test (suc n) (x ∷ xs) past = let there : length xs ≤ n = omega arith in all_from-past test n xs there

-- one step of a search for the first that fails, where the list is seen by a view
pub step_true : {A B : Type 0} (view : A → B) (test : B → Bool) (n : ℕ) (xs : List A) (x : A) → n < length xs → x ≡ get_or xs n x
    → test (view x) ≡ true → all_from test (n + 1) (map view xs) ≡ all_from test n (map view xs)
step_true view test n xs x in_range is passes =
    let seen : get_or (map view xs) n (view x) ≡ view x = get_or-map view xs n x (view x) in_range ∙ ap view (sym is) in
    let more = all_from-more test n (map view xs) (view x) (subst (λ k. n < k) (sym (length-map xs view)) in_range) in
    ap (λ k. all_from test k (map view xs)) (add-one n) ∙ sym (more ∙ ap (λ b. b && all_from test (suc n) (map view xs)) (ap test seen ∙ passes))

pub step_false : {A B : Type 0} (view : A → B) (test : B → Bool) (n : ℕ) (xs : List A) (x : A) → n < length xs → x ≡ get_or xs n x
    → test (view x) ≡ false → all_from test n (map view xs) ≡ false
step_false view test n xs x in_range is fails =
    let seen : get_or (map view xs) n (view x) ≡ view x = get_or-map view xs n x (view x) in_range ∙ ap view (sym is) in
    let more = all_from-more test n (map view xs) (view x) (subst (λ k. n < k) (sym (length-map xs view)) in_range) in
    more ∙ ap (λ b. b && all_from test (suc n) (map view xs)) (ap test seen ∙ fails)

pub steps_past : {A B : Type 0} (view : A → B) (test : B → Bool) (n : ℕ) (xs : List A) → length xs ≤ n → all_from test n (map view xs) ≡ true
steps_past view test n xs past = all_from-past test n (map view xs) (subst (λ k. k ≤ n) (sym (length-map xs view)) past)

pub may_bound_register-none : (n : ℕ) → may_bound_register [] n ≡ false
unfolding may_bound_register
may_bound_register-none n = refl

pub may_bound_register-last : (n : ℕ) (rest : List PointBound) (b : PointBound)
    → may_bound_register (rest ++ b ∷ []) n ≡ (all_from is_full n b.bound.registers && all_from is_closed 0 b.bound.slots)
unfolding may_bound_register
may_bound_register-last n [] b = refl
may_bound_register-last n (a ∷ []) b = refl
may_bound_register-last n (a ∷ c ∷ rest) b = may_bound_register-last n (c ∷ rest) b

pub may_bound_slot-none : (n : ℕ) → may_bound_slot [] n ≡ false
unfolding may_bound_slot
may_bound_slot-none n = refl

pub may_bound_slot-last : (n : ℕ) (rest : List PointBound) (b : PointBound)
    → may_bound_slot (rest ++ b ∷ []) n ≡ all_from is_closed n b.bound.slots
unfolding may_bound_slot
may_bound_slot-last n [] b = refl
may_bound_slot-last n (a ∷ []) b = refl
may_bound_slot-last n (a ∷ c ∷ rest) b = may_bound_slot-last n (c ∷ rest) b

-- the last one, changed
pub on_last-none : (f : Bound → Bound) → on_last f [] ≡ []
unfolding on_last
on_last-none f = refl

pub on_last-set : (f : Bound → Bound) (n : ℕ) (points : List PointBound) (d : PointBound) → length points ≡ suc n
    → on_last f points ≡ set points n (record (get_or points n d) { bound = f (get_or points n d).bound })
unfolding on_last
on_last-set f n [] d long = absurd (omega arith)
on_last-set f zero (b ∷ []) d long = refl
on_last-set f (suc n) (b ∷ []) d long = absurd (omega arith)
on_last-set f zero (b ∷ c ∷ points) d long = absurd (omega arith)
on_last-set f (suc n) (b ∷ c ∷ points) d long =
    let shorter : length (c ∷ points) ≡ suc n = omega arith in
    ap (λ rest. b ∷ rest) (on_last-set f n (c ∷ points) d shorter)

-- the last point of the code, with another bound
pub last_set : (f : Bound → Bound) (points : List Point) (d w : Point) → 0 < length points
    → point_of w ≡ record (point_of (get_or points (length points - 1) d)) { bound = f (point_of (get_or points (length points - 1) d)).bound }
    → points_of (set points (length points - 1) w) ≡ on_last f (points_of points)
last_set f points d w some is =
    let n = length points - 1 in
    let within : n < length points = omega arith in
    let long : length (points_of points) ≡ suc n = length-map points point_of ∙ omega arith in
    let seen : get_or (points_of points) n (point_of d) ≡ point_of (get_or points n d) = get_or-map point_of points n d (point_of d) within in
    map-set point_of points n w
    ∙ ap (set (points_of points) n) (is ∙ ap (λ (p : PointBound). record p { bound = f p.bound }) (sym seen))
    ∙ sym (on_last-set f n (points_of points) (point_of d) long)
