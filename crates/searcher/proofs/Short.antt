-- Certificates with bounds at named points alone: what is added at such points keeps them so.
use Rattle.std.proofs.Common.{◌≡◌, ◌&&◌, ◌++◌, ◌+◌, ℕ, Bool, true, false, List, [], ◌∷◌, map, refl, ap, sym, subst, ◌∙◌}
use Rattle.std.specs.Prelude.{OnOk, Some, Result, Ok, Err, if◌then◌else◌}
use Rattle.std.specs.List.{filter, list_all}
use Rattle.std.proofs.lemmas.List.Folds.{list_all-append}
use Rattle.certificate.specs.Bounds.{Interval, Slot, Bound, PointBound, ChannelBound, Certificate}
use Rattle.certificate.specs.Growth.{Refused, on_last, taken, with_line}
use Rattle.certificate.specs.Growths.{grown, grown_behind}
use Rattle.certificate.specs.GrowthViews.{Grows}
use Rattle.certificate.specs.Lines.{Line, Begins_block, Bounds_register, Bounds_slot, Bounds_channel, Begins_authority, Bounds_grant, Holds_end}
use Rattle.certificate.specs.Lines.{block_lines, is_closed, is_full, register_lines, slot_lines}
use Rattle.certificate.specs.declared.lines.Refusal.{Refusal}
use Rattle.certificate.proofs.Growing.{and_left, and_right, both_true, taken-back}
use Rattle.rules.specs.Expansions.{code_named, is_named}
use Rattle.task.specs.Plans.{Plan}
use Rattle.searcher.specs.Shortening.{IsShort, is_at_named, short_form}
use Rattle.searcher.specs.Versions.{flat_version}

-- a line that begins no block but a named one, and no authority
abbrev is_calm : Plan → Line → Bool
is_calm plan (Begins_block program point mode) = is_named (code_named plan.programs program) point
is_calm plan (Bounds_register register interval) = true
is_calm plan (Bounds_slot number slot) = true
is_calm plan (Bounds_channel channel) = true
is_calm plan (Begins_authority program) = false
is_calm plan (Bounds_grant ceiling) = false
is_calm plan (Holds_end held) = false

-- The last bound changed is at the point where it was.
named_last : (plan : Plan) (f : Bound → Bound) (points : List PointBound) → list_all (is_at_named plan) (on_last f points) ≡ list_all (is_at_named plan) points
unfolding on_last
named_last plan f [] = refl
named_last plan f (b ∷ []) = refl
named_last plan f (b ∷ c ∷ points) = ap (λ rest. is_at_named plan b && rest) (named_last plan f (c ∷ points))

named_more : (plan : Plan) (points : List PointBound) (b : PointBound) → list_all (is_at_named plan) points ≡ true → is_at_named plan b ≡ true
    → list_all (is_at_named plan) (points ++ b ∷ []) ≡ true
named_more plan points b all own =
    list_all-append (is_at_named plan) points (b ∷ []) ∙ both_true (list_all (is_at_named plan) points) (list_all (is_at_named plan) (b ∷ [])) all (both_true (is_at_named plan b) true own refl)

short_line : (plan : Plan) (line : Line) (c : Certificate) → is_calm plan line ≡ true → IsShort plan c → IsShort plan (with_line c line)
short_line plan (Begins_block program point mode) c calm short =
    record { version = short.version; named = named_more plan c.points _ short.named calm; none = short.none }
short_line plan (Bounds_register register interval) c calm short =
    record { version = short.version; named = named_last plan _ c.points ∙ short.named; none = short.none }
short_line plan (Bounds_slot number slot) c calm short =
    record { version = short.version; named = named_last plan _ c.points ∙ short.named; none = short.none }
short_line plan (Bounds_channel channel) c calm short = record { version = short.version; named = short.named; none = short.none }
short_line plan (Begins_authority program) c calm short = absurd cc
short_line plan (Bounds_grant ceiling) c calm short = absurd cc
short_line plan (Holds_end held) c calm short = absurd cc

-- Calm lines keep a certificate short.
short_grown : (plan : Plan) (lines : List Line) (c d : Certificate) → list_all (is_calm plan) lines ≡ true → grown lines c ≡ Some d → IsShort plan c → IsShort plan d
unfolding grown
short_grown plan [] c d calm is short =
    let same : c ≡ d = cc in
    subst (IsShort plan) same short
short_grown plan (line ∷ lines) c d calm is short =
    behind (λ e. short_grown plan lines e d (and_right (is_calm plan line) (list_all (is_calm plan) lines) calm)) (taken c line) refl is
  where
    behind : ((e : Certificate) → grown lines e ≡ Some d → IsShort plan e → IsShort plan d) → (r : Result Certificate Refused) → taken c line ≡ r
        → grown_behind (grown lines) r ≡ Some d → IsShort plan d
    behind rest (Ok e) took is =
        rest e is (subst (IsShort plan) (taken-back c line e took).made (short_line plan line c (and_left (is_calm plan line) (list_all (is_calm plan) lines) calm) short))
    behind rest (Err refused) took is = absurd cc

-- The lines of a named block are calm,
calm_registers : (plan : Plan) (n : ℕ) (intervals : List Interval) → list_all (is_calm plan) (register_lines n intervals) ≡ true
unfolding register_lines
calm_registers plan n [] = refl
calm_registers plan n (i ∷ intervals) = go (is_full i) (register_lines (n + 1) intervals) (calm_registers plan (n + 1) intervals)
  where
    go : (full : Bool) (rest : List Line) → list_all (is_calm plan) rest ≡ true → list_all (is_calm plan) (if full then rest else Bounds_register n i ∷ rest) ≡ true
    go true rest all = all
    go false rest all = all

calm_slots : (plan : Plan) (n : ℕ) (slots : List Slot) → list_all (is_calm plan) (slot_lines n slots) ≡ true
unfolding slot_lines
calm_slots plan n [] = refl
calm_slots plan n (s ∷ slots) = go (is_closed s) (slot_lines (n + 1) slots) (calm_slots plan (n + 1) slots)
  where
    go : (closed : Bool) (rest : List Line) → list_all (is_calm plan) rest ≡ true → list_all (is_calm plan) (if closed then rest else Bounds_slot n s ∷ rest) ≡ true
    go true rest all = all
    go false rest all = all

calm_block : (plan : Plan) (b : PointBound) → is_at_named plan b ≡ true → list_all (is_calm plan) (block_lines b) ≡ true
calm_block plan b own =
    both_true (is_at_named plan b) (list_all (is_calm plan) (register_lines 0 b.bound.registers ++ slot_lines 0 b.bound.slots)) own
    (list_all-append (is_calm plan) (register_lines 0 b.bound.registers) (slot_lines 0 b.bound.slots)
    ∙ both_true (list_all (is_calm plan) (register_lines 0 b.bound.registers)) (list_all (is_calm plan) (slot_lines 0 b.bound.slots))
    (calm_registers plan 0 b.bound.registers) (calm_slots plan 0 b.bound.slots))

-- and so are those of channels.
calm_channels : (plan : Plan) (channels : List ChannelBound) → list_all (is_calm plan) (map Bounds_channel channels) ≡ true
calm_channels plan [] = refl
calm_channels plan (channel ∷ channels) = calm_channels plan channels

grows_short : (plan : Plan) (lines : List Line) (c d : Certificate) (r : Result (Unit {0}) Refusal) → list_all (is_calm plan) lines ≡ true → Grows r d (grown lines c)
    → OnOk r (IsShort plan c → IsShort plan d)
grows_short plan lines c d (Ok _) calm grows = short_grown plan lines c d calm grows
grows_short plan lines c d (Err refusal) calm grows = tt

pub block_keeps_short : (plan : Plan) (b : PointBound) (c d : Certificate) (r : Result (Unit {0}) Refusal) → is_at_named plan b ≡ true → Grows r d (grown (block_lines b) c)
    → OnOk r (IsShort plan c → IsShort plan d)
block_keeps_short plan b c d r own grows = grows_short plan (block_lines b) c d r (calm_block plan b own) grows

pub channels_keep_short : (plan : Plan) (channels : List ChannelBound) (c d : Certificate) (r : Result (Unit {0}) Refusal) → Grows r d (grown (map Bounds_channel channels) c)
    → OnOk r (IsShort plan c → IsShort plan d)
channels_keep_short plan channels c d r grows = grows_short plan (map Bounds_channel channels) c d r (calm_channels plan channels) grows

pub then_short : {A E : Type 0} (plan : Plan) (c d e : Certificate) (r : Result A E) → (IsShort plan c → IsShort plan d) → OnOk r (IsShort plan d → IsShort plan e)
    → OnOk r (IsShort plan c → IsShort plan e)
then_short plan c d e (Ok x) first next = λ short. next (first short)
then_short plan c d e (Err x) first next = tt

-- A short certificate is its own short form.
kept_all : {A : Type 0} (keep : A → Bool) (xs : List A) → list_all keep xs ≡ true → filter keep xs ≡ xs
kept_all keep [] all = refl
kept_all keep (x ∷ xs) all = go (keep x) (and_left (keep x) (list_all keep xs) all) (kept_all keep xs (and_right (keep x) (list_all keep xs) all))
  where
    go : (b : Bool) → b ≡ true → filter keep xs ≡ xs → (if b then x ∷ filter keep xs else filter keep xs) ≡ x ∷ xs
    go true is rest = ap (λ list. x ∷ list) rest
    go false is rest = absurd cc

pub short_itself : (plan : Plan) (c : Certificate) → IsShort plan c → c ≡ short_form plan c
unfolding short_form
short_itself plan c short =
    ap (λ v. record c { version = v }) short.version
    ∙ ap (λ points. record { version = flat_version plan; points = points; channels = c.channels; authorities = c.authorities }) (sym (kept_all (is_at_named plan) c.points short.named))
    ∙ ap (λ authorities. record { version = flat_version plan; points = filter (is_at_named plan) c.points; channels = c.channels; authorities = authorities }) short.none
