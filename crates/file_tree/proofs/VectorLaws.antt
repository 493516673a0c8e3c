-- What a vector says of its list.
use Rattle.std.proofs.Common.{◌≡◌, ℕ, ◌<◌, ◌-◌, Vec, Global, Result, Ok, Err, replicate, ◌++◌, length, take, arith}
use Rattle.std.specs.Prelude.{vec_len, OnErr}
use Rattle.file_tree.specs.Changes.{resized}

-- a number below a vector's length is one of its list
pub in_items : {X A : Type 0} (v : Vec X A) (n : ℕ) → n < vec_len v → n < length v.items
in_items v n h = let same : vec_len v ≡ length v.items = v.ok.0 in omega arith

-- what holds anyway holds on an error
pub on_err : {T E P : Type 0} (r : Result T E) → P → OnErr r P
on_err (Ok x) p = tt
on_err (Err e) p = p

-- a vector's resizing is that of its list
pub resized_items : (v w : Vec ℕ Global) (len : ℕ) → w.items ≡ take len v.items ++ replicate (len - vec_len v) 0 → w.items ≡ resized v.items len
resized_items v w len h = let same : vec_len v ≡ length v.items = v.ok.0 in rw same at h
