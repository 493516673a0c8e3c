-- What is ensured where a call succeeds, or where it doesn't, and what follows of it.
use Rattle.std.specs.Prelude.{OnErr, OnOk, Result, Ok, Err}

pub on_ok : {A E : Type 0} (r : Result A E) (P Q : Type 0) → (P → Q) → OnOk r P → OnOk r Q
on_ok (Ok a) P Q step p = step p
on_ok (Err e) P Q step p = tt

pub on_err : {A E : Type 0} (r : Result A E) (P Q : Type 0) → (P → Q) → OnErr r P → OnErr r Q
on_err (Ok a) P Q step p = tt
on_err (Err e) P Q step p = step p
