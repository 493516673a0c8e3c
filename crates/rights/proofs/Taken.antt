-- What a writer has taken, over several writes.
use Rattle.std.proofs.Common.{◌≡◌, ℕ, ◌+◌, ◌-◌, List, ◌++◌, length, take, drop, sym, ap, ◌∙◌, subst, append_assoc}
use Rattle.std.specs.Prelude.{Option, Some, None}
use Rattle.std.proofs.lemmas.List.{take-append-drop, take_rest}
use Rattle.std.proofs.Math.Seq.{take-add}
use Rattle.rights.specs.Output.{Took, TookFront}

-- one write after another
pub took_more : (a b c : Option (List ℕ)) (xs ys : List ℕ) → Took a b xs → Took b c ys → Took a c (xs ++ ys)
took_more None None c xs ys first then = then
took_more None (Some t) c xs ys first then = absurd cc
took_more (Some s) b c xs ys first then = next b first then
  where
    next : (b : Option (List ℕ)) → b ≡ Some (s ++ xs) → Took b c ys → c ≡ Some (s ++ (xs ++ ys))
    next None none then = absurd cc
    next (Some t) some then =
        let same : t ≡ s ++ xs = cc in
        then ∙ ap (λ t. Some (t ++ ys)) same ∙ ap Some (append_assoc s xs ys)

-- so far, and then some of the rest
pub took_next : (a b c : Option (List ℕ)) (at count : ℕ) (bytes : List ℕ) → Took a b (take at bytes) →
    Took b c (take count (take (length bytes - at) (drop at bytes))) → Took a c (take (at + count) bytes)
took_next a b c at count bytes first then =
    let whole : take at bytes ++ take count (drop at bytes) ≡ take (at + count) bytes = sym (take-add at count bytes) in
    let some : Took b c (take count (drop at bytes)) = subst (λ rest. Took b c (take count rest)) (take_rest bytes at) then in
    subst (Took a c) whole (took_more a b c _ _ first some)

-- what was taken so far is a beginning
pub took_front : (a b : Option (List ℕ)) (at : ℕ) (bytes : List ℕ) → Took a b (take at bytes) → TookFront a b bytes
took_front a b at bytes took = record {
  front = take at bytes;
  rest = drop at bytes;
  whole = take-append-drop at bytes;
  took = took;
}

-- after some bytes, a beginning of the others
pub front_after : (a b c : Option (List ℕ)) (xs ys : List ℕ) → Took a b xs → TookFront b c ys → TookFront a c (xs ++ ys)
front_after a b c xs ys first then = record {
  front = xs ++ then.front;
  rest = then.rest;
  whole = append_assoc xs then.front then.rest ∙ ap (λ zs. xs ++ zs) then.whole;
  took = took_more a b c xs then.front first then.took;
}

-- a beginning of a beginning
pub front_of_more : (a b : Option (List ℕ)) (xs ys : List ℕ) → TookFront a b xs → TookFront a b (xs ++ ys)
front_of_more a b xs ys some = record {
  front = some.front;
  rest = some.rest ++ ys;
  whole = sym (append_assoc some.front some.rest ys) ∙ ap (λ zs. zs ++ ys) some.whole;
  took = some.took;
}
