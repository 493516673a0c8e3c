-- A first world has what its task gives.
use Rattle.std.proofs.Common.{◌≡◌, ℕ, zero, suc, ◌<◌, true, List, [], ◌∷◌, refl, arith, length, map, sym, ◌∙◌, ap}
use Rattle.std.specs.Prelude.{◌↔◌, Option, Some, None, option_map}
use Rattle.std.specs.List.{slice_get}
use Rattle.file_tree.specs.Nodes.{Node}
use Rattle.fd_table.specs.Descriptions.{Descriptor}
use Rattle.task.specs.Plans.{FirstObject, On_node, On_end, FirstDescriptor, Start, NamedProgram}
use Rattle.task.specs.Limits.{is_object}
use Rattle.task.specs.Begins.{given_to, given_by, description_of, first_entry, first_entries, first_files, first_process, first_world}
use Rattle.task.specs.Laws.{IsFirstProcess, IsFirstEntry, IsShared, FirstWorldsAreFirst}
use Rattle.task.proofs.Openings.{IsAt, a_side, given_at, object_is}
use Rattle.task.proofs.FirstWorlds.{checked}

first_processes : (programs : List NamedProgram) (starts : List Start) (p : ℕ) → IsFirstProcess programs (slice_get starts p) (slice_get (map (first_process programs) starts) p)
first_processes programs [] p = tt
first_processes programs (s ∷ starts) zero = refl
first_processes programs (s ∷ starts) (suc p) = first_processes programs starts p

-- ## Which descriptions are shared
same_number : (tree : List Node) (p n : ℕ) (x : FirstObject) (q m : ℕ) (y : FirstObject) → n < 16 → m < 16 → is_object tree x ≡ true →
    is_object tree y ≡ true → description_of p n x ≡ description_of q m y → IsShared p n x q m y
same_number tree p n (On_node node access) q m (On_node other its) few small test also same = (omega (arith, same), omega (arith, same))
same_number tree p n (On_node node access) q m (On_end pair side) few small test also same =
    let below = a_side tree pair side also in
    let a : pair < 32 = below.0 in
    let b : side < 2 = below.1 in
    absurd (omega (arith, same))
same_number tree p n (On_end pair side) q m (On_node node access) few small test also same =
    let below = a_side tree pair side test in
    let a : pair < 32 = below.0 in
    let b : side < 2 = below.1 in
    absurd (omega (arith, same))
same_number tree p n (On_end pair side) q m (On_end other its) few small test also same =
    let b : side < 2 = (a_side tree pair side test).1 in
    let c : its < 2 = (a_side tree other its also).1 in
    (omega (arith, same), omega (arith, same))

back : (p n : ℕ) (x : FirstObject) (q m : ℕ) (y : FirstObject) → IsShared p n x q m y → description_of p n x ≡ description_of q m y
back p n (On_node node access) q m (On_node other its) is = let one : p ≡ q = is.0 in let two : n ≡ m = is.1 in omega arith
back p n (On_node node access) q m (On_end pair side) is = absurd is
back p n (On_end pair side) q m (On_node node access) is = absurd is
back p n (On_end pair side) q m (On_end other its) is = let one : pair ≡ other = is.0 in let two : side ≡ its = is.1 in omega arith

-- the entry of what is given
number_of : (starts : List Start) (p n : ℕ) (given : FirstDescriptor) (d : Descriptor) → given_to (slice_get starts p) n ≡ Some given →
    first_entries (given_by starts) p n ≡ Some d → d.description ≡ description_of p given.number given.object
number_of starts p n given d is entry =
    let both : Some (first_entry p given) ≡ Some d = sym (ap (option_map (first_entry p)) is) ∙ entry in
    let same : first_entry p given ≡ d = cc in
    ap (λ (x : Descriptor). x.description) (sym same)

pub first_is_first : FirstWorldsAreFirst
unfolding first_world first_files
first_is_first plan good =
    let facts = checked plan good in
    record {
      tree = refl;
      processes = first_processes plan.programs plan.starts;
      entries = λ p n. entry p n (given_to (slice_get plan.starts p) n) refl;
      shared = λ p n q m given other d e one two at_d at_e.
          let left : IsAt plan.nodes plan.starts p n given = given_at plan.nodes (length plan.programs) plan.starts p n given facts.starts one in
          let right : IsAt plan.nodes plan.starts q m other = given_at plan.nodes (length plan.programs) plan.starts q m other facts.starts two in
          shares p n q m given other d e left right (number_of plan.starts p n given d one at_d) (number_of plan.starts q m other e two at_e);
      queues = λ pair side. refl;
    }
  where
    entry : (p n : ℕ) (given : Option FirstDescriptor) → given_to (slice_get plan.starts p) n ≡ given → IsFirstEntry (first_files (given_by plan.starts)) given (option_map (first_entry p) given)
    entry p n None is = tt
    entry p n (Some d) is =
        let at = given_at plan.nodes (length plan.programs) plan.starts p n d (checked plan good).starts is in
        let own : given_to (slice_get plan.starts p) d.number ≡ Some d = ap (given_to (slice_get plan.starts p)) at.number ∙ is in
        record {
          rights = refl;
          fcntls = refl;
          object = object_is plan.nodes plan.starts p d.number d (record { process = at.process; number = refl; tested = at.tested }) own;
          state = refl;
        }

    shares : (p n q m : ℕ) (given other : FirstDescriptor) (d e : Descriptor) → IsAt plan.nodes plan.starts p n given →
        IsAt plan.nodes plan.starts q m other → d.description ≡ description_of p given.number given.object →
        e.description ≡ description_of q other.number other.object → (d.description ≡ e.description) ↔ IsShared p n given.object q m other.object
    shares p n q m given other d e left right one two =
        let few : given.number < 16 = left.tested.number in
        let small : other.number < 16 = right.tested.number in
        let at_n : given.number ≡ n = left.number in
        let at_m : other.number ≡ m = right.number in
        let here : d.description ≡ description_of p n given.object = one ∙ ap (λ k. description_of p k given.object) at_n in
        let there : e.description ≡ description_of q m other.object = two ∙ ap (λ k. description_of q k other.object) at_m in
        let less : n < 16 = omega arith in
        let low : m < 16 = omega arith in (
          (λ same. same_number plan.nodes p n given.object q m other.object less low left.tested.object right.tested.object (sym here ∙ same ∙ there)),
          (λ is. here ∙ back p n given.object q m other.object is ∙ sym there),
        )
