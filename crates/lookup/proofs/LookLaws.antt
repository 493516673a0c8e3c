-- What a path leads to is what the function gives, and nothing else.
use Rattle.std.proofs.Common.{◌≡◌, ℕ, List, [], Option, Some, None, refl, arith}
use Rattle.std.specs.Prelude.{MatchOption}
use Rattle.file_tree.specs.Places.{path_components}
use Rattle.file_tree.specs.Nodes.{Node}
use Rattle.lookup.specs.Answers.{Way, Last, LookupFault, Finding, Not_found}
use Rattle.rights.specs.Limits.{most_links}
use Rattle.lookup.specs.Leads.{Leads}
use Rattle.lookup.specs.Steps.{looked}
use Rattle.lookup.specs.ByPlaces.{by_places}
use Rattle.lookup.specs.Looks.{start_place, lookup_fault, unless_lost, first_stand, Looks, find_of}
use Rattle.lookup.proofs.StepLaws.{leads_rest, leads_only}

module _ (t : List Node) (start : ℕ) (path : List ℕ) (way : Way) (last : Last) where
  abbrev Led : Option LookupFault → Finding → Type 0
  Led o answer = MatchOption o (Leads (by_places t way last (start_place t start way)) (first_stand [] path) answer) (λ fault. answer ≡ Not_found fault)

  -- the path leads to what the function gives
  pub find_looks : Looks t start path way last (find_of t start path way last)
  unfolding Looks find_of
  find_looks = by_fault (lookup_fault t start path way last)
    where
      by_fault : (o : Option LookupFault) → Led o (unless_lost o (looked (by_places t way last (start_place t start way)) most_links (path_components path) []))
      by_fault None = leads_rest (by_places t way last (start_place t start way)) (first_stand [] path) (omega arith)
      by_fault (Some fault) = refl

  -- and to nothing else
  pub find_only : (answer : Finding) → Looks t start path way last answer → answer ≡ find_of t start path way last
  unfolding Looks find_of
  find_only answer led = by_fault (lookup_fault t start path way last) led
    where
      by_fault : (o : Option LookupFault) → Led o answer → answer ≡ unless_lost o (looked (by_places t way last (start_place t start way)) most_links (path_components path) [])
      by_fault None led = leads_only (by_places t way last (start_place t start way)) (first_stand [] path) answer led
      by_fault (Some fault) led = led

  -- so what the function gives, the path leads to
  pub find_led : (answer : Finding) → find_of t start path way last ≡ answer → Looks t start path way last answer
  find_led answer same = rw same at find_looks
