-- What a place leaves of a path. (own)
use Rattle.std.specs.Prelude.{◌≡◌, ℕ, List, ◌++◌}
use Rattle.link_tree.specs.declared.climbs.Match.{Match}
use Rattle.link_tree.specs.declared.climbs.Match.TheVariants.{Left, Decided}
use Rattle.file_tree.specs.Places.{begins, path_components}

-- Either the names are those of the place and of what is left, or it is decided for the place and all below it.
abbrev pub Matches : Match → List (List ℕ) → List (List ℕ) → Type 0
Matches (Left rest) names place = names ≡ place ++ path_components rest.now
Matches (Decided is) names place = (more : List (List ℕ)) → begins names (place ++ more) ≡ is
