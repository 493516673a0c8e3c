-- What a name does where a walk stands.
use Rattle.std.proofs.Common.{◌≡◌, ℕ, List, [], ◌∷◌, ◌++◌, Bool, true, false, Option, Some, None, Result, ap, ◌∙◌, refl, cond}
use Rattle.std.specs.Prelude.{not, ◌&&◌, reverse, IfSome}
use Rattle.std.proofs.lemmas.List.{reverse-append}
use Rattle.file_tree.specs.Nodes.{Kind, File, Dir, Link, Node, node, parent_of, link_target, is_link}
use Rattle.lookup.specs.Answers.{Way, Last, LookupFault, Not_found, is_kept}
use Rattle.lookup.specs.Leads.{Stand, Next, Ends}
use Rattle.lookup.specs.Steps.{Rules, Move, Moves, Meets, Stops}
use Rattle.lookup.specs.ByNodes.{Walked, is_holder, no_way_back, back, into}
use Rattle.lookup.specs.Views.{StepsAlong, after_move}
use Rattle.lookup.specs.declared.trail.Trail.{Trail}
use Rattle.lookup.specs.declared.faults.PathFault.{PathFault}
use Rattle.lookup.specs.declared.ways.Progress.{Progress}

-- what has no target is no link
link_by : (k : Kind) (content : List ℕ) → cond (is_link k) (Some content) None ≡ None → is_link k ≡ false
link_by File content h = refl
link_by Dir content h = refl
link_by Link content h = cc

pub no_link : (t : List Node) (n : ℕ) → link_target t n ≡ None → is_link (node t n).kind ≡ false
unfolding link_target
no_link t n h = link_by (node t n).kind (node t n).content h

-- a node without a target is gone to, and so is one that is kept
pub into_node : (t : List Node) (last : Last) (d : ℕ) (before : List ℕ) (left : List (List ℕ)) (n : ℕ) → link_target t n ≡ None →
    into t last d before left (Some n) ≡ Moves (record { current = n; before = d ∷ before })
into_node t last d before left n h = rw (no_link t n h) refl

pub into_kept : (t : List Node) (last : Last) (d : ℕ) (before : List ℕ) (left : List (List ℕ)) (n : ℕ) → is_kept last left ≡ true →
    into t last d before left (Some n) ≡ Moves (record { current = n; before = d ∷ before })
into_kept t last d before left n h = by_kind (is_link (node t n).kind)
  where
    by_kind : (b : Bool) → cond {A = Move Walked} (b && not (is_kept last left)) (Meets (node t n).content)
        (Moves (record { current = n; before = d ∷ before })) ≡ Moves (record { current = n; before = d ∷ before })
    by_kind true = rw h refl
    by_kind false = refl

-- what a walk did was next, if that is the same
pub steps_same : (r : Result Progress PathFault) (one other : Next Walked) (stand : Stand Walked) → one ≡ other → StepsAlong r other stand → StepsAlong r one stand
steps_same r one other stand same steps = rw same steps

-- where the directory walked before doesn't hold the node, the way back is lost
pub back_lost : (t : List Node) (way : Way) (n d : ℕ) (before rest : List ℕ) → before ≡ d ∷ rest → is_holder d (parent_of t n) ≡ false → back t way n before ≡ no_way_back way
back_lost t way n d before rest is lost = rw (is, lost) refl

pub lost_steps : (rules : Rules Walked) (trail : Trail) (move : Move Walked) (way : Way) (o : Option LookupFault) → move ≡ no_way_back way →
    IfSome o (λ fault. no_way_back way ≡ Stops (Not_found fault)) → IfSome o (λ fault. after_move rules trail move ≡ Ends (Not_found fault))
lost_steps rules trail move way None is lost = tt
lost_steps rules trail move way (Some fault) is lost = ap (after_move rules trail) (is ∙ lost)

-- what was pushed last comes first
pub popped : (items rest : List ℕ) (d : ℕ) → items ≡ rest ++ d ∷ [] → reverse items ≡ d ∷ reverse rest
popped items rest d is = ap reverse is ∙ reverse-append rest (d ∷ [])
