-- From what a lookup found to what a call answers.
use Rattle.std.proofs.Common.{◌≡◌, ℕ, List, false, ap, refl, subst, sym, ◌∙◌}
use Rattle.std.specs.Prelude.{Option, Some, None, Result, Ok, Err, IfOk}
use Rattle.std.specs.Result.{IsErrAnd}
use Rattle.std.proofs.lemmas.Result.{err_from_is_err_and}
use Rattle.file_tree.specs.Nodes.{Node, is_link, node}
use Rattle.file_tree.specs.WellFormed.{IsTree}
use Rattle.fd_table.specs.OpenFiles.{OpenFiles}
use Rattle.lookup.specs.Answers.{Way, Beneath, Last, Keep, Finding, Found_node, Found_free, Not_found, No_entry}
use Rattle.lookup.specs.Promises.{IsFreeName, MayBeMade}
use Rattle.lookup.specs.UnderWay.{IsUnderWay}
use Rattle.lookup.specs.Walks.{WalkState, Progress, Done, More, first_handled, handled}
use Rattle.lookup.proofs.UnderWay.{IsSureProgress, MayMake, Sure, begun_sure, sure_fault, under_way_sure}
use Rattle.process.specs.State.{Walking, One, Two}
use Rattle.kernel.specs.Calls.{found_last, resumed_one, walked}
use Rattle.kernel.specs.Walks.{IfOne}
use Rattle.lookup.specs.declared.ways.Found.{Found}
use Rattle.kernel.specs.World.{World}
use Rattle.kernel.specs.Answers.{Answer}
use Rattle.syscalls.specs.declared.outcomes.Refusal.{Refusal}
use Rattle.syscalls.specs.declared.outcomes.Refusal.TheVariants as refusal
use Rattle.lookup.specs.Views.{found_of}
use Rattle.syscalls.specs.declared.outcomes.Success.{Success}
use Rattle.syscalls.specs.AnswerViews.{IsFoundAt, Meets, Refuses, RefusesAlone, Passes, DoesNothing, Finds, IsLeft, IsNotFound, LooksUp, TellsFaults}

-- a refusal with nothing done
pub refused_alone : (refused : Refusal) (w : World) (t : List Node) (f : OpenFiles) (a : Answer) → Refuses refused a → DoesNothing w t f → RefusesAlone refused w t f a
refused_alone (refusal.Fails errno cause) w t f a is nothing = (is, nothing)
refused_alone refusal.Waits w t f a is nothing = (is, nothing)
refused_alone (refusal.Walks walking) w t f a is nothing = (is, nothing)
refused_alone refusal.Memory w t f a is nothing = tt

-- an error that is handed on
pub by_error : {A : Type 0} (P : Result A Refusal → Type 0) (r : Result A Refusal) (error : Refusal) → IsErrAnd r (λ given. given ≡ error) → P (Err error) → P r
by_error P r error is there = let e = err_from_is_err_and r is in rw (e.1, e.2) there

pub handed_on : (r : Result Success Refusal) (error : Refusal) (w : World) (p : ℕ) (a : Answer) → IsErrAnd r (λ given. given ≡ error) → Refuses error a → Meets w p w.tree w.files r a
handed_on r error w p a is refuses =
    by_error (λ r. Meets w p w.tree w.files r a) r error is (refused_alone error w w.tree w.files a refuses (record { tree = refl; files = refl }))

-- a test that goes on to another one
pub passes_on : {A B : Type 0} (view : A → B) (whole test : (B → Answer) → Answer) (r : Result A Refusal) → ((rest : B → Answer) → whole rest ≡ test rest) → Passes view test r → Passes view whole r
passes_on view whole test (Ok found) same passes = λ rest. same rest ∙ passes rest
passes_on view whole test (Err refused) same passes = λ rest. subst (Refuses refused) (sym (same rest)) (passes rest)

-- what is refused as a fault is, in a call that fails so
lost_look : (refused : Refusal) (finding : Finding) (rest : Finding → Answer) → TellsFaults rest → IsNotFound refused finding → Refuses refused (rest finding)
lost_look refused finding rest tells lost = subst (Refuses refused) (sym (ap rest lost.is ∙ tells lost.fault)) lost.refuses

left_look : (refused : Refusal) (event : Progress) (rest : Finding → Answer) → TellsFaults rest → IsLeft refused event → Refuses refused (walked One rest event)
left_look refused (Done finding) rest tells lost = lost_look refused finding rest tells lost
left_look refused (More walk) rest tells left = left

-- an event that finds nothing, in a call that fails so
pub refused_look : (refused : Refusal) (event : Progress) (rest : Finding → Answer) → TellsFaults rest → Finds event (Err refused) → Refuses refused (walked One rest event)
refused_look (refusal.Fails errno cause) event rest tells finds = left_look (refusal.Fails errno cause) event rest tells (finds (λ is. absurd cc))
refused_look refusal.Waits event rest tells finds = left_look refusal.Waits event rest tells (finds (λ is. absurd cc))
refused_look (refusal.Walks walking) event rest tells finds = left_look (refusal.Walks walking) event rest tells (finds (λ is. absurd cc))
refused_look refusal.Memory event rest tells finds = tt

-- tests that go on to an event of a lookup
pub leads_on : (look : (Finding → Answer) → Answer) (r : Result Found Refusal) (event : Progress) → ((rest : Finding → Answer) → look rest ≡ walked One rest event) → Finds event r → LooksUp look r
leads_on look (Ok code) event same finds = λ rest. same rest ∙ ap (walked One rest) finds
leads_on look (Err refused) event same finds = λ rest tells. subst (Refuses refused) (sym (same rest)) (refused_look refused event rest tells finds)

-- what an event finds is sure
event_sure : (t : List Node) (path : List ℕ) (way : Way) (last : Last) (event : Progress) (found : Finding) → IsSureProgress t path way last event → event ≡ Done found → Sure t path last found
event_sure t path way last (Done finding) found sure is = let same : finding ≡ found = cc in subst (Sure t path last) same sure
event_sure t path way last (More walk) found sure is = absurd cc

sure_found : (t : List Node) (start : ℕ) (path : List ℕ) (way : Way) (last : Last) (o : Option Walking) (found : Finding) → IsTree t → is_link (node t start).kind ≡ false →
    IfOne (IsUnderWay t path way last) o → resumed_one o (first_handled t start path way last) (handled t) ≡ Done found → Sure t path last found
sure_found t start path way last None found tree opened under is = event_sure t path way last _ found (begun_sure t path way last tree start opened) is
sure_found t start path way last (Some (One walk)) found tree opened under is = event_sure t path way last _ found (under_way_sure t path way last tree walk under) is
sure_found t start path way last (Some (Two one other)) found tree opened under is = event_sure t path way last _ found (begun_sure t path way last tree start opened) is

pub look_sure : (t : List Node) (start : ℕ) (path : List ℕ) (way : Way) (last : Last) (o : Option Walking) (r : Result Found Refusal) → IsTree t → is_link (node t start).kind ≡ false →
    IfOne (IsUnderWay t path way last) o → Finds (resumed_one o (first_handled t start path way last) (handled t)) r → IfOk r (λ found. Sure t path last (found_of found))
look_sure t start path way last o (Ok found) tree opened under is = sure_found t start path way last o (found_of found) tree opened under is
look_sure t start path way last o (Err refused) tree opened under is = tt

-- in the words of the promises
free_name : (t : List Node) (path : List ℕ) (found : Finding) → MayMake t path found → IsFreeName t path found × MayBeMade path found
free_name t path (Found_node n) may = (tt, tt)
free_name t path (Found_free d) may = (record { directory = may.directory; absent = may.absent }, may.named)
free_name t path (Not_found fault) may = (tt, tt)

pub found_so : (t : List Node) (path : List ℕ) (last : Last) (found : Found) → Sure t path last (found_of found) → IsFoundAt t path found
found_so t path last found sure = let free = free_name t path (found_of found) sure.vacant in record { there = sure.there; free = free.0; may_be_made = free.1 }

-- the last names of a rename
last_sure : (t : List Node) (path : List ℕ) (way : Way) (last : Last) (event : Progress) → IsTree t → IsSureProgress t path way last event → Sure t path last (found_last event)
last_sure t path way last (Done finding) tree sure = sure
last_sure t path way last (More walk) tree sure = sure_fault t path way last tree No_entry

pub last_found_sure : (t : List Node) (path : List ℕ) (walk : WalkState) (found : Finding) → IsTree t → IsUnderWay t path Beneath Keep walk → found_last (handled t walk) ≡ found →
    Sure t path Keep found
last_found_sure t path walk found tree under is = subst (Sure t path Keep) is (last_sure t path Beneath Keep (handled t walk) tree (under_way_sure t path Beneath Keep tree walk under))
