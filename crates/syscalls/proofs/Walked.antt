-- From what the code's walks do at an event to what the model's lookups do.
use Rattle.std.proofs.Common.{◌≡◌, ◌≢◌, ℕ, List, true, false, ap, refl, subst, sym, ◌∙◌}
use Rattle.std.specs.Prelude.{Option, Some, None, Result, Ok, Err, IfOk, IfSome}
use Rattle.rights.specs.Values.{PathText}
use Rattle.file_tree.specs.Nodes.{Node}
use Rattle.file_tree.specs.WellFormed.{IsTree}
use Rattle.lookup.specs.Answers.{Way, Beneath, Global, Last, Keep, LookupFault, Finding, Found_node, Not_found}
use Rattle.lookup.specs.Looks.{lookup_fault}
use Rattle.lookup.specs.UnderWay.{IsUnderWay}
use Rattle.lookup.specs.Views.{found_of}
use Rattle.lookup.specs.Walks.{WalkState, Progress, Done, begun, first_handled, handled}
use Rattle.lookup.proofs.UnderWay.{Sure}
use Rattle.process.specs.State.{ProcessState, One, Two}
use Rattle.process.specs.Views.{walking_in}
use Rattle.process.specs.declared.walking.Walking.{Walking}
use Rattle.process.specs.declared.walking.Walking.TheVariants as walking
use Rattle.instruction_set.specs.Paths.{has_path}
use Rattle.instruction_set.specs.Programs.{Operand, Syscall}
use Rattle.instruction_set.specs.Programs as programs
use Rattle.fd_table.specs.Kept.{Kept, open_files}
use Rattle.fd_table.specs.OpenFiles.{OpenFiles}
use Rattle.kernel.specs.World.{World}
use Rattle.kernel.specs.Answers.{Answer, Event, lookup_fails}
use Rattle.kernel.specs.Calls.{found_last, is_at_last, looks_twice, lost, or_fails, walked, walked_both}
use Rattle.kernel.specs.Walks.{FitsIfWalking, From_directories, From_directory, From_root, IfOne, IfTwo, No_path, lookups_of}
use Rattle.kernel.proofs.FittingWalks.{both_under, directory_under, root_under}
use Rattle.syscalls.specs.declared.lookups.Both.{Both}
use Rattle.syscalls.specs.declared.outcomes.Refusal.{Refusal}
use Rattle.syscalls.specs.declared.outcomes.Refusal.TheVariants as refusal
use Rattle.syscalls.specs.declared.kernels.Kernel.{Kernel}
use Rattle.syscalls.specs.declared.outcomes.Success.{Success}
use Rattle.syscalls.specs.AnswerViews.{AreFound, Calls, Finds, IsLeft, IsLost, IsNotFound, Performs, Refuses, RenamesOn, state_with}
use Rattle.syscalls.proofs.Finding.{found_so, last_found_sure}

-- What a fault is refused as, whatever event it ends.
abbrev pub RefusesFault : Option LookupFault → Refusal → Type 0
RefusesFault o refused = (event : Progress) → IfSome o (λ fault. event ≡ Done (Not_found fault)) → Finds event (Err refused)

-- want of memory ends any event
no_fault_is_memory : (refused : Refusal) → RefusesFault None refused → refused ≢ refusal.Memory → ⊥
no_fault_is_memory refused all other = let never = all (Done (Found_node 0)) tt other in absurd (let clash : Found_node 0 ≡ Not_found never.fault = never.is in cc)

left_with : (refused : Refusal) (event : Progress) (fault : LookupFault) → event ≡ Done (Not_found fault) → IsLeft refused event → IsNotFound refused (Not_found fault)
left_with refused event fault is left = subst (IsLeft refused) is left

lost_as : (refused : Refusal) (fault : LookupFault) → IsNotFound refused (Not_found fault) → Refuses refused (lookup_fails fault)
lost_as refused fault left = let same : left.fault ≡ fault = same_fault left.is in subst (λ f. Refuses refused (lookup_fails f)) same left.refuses
  where
    same_fault : {a b : LookupFault} → Not_found a ≡ Not_found b → b ≡ a
    same_fault is = cc

pub lost_of : (refused : Refusal) (o : Option LookupFault) → RefusesFault o refused → (event : Progress) → IfSome o (λ fault. event ≡ Done (Not_found fault)) →
    refused ≢ refusal.Memory → IsLost refused event
lost_of refused None all event is other = absurd (no_fault_is_memory refused all other)
lost_of refused (Some fault) all event is other = subst (IsLost refused) (sym is) (lost_as refused fault (left_with refused event fault is (all event is other)))

pub last_of_fault : (refused : Refusal) (o : Option LookupFault) → RefusesFault o refused → (event : Progress) → IfSome o (λ fault. event ≡ Done (Not_found fault)) →
    refused ≢ refusal.Memory → IsNotFound refused (found_last event)
last_of_fault refused None all event is other = absurd (no_fault_is_memory refused all other)
last_of_fault refused (Some fault) all event is other = subst (λ v. IsNotFound refused (found_last v)) (sym is) (left_with refused event fault is (all event is other))

-- what refuses but for want of memory refuses
pub but_for_memory : (refused : Refusal) (a : Answer) → (refused ≢ refusal.Memory → Refuses refused a) → Refuses refused a
but_for_memory (refusal.Fails errno cause) a is = is (λ same. absurd cc)
but_for_memory refusal.Waits a is = is (λ same. absurd cc)
but_for_memory (refusal.Walks walk) a is = is (λ same. absurd cc)
but_for_memory refusal.Memory a is = tt

-- ## The first event
pub first_is : (t : List Node) (start : ℕ) (path : PathText) (way : Way) (last : Last) (walk : WalkState) → lookup_fault t start path way last ≡ None →
    walk ≡ begun start path way last → handled t walk ≡ first_handled t start path way last
unfolding first_handled
first_is t start path way last walk none is = rw (none, is) refl

pub first_lost : (t : List Node) (start : ℕ) (path : PathText) (way : Way) (last : Last) (o : Option LookupFault) → lookup_fault t start path way last ≡ o →
    IfSome o (λ fault. first_handled t start path way last ≡ Done (Not_found fault))
unfolding first_handled
first_lost t start path way last None is = tt
first_lost t start path way last (Some fault) is = rw is refl

-- why a rename ends in its first event
pub told_lost : (refused : Refusal) (fault o : Option LookupFault) (rest : Answer) → RefusesFault o refused → fault ≡ o → Refuses refused (or_fails fault rest)
told_lost refused fault o rest all is = subst (λ f. Refuses refused (or_fails f rest)) (sym is) (by_fault o all)
  where
    by_fault : (o : Option LookupFault) → RefusesFault o refused → Refuses refused (or_fails o rest)
    by_fault None all = but_for_memory refused rest (λ other. absurd (no_fault_is_memory refused all other))
    by_fault (Some fault) all = but_for_memory refused (lookup_fails fault) (λ other. lost_as refused fault (all (Done (Not_found fault)) refl other))

-- ## What is under way
pub one_is : (Under : WalkState → Type 0) (o : Option Walking) (w : Walking) (walk : WalkState) → o ≡ Some w → w ≡ walking.One walk → IfOne Under (walking_in o) → Under walk
one_is Under o w walk is one under = subst (λ x. IfOne Under (walking_in x)) (is ∙ ap Some one) under

pub two_are : (First Second : WalkState → Type 0) (o : Option Walking) (w : Walking) (one other : WalkState) → o ≡ Some w → w ≡ walking.Two one other →
    IfTwo First Second (walking_in o) → First one × Second other
two_are First Second o w one other is two under = subst (λ x. IfTwo First Second (walking_in x)) (is ∙ ap Some two) under

-- ## Two paths
pub renames_as : (look as_look : (Finding → Finding → Answer) → Answer) (from : Finding → (ℕ → Answer) → Answer) (r : Result Both Refusal) →
    ((rest : Finding → Finding → Answer) → look rest ≡ as_look rest) → RenamesOn as_look from r → RenamesOn look from r
renames_as look as_look from (Ok both) same renames = λ rest. same _ ∙ renames rest
renames_as look as_look from (Err refused) same renames = λ rest tells. subst (Refuses refused) (sym (same _)) (renames rest tells)

pub refused_as : (look : (Finding → Finding → Answer) → Answer) (from : Finding → (ℕ → Answer) → Answer) (refused : Refusal) (a : Answer) →
    ((rest : Finding → Finding → Answer) → look rest ≡ a) → Refuses refused a → RenamesOn look from (Err refused)
refused_as look from refused a same is = λ rest tells. subst (Refuses refused) (sym (same _)) is

module _ (w : World) (p : ℕ) (s : ProcessState) (e : Event) (one other : WalkState) (rest : Finding → Finding → Answer) where
  pub old_is : is_at_last one ≡ false → walked_both w p s e rest one other ≡ walked (λ walk. Two walk other) lost (handled w.tree one)
  old_is more = rw more refl

  pub new_is : is_at_last one ≡ true → is_at_last other ≡ false → walked_both w p s e rest one other ≡ walked (λ walk. Two one walk) lost (handled w.tree other)
  new_is last more = rw (last, more) refl

  pub last_is : is_at_last one ≡ true → is_at_last other ≡ true → walked_both w p s e rest one other ≡ rest (found_last (handled w.tree one)) (found_last (handled w.tree other))
  last_is last also = rw (last, also) refl

-- the first event of both, and a later one
module _ (w : World) (p : ℕ) (s : ProcessState) (e : Event) (n : ℕ) (from : PathText) (m : ℕ) (to : PathText) where
  abbrev pub both_first : (Finding → Finding → Answer) → Answer
  both_first rest =
      or_fails (lookup_fault w.tree n from Beneath Keep)
      (or_fails (lookup_fault w.tree m to Beneath Keep) (walked_both w p s e rest (begun n from Beneath Keep) (begun m to Beneath Keep)))

  pub looks_none : (rest : Finding → Finding → Answer) → s.walk ≡ None → looks_twice w p s e n from m to rest ≡ both_first rest
  unfolding looks_twice
  looks_none rest is = rw is refl

  pub looks_one : (rest : Finding → Finding → Answer) (walk : WalkState) → s.walk ≡ Some (One walk) → looks_twice w p s e n from m to rest ≡ both_first rest
  unfolding looks_twice
  looks_one rest walk is = rw is refl

  pub looks_two : (rest : Finding → Finding → Answer) (one other : WalkState) → s.walk ≡ Some (Two one other) → looks_twice w p s e n from m to rest ≡ walked_both w p s e rest one other
  unfolding looks_twice
  looks_two rest one other is = rw is refl

pub are_found : (t : List Node) (path new_path : PathText) (one other : WalkState) (r : Result Both Refusal) → IsTree t → IsUnderWay t path Beneath Keep one →
    IsUnderWay t new_path Beneath Keep other → IfOk r (λ both. found_last (handled t one) ≡ Found_node both.node) →
    IfOk r (λ both. found_last (handled t other) ≡ found_of both.place) → IfOk r (AreFound t path new_path)
are_found t path new_path one other (Ok both) tree under also node place =
    let source : Sure t path Keep (Found_node both.node) = last_found_sure t path one (Found_node both.node) tree under node in
    let target : Sure t new_path Keep (found_of both.place) = last_found_sure t new_path other (found_of both.place) tree also place in
    record { node = source.there; place = found_so t new_path Keep both.place target; named = target.named refl }
are_found t path new_path one other (Err refused) tree under also node place = tt

-- ## What is under way, by what the call looks up
module _ {T : Type 0} (nodes : T → List Node) (k : Kernel T) (call : Syscall) (walk : Option Walking)
    (fits : FitsIfWalking (nodes k.tree.now) (open_files k.files.now).objects ((open_files k.files.now).table k.caller.number) k.caller.process.now (Some call) (walking_in walk)) where
  abbrev f : OpenFiles
  f = open_files k.files.now

  pub from_root : (bytes path : PathText) (last : Last) → bytes ≡ path → lookups_of call ≡ From_root path last → IfOne (IsUnderWay (nodes k.tree.now) bytes Global last) (walking_in walk)
  from_root bytes path last same is =
      subst (λ text. IfOne (IsUnderWay (nodes k.tree.now) text Global last) (walking_in walk)) (sym same)
      (root_under (nodes k.tree.now) f.objects (f.table k.caller.number) k.caller.process.now call path last (walking_in walk) is fits)

  pub from_directory : (bytes path : PathText) (x : Operand) (last : Last) → bytes ≡ path → lookups_of call ≡ From_directory x path last →
      IfOne (IsUnderWay (nodes k.tree.now) bytes Beneath last) (walking_in walk)
  from_directory bytes path x last same is =
      subst (λ text. IfOne (IsUnderWay (nodes k.tree.now) text Beneath last) (walking_in walk)) (sym same)
      (directory_under (nodes k.tree.now) f.objects (f.table k.caller.number) k.caller.process.now call x path last (walking_in walk) is fits)

  pub from_directories : (bytes path : PathText) (x : Operand) (new_bytes new_path : PathText) (y : Operand) → bytes ≡ path → new_bytes ≡ new_path →
      lookups_of call ≡ From_directories x path y new_path →
      IfTwo (IsUnderWay (nodes k.tree.now) bytes Beneath Keep) (IsUnderWay (nodes k.tree.now) new_bytes Beneath Keep) (walking_in walk)
  from_directories bytes path x new_bytes new_path y same also is =
      rw (same, also) (both_under (nodes k.tree.now) f.objects (f.table k.caller.number) k.caller.process.now call x path y new_path (walking_in walk) is fits)

-- ## What a call answers, by the method that it is
module _ {T : Type 0} (nodes : T → List Node) (k : Kernel T) (tree : T) (files : Kept) (r : Result Success Refusal) (call known : Syscall) (same : call ≡ known) where
  -- a call that looks nothing up has nothing under way
  pub performs_at_rest : (walk : Option Walking) → walking_in walk ≡ None → k.caller.process.now.walk ≡ None → Performs nodes k k.caller.process.now tree files r known →
      Performs nodes k (state_with k.caller walk) tree files r call
  performs_at_rest walk none rests performs =
      subst (Performs nodes k (state_with k.caller walk) tree files r) (sym same)
      (subst (λ s. Performs nodes k s tree files r known) (sym (ap (λ o. record k.caller.process.now { walk = o }) (none ∙ sym rests))) performs)

  pub performs_as : Calls nodes k tree files r known → Performs nodes k k.caller.process.now tree files r call
  performs_as calls = subst (Performs nodes k k.caller.process.now tree files r) (sym same) (λ processes e refuse made. calls processes e refuse)

pub pathless_looks_nothing_up : (call : Syscall) → has_path call ≡ false → lookups_of call ≡ No_path
unfolding lookups_of
pathless_looks_nothing_up (programs.Open a b) is = absurd (let clash : true ≡ false = is in cc)
pathless_looks_nothing_up (programs.Openat a b c) is = absurd (let clash : true ≡ false = is in cc)
pathless_looks_nothing_up (programs.Read a) is = refl
pathless_looks_nothing_up (programs.Write a b) is = refl
pathless_looks_nothing_up (programs.Sendfd a b c) is = refl
pathless_looks_nothing_up (programs.Recvfd a) is = refl
pathless_looks_nothing_up (programs.Lseek a b) is = refl
pathless_looks_nothing_up (programs.Ftruncate a b) is = refl
pathless_looks_nothing_up (programs.Fsync a) is = refl
pathless_looks_nothing_up (programs.Fstat a) is = refl
pathless_looks_nothing_up (programs.Fcntl_getfl a) is = refl
pathless_looks_nothing_up (programs.Fcntl_setfl a b) is = refl
pathless_looks_nothing_up (programs.Fstatat a b) is = absurd (let clash : true ≡ false = is in cc)
pathless_looks_nothing_up (programs.Stat a) is = absurd (let clash : true ≡ false = is in cc)
pathless_looks_nothing_up (programs.Mkdirat a b) is = absurd (let clash : true ≡ false = is in cc)
pathless_looks_nothing_up (programs.Mkdir a) is = absurd (let clash : true ≡ false = is in cc)
pathless_looks_nothing_up (programs.Unlinkat a b c) is = absurd (let clash : true ≡ false = is in cc)
pathless_looks_nothing_up (programs.Unlink a b) is = absurd (let clash : true ≡ false = is in cc)
pathless_looks_nothing_up (programs.Renameat a b c d) is = absurd (let clash : true ≡ false = is in cc)
pathless_looks_nothing_up (programs.Dup a) is = refl
pathless_looks_nothing_up (programs.Close a) is = refl
pathless_looks_nothing_up (programs.Cap_rights_limit a b) is = refl
pathless_looks_nothing_up (programs.Cap_fcntls_limit a b) is = refl
pathless_looks_nothing_up programs.Cap_enter is = refl
pathless_looks_nothing_up programs.Cap_getmode is = refl
pathless_looks_nothing_up programs.Socketpair is = refl
pathless_looks_nothing_up programs.Fork is = refl
pathless_looks_nothing_up (programs.Use a b) is = refl
