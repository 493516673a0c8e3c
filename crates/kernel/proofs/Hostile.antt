-- Steps of a process that does anything.
use Rattle.std.proofs.Common.{◌≡◌, ℕ, zero, suc, Bool, true, false, List, [], ◌∷◌, length, refl, ap, sym, subst, ◌∙◌}
use Rattle.std.specs.Prelude.{◌<◌, ◌≤◌, ◌≢◌, ◌&&◌, not, is_some, Option, Some, None, if◌then◌else◌}
use Rattle.std.specs.List.{slice_get}
use Rattle.rights.specs.Limits.{most_processes}
use Rattle.rights.proofs.Tests.{both_left, both_right}
use Rattle.process.specs.State.{Deed, ProcessState, Walking, handed_to, is_hostile}
use Rattle.instruction_set.specs.Programs.{Syscall}
use Rattle.fd_table.specs.Descriptions.{Descriptor, Message, IfHeld, EachPassed}
use Rattle.kernel.specs.World.{World, Choice, IsFresh}
use Rattle.kernel.specs.Answers.{Event}
use Rattle.kernel.specs.Steps.{Programs, changed_at, handed}
use Rattle.kernel.specs.Origins.{Caller, ComesFrom, IsMade, IsSent, QueuedFrom, by_sendfd, had_waited, stood, was_copied, was_duplicated, was_limited, was_limited_in_commands, was_made}
use Rattle.kernel.specs.Origins.{was_opened, was_opened_beneath, was_paired, was_received, was_sent}
use Rattle.kernel.specs.Gains.{GainsNothing, StaysIn}
use Rattle.kernel.specs.Hostile.{Act, Own, Does, IsAct, IsDeedOf, NextWorldExistsAsWell, NoRunGainsAsWell, NumbersDoNotMatterAsWell, about, caller_as, step_as}
use Rattle.kernel.specs.Renamings.{DiffersInNumbers}
use Rattle.kernel.specs.Walks.{IsWalker, IsWalkerIfMade}
use Rattle.kernel.specs.WellFormed.{HasNone, IsBegun, IsDeed, IsProcess, IsProcessIfMade, IsWellFormed}
use Rattle.kernel.proofs.Aimed.{steps_alike}
use Rattle.kernel.proofs.Deeds.{changed_at_there, changed_cases, changed_keeps, changed_length}
use Rattle.kernel.proofs.Gains.{gains_nothing}
use Rattle.kernel.proofs.Begun.{IsBegunIfEnded, begun_step, ended_begun}
use Rattle.kernel.proofs.Keeping.{next_formed}
use Rattle.kernel.proofs.KeptWalks.{no_walker}

-- a process that is handed a deed, by whether it may do one
pub handed_cases : (Q : ProcessState → Type 0) (deed : Deed) (s : ProcessState) → (is_hostile s ≡ true → Q (record s { kept = Some deed })) → Q s → Q (handed_to deed s)
handed_cases Q deed s hostile other = go (is_hostile s) refl
  where
    go : (b : Bool) → is_hostile s ≡ b → Q (if b then record s { kept = Some deed } else s)
    go true is = hostile is
    go false is = other

-- ## Well formed
no_walk : (o : Option Walking) → not (is_some o) ≡ true → o ≡ None
no_walk None is = refl
no_walk (Some walking) is = absurd cc

module _ (programs : Programs) (deed : Deed) (s : ProcessState) (hostile : is_hostile s ≡ true) where
  pub rests_now : s.walk ≡ None
  rests_now = no_walk s.walk (both_right (s.marked && s.mode && s.alive) _ hostile)

  process_keeps : IsProcess programs s → IsDeed programs s.program deed → IsProcess programs (record s { kept = Some deed })
  process_keeps fine is = record {
    placed = fine.placed;
    eight = fine.eight;
    small = fine.small;
    kept = record {
      marked = both_left _ _ (both_left _ _ (both_left _ _ hostile));
      mode = both_right s.marked _ (both_left _ _ (both_left _ _ hostile));
      is = is;
    };
  }

module _ (programs : Programs) (w : World) (good : IsWellFormed programs w) (p : ℕ) (deed : Deed) (is : IsDeedOf programs (slice_get w.processes p) deed) where
  processes_handed : (q : ℕ) → IsProcessIfMade programs (slice_get (changed_at w.processes p (handed_to deed)) q)
  processes_handed q =
      changed_cases (IsProcessIfMade programs) w.processes p (handed_to deed) q tt
      (λ s made same.
      let fine : IsProcess programs s = subst (IsProcessIfMade programs) made (good.world.processes q) in
      handed_cases (IsProcess programs) deed s
      (λ hostile. process_keeps programs deed s hostile fine (subst (λ o. IsDeedOf programs o deed) (ap (slice_get w.processes) (sym same) ∙ made) is hostile)) fine)
      (λ other. good.world.processes q)

  gone_handed : (q : ℕ) → HasNone (slice_get (changed_at w.processes p (handed_to deed)) q) (w.files.table q)
  gone_handed q =
      changed_keeps (λ o. HasNone o (w.files.table q)) w.processes p (handed_to deed) q
      (λ s none. handed_cases (λ t. HasNone (Some t) (w.files.table q)) deed s (λ hostile. none) none) (good.world.gone q)

  walks_handed : (q : ℕ) → IsWalkerIfMade programs w.tree w.files.objects (w.files.table q) (slice_get (changed_at w.processes p (handed_to deed)) q)
  walks_handed q =
      changed_keeps (IsWalkerIfMade programs w.tree w.files.objects (w.files.table q)) w.processes p (handed_to deed) q
      (λ s walker. handed_cases (IsWalker programs w.tree w.files.objects (w.files.table q)) deed s
      (λ hostile. no_walker programs w.tree w.files.objects (w.files.table q) (record s { kept = Some deed }) (rests_now programs deed s hostile)) walker)
      (good.walks q)

  handed_well_formed : IsWellFormed programs (handed w p deed)
  handed_well_formed = record {
    numbering = good.numbering;
    world = record {
      tree = good.world.tree;
      some = subst (λ n. 0 < n) (sym (changed_length w.processes p (handed_to deed))) good.world.some;
      few = subst (λ n. n ≤ most_processes) (sym (changed_length w.processes p (handed_to deed))) good.world.few;
      processes = processes_handed;
      entries = good.world.entries;
      numbers = good.world.numbers;
      gone = gone_handed;
      messages = good.world.messages;
      short = good.world.short;
      idle = good.world.idle;
      sides = good.world.sides;
    };
    walks = walks_handed;
  }

pub about_well_formed : (programs : Programs) (w : World) (p : ℕ) (act : Act) → IsWellFormed programs w → IsAct programs w p act → IsWellFormed programs (about w p act)
about_well_formed programs w p Own good is = good
about_well_formed programs w p (Does deed) good is = handed_well_formed programs w good p deed is

-- between two steps but for the process that is about to do a deed
module _ (w : World) (begun : (q : ℕ) → IsBegun (slice_get w.processes q)) (p : ℕ) where
  others_begun : (act : Act) (q : ℕ) → q ≢ p → IsBegun (slice_get (about w p act).processes q)
  others_begun Own q apart = begun q
  others_begun (Does deed) q apart = changed_cases IsBegun w.processes p (handed_to deed) q tt (λ s there at. absurd (apart at)) (λ other. begun q)

  ended_about : (act : Act) → IsBegunIfEnded (slice_get (about w p act).processes p)
  ended_about Own = ended_begun (slice_get w.processes p) (begun p)
  ended_about (Does deed) =
      changed_keeps IsBegunIfEnded w.processes p (handed_to deed) p
      (λ s is. handed_cases (λ t. IsBegunIfEnded (Some t)) deed s (λ hostile. λ ended. absurd (not_ended s hostile ended)) is)
      (ended_begun (slice_get w.processes p) (begun p))
    where
      not_ended : (s : ProcessState) → is_hostile s ≡ true → s.alive ≡ false → ⊥
      not_ended s hostile ended = let lives : s.alive ≡ true = both_right (s.marked && s.mode) _ (both_left _ _ hostile) in absurd cc

pub next_world_as_well : NextWorldExistsAsWell
next_world_as_well programs w e act valid good byte is =
    let formed = next_formed programs (about w e.process act) e valid (about_well_formed programs w e.process act good.formed is) byte in
    record {
      some = formed.some;
      each = λ choice fresh. record {
        formed = formed.each choice fresh;
        begun = begun_step (about w e.process act) e choice (others_begun w good.begun e.process act) programs (ended_about w good.begun e.process act);
      };
    }

-- ## Numbers
pub differs_about : (w v : World) (p : ℕ) (act : Act) → DiffersInNumbers w v → DiffersInNumbers (about w p act) (about v p act)
differs_about w v p Own same = same
differs_about w v p (Does deed) same = record {
  renaming = same.renaming;
  tree = same.tree;
  processes = ap (λ (xs : List ProcessState). changed_at xs p (handed_to deed)) same.processes;
  files = same.files;
}

pub files_about : (w : World) (p : ℕ) (act : Act) → (about w p act).files ≡ w.files
files_about w p Own = refl
files_about w p (Does deed) = refl

pub numbers_as_well : NumbersDoNotMatterAsWell
numbers_as_well programs w v e act j k valid good fine is same fresh also =
    steps_alike programs (about w e.process act) (about v e.process act) e j k valid (about_well_formed programs w e.process act good is)
    (about_well_formed programs v e.process act fine (is_act_there act is)) (differs_about w v e.process act same)
    (subst (λ f. IsFresh f j) (sym (files_about w e.process act)) fresh) (subst (λ f. IsFresh f k) (sym (files_about v e.process act)) also)
  where
    is_act_there : (act : Act) → IsAct programs w e.process act → IsAct programs v e.process act
    is_act_there Own is = tt
    is_act_there (Does deed) is = subst (λ (xs : List ProcessState). IsDeedOf programs (slice_get xs e.process) deed) (sym same.processes) is

-- ## Nothing is gained
-- what one who is about to do something has gained he has gained before
handed_mode : (deed : Deed) (s : ProcessState) → (handed_to deed s).mode ≡ s.mode
handed_mode deed s = handed_cases (λ t. t.mode ≡ s.mode) deed s (λ hostile. refl) refl

stays_about : (deed : Deed) (caller : Option ProcessState) (b : ProcessState) (after : Option ProcessState) → StaysIn caller (Some (handed_to deed b)) after → StaysIn caller (Some b) after
stays_about deed caller b after stays = record {
  still = λ s is.
      let k = stays.still (handed_to deed b) refl in
      let same : s ≡ b = cc in
      (k.0, k.1, λ on. k.2 (handed_mode deed b ∙ subst (λ (x : ProcessState). x.mode ≡ true) same on));
  new = λ t none some. absurd cc;
}

module _ (w : World) (p : ℕ) (deed : Deed) where
  abbrev before : List ProcessState
  before = changed_at w.processes p (handed_to deed)

  -- an acting process that is handed a deed, or not, is in the mode where it was
  stays_by : (c : ProcessState) (b after : Option ProcessState) → StaysIn (Some (handed_to deed c)) b after → StaysIn (Some c) b after
  stays_by c b after stays = record {
    still = stays.still;
    new = λ t none some.
        let k = stays.new t none some in
        let same : handed_to deed c ≡ k.0 = cc in
        (c, refl, λ on. k.2 (subst (λ (x : ProcessState). x.mode ≡ true) same (handed_mode deed c ∙ on)));
  }

  modes_about : (q : ℕ) (after : Option ProcessState) → StaysIn (slice_get before p) (slice_get before q) after → StaysIn (slice_get w.processes p) (slice_get w.processes q) after
  modes_about q after stays = by_other (by_caller stays)
    where
      by_caller : StaysIn (slice_get before p) (slice_get before q) after → StaysIn (slice_get w.processes p) (slice_get before q) after
      by_caller =
          changed_at_there (λ c o. StaysIn o (slice_get before q) after → StaysIn c (slice_get before q) after) w.processes p (handed_to deed) p (λ o. λ is. is)
          (λ c. stays_by c (slice_get before q) after)

      by_other : StaysIn (slice_get w.processes p) (slice_get before q) after → StaysIn (slice_get w.processes p) (slice_get w.processes q) after
      by_other =
          changed_at_there (λ b o. StaysIn (slice_get w.processes p) o after → StaysIn (slice_get w.processes p) b after) w.processes p (handed_to deed) q (λ o. λ is. is)
          (λ b. stays_about deed (slice_get w.processes p) b after)

  -- what is made and sent looks at what is open alone
  made_about : {q : ℕ} {s : ProcessState} {n : ℕ} {d : Descriptor} {call : Syscall} → IsMade (handed w p deed) q s n d call → IsMade w q s n d call
  made_about (was_opened free outside all) = was_opened free outside all
  made_about (was_opened_beneath free within) = was_opened_beneath free within
  made_about (was_paired free all) = was_paired free all
  made_about (was_duplicated free within) = was_duplicated free within
  made_about (was_received free within) = was_received free within
  made_about (was_limited there within) = was_limited there within
  made_about (was_limited_in_commands there within) = was_limited_in_commands there within

  sent_about : {q : ℕ} {s : ProcessState} {pair side : ℕ} {d : Descriptor} {call : Syscall} → IsSent (handed w p deed) q s pair side d call → IsSent w q s pair side d call
  sent_about (by_sendfd through within) = by_sendfd through within

  entry_about : (caller : Option Caller) (q n : ℕ) (o : Option Descriptor) → IfHeld (ComesFrom (handed w p deed) caller q n) o → IfHeld (ComesFrom w caller q n) o
  entry_about caller q n None comes = tt
  entry_about caller q n (Some d) (stood is) = stood is
  entry_about caller q n (Some d) (was_made c calls here made) = was_made c calls here (made_about made)
  entry_about caller q n (Some d) (was_copied c calls forks at is) = was_copied c calls forks (at ∙ changed_length w.processes p (handed_to deed)) is

  passed_about : (caller : Option Caller) (pair side : ℕ) (o : Option Descriptor) → IfHeld (QueuedFrom (handed w p deed) caller pair side) o → IfHeld (QueuedFrom w caller pair side) o
  passed_about caller pair side None comes = tt
  passed_about caller pair side (Some d) (had_waited i m there is) = had_waited i m there is
  passed_about caller pair side (Some d) (was_sent c calls is) = was_sent c calls (sent_about is)

  messages_about : (caller : Option Caller) (pair side : ℕ) (messages : List Message) → EachPassed (QueuedFrom (handed w p deed) caller pair side) messages →
      EachPassed (QueuedFrom w caller pair side) messages
  messages_about caller pair side [] all = tt
  messages_about caller pair side (m ∷ messages) all = (passed_about caller pair side m.passed all.0, messages_about caller pair side messages all.1)

pub gains_about : (w : World) (p : ℕ) (act : Act) (caller : Option Caller) (next : World) → GainsNothing (about w p act) p caller next → GainsNothing w p caller next
gains_about w p Own caller next gains = gains
gains_about w p (Does deed) caller next gains = record {
  modes = λ q. modes_about w p deed q (slice_get next.processes q) (gains.modes q);
  entries = λ q n. entry_about w p deed caller q n (next.files.table q n) (gains.entries q n);
  messages = λ pair side. messages_about w p deed caller pair side (next.files.queue pair side) (gains.messages pair side);
}

pub no_run_gains_as_well : NoRunGainsAsWell
no_run_gains_as_well programs w [] = tt
no_run_gains_as_well programs w ((e, act) ∷ events) = λ choice fresh. (
  gains_about w e.process act (caller_as programs w e act) (step_as programs w e act choice).world (gains_nothing programs (about w e.process act) e choice),
  no_run_gains_as_well programs (step_as programs w e act choice).world events,
)
