-- All runs of the same events show the same lines.
use Rattle.std.proofs.Common.{◌≡◌, List, [], ◌∷◌, refl, ap, sym, ◌∙◌, subst}
use Rattle.std.specs.Prelude.{Option, Some, None}
use Rattle.fd_table.specs.Descriptions.{Object, At_node, At_end, Descriptor, Message, IfHeld}
use Rattle.fd_table.specs.OpenFiles.{OpenFiles}
use Rattle.kernel.specs.World.{World, IsFresh}
use Rattle.kernel.specs.Answers.{Event, AreEvents}
use Rattle.kernel.specs.Steps.{Programs, Acted, step}
use Rattle.kernel.specs.WellFormed.{ArePrograms, IsWellFormed}
use Rattle.kernel.specs.Renamings.{Renaming, SameObject, EachNamed, SameFiles, DiffersInNumbers, StepsAlike, NumbersAreIgnoredTwice, renamed_object, renamed_entry, renamed_messages}
use Rattle.kernel.specs.Alike.{AlikeWorlds, ActsAs, StepsAsOne, AlikeWorldsShareNumbers}
use Rattle.kernel.specs.Runs.{Runs, AlikeWorldsRunAlike, RunExists, RunsShowTheSame, RunsShowTheSameLines}
use Rattle.kernel.proofs.Fresh.{fresh_some}
use Rattle.kernel.proofs.Keeping.{kept}
use Rattle.kernel.proofs.Aimed.{steps_alike}
use Rattle.kernel.proofs.AlikeWorlds.{act_alike, own_numbers, same_files, own_files}

-- ## Worlds that differ only in numbers
pub alike_share : AlikeWorldsShareNumbers
alike_share w v alike = record {
  renaming = own_numbers;
  tree = alike.tree;
  processes = alike.processes;
  files = same_files w.files v.files alike.files;
}

differs_self : (w : World) → DiffersInNumbers w w
differs_self w = record { renaming = own_numbers; tree = refl; processes = refl; files = own_files w.files }

-- one renaming after another
abbrev then : Renaming → Renaming → Renaming
then r q = record {
  description = λ n. q.description (r.description n);
  pair = λ n. q.pair (r.pair n);
  description_back = λ n. r.description_back (q.description_back n);
  pair_back = λ n. r.pair_back (q.pair_back n);
  description_there = λ n. ap q.description (r.description_there (q.description_back n)) ∙ q.description_there n;
  description_here = λ n. ap r.description_back (q.description_here (r.description n)) ∙ r.description_here n;
  pair_there = λ n. ap q.pair (r.pair_there (q.pair_back n)) ∙ q.pair_there n;
  pair_here = λ n. ap r.pair_back (q.pair_here (r.pair n)) ∙ r.pair_here n;
}

module _ (r q : Renaming) (u v w : OpenFiles) where
  object_twice : (o : Object) → renamed_object q (renamed_object r o) ≡ renamed_object (then r q) o
  object_twice (At_node n access) = refl
  object_twice (At_end pair side class) = refl

  entry_twice : (o : Option Descriptor) → renamed_entry q (renamed_entry r o) ≡ renamed_entry (then r q) o
  entry_twice None = refl
  entry_twice (Some d) = refl

  messages_twice : (messages : List Message) → renamed_messages q (renamed_messages r messages) ≡ renamed_messages (then r q) messages
  messages_twice [] = refl
  messages_twice (m ∷ messages) = λ i. record { byte = m.byte; passed = entry_twice m.passed i } ∷ messages_twice messages i

  held_twice : (o : Option Descriptor) → IfHeld (λ d. SameObject r u v d.description) o →
      IfHeld (λ d. SameObject q v w d.description) (renamed_entry r o) → IfHeld (λ d. SameObject (then r q) u w d.description) o
  held_twice None one two = tt
  held_twice (Some d) one two = record {
    object = two.object ∙ ap (renamed_object q) one.object ∙ object_twice (u.objects d.description);
    state = two.state ∙ one.state;
  }

  each_twice : (messages : List Message) → EachNamed (SameObject r u v) messages → EachNamed (SameObject q v w) (renamed_messages r messages) → EachNamed (SameObject (then r q) u w) messages
  each_twice [] one two = tt
  each_twice (m ∷ messages) one two = (held_twice m.passed one.0 two.0, each_twice messages one.1 two.1)

  files_twice : SameFiles r u v → SameFiles q v w → SameFiles (then r q) u w
  files_twice one two = record {
    table = λ p n. two.table p n ∙ ap (renamed_entry q) (one.table p n) ∙ entry_twice (u.table p n);
    queue = λ pair side. two.queue (r.pair pair) side ∙ ap (renamed_messages q) (one.queue pair side) ∙ messages_twice (u.queue pair side);
    entries = λ p n. held_twice (u.table p n) (one.entries p n) (subst (IfHeld (λ d. SameObject q v w d.description)) (one.table p n) (two.entries p n));
    messages = λ pair side. each_twice (u.queue pair side) (one.messages pair side) (subst (EachNamed (SameObject q v w)) (one.queue pair side) (two.messages (r.pair pair) side));
  }

pub differs_twice : NumbersAreIgnoredTwice
differs_twice u v w one two = record {
  renaming = then one.renaming two.renaming;
  tree = two.tree ∙ one.tree;
  processes = two.processes ∙ one.processes;
  files = files_twice one.renaming two.renaming u.files v.files w.files one.files two.files;
}

-- ## Runs
pub run_exists : RunExists
run_exists programs w [] valid good events = ([], tt)
run_exists programs w (e ∷ events) valid good bytes =
    let some = fresh_some programs good.numbering w good.world in
    let next = kept programs valid good.numbering w good.world good.walks e bytes.0 some.0 some.1 in
    let rest = run_exists programs (step programs w e some.0).world events valid next bytes.1 in
    ((step programs w e some.0).acted ∷ rest.0, (some.0, some.1, refl, rest.1))

pub same_lines : RunsShowTheSame
same_lines programs w v [] [] [] valid good fine d bytes run other = refl
same_lines programs w v [] [] (l ∷ others) valid good fine d bytes run other = absurd other
same_lines programs w v [] (l ∷ lines) others valid good fine d bytes run other = absurd run
same_lines programs w v (e ∷ events) [] others valid good fine d bytes run other = absurd run
same_lines programs w v (e ∷ events) (l ∷ lines) [] valid good fine d bytes run other = absurd other
same_lines programs w v (e ∷ events) (l ∷ lines) (m ∷ others) valid good fine d bytes (j, fresh, here, rest) (k, also, there, more) =
    let both : StepsAlike programs w v e j k = steps_alike programs w v e j k valid good fine d fresh also in
    let line : l ≡ m = sym here ∙ sym both.line ∙ there in
    let tails : lines ≡ others =
    same_lines programs (step programs w e j).world (step programs v e k).world events lines others valid
    (kept programs valid good.numbering w good.world good.walks e bytes.0 j fresh) (kept programs valid fine.numbering v fine.world fine.walks e bytes.0 k also)
    both.next bytes.1 rest more
    in
    cc

pub same_lines_here : RunsShowTheSameLines
same_lines_here programs w events lines others valid good bytes run other =
    same_lines programs w w events lines others valid good good (differs_self w) bytes run other

-- ## Runs of worlds that are alike
pub same_runs : AlikeWorldsRunAlike
same_runs programs w v events valid good alike bytes = record {
  there = runs_there programs w v events valid good alike bytes;
  here = runs_here programs w v events valid good alike bytes;
}
  where
    runs_there : (programs : Programs) (w v : World) (events : List Event) → ArePrograms programs → IsWellFormed programs w → AlikeWorlds w v →
        AreEvents events → (lines : List (Option Acted)) → Runs programs w events lines → Runs programs v events lines
    runs_there programs w v [] valid good alike bytes [] run = tt
    runs_there programs w v [] valid good alike bytes (l ∷ lines) run = absurd run
    runs_there programs w v (e ∷ events) valid good alike bytes [] run = absurd run
    runs_there programs w v (e ∷ events) valid good alike bytes (l ∷ lines) (choice, fresh, here, rest) =
        let acts : ActsAs programs w v = act_alike programs w v valid good alike in
        let both : StepsAsOne programs w v e choice = acts.steps e choice bytes.0 fresh in (
          choice,
          acts.fresh_there choice fresh,
          both.line ∙ here,
          runs_there programs (step programs w e choice).world (step programs v e choice).world events valid
              (kept programs valid good.numbering w good.world good.walks e bytes.0 choice fresh) both.next bytes.1 lines rest,
        )

    runs_here : (programs : Programs) (w v : World) (events : List Event) → ArePrograms programs → IsWellFormed programs w → AlikeWorlds w v →
        AreEvents events → (lines : List (Option Acted)) → Runs programs v events lines → Runs programs w events lines
    runs_here programs w v [] valid good alike bytes [] run = tt
    runs_here programs w v [] valid good alike bytes (l ∷ lines) run = absurd run
    runs_here programs w v (e ∷ events) valid good alike bytes [] run = absurd run
    runs_here programs w v (e ∷ events) valid good alike bytes (l ∷ lines) (choice, also, there, rest) =
        let acts : ActsAs programs w v = act_alike programs w v valid good alike in
        let fresh : IsFresh w.files choice = acts.fresh_here choice also in
        let both : StepsAsOne programs w v e choice = acts.steps e choice bytes.0 fresh in (
          choice,
          fresh,
          sym both.line ∙ there,
          runs_here programs (step programs w e choice).world (step programs v e choice).world events valid
              (kept programs valid good.numbering w good.world good.walks e bytes.0 choice fresh) both.next bytes.1 lines rest,
        )
