-- What looks at a certificate's channels alone says the same of its expansion.
use Rattle.std.proofs.Common.{◌≡◌, ℕ, List, [], refl}
use Rattle.std.specs.Prelude.{◌&&◌, not, Option, Some, None, if◌then◌else◌}
use Rattle.std.specs.List.{flat_map, list_all}
use Rattle.certificate.specs.Bounds.{Target, In_grant, Any_node, Socket, Unknown, Held, Bound, PointBound, Version, One, Two, Three, Four, Certificate}
use Rattle.rights.specs.Sides.{other_side}
use Rattle.instruction_set.specs.Programs.{Syscall, Open, Openat, Read, Write, Sendfd, Recvfd, Lseek, Ftruncate, Fsync, Fstat, Fcntl_getfl, Fcntl_setfl, Fstatat, Stat, Mkdirat, Mkdir}
use Rattle.instruction_set.specs.Programs.{Unlinkat, Unlink, Renameat, Dup, Close, Cap_rights_limit, Cap_fcntls_limit, Cap_enter, Cap_getmode, Socketpair, Fork, Use as Call_use, Instruction, Set, Mov}
use Rattle.instruction_set.specs.Programs.{Add, In, Jmp, Jeq, Jlt, Halt, Invoke}
use Rattle.task.specs.Plans.{Grant, Plan}
use Rattle.rules.specs.Slots.{OpenSlot, slots_in}
use Rattle.rules.specs.Uses.{Passing, Passes_none, Sends, Receives, Use, uses}
use Rattle.rules.specs.Demands.{demands, keeps_single}
use Rattle.rules.specs.Channels.{channel_at, sends_into, keeps_channel_bound, sends_known, receives_known, has_channel, all_have_channels}
use Rattle.rules.specs.Outcomes.{is_formed, is_surely_on, opens_beneath, comes, receives_at, successes_of, successes, is_followed, successes_in, beneath_target}
use Rattle.rules.specs.Rules.{authority_tests, mark_tests, tests_without}
use Rattle.rules.specs.Expansions.{expanded, expanded_points, expansion}

-- the certificate with other points, and in another version
module _ (version : Version) (points : List PointBound) (c : Certificate) where
  abbrev with_points : Certificate
  with_points = record c { version = version; points = points }

  sends_known_same : (t : Target) → sends_known with_points t ≡ sends_known c t
  unfolding channel_at
  sends_known_same (In_grant name) = refl
  sends_known_same Any_node = refl
  sends_known_same (Socket class side) = refl
  sends_known_same Unknown = refl

  receives_known_same : (t : Target) → receives_known with_points t ≡ receives_known c t
  unfolding channel_at
  receives_known_same (In_grant name) = refl
  receives_known_same Any_node = refl
  receives_known_same (Socket class side) = refl
  receives_known_same Unknown = refl

  has_channel_same : (u : Use) (p : Passing) → has_channel with_points u p ≡ has_channel c u p
  has_channel_same u Passes_none = refl
  has_channel_same u (Sends slots) = sends_known_same u.slot.held.target
  has_channel_same u Receives = receives_known_same u.slot.held.target

  all_have_same : (through : List Use) → all_have_channels with_points through ≡ all_have_channels c through
  all_have_same through = λ k. list_all (λ (u : Use). has_channel_same u u.passing k) through

  sends_into_same : (t : Target) (slots : List OpenSlot) → sends_into with_points t slots ≡ sends_into c t slots
  unfolding channel_at
  sends_into_same (In_grant name) slots = refl
  sends_into_same Any_node slots = refl
  sends_into_same (Socket class side) slots = refl
  sends_into_same Unknown slots = refl

  keeps_same : (u : Use) (p : Passing) → keeps_channel_bound with_points u p ≡ keeps_channel_bound c u p
  keeps_same u Passes_none = refl
  keeps_same u (Sends slots) = sends_into_same u.slot.held.target slots
  keeps_same u Receives = refl

  formed_same : (b : Bound) (call : Syscall) → is_formed with_points b call ≡ is_formed c b call
  formed_same b call = λ k. keeps_single b call && all_have_same (uses b call) k && not (is_surely_on b.mode && (demands call).is_global)

  module _ (grants : List Grant) (name : List ℕ) (point : ℕ) (b : Bound) where
    beneath_same : (h : Held) (t : Option Target) → opens_beneath grants with_points name point b h t ≡ opens_beneath grants c name point b h t
    beneath_same h None = refl
    beneath_same h (Some target) = refl

    comes_same : (sends : Option (Option Held)) → comes grants with_points name point b sends ≡ comes grants c name point b sends
    comes_same None = refl
    comes_same (Some None) = refl
    comes_same (Some (Some h)) = refl

    receives_same : (t : Target) → receives_at grants with_points name point b t ≡ receives_at grants c name point b t
    unfolding channel_at
    receives_same (In_grant grant) = refl
    receives_same Any_node = refl
    receives_same (Socket class side) = comes_same (channel_at c class (other_side side))
    receives_same Unknown = refl

    call_same : (call : Syscall) → successes_of grants with_points name point b call ≡ successes_of grants c name point b call
    call_same (Open path f) = refl
    call_same (Openat x path f) = λ k. flat_map (λ (s : OpenSlot). beneath_same s.held (beneath_target s.held.target) k) (slots_in b x)
    call_same (Read x) = refl
    call_same (Write x v) = refl
    call_same (Sendfd x y v) = refl
    call_same (Recvfd x) = λ k. flat_map (λ (s : OpenSlot). receives_same s.held.target k) (slots_in b x)
    call_same (Lseek x v) = refl
    call_same (Ftruncate x v) = refl
    call_same (Fsync x) = refl
    call_same (Fstat x) = refl
    call_same (Fcntl_getfl x) = refl
    call_same (Fcntl_setfl x v) = refl
    call_same (Fstatat x path) = refl
    call_same (Stat path) = refl
    call_same (Mkdirat x path) = refl
    call_same (Mkdir path) = refl
    call_same (Unlinkat x path directory) = refl
    call_same (Unlink path directory) = refl
    call_same (Renameat x from y to) = refl
    call_same (Dup x) = refl
    call_same (Close x) = refl
    call_same (Cap_rights_limit x rights) = refl
    call_same (Cap_fcntls_limit x commands) = refl
    call_same Cap_enter = refl
    call_same Cap_getmode = refl
    call_same Socketpair = refl
    call_same Fork = refl
    call_same (Call_use x right) = refl

    pub instruction_same : (i : Instruction) → successes grants with_points name point b i ≡ successes grants c name point b i
    unfolding successes
    instruction_same (Set r value) = refl
    instruction_same (Mov r source) = refl
    instruction_same (Add r addend) = refl
    instruction_same (In r) = refl
    instruction_same (Jmp target) = refl
    instruction_same (Jeq r value target) = refl
    instruction_same (Jlt r value target) = refl
    instruction_same Halt = refl
    instruction_same (Invoke call otherwise) = λ k. if formed_same b call k then call_same call k else []

  pub followed_points : (plan : Plan) (name : List ℕ) (point : ℕ) (b : Bound) (i : Instruction)
      → successes_in plan with_points name point b i ≡ successes_in plan c name point b i
  unfolding successes_in
  followed_points plan name point b i = λ k. if is_followed plan name i then instruction_same plan.grants name point b i k else []

-- THE EXPANSION
module _ (plan : Plan) (c : Certificate) where
  channels-in : (v : Version) (through : List Use) → all_have_channels (expanded v plan c) through ≡ all_have_channels c through
  channels-in One through = refl
  channels-in Two through = all_have_same One (expanded_points plan c) c through
  channels-in Three through = all_have_same c.version (expanded_points plan c) c through
  channels-in Four through = all_have_same c.version (expanded_points plan c) c through

  pub expansion_channels : (through : List Use) → all_have_channels (expansion plan c) through ≡ all_have_channels c through
  expansion_channels through = channels-in c.version through

  has-in : (v : Version) (u : Use) (p : Passing) → has_channel (expanded v plan c) u p ≡ has_channel c u p
  has-in One u p = refl
  has-in Two u p = has_channel_same One (expanded_points plan c) c u p
  has-in Three u p = has_channel_same c.version (expanded_points plan c) c u p
  has-in Four u p = has_channel_same c.version (expanded_points plan c) c u p

  pub expansion_has : (u : Use) (p : Passing) → has_channel (expansion plan c) u p ≡ has_channel c u p
  expansion_has u p = has-in c.version u p

  keeps-in : (v : Version) (u : Use) (p : Passing) → keeps_channel_bound (expanded v plan c) u p ≡ keeps_channel_bound c u p
  keeps-in One u p = refl
  keeps-in Two u p = keeps_same One (expanded_points plan c) c u p
  keeps-in Three u p = keeps_same c.version (expanded_points plan c) c u p
  keeps-in Four u p = keeps_same c.version (expanded_points plan c) c u p

  pub expansion_keeps : (u : Use) (p : Passing) → keeps_channel_bound (expansion plan c) u p ≡ keeps_channel_bound c u p
  expansion_keeps u p = keeps-in c.version u p

  successes-in : (v : Version) (name : List ℕ) (point : ℕ) (b : Bound) (i : Instruction)
      → successes plan.grants (expanded v plan c) name point b i ≡ successes plan.grants c name point b i
  successes-in One name point b i = refl
  successes-in Two name point b i = instruction_same One (expanded_points plan c) c plan.grants name point b i
  successes-in Three name point b i = instruction_same c.version (expanded_points plan c) c plan.grants name point b i
  successes-in Four name point b i = instruction_same c.version (expanded_points plan c) c plan.grants name point b i

  pub expansion_successes : (name : List ℕ) (point : ℕ) (b : Bound) (i : Instruction)
      → successes plan.grants (expansion plan c) name point b i ≡ successes plan.grants c name point b i
  expansion_successes name point b i = successes-in c.version name point b i

  pub followed_same : (name : List ℕ) (point : ℕ) (b : Bound) (i : Instruction)
      → successes_in plan (expansion plan c) name point b i ≡ successes_in plan c name point b i
  unfolding successes_in
  followed_same name point b i = λ k. if is_followed plan name i then expansion_successes name point b i k else []

  -- What is asked of authorities looks at them and at the channels.
  without-in : (v : Version) (program point : ℕ) → tests_without plan (expanded v plan c) program point ≡ tests_without plan c program point
  unfolding tests_without authority_tests channel_at
  without-in One program point = refl
  without-in Two program point = refl
  without-in Three program point = refl
  without-in Four program point = refl

  pub expansion_without : (program point : ℕ) → tests_without plan (expansion plan c) program point ≡ tests_without plan c program point
  expansion_without program point = without-in c.version program point

  marks-in : (v : Version) (program point : ℕ) (i : Instruction) (b : Bound)
      → mark_tests plan (expanded v plan c) program point i b ≡ mark_tests plan c program point i b
  unfolding mark_tests authority_tests channel_at
  marks-in One program point i b = refl
  marks-in Two program point i b = refl
  marks-in Three program point i b = refl
  marks-in Four program point i b = refl

  pub expansion_marks : (program point : ℕ) (i : Instruction) (b : Bound)
      → mark_tests plan (expansion plan c) program point i b ≡ mark_tests plan c program point i b
  expansion_marks program point i b = marks-in c.version program point i b
