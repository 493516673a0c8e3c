-- What the rules refuse, and what they let through: a probe for each rule. (own)
use Rattle.std.specs.Prelude.{◌≡◌, true, false, [], ◌∷◌, codes, Some, None}
use Rattle.rights.specs.Sets.{all_rights, all_commands, getfl_command, setfl_command, lookup_right, read_right}
use Rattle.rights.specs.Opens.{OpenRequest, open_request}
use Rattle.instruction_set.specs.Programs.{Register, Number, Open, Openat, Read, Sendfd, Recvfd, Fcntl_getfl, Mkdirat, Mkdir, Renameat, Close, Cap_rights_limit, Cap_enter, Dup, Halt, Invoke}
use Rattle.certificate.specs.Bounds.{Off, On, Either, Closed, Open as Opened, Maybe}
use Rattle.rules.specs.Probes.{bound_of_slots, loosest, in_work, in_log, any_node, side_a, side_b, with_least, channel, plain_probe, probed, probe, probe_over, broken}

abbrev pub to_read : OpenRequest
to_read = open_request true false false false false

-- Each rule refuses something that no rule before it refuses.
pub record EachRuleIsBroken : Type 0 where
  -- the process isn't in the mode
  pub k1 : probed (record (plain_probe loosest) { main = bound_of_slots On [] }) Halt ≡ Some (0, 0, 1)
  -- the mode is on after `cap_enter`
  pub k2 : probed (record (plain_probe (bound_of_slots Off [])) { next = Some (bound_of_slots Off []) }) (Invoke Cap_enter 1) ≡ broken 2
  -- a call that can only fail leaves the mode off
  pub k3 : probed (record (plain_probe (bound_of_slots Off [])) { next = Some (bound_of_slots On []) }) (Invoke (Dup (Number 0)) 1) ≡ broken 3
  -- a register may be any number
  pub k4 : probe (Close (Register 0)) Off [] ≡ broken 4
  -- slot 0 may be free
  pub k5 : probed (plain_probe (bound_of_slots Off (Maybe in_work ∷ Opened in_work ∷ []))) (Invoke (Dup (Number 1)) 1) ≡ broken 5
  -- the mode may be on
  pub k6 : probe (Open (codes "/work") to_read) Either [] ≡ broken 6
  pub k7 : probe (Read (Number 0)) On (with_least in_work lookup_right all_commands ∷ []) ≡ broken 7
  pub k8 : probe (Fcntl_getfl (Number 0)) On (with_least in_work all_rights setfl_command ∷ []) ≡ broken 8
  pub k9 : probe (Cap_rights_limit (Number 0) read_right) On (with_least in_work lookup_right all_commands ∷ []) ≡ broken 9
  pub k10 : probe (Read (Number 0)) On (any_node ∷ []) ≡ broken 10
  -- the grant doesn't list removing
  pub k11 : probe (Renameat (Number 0) (codes "in") (Number 0) (codes "new")) On (in_work ∷ []) ≡ broken 11
  -- whether the mode is on or not
  pub k12 : probe (Mkdirat (Number 0) (codes "new")) Off (any_node ∷ []) ≡ broken 12
  pub k13 : probe (Renameat (Number 0) (codes "in") (Number 1) (codes "in")) Off (in_work ∷ in_log ∷ []) ≡ broken 13
  -- another node than one of the grant may be sent
  pub k14 : probe_over (channel 0 (Some in_work) ∷ []) (Sendfd (Number 0) (Number 1) (Number 0)) Off (side_a ∷ any_node ∷ []) ≡ broken 14
  -- the other side's channel has no line
  pub k15 : probe_over (channel 0 None ∷ []) (Recvfd (Number 0)) Off (side_a ∷ []) ≡ broken 15
  -- the next point has no bound
  pub k16 : probed (record (plain_probe (bound_of_slots Off [])) { next = None }) (Invoke (Dup (Number 0)) 1) ≡ broken 16

-- The same calls are let through where what the rule asks is there.
pub record EachRuleIsKept : Type 0 where
  pub k1 : probed (record (plain_probe loosest) { main = bound_of_slots Off [] }) Halt ≡ None
  pub k2 : probed (record (plain_probe (bound_of_slots Off [])) { next = Some (bound_of_slots On []) }) (Invoke Cap_enter 1) ≡ None
  pub k3 : probed (record (plain_probe (bound_of_slots Off [])) { next = Some (bound_of_slots Off []) }) (Invoke (Dup (Number 0)) 1) ≡ None
  pub k4 : probe (Close (Number 0)) Off (in_work ∷ []) ≡ None
  pub k5 : probed (plain_probe (bound_of_slots Off (Opened in_work ∷ Closed ∷ Maybe in_work ∷ []))) (Invoke (Dup (Number 0)) 1) ≡ None
  pub k6 : probe (Open (codes "/work") to_read) Off [] ≡ None
  pub k7_k10_k11 : probe (Read (Number 0)) On (with_least in_work read_right 0 ∷ []) ≡ None
  pub k8 : probe (Fcntl_getfl (Number 0)) On (with_least in_work all_rights getfl_command ∷ []) ≡ None
  pub k9 : probe (Cap_rights_limit (Number 0) read_right) On (with_least in_work read_right all_commands ∷ []) ≡ None
  pub k12 : probe (Mkdirat (Number 0) (codes "new")) On (in_work ∷ []) ≡ None
  pub k13 : probe (Renameat (Number 0) (codes "in") (Number 1) (codes "new")) Off (in_work ∷ in_work ∷ []) ≡ None
  pub k14 : probe_over (channel 0 (Some in_work) ∷ []) (Sendfd (Number 0) (Number 1) (Number 0)) On (side_a ∷ in_work ∷ []) ≡ None
  pub k15 : probe_over (channel 0 None ∷ []) (Recvfd (Number 0)) Off (side_b ∷ []) ≡ None
  pub k16 : probed (record (plain_probe (bound_of_slots Off [])) { next = Some loosest }) (Invoke (Dup (Number 0)) 1) ≡ None

-- Where two rules are broken at a point, the lesser is told.
pub record LeastIsTold : Type 0 where
  pub k1_k2 : probed (record (plain_probe (bound_of_slots On [])) { started = 1; next = Some (bound_of_slots Off []) }) (Invoke Cap_enter 1) ≡ broken 1
  pub k2_k3 : probed (record (plain_probe (bound_of_slots Off (Opened in_work ∷ []))) { next = Some (bound_of_slots On []) }) (Invoke (Dup (Number 0)) 1) ≡ broken 2
  pub k3_k4 : probed (record (plain_probe (bound_of_slots Off [])) { next = Some (bound_of_slots On []) }) (Invoke (Close (Register 0)) 1) ≡ broken 3
  pub k4_k9 : probe (Cap_rights_limit (Register 0) read_right) Off (with_least in_work lookup_right all_commands ∷ []) ≡ broken 4
  pub k5_k6 : probed (plain_probe (bound_of_slots On (Maybe in_work ∷ []))) (Invoke (Open (codes "/work") to_read) 1) ≡ broken 5
  pub k5_k7 : probed (plain_probe (bound_of_slots Off (Maybe (with_least in_work 0 0) ∷ []))) (Invoke (Openat (Number 0) (codes "in") to_read) 1) ≡ broken 5
  pub k6_k12 : probe (Mkdir (codes "/new")) On [] ≡ broken 6
  pub k7_k8 : probe (Fcntl_getfl (Number 0)) Off (with_least in_work 0 0 ∷ []) ≡ broken 7
  pub k7_k10 : probe (Read (Number 0)) On (with_least any_node 0 0 ∷ []) ≡ broken 7
  pub k8_k16 : probed (record (plain_probe (bound_of_slots Off (Opened (with_least in_work all_rights 0) ∷ []))) { next = None }) (Invoke (Fcntl_getfl (Number 0)) 1) ≡ broken 8
  pub k9_k16 : probed (record (plain_probe (bound_of_slots Off (Opened (with_least in_work 0 0) ∷ []))) { next = None }) (Invoke (Cap_rights_limit (Number 0) read_right) 1) ≡ broken 9
  pub k10_k11 : probe (Renameat (Number 0) (codes "in") (Number 1) (codes "in")) On (any_node ∷ in_work ∷ []) ≡ broken 10
  pub k11_k13 : probe (Renameat (Number 0) (codes "in") (Number 1) (codes "in")) On (in_work ∷ in_log ∷ []) ≡ broken 11
  pub k12_k13 : probe (Renameat (Register 0) (codes "in") (Number 1) (codes "in")) Off (any_node ∷ in_work ∷ in_log ∷ []) ≡ broken 12
  pub k13_k16 : probed (record (plain_probe (bound_of_slots Off (Opened in_work ∷ Opened in_log ∷ []))) { next = None })
      (Invoke (Renameat (Number 0) (codes "in") (Number 1) (codes "in")) 1) ≡ broken 13
  pub k14_k15 : probe_over (channel 0 None ∷ []) (Sendfd (Register 0) (Number 2) (Number 0)) Off (side_a ∷ side_b ∷ []) ≡ broken 14
  pub k15_k16 : probed (record (plain_probe (bound_of_slots Off (Opened side_a ∷ []))) { next = None }) (Invoke (Recvfd (Number 0)) 1) ≡ broken 15
