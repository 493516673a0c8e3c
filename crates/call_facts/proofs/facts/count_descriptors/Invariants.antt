use Rattle.std.proofs.Common.{◌≡◌, ◌+◌, ◌≤◌, drop}
use Rattle.std.specs.Prelude.{count_by}
use Rattle.call_facts.specs.FactViews.{roles_seen}
use Rattle.call_facts.specs.Facts.{is_descriptor}
use Rattle.call_facts.proofs.facts.count_descriptors.Given as goal

-- the count so far, and that of the arguments that are left
abbrev pub invariant-loop-role : goal.invariant-loop-role
invariant-loop-role l = record {
  few : l.count ≤ l.role-index;
  leads : l.count + count_by is_descriptor (roles_seen (drop l.role-index l.roles)) ≡ count_by is_descriptor (roles_seen l.roles);
}
