use Rattle.std.proofs.Common.{◌≡◌, ◌+◌, ◌≤◌, map, drop}
use Rattle.std.specs.Prelude.{sum_by}
use Rattle.texts.specs.Parts.{parts}
use Rattle.call_facts.specs.Sets.{bits_named}
use Rattle.call_facts.proofs.sets.set_of.Given as goal

-- the set so far, and what the rows that are left add to it
abbrev pub invariant-loop-row : goal.invariant-loop-row
invariant-loop-row g l = record {
  within : l.set + sum_by (λ r. r.bit) (map g.M.Member.member (drop l.row-index l.rows)) ≤ sum_by (λ r. r.bit) (map g.M.Member.member l.rows);
  leads : l.set + bits_named (map g.M.Member.member (drop l.row-index l.rows)) (parts 44 l.list) ≡ bits_named (map g.M.Member.member l.rows) (parts 44 l.list);
}
