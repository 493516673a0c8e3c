use Rattle.std.proofs.Common.{◌≡◌, false, ◌++◌, map, drop}
use Rattle.std.specs.List.{flat_map}
use Rattle.records.specs.EntryViews.{calls_seen, reason_seen}
use Rattle.records.specs.Named.{reason_name}
use Rattle.records.specs.Texts.{count, counted_text, is_left_out}
use Rattle.records.proofs.writing.add_reasons.Given as goal

-- with the reasons that are left it is the whole text
abbrev pub invariant-loop-reason : goal.invariant-loop-reason
invariant-loop-reason l = record {
  keeps : l.page.is_short ≡ false → l.fn.page.is_short ≡ false;
  adds : l.page.is_short ≡ false →
      l.page.bytes.items ++ flat_map (λ reason. counted_text (reason_name reason) (count (is_left_out reason) (calls_seen l.entries))) (map reason_seen (drop l.reason-index l.reasons))
      ≡ l.fn.page.bytes.items ++ flat_map (λ reason. counted_text (reason_name reason) (count (is_left_out reason) (calls_seen l.entries))) (map reason_seen l.reasons);
}
