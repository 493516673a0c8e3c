-- The table of rights is of the names and bits of rights' own.
use Rattle.std.proofs.Common.{◌≡◌, ℕ, ◌≤◌, List, ap, sym, subst, ◌∙◌, map, take, length, arith}
use Rattle.std.proofs.lemmas.List.{length-map, length-take-le, take-map}
use Rattle.std.proofs.lemmas.Simd.{map-map}
use Rattle.bitflags.specs.declared.Flag.{Flag}
use Rattle.rights.specs.Sets.{right_names}
use Rattle.rights.specs.declared.sets.Rights.{Rights}
use Rattle.call_facts.specs.MemberViews.{right_seen}
use Rattle.call_facts.specs.Sets.{named_row, right_rows}

-- a row of the table of rights
abbrev pub row_seen : Flag Rights → List ℕ × ℕ
row_seen row = (row.name.now, row.value.0)

pub listed-all : (rows : List (Flag Rights)) → map row_seen rows ≡ right_names → map right_seen (take 46 rows) ≡ right_rows
listed-all rows all =
    sym (map-map named_row row_seen (take 46 rows))
    ∙ ap (map named_row) (sym (take-map row_seen 46 rows) ∙ ap (take 46) all)

pub listed-long : (rows : List (Flag Rights)) → map row_seen rows ≡ right_names → 46 ≡ length (take 46 rows)
listed-long rows all =
    sym (length-take-le 46 rows (subst (λ n. 46 ≤ n) (ap length (sym all) ∙ length-map rows row_seen) (grind (arith))))
