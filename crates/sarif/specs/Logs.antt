-- What a log of findings has, in the words of SARIF 2.1.0 (OASIS, 2020).
use Rattle.std.specs.Prelude.{ℕ, ◌++◌, Bool, false, List, Option, codes, nat_eq}
use Rattle.std.specs.Fmt.{decimal}
use Rattle.std.specs.Str.{bytes_eq}

-- how much a finding weighs (3.27.10)
pub data Level : Type 0 where
  error : Level
  warning : Level
  note : Level

-- What a rule is called: `K` and its number, or a name (3.49.3).
pub data Id : Type 0 where
  numbered : ℕ → Id
  named : List ℕ → Id

abbrev pub id_text : Id → List ℕ
id_text (numbered number) = codes "K" ++ decimal number
id_text (named name) = name

abbrev pub is_same_id : Id → Id → Bool
is_same_id (numbered number) (numbered one) = nat_eq number one
is_same_id (named name) (named one) = bytes_eq name one
is_same_id (numbered number) (named one) = false
is_same_id (named name) (numbered one) = false

-- What a finding may be of: its id, its usual weight, what it is called, what it says, and what to do (3.49).
pub record Rule : Type 0 where
  pub id : Id
  pub level : Level
  pub title : List ℕ
  pub says : List ℕ
  pub help : List ℕ

-- a line of the file, and a column of it where that is known, each counted from 1 (3.30)
pub record Place : Type 0 where
  pub line : ℕ
  pub column : Option ℕ

-- A finding: the id of its rule, its weight, its text, where in the file it is, and further places that it tells of (3.27).
pub record Finding : Type 0 where
  pub rule : Id
  pub level : Level
  pub message : List ℕ
  pub place : Option Place
  pub related : List Place

-- A log of one run on one file: a reference to the file, the rules, and the findings (3.13, 3.14).
pub record Log : Type 0 where
  pub uri : List ℕ
  pub rules : List Rule
  pub findings : List Finding
