-- Certificates and their lines, for rows.
use Rattle.std.specs.Prelude.{ℕ, List, [], ◌∷◌, ◌++◌, codes, Some, None}
use Rattle.std.specs.List.{flat_map}
use Rattle.rights.specs.Classes.{Initial, Made_at}
use Rattle.rights.specs.Sets.{all_rights, both_parts, further_right}
use Rattle.certificate.specs.Bounds.{ModeBound, Off, On, Either, In_grant, Socket, Unknown, Held, Open, Maybe, Bound, PointBound, One, Three, Four, Certificate, with_interval, with_slot}
use Rattle.certificate.specs.Growth.{open_bound}
use Rattle.certificate_text.specs.Texts.{ended_line}

abbrev pub text : List (List ℕ) → List ℕ
text lines = flat_map ended_line lines

-- all fourteen rights and all commands, of what is at or beneath a grant; of further rights nothing is said
abbrev pub all_in : List ℕ → Held
all_in grant = record { target = In_grant grant; least = 0x3fff; greatest = all_rights; least_fcntls = 3; greatest_fcntls = 3 }

abbrev pub two_grants : ModeBound → Bound
two_grants mode = with_slot (with_slot (open_bound mode) 0 (Open (all_in (codes "work")))) 1 (Open (all_in (codes "log")))

abbrev pub at_main : ℕ → Bound → PointBound
at_main point bound = record { program = codes "main"; point = point; bound = bound }

-- three points of one program, with two directories open
abbrev pub three_points : Certificate
three_points = record { version = One; points = at_main 0 (two_grants Off) ∷ at_main 1 (two_grants On) ∷ at_main 2 (two_grants On) ∷ []; channels = []; authorities = [] }

abbrev pub work_line : List ℕ
work_line = codes "fd 0 open grant work 3fff 3fff 3 3"

abbrev pub log_line : List ℕ
log_line = codes "fd 1 open grant log 3fff 3fff 3 3"

abbrev pub block_0 : List (List ℕ)
block_0 = codes "at main 0 off" ∷ work_line ∷ log_line ∷ []

abbrev pub block_1 : List (List ℕ)
block_1 = codes "at main 1 on" ∷ work_line ∷ log_line ∷ []

abbrev pub block_2 : List (List ℕ)
block_2 = codes "at main 2 on" ∷ work_line ∷ log_line ∷ []

abbrev pub three_blocks : List ℕ
three_blocks = text (codes "capcert 1" ∷ (block_0 ++ block_1 ++ block_2 ++ codes "end" ∷ []))

-- a point with a register, an end of an initial pair, a descriptor that is perhaps there, and two channels
abbrev pub one_end : Held
one_end = record { target = Socket (Initial 0) 1; least = 1; greatest = both_parts 3 0xffffffff; least_fcntls = 0; greatest_fcntls = 2 }

abbrev pub made_end : Held
made_end = record { target = Socket (Made_at (codes "main") 7) 0; least = 0; greatest = all_rights; least_fcntls = 0; greatest_fcntls = 3 }

abbrev pub anything : Held
anything = record { target = Unknown; least = 0; greatest = all_rights; least_fcntls = 0; greatest_fcntls = 3 }

abbrev pub with_channels : Certificate
with_channels = record {
  version = One;
  points =
      at_main 255
      (with_slot (with_slot (with_slot (with_interval (open_bound Either) 7 (record { low = 1; high = 4294967295 })) 0 (Maybe one_end)) 3 (Open made_end)) 15 (Maybe anything))
      ∷ [];
  channels =
      (record { class = Initial 31; side = 0; sends = None }) ∷ (record { class = Made_at (codes "main") 7; side = 1; sends = Some anything }) ∷ [];
  authorities = [];
}

abbrev pub channel_lines : List (List ℕ)
channel_lines =
    codes "capcert 1" ∷ codes "at main 255 maybe" ∷ codes "r7 1 4294967295" ∷ codes "fd 0 maybe sock @0 b 0001 0003 0 2"
    ∷ codes "fd 3 open sock main:7 a 0000 3fff 0 3" ∷ codes "fd 15 maybe unknown 0000 3fff 0 3" ∷ codes "chan @31 a none"
    ∷ codes "chan main:7 b unknown 0000 3fff 0 3" ∷ codes "end" ∷ []

-- two programs that share a pair, of which one may hold no more than its authority
abbrev pub few_in_work : ℕ → Held
few_in_work greatest = record { target = In_grant (codes "work"); least = 0x81; greatest = both_parts greatest 0xffffffff; least_fcntls = 3; greatest_fcntls = 3 }

abbrev pub first_end : Held
first_end = record { target = Socket (Initial 0) 0; least = 0x3fff; greatest = all_rights; least_fcntls = 3; greatest_fcntls = 3 }

abbrev pub with_authority : Certificate
with_authority = record {
  version = Three;
  points =
      at_main 0 (with_slot (two_grants Off) 2 (Open first_end))
      ∷ at_main 2 (with_slot (with_slot (two_grants Off) 0 (Open (few_in_work 0x3fff))) 2 (Open first_end)) ∷ [];
  channels =
      (record { class = Initial 0; side = 0; sends = Some (few_in_work 0x81) }) ∷ (record { class = Initial 0; side = 1; sends = Some anything }) ∷ [];
  authorities =
      (record {
        program = codes "child";
        ceilings = (record { grant = codes "work"; rights = 0x81 }) ∷ [];
        holds = (record { class = Initial 0; side = 1 }) ∷ [];
      }) ∷ [];
}

abbrev pub authority_lines : List (List ℕ)
authority_lines =
    codes "capcert 3" ∷ codes "at main 0 off" ∷ work_line ∷ log_line ∷ codes "fd 2 open sock @0 a 3fff 3fff 3 3" ∷ codes "at main 2 off"
    ∷ codes "fd 0 open grant work 0081 3fff 3 3" ∷ log_line ∷ codes "fd 2 open sock @0 a 3fff 3fff 3 3" ∷ codes "chan @0 a grant work 0081 0081 3 3"
    ∷ codes "chan @0 b unknown 0000 3fff 0 3" ∷ codes "auth child" ∷ codes "ceil work 0081" ∷ codes "hold @0 b" ∷ codes "end" ∷ []

-- Version 4: a descriptor that surely may be waited for and perhaps be locked, one without further rights, and one of which nothing is
-- known; and ceilings with further rights, also without any of the fourteen.
abbrev pub waited_for : Held
waited_for = record {
  target = In_grant (codes "work");
  least = both_parts 0x81 0x10;
  greatest = both_parts 0x3fff 0x1010;
  least_fcntls = 3;
  greatest_fcntls = 3;
}

abbrev pub plain_end : Held
plain_end = record { target = Socket (Initial 0) 0; least = 3; greatest = 3; least_fcntls = 0; greatest_fcntls = 0 }

abbrev pub with_further : Certificate
with_further = record {
  version = Four;
  points = at_main 0 (with_slot (with_slot (with_slot (open_bound Off) 0 (Open waited_for)) 1 (Maybe plain_end)) 2 (Maybe anything)) ∷ [];
  channels =
      (record { class = Initial 0; side = 0; sends = Some waited_for }) ∷ (record { class = Initial 0; side = 1; sends = None }) ∷ [];
  authorities =
      (record {
        program = codes "child";
        ceilings = (record { grant = codes "log"; rights = further_right 31 }) ∷ (record { grant = codes "work"; rights = both_parts 0x81 0x10 }) ∷ [];
        holds = (record { class = Initial 0; side = 1 }) ∷ [];
      }) ∷ [];
}

abbrev pub further_lines : List (List ℕ)
further_lines =
    codes "capcert 4" ∷ codes "at main 0 off" ∷ codes "fd 0 open grant work 0081 3fff 3 3 00000010 00001010"
    ∷ codes "fd 1 maybe sock @0 a 0003 0003 0 0 00000000 00000000" ∷ codes "fd 2 maybe unknown 0000 3fff 0 3 00000000 ffffffff"
    ∷ codes "chan @0 a grant work 0081 3fff 3 3 00000010 00001010" ∷ codes "chan @0 b none" ∷ codes "auth child"
    ∷ codes "ceil log 0000 80000000" ∷ codes "ceil work 0081 00000010" ∷ codes "hold @0 b" ∷ codes "end" ∷ []
