-- Faulty bytes, the fault of each, and where its line begins, by computation.
use Rattle.std.proofs.Common.{◌≡◌, refl}
use Rattle.std.specs.Fmt.{decimal, digits}
use Rattle.std.specs.Prelude.{◌+◌, ℕ, zero, suc, List, [], ◌∷◌, ◌++◌, codes, take, Ok}
use Rattle.certificate.specs.Bounds.{Three}
use Rattle.certificate_text.specs.Faults.{Syntax, Limit, Order}
use Rattle.certificate.specs.Growth.{empty, asked_of_last, with_last, taken, distinct_behind, above_blocks, above_channels, may_bound_register, may_bound_slot, all_from, on_last}
use Rattle.certificate_text.specs.Readings.{Reading, certificate_of_text, fails, line_of_text, read_behind}
use Rattle.certificate_text.proofs.Samples.{block_0, block_1, block_2, text, three_blocks}

without_its_last_byte : certificate_of_text (take 260 three_blocks) ≡ fails Syntax 257
unfolding certificate_of_text read_behind line_of_text taken distinct_behind above_blocks above_channels may_bound_register may_bound_slot all_from on_last
without_its_last_byte = refl

a_byte_more : certificate_of_text (three_blocks ++ codes "x") ≡ fails Syntax 261
unfolding certificate_of_text read_behind line_of_text taken distinct_behind above_blocks above_channels may_bound_register may_bound_slot all_from on_last
a_byte_more = refl

a_line_feed_more : certificate_of_text (three_blocks ++ 10 ∷ []) ≡ fails Syntax 261
unfolding certificate_of_text read_behind line_of_text taken distinct_behind above_blocks above_channels may_bound_register may_bound_slot all_from on_last
a_line_feed_more = refl

blocks_exchanged : certificate_of_text (text (codes "capcert 1" ∷ (block_1 ++ block_0 ++ block_2 ++ codes "end" ∷ []))) ≡ fails Order 92
unfolding certificate_of_text read_behind line_of_text taken distinct_behind above_blocks above_channels may_bound_register may_bound_slot all_from on_last
blocks_exchanged = refl

nothing_at_all : certificate_of_text [] ≡ fails Syntax 0
unfolding certificate_of_text read_behind line_of_text taken distinct_behind above_blocks above_channels may_bound_register may_bound_slot all_from on_last
nothing_at_all = refl

end_missing : certificate_of_text (codes "capcert 1" ++ 10 ∷ []) ≡ fails Syntax 10
unfolding certificate_of_text read_behind line_of_text taken distinct_behind above_blocks above_channels may_bound_register may_bound_slot all_from on_last
end_missing = refl

-- a first line that tells no version
abbrev of_first : List ℕ → Reading
of_first line = certificate_of_text (text (line ∷ codes "end" ∷ []))

no_version :
    (of_first (codes "capcert 5") ≡ fails Syntax 0) × (of_first (codes "capcert 04") ≡ fails Syntax 0) × (of_first (codes "capcert 03") ≡ fails Syntax 0)
    × (of_first (codes "capcert 0") ≡ fails Syntax 0) ×
    (of_first (codes "capcert 02") ≡ fails Syntax 0)
    × (of_first (codes "capcert 2x") ≡ fails Syntax 0) × (of_first (codes "capcert 12") ≡ fails Syntax 0) × (of_first (codes "capcert 1 ") ≡ fails Syntax 0)
    × (of_first (codes "capcert  2") ≡ fails Syntax 0) × (of_first (codes "capcert 2 1") ≡ fails Syntax 0) × (of_first (codes "capcert") ≡ fails Syntax 0)
    × (of_first (codes "Capcert 2") ≡ fails Syntax 0) × (of_first [] ≡ fails Syntax 0) × (certificate_of_text (codes "capcert 2") ≡ fails Syntax 0)
unfolding certificate_of_text read_behind line_of_text taken distinct_behind above_blocks above_channels may_bound_register may_bound_slot all_from on_last
no_version = (refl, refl, refl, refl, refl, refl, refl, refl, refl, refl, refl, refl, refl, refl)

-- the lines behind the first one
abbrev of_lines : List (List ℕ) → Reading
of_lines lines = certificate_of_text (text (codes "capcert 1" ∷ (lines ++ codes "end" ∷ [])))

first_line_again : of_lines (codes "capcert 1" ∷ []) ≡ fails Syntax 10
unfolding certificate_of_text read_behind line_of_text taken distinct_behind above_blocks above_channels may_bound_register may_bound_slot all_from on_last
first_line_again = refl

-- and where version 2 is told, before it or again
both_versions :
    (of_lines (codes "capcert 2" ∷ []) ≡ fails Syntax 10)
    × (certificate_of_text (text (codes "capcert 2" ∷ codes "capcert 1" ∷ codes "end" ∷ [])) ≡ fails Syntax 10)
    × (certificate_of_text (text (codes "capcert 2" ∷ codes "capcert 2" ∷ codes "end" ∷ [])) ≡ fails Syntax 10)
unfolding certificate_of_text read_behind line_of_text taken distinct_behind above_blocks above_channels may_bound_register may_bound_slot all_from on_last
both_versions = (refl, refl, refl)

-- a line of a block that begins at 10; the line's offset is 24
abbrev in_block : List ℕ → Reading
in_block line = of_lines (codes "at main 0 off" ∷ line ∷ [])

-- form
forms :
    (of_lines (codes "at main 0 of" ∷ []) ≡ fails Syntax 10) × (of_lines (codes "at Main 0 off" ∷ []) ≡ fails Syntax 10)
    × (of_lines (codes "at main 00 off" ∷ []) ≡ fails Syntax 10) × (of_lines (codes "at main 0  off" ∷ []) ≡ fails Syntax 10)
    × (of_lines (codes "at main 0" ∷ []) ≡ fails Syntax 10) × (of_lines (codes "at main 0 off " ∷ []) ≡ fails Syntax 10)
    × (in_block (codes "r0 1") ≡ fails Syntax 24) × (in_block (codes "r 0 1") ≡ fails Syntax 24) × (in_block (codes "r00 0 1") ≡ fails Syntax 24)
    × (in_block (codes "r0 0 4294967295") ≡ fails Syntax 24) × (in_block (codes "r0 2 1") ≡ fails Syntax 24)
    × (in_block (codes "fd 2 any 0000 3fff 0 3") ≡ fails Syntax 24) × (in_block (codes "fd 2 open any 0000 3fff 0") ≡ fails Syntax 24)
    × (in_block (codes "fd 2 open any 000 3fff 0 3") ≡ fails Syntax 24) × (in_block (codes "fd 2 open any 0000 3FFF 0 3") ≡ fails Syntax 24)
    × (in_block (codes "fd 2 open any 0002 0001 3 3") ≡ fails Syntax 24) × (in_block (codes "fd 2 open any 0000 4000 0 3") ≡ fails Syntax 24)
    × (in_block (codes "fd 2 open any 0000 3fff 0 4") ≡ fails Syntax 24) × (in_block (codes "fd 2 open any 0000 3fff 3 0") ≡ fails Syntax 24)
    × (in_block (codes "fd 2 open sock 0 a 0000 3fff 0 3") ≡ fails Syntax 24) × (in_block (codes "fd 2 open sock @0 c 0000 3fff 0 3") ≡ fails Syntax 24)
    × (in_block (codes "fd 2 open none") ≡ fails Syntax 24) × (in_block (codes "chan @0 a") ≡ fails Syntax 24)
    × (in_block (codes "chan @0 a none none") ≡ fails Syntax 24) × (in_block (codes "chan main:0:0 a none") ≡ fails Syntax 24)
    × (in_block [] ≡ fails Syntax 24) × (in_block (codes "auth main") ≡ fails Syntax 24)
unfolding certificate_of_text read_behind line_of_text taken distinct_behind above_blocks above_channels may_bound_register may_bound_slot all_from on_last
forms = (refl, refl, refl, refl, refl, refl, refl, refl, refl, refl, refl, refl, refl, refl, refl, refl, refl, refl, refl, refl, refl, refl, refl, refl, refl, refl, refl)

-- limits, told behind what has no form
limits :
    (of_lines (codes "at main 256 off" ∷ []) ≡ fails Limit 10) × (of_lines (codes "at main 256 of" ∷ []) ≡ fails Syntax 10)
    × (in_block (codes "r8 0 1") ≡ fails Limit 24) × (in_block (codes "r9 0 4294967295") ≡ fails Syntax 24)
    × (in_block (codes "r0 0 4294967296") ≡ fails Limit 24) × (in_block (codes "r0 5000000000 4999999999") ≡ fails Syntax 24)
    × (in_block (codes "r0 99999999999999999999 100000000000000000000") ≡ fails Limit 24)
    × (in_block (codes "fd 16 open any 0000 3fff 0 3") ≡ fails Limit 24) × (in_block (codes "fd 16 open any 0000 3fff 0 9") ≡ fails Syntax 24)
    × (in_block (codes "fd 2 open sock @32 a 0000 3fff 0 3") ≡ fails Limit 24) × (in_block (codes "fd 2 open sock main:256 a 0000 3fff 0 3") ≡ fails Limit 24)
    × (in_block (codes "chan @32 a none") ≡ fails Limit 24) × (in_block (codes "chan main:256 a none") ≡ fails Limit 24)
    × (in_block (codes "chan @32 c none") ≡ fails Syntax 24)
unfolding certificate_of_text read_behind line_of_text taken distinct_behind above_blocks above_channels may_bound_register may_bound_slot all_from on_last
limits = (refl, refl, refl, refl, refl, refl, refl, refl, refl, refl, refl, refl, refl, refl)

-- places
places :
    (of_lines (codes "r0 0 1" ∷ []) ≡ fails Order 10) × (of_lines (codes "fd 0 open any 0000 3fff 0 3" ∷ []) ≡ fails Order 10)
    × (in_block (codes "at main 0 off") ≡ fails Order 24) × (in_block (codes "at main 0 on") ≡ fails Order 24) × (in_block (codes "at lain 9 on") ≡ fails Order 24)
    × (of_lines (codes "at main 0 off" ∷ codes "r1 0 1" ∷ codes "r1 0 1" ∷ []) ≡ fails Order 31)
    × (of_lines (codes "at main 0 off" ∷ codes "r1 0 1" ∷ codes "r0 0 1" ∷ []) ≡ fails Order 31)
    × (of_lines (codes "at main 0 off" ∷ codes "fd 1 open any 0000 3fff 0 3" ∷ codes "r1 0 1" ∷ []) ≡ fails Order 52)
    × (of_lines (codes "at main 0 off" ∷ codes "fd 1 open any 0000 3fff 0 3" ∷ codes "fd 1 open any 0000 3fff 0 3" ∷ []) ≡ fails Order 52)
    × (of_lines (codes "chan @0 a none" ∷ codes "at main 0 off" ∷ []) ≡ fails Order 25) × (of_lines (codes "chan @0 a none" ∷ codes "r0 0 1" ∷ []) ≡ fails Order 25)
    × (of_lines (codes "chan @0 a none" ∷ codes "chan @0 a none" ∷ []) ≡ fails Order 25) × (of_lines (codes "chan @0 b none" ∷ codes "chan @0 a none" ∷ []) ≡ fails Order 25)
    × (of_lines (codes "chan @10 b none" ∷ codes "chan @9 a none" ∷ []) ≡ fails Order 26)
    × (of_lines (codes "chan main:0 a none" ∷ codes "chan @0 a none" ∷ []) ≡ fails Order 29)
unfolding certificate_of_text read_behind line_of_text taken distinct_behind above_blocks above_channels may_bound_register may_bound_slot all_from on_last
places = (refl, refl, refl, refl, refl, refl, refl, refl, refl, refl, refl, refl, refl, refl, refl)

-- a ninth program, wherever it stands, which is told before a wrong place
abbrev eight : List (List ℕ)
eight =
    codes "at a 0 on" ∷ codes "at b 0 on" ∷ codes "at c 0 on" ∷ codes "at d 0 on" ∷ codes "at e 0 on" ∷ codes "at f 0 on" ∷ codes "at g 0 on"
    ∷ codes "fd 0 open sock h:0 a 0000 3fff 0 3" ∷ []

nine :
    (of_lines (eight ++ codes "at i 0 on" ∷ []) ≡ fails Limit 115) × (of_lines (eight ++ codes "fd 0 open sock i:0 a 0000 3fff 0 3" ∷ []) ≡ fails Limit 115)
    × (of_lines (eight ++ codes "fd 0 open sock h:0 a 0000 3fff 0 3" ∷ []) ≡ fails Order 115) × (of_lines (eight ++ codes "chan i:0 a none" ∷ []) ≡ fails Limit 115)
    × (of_lines (eight ++ codes "chan @0 a sock i:0 a 0000 3fff 0 3" ∷ []) ≡ fails Limit 115)
unfolding certificate_of_text read_behind line_of_text taken distinct_behind above_blocks above_channels may_bound_register may_bound_slot all_from on_last
nine = (refl, refl, refl, refl, refl)

-- a 33rd class among the channels, and a line of one of the 32
abbrev channels_from : ℕ → ℕ → List (List ℕ)
channels_from zero n = []
channels_from (suc more) n = (codes "chan @" ++ decimal n ++ codes " a none") ∷ channels_from more (n + 1)

classes :
    (of_lines (channels_from 32 0 ++ codes "chan main:0 a none" ∷ []) ≡ fails Limit 512)
    × (of_lines (channels_from 32 0 ++ codes "chan @31 a none" ∷ []) ≡ fails Order 512)
unfolding digits certificate_of_text read_behind line_of_text taken distinct_behind above_blocks above_channels may_bound_register may_bound_slot all_from on_last
classes = (refl, refl)

-- VERSION 3: authorities. Their words are none in the other versions, nor are the versions' first lines again.
abbrev of_second : List (List ℕ) → Reading
of_second lines = certificate_of_text (text (codes "capcert 2" ∷ (lines ++ codes "end" ∷ [])))

abbrev of_third : List (List ℕ) → Reading
of_third lines = certificate_of_text (text (codes "capcert 3" ∷ (lines ++ codes "end" ∷ [])))

not_in_other_versions :
    (of_lines (codes "auth main" ∷ []) ≡ fails Syntax 10) × (of_lines (codes "ceil work 0081" ∷ []) ≡ fails Syntax 10) × (of_lines (codes "hold @0 b" ∷ []) ≡ fails Syntax 10)
    × (of_second (codes "auth main" ∷ []) ≡ fails Syntax 10) × (of_second (codes "ceil work 0081" ∷ []) ≡ fails Syntax 10) × (of_second (codes "hold @0 b" ∷ []) ≡ fails Syntax 10)
    × (of_lines (codes "capcert 3" ∷ []) ≡ fails Syntax 10) × (of_third (codes "capcert 1" ∷ []) ≡ fails Syntax 10) × (of_third (codes "capcert 3" ∷ []) ≡ fails Syntax 10)
unfolding certificate_of_text read_behind line_of_text taken distinct_behind above_blocks above_channels may_bound_register may_bound_slot all_from on_last
not_in_other_versions = (refl, refl, refl, refl, refl, refl, refl, refl, refl)

-- a line of an authority that begins at 10; the line's offset is 20
abbrev in_authority : List ℕ → Reading
in_authority line = of_third (codes "auth main" ∷ line ∷ [])

authority_forms :
    (of_third (codes "auth" ∷ []) ≡ fails Syntax 10) × (of_third (codes "auth Main" ∷ []) ≡ fails Syntax 10) × (of_third (codes "auth main 0" ∷ []) ≡ fails Syntax 10)
    × (of_third (codes "auth main " ∷ []) ≡ fails Syntax 10) × (in_authority (codes "ceil work 0000") ≡ fails Syntax 20) × (in_authority (codes "ceil work 4000") ≡ fails Syntax 20)
    × (in_authority (codes "ceil work 81") ≡ fails Syntax 20) × (in_authority (codes "ceil work 00A1") ≡ fails Syntax 20) × (in_authority (codes "ceil work") ≡ fails Syntax 20)
    × (in_authority (codes "ceil 0work 0081") ≡ fails Syntax 20) × (in_authority (codes "ceil work 0081 0081") ≡ fails Syntax 20) × (in_authority (codes "hold @0") ≡ fails Syntax 20)
    × (in_authority (codes "hold @0 c") ≡ fails Syntax 20) × (in_authority (codes "hold @0 b b") ≡ fails Syntax 20) × (in_authority (codes "hold main b") ≡ fails Syntax 20)
    × (of_third (codes "ceil work 0000" ∷ []) ≡ fails Syntax 10)
unfolding certificate_of_text read_behind line_of_text taken distinct_behind asked_of_last with_last
authority_forms = (refl, refl, refl, refl, refl, refl, refl, refl, refl, refl, refl, refl, refl, refl, refl, refl)

authority_limits :
    (in_authority (codes "hold @32 b") ≡ fails Limit 20) × (in_authority (codes "hold main:256 b") ≡ fails Limit 20) × (in_authority (codes "hold @32 c") ≡ fails Syntax 20)
    × (of_third (codes "hold @32 b" ∷ []) ≡ fails Limit 10)
unfolding certificate_of_text read_behind line_of_text taken distinct_behind asked_of_last with_last
authority_limits = (refl, refl, refl, refl)

authority_places :
    (of_third (codes "ceil work 0081" ∷ []) ≡ fails Order 10) × (of_third (codes "hold @0 b" ∷ []) ≡ fails Order 10) × (in_authority (codes "at main 0 off") ≡ fails Order 20)
    × (in_authority (codes "r0 0 1") ≡ fails Order 20) × (in_authority (codes "fd 0 open any 0000 3fff 0 3") ≡ fails Order 20) × (in_authority (codes "chan @0 a none") ≡ fails Order 20)
    × (in_authority (codes "auth main") ≡ fails Order 20) × (in_authority (codes "auth lain") ≡ fails Order 20)
    × (of_third (codes "auth main" ∷ codes "hold @0 b" ∷ codes "ceil work 0081" ∷ []) ≡ fails Order 30)
    × (of_third (codes "auth main" ∷ codes "ceil work 0081" ∷ codes "ceil work 0001" ∷ []) ≡ fails Order 35)
    × (of_third (codes "auth main" ∷ codes "ceil work 0081" ∷ codes "ceil log 0001" ∷ []) ≡ fails Order 35)
    × (of_third (codes "auth main" ∷ codes "hold @0 b" ∷ codes "hold @0 b" ∷ []) ≡ fails Order 30)
    × (of_third (codes "auth main" ∷ codes "hold @0 b" ∷ codes "hold @0 a" ∷ []) ≡ fails Order 30)
    × (of_third (codes "auth main" ∷ codes "hold @10 a" ∷ codes "hold @9 a" ∷ []) ≡ fails Order 31)
    × (of_third (codes "auth main" ∷ codes "hold main:0 a" ∷ codes "hold @9 a" ∷ []) ≡ fails Order 34)
    × (of_third (codes "auth child" ∷ codes "ceil work 0081" ∷ codes "auth main" ∷ codes "ceil work 0081" ∷ []) ≡ Ok (record (empty Three) {
      authorities = (record { program = codes "child"; ceilings = (record { grant = codes "work"; rights = 0x81 }) ∷ []; holds = [] })
          ∷ (record { program = codes "main"; ceilings = (record { grant = codes "work"; rights = 0x81 }) ∷ []; holds = [] }) ∷ [];
    }))
unfolding certificate_of_text read_behind line_of_text taken distinct_behind asked_of_last with_last
authority_places = (refl, refl, refl, refl, refl, refl, refl, refl, refl, refl, refl, refl, refl, refl, refl, refl)

-- Programs of authorities and of the classes of their ends are among the eight, and grants aren't.
nine_by_authorities :
    (of_third (eight ++ codes "auth i" ∷ []) ≡ fails Limit 115) × (of_third (eight ++ codes "auth h" ∷ codes "hold i:0 a" ∷ []) ≡ fails Limit 122)
    × (of_third (eight ++ codes "auth h" ∷ codes "ceil i 0001" ∷ codes "hold h:1 c" ∷ []) ≡ fails Syntax 134)
unfolding certificate_of_text read_behind line_of_text taken distinct_behind above_blocks above_channels may_bound_register may_bound_slot all_from on_last asked_of_last with_last
nine_by_authorities = (refl, refl, refl)

-- The classes of ends are among the 32, with those of channels.
classes_by_authorities :
    (of_third (channels_from 32 0 ++ codes "auth main" ∷ codes "hold main:0 a" ∷ []) ≡ fails Limit 522)
    × (of_third (channels_from 32 0 ++ codes "auth main" ∷ codes "hold @31 a" ∷ codes "hold @31 a" ∷ []) ≡ fails Order 533)
    × (of_third (channels_from 31 0 ++ codes "auth main" ∷ codes "hold main:0 a" ∷ codes "hold main:1 a" ∷ []) ≡ fails Limit 520)
unfolding digits certificate_of_text read_behind line_of_text taken distinct_behind above_blocks above_channels may_bound_register may_bound_slot all_from on_last asked_of_last with_last
classes_by_authorities = (refl, refl, refl)

-- VERSION 4: further rights, in eight digits behind the commands, or behind the rights of a ceiling; in the other versions there is no
-- word of them.
abbrev of_fourth : List (List ℕ) → Reading
of_fourth lines = certificate_of_text (text (codes "capcert 4" ∷ (lines ++ codes "end" ∷ [])))

-- a line of a block that begins at 10; the line's offset is 24
abbrev in_third_block : List ℕ → Reading
in_third_block line = of_third (codes "at main 0 off" ∷ line ∷ [])

abbrev in_fourth_block : List ℕ → Reading
in_fourth_block line = of_fourth (codes "at main 0 off" ∷ line ∷ [])

not_before_version_4 :
    (in_third_block (codes "fd 0 open grant work 0081 3fff 3 3 00000000 00000000") ≡ fails Syntax 24)
    × (in_third_block (codes "fd 0 open grant work 0081 3fff 3 3 00000000") ≡ fails Syntax 24)
    × (in_third_block (codes "fd 0 open grant work 0081 7fff 3 3") ≡ fails Syntax 24)
    × (of_third (codes "chan @0 a grant work 0081 3fff 3 3 00000000 ffffffff" ∷ []) ≡ fails Syntax 10)
    × (of_third (codes "auth main" ∷ codes "ceil work 0081 00000000" ∷ []) ≡ fails Syntax 20)
    × (in_block (codes "fd 0 open grant work 0081 3fff 3 3 00000000 00000000") ≡ fails Syntax 24)
    × (of_third (codes "capcert 4" ∷ []) ≡ fails Syntax 10) × (of_fourth (codes "capcert 3" ∷ []) ≡ fails Syntax 10)
unfolding certificate_of_text read_behind line_of_text taken distinct_behind above_blocks above_channels may_bound_register may_bound_slot all_from on_last asked_of_last with_last
not_before_version_4 = (refl, refl, refl, refl, refl, refl, refl, refl)

further_forms :
    (in_fourth_block (codes "fd 0 open grant work 0081 3fff 3 3") ≡ fails Syntax 24)
    × (in_fourth_block (codes "fd 0 open grant work 0081 3fff 3 3 00000010") ≡ fails Syntax 24)
    × (in_fourth_block (codes "fd 0 open grant work 0081 3fff 3 3 00000010 00000010 00000010") ≡ fails Syntax 24)
    × (in_fourth_block (codes "fd 0 open grant work 0081 3fff 3 3 0000010 00000010") ≡ fails Syntax 24)
    × (in_fourth_block (codes "fd 0 open grant work 0081 3fff 3 3 000000010 00000010") ≡ fails Syntax 24)
    × (in_fourth_block (codes "fd 0 open grant work 0081 3fff 3 3 0000000a 0000000A") ≡ fails Syntax 24)
    × (in_fourth_block (codes "fd 0 open grant work 0081 3fff 3 3 00000010 00000020") ≡ fails Syntax 24)
    × (in_fourth_block (codes "fd 0 open grant work 0081 0001 3 3 00000010 00000010") ≡ fails Syntax 24)
    × (in_fourth_block (codes "fd 0 open grant work 0081 7fff 3 3 00000010 00000010") ≡ fails Syntax 24)
    × (in_fourth_block (codes "fd 0 open grant work 00000010 00000010 0081 3fff 3 3") ≡ fails Syntax 24)
    × (in_fourth_block (codes "fd 16 open grant work 0081 3fff 3 3 00000010 00000010") ≡ fails Limit 24)
    × (in_fourth_block (codes "fd 16 open grant work 0081 3fff 3 3 00000010 00000020") ≡ fails Syntax 24)
    × (of_fourth (codes "chan @0 a unknown 0000 3fff 0 3" ∷ []) ≡ fails Syntax 10) × (of_fourth (codes "chan @0 a none 00000000 00000000" ∷ []) ≡ fails Syntax 10)
unfolding certificate_of_text read_behind line_of_text taken distinct_behind above_blocks above_channels may_bound_register may_bound_slot all_from on_last
further_forms = (refl, refl, refl, refl, refl, refl, refl, refl, refl, refl, refl, refl, refl, refl)

further_ceilings :
    (of_fourth (codes "auth main" ∷ codes "ceil work 0081" ∷ []) ≡ fails Syntax 20)
    × (of_fourth (codes "auth main" ∷ codes "ceil work 0000 00000000" ∷ []) ≡ fails Syntax 20)
    × (of_fourth (codes "auth main" ∷ codes "ceil work 4000 00000000" ∷ []) ≡ fails Syntax 20)
    × (of_fourth (codes "auth main" ∷ codes "ceil work 0081 0010" ∷ []) ≡ fails Syntax 20)
    × (of_fourth (codes "auth main" ∷ codes "ceil work 0081 00000010 00000010" ∷ []) ≡ fails Syntax 20)
    × (of_fourth (codes "ceil work 0081 00000010" ∷ []) ≡ fails Order 10)
unfolding certificate_of_text read_behind line_of_text taken distinct_behind asked_of_last with_last
further_ceilings = (refl, refl, refl, refl, refl, refl)
