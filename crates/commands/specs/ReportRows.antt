-- A small task with a certificate, of which the report is told. (own)
use Rattle.std.specs.Prelude.{true, false, [], ◌∷◌, codes}
use Rattle.rights.specs.Sets.{all_commands}
use Rattle.certificate.specs.Bounds.{One, Three, Certificate, Held, In_grant, Off, Open, with_slot}
use Rattle.certificate.specs.Growth.{open_bound}
use Rattle.instruction_set.specs.Programs.{Halt}
use Rattle.task.specs.Breaches.{small_tree}
use Rattle.task.specs.Plans.{On_node, Plan, unmarked}
use Rattle.commands.specs.Examples.{work_grant}

-- a process that only halts, with the directory of the grant as descriptor 0, and the rights `LOOKUP` and `READ` on it
abbrev pub halting_plan : Plan
halting_plan = record {
  wide = false;
  nodes = small_tree;
  grants = work_grant ∷ [];
  programs = unmarked (codes "main") (Halt ∷ []) ∷ [];
  starts =
      record {
        program = 0;
        mode = false;
        descriptors =
            record {
              number = 0;
              object = On_node 1 (record { readable = true; writable = false });
              rights = 0x0081;
              fcntls = all_commands;
            }
            ∷ [];
      }
      ∷ [];
}

abbrev pub few_in_work : Held
few_in_work = record { target = In_grant (codes "work"); least = 0x0081; greatest = 0x0081; least_fcntls = 3; greatest_fcntls = 3 }

abbrev pub halting_certificate : Certificate
halting_certificate = record {
  version = One;
  points = record { program = codes "main"; point = 0; bound = with_slot (open_bound Off) 0 (Open few_in_work) } ∷ [];
  channels = [];
  authorities = [];
}

-- The same program, marked: it may have these rights whatever it does, and others in a grant that the task hasn't.
abbrev pub marked_plan : Plan
marked_plan = record halting_plan { programs = record (unmarked (codes "main") (Halt ∷ [])) { marked = true } ∷ [] }

abbrev pub marked_certificate : Certificate
marked_certificate = record halting_certificate {
  version = Three;
  authorities =
      record {
        program = codes "main";
        ceilings = record { grant = codes "etc"; rights = 0x0080 } ∷ record { grant = codes "work"; rights = 0x0001 } ∷ [];
        holds = [];
      }
      ∷ [];
}
