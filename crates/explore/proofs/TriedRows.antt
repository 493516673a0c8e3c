-- What goes by a descriptor, and what is tried of a task.
use Rattle.std.proofs.Common.{refl, arith}
use Rattle.explore.specs.Samples.{SomeAreTried}

pub some_are_tried : SomeAreTried
some_are_tried = record {
  goes = refl;
  other_number = λ is. absurd cc;
  in_register = λ is. absurd cc;
  without_descriptor = λ is. absurd cc;
  not_marked = record { nothing = λ on. refl; numbers = λ off. absurd cc; calls = λ n below. absurd (omega arith) };
  none_where_marked = λ is. absurd (let none = is.numbers refl in cc);
}
