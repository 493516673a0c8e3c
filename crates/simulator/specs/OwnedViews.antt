-- What the code's owned stand for.
use Rattle.std.specs.Prelude.{List, map}
use Rattle.task.specs.Views.{first_descriptor_of}
use Rattle.simulator.specs.declared.owned.OwnedDescriptor.{OwnedDescriptor as OwnedCode}
use Rattle.simulator.specs.Starts.{OwnedDescriptor}

abbrev pub owned_descriptor_of : OwnedCode → OwnedDescriptor
owned_descriptor_of g = record { process = g.process; given = first_descriptor_of g.given }

abbrev pub owned_descriptors_of : List OwnedCode → List OwnedDescriptor
owned_descriptors_of owned = map owned_descriptor_of owned
