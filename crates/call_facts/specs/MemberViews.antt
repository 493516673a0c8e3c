-- What the code's members of sets stand for.
use Rattle.bitflags.specs.declared.Flag.{Flag}
use Rattle.rights.specs.declared.sets.Fcntls.{Fcntls}
use Rattle.rights.specs.declared.sets.Rights.{Rights}
use Rattle.call_facts.specs.declared.sets.OpenFlag.{OpenFlag}
use Rattle.call_facts.specs.Sets.{Row, row}

abbrev pub right_seen : Flag Rights → Row
right_seen flag = row flag.name.now flag.value.0

abbrev pub command_seen : Flag Fcntls → Row
command_seen flag = row flag.name.now flag.value.0

abbrev pub flag_seen : OpenFlag → Row
flag_seen flag = row flag.name.now flag.bit
