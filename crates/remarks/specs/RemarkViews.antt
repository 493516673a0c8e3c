-- What the code's remarks stand for.
use Rattle.std.specs.Prelude.{◌≡◌, List, [], ◌++◌, Option, Some, None, map, option_map}
use Rattle.certificate.specs.Bounds.{Bound}
use Rattle.certificate.specs.Views.{bound_of}
use Rattle.certificate.specs.declared.bounds.Bound.{Bound as BoundCode}
use Rattle.instruction_set.specs.Views.{operand_of}
use Rattle.remarks.specs.Warnings.{Lookup, one_beneath, Difference, Absolute_path, Way_out, Last_link, Commands_gone, No_number_left, One_number_left, Unlisted_look, Warned}
use Rattle.remarks.specs.declared.warnings.Difference.{Difference as DifferenceCode}
use Rattle.remarks.specs.declared.warnings.Difference.TheVariants as code
use Rattle.remarks.specs.declared.looks.Looks.{Looks}
use Rattle.remarks.specs.declared.looks.Look.{Look as LookCode}
use Rattle.remarks.specs.declared.warnings.Warnings.{Warnings}
use Rattle.remarks.specs.declared.policies.TaskRemark.{TaskRemark as TaskRemarkCode}
use Rattle.remarks.specs.declared.policies.TaskRemark.TheVariants as remarked
use Rattle.remarks.specs.declared.reaching.Uses.{Uses as UsesCode}
use Rattle.remarks.specs.Listed.{Remark, Never_enters, Untrusted, Unreached, Unsettled, Stray, Idle, Rights_left, Commands_left, Both_ends, Never_open, Remarked}
use Rattle.remarks.specs.declared.remarks.Remark.{Remark as RemarkCode}
use Rattle.remarks.specs.declared.remarks.Remark.TheVariants as written
use Rattle.remarks.specs.declared.remarks.Remarked.{Remarked as RemarkedCode}
use Rattle.remarks.specs.TaskRemarks.{TaskRemark, Alone, Boundless}
use Rattle.rights.specs.Views.{side_seen}
use Rattle.task.specs.Views.{grant_of}
use Rattle.remarks.specs.Uses.{Uses}

abbrev pub bounds_of : List (Option BoundCode) → List (Option Bound)
bounds_of bounds = map (option_map bound_of) bounds

-- a path beneath a descriptor, if there is one, and those of a call
abbrev pub look_of : Option LookCode → List Lookup
look_of None = []
look_of (Some look) = one_beneath (Some (operand_of look.descriptor)) (Some look.path.now)

abbrev pub beneath_of : Looks → List Lookup
beneath_of looks = look_of looks.first ++ look_of looks.second

abbrev pub difference_of : DifferenceCode → Difference
difference_of code.AbsolutePath = Absolute_path
difference_of code.WayOut = Way_out
difference_of code.LastLink = Last_link
difference_of code.CommandsGone = Commands_gone
difference_of code.NoNumberLeft = No_number_left
difference_of code.OneNumberLeft = One_number_left
difference_of code.UnlistedLook = Unlisted_look

abbrev pub warned_of : Warnings → Warned
warned_of w = record {
  differences = map difference_of w.differences.items;
  failed_close = w.failed_close;
  no_sandbox = w.no_sandbox;
  numbers = w.numbers.items;
  directories = w.directories.items;
}

abbrev pub uses_seen : UsesCode → Uses
uses_seen u = record { rights = u.rights.0; commands = u.commands.0 }

abbrev pub task_remark_of : TaskRemarkCode → TaskRemark
task_remark_of (remarked.Alone pair side) = Alone pair (side_seen side)
task_remark_of (remarked.Boundless grant) = Boundless (grant_of grant.now).name

abbrev pub remark_of : RemarkCode → Remark
remark_of written.NeverEnters = Never_enters
remark_of written.Untrusted = Untrusted
remark_of (written.Unreached outside_alone) = Unreached outside_alone
remark_of (written.Unsettled from) = Unsettled from.items
remark_of (written.Stray number) = Stray number
remark_of (written.Idle number) = Idle number
remark_of (written.Rights number most) = Rights_left number most.0
remark_of (written.Commands number most) = Commands_left number most.0
remark_of (written.BothEnds number other) = Both_ends number other
remark_of (written.NeverOpen number) = Never_open number

abbrev pub remarked_of : RemarkedCode → Remarked
remarked_of r = record { remark = remark_of r.remark; points = r.points.items }

-- what stands behind a list of remarks once some are added
abbrev pub AddsRemarks : List RemarkedCode → List RemarkedCode → List Remarked → Type 0
AddsRemarks before after more = map remarked_of after ≡ map remarked_of before ++ more
