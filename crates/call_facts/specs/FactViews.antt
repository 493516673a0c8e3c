-- What the code's facts of a call stand for.
use Rattle.std.specs.Prelude.{List, map}
use Rattle.call_facts.specs.declared.facts.Facts.{Facts as FactsCode}
use Rattle.call_facts.specs.declared.facts.Role.{Role as RoleCode}
use Rattle.call_facts.specs.declared.facts.Role.TheVariants as role
use Rattle.call_facts.specs.declared.facts.Scope.{Scope as ScopeCode}
use Rattle.call_facts.specs.declared.facts.Scope.TheVariants as scope
use Rattle.call_facts.specs.declared.facts.TableChange.{TableChange as TableCode}
use Rattle.call_facts.specs.declared.facts.TableChange.TheVariants as table
use Rattle.call_facts.specs.declared.facts.NameChange.{NameChange as NamesCode}
use Rattle.call_facts.specs.declared.facts.NameChange.TheVariants as names
use Rattle.call_facts.specs.declared.facts.Passed.{Passed as PassedCode}
use Rattle.call_facts.specs.declared.facts.Passed.TheVariants as passed
use Rattle.call_facts.specs.declared.facts.Answer.{Answer as AnswerCode}
use Rattle.call_facts.specs.declared.facts.Answer.TheVariants as answer
use Rattle.call_facts.specs.Facts as facts

abbrev pub role_seen : RoleCode → facts.Role
role_seen role.Descriptor = facts.Descriptor
role_seen role.Path = facts.Path
role_seen role.Flags = facts.Flags
role_seen role.Rights = facts.Rights
role_seen role.Commands = facts.Commands
role_seen role.Amount = facts.Amount
role_seen role.Status = facts.Status
role_seen role.Choice = facts.Choice

abbrev pub roles_seen : List RoleCode → List facts.Role
roles_seen roles = map role_seen roles

abbrev pub scope_seen : ScopeCode → facts.Scope
scope_seen scope.Mode = facts.Mode
scope_seen scope.Table = facts.Table
scope_seen scope.Object = facts.Object
scope_seen scope.Node = facts.Of_node
scope_seen scope.Root = facts.Root
scope_seen scope.Beneath = facts.Beneath
scope_seen scope.System = facts.System

abbrev pub table_seen : TableCode → facts.TableChange
table_seen table.Unchanged = facts.Unchanged
table_seen table.Opened = facts.Opened
table_seen table.Inherited = facts.Inherited
table_seen table.Copied = facts.Copied
table_seen table.Received = facts.Received
table_seen table.Pair = facts.Pair
table_seen table.Child = facts.Child
table_seen table.Freed = facts.Freed
table_seen table.Limited = facts.Limited

abbrev pub names_seen : NamesCode → facts.NameChange
names_seen names.Stays = facts.Stays
names_seen names.Created = facts.Created
names_seen names.Made = facts.Made_name
names_seen names.Removed = facts.Removed
names_seen names.Moved = facts.Moved

abbrev pub passed_seen : PassedCode → facts.Passed
passed_seen passed.Nothing = facts.None_passed
passed_seen passed.ByteIn = facts.Byte_in
passed_seen passed.ByteOut = facts.Byte_out
passed_seen passed.DescriptorIn = facts.Descriptor_in
passed_seen passed.DescriptorOut = facts.Descriptor_out

abbrev pub answer_seen : AnswerCode → facts.Answer
answer_seen answer.Zero = facts.Zero
answer_seen answer.One = facts.One
answer_seen answer.Byte = facts.Byte
answer_seen answer.Offset = facts.Offset
answer_seen answer.Kind = facts.Kind
answer_seen answer.StatusFlags = facts.Status_flags
answer_seen answer.ModeBit = facts.Mode_bit
answer_seen answer.Number = facts.Number
answer_seen answer.Process = facts.Process

abbrev pub facts_seen : FactsCode → facts.Facts
facts_seen f = record {
  roles = roles_seen f.roles.now;
  scope = scope_seen f.scope;
  table = table_seen f.table;
  names = names_seen f.names;
  passed = passed_seen f.passed;
  answer = answer_seen f.answer;
}
