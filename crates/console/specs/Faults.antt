-- Why a program doesn't do what its words say, and how it tells that. (own)
use Rattle.std.specs.Prelude.{◌++◌, ℕ, List, codes}
use Rattle.std.specs.Fmt.{decimal}
use Rattle.instruction_set.specs.Assembly as assembly
use Rattle.certificate_text.specs.Faults as certificates
use Rattle.simulator.specs.Schedules as schedules
use Rattle.task_reader.specs.Reading as tasks

-- words or files are at fault: the words are none of its own, a file isn't there, or a text is no task, no
-- schedule or no certificate
pub data Refusal : Type 0 where
  Wrong_words : Refusal
  No_file : (name : List ℕ) → Refusal
  No_task : tasks.Mistake → Refusal
  No_schedule : schedules.Fault → Refusal
  No_certificate : certificates.Faulty → Refusal

-- that; or there is no memory; or the output failed
pub data Fault : Type 0 where
  Refused : Refusal → Fault
  No_memory : Fault
  No_output : Fault

abbrev pub program_mistake_name : assembly.Mistake → List ℕ
program_mistake_name assembly.Word = codes "Word"
program_mistake_name assembly.Operand = codes "Operand"
program_mistake_name assembly.NoLabel = codes "NoLabel"
program_mistake_name assembly.TwiceLabel = codes "TwiceLabel"
program_mistake_name assembly.TooMany = codes "TooMany"
program_mistake_name assembly.FallsOff = codes "FallsOff"

-- a number and a name, as `1 NotToml`
abbrev pub numbered : ℕ → List ℕ → List ℕ
numbered number name = decimal number ++ codes " " ++ name

-- `1 NotToml`, and of a program `6 Asm main:1 3 NoLabel`: its name, the line, and the line's mistake
abbrev pub task_words : tasks.Mistake → List ℕ
task_words tasks.Not_toml = numbered 1 (codes "NotToml")
task_words tasks.Wrong_field = numbered 2 (codes "Field")
task_words tasks.Wrong_node = numbered 3 (codes "Node")
task_words tasks.Wrong_grant = numbered 4 (codes "Grant")
task_words tasks.Wrong_descriptor = numbered 5 (codes "Descriptor")
task_words (tasks.Wrong_program name why) =
    codes "6 Asm " ++ name ++ codes ":" ++ decimal why.line ++ codes " "
    ++ numbered (assembly.mistake_number why.mistake) (program_mistake_name why.mistake)
task_words tasks.Past_limit = numbered 7 (codes "Limit")

abbrev pub schedule_words : schedules.Fault → List ℕ
schedule_words (schedules.Faulty line) = codes "1 Line " ++ decimal line
schedule_words schedules.Too_many = codes "2 Limit"

abbrev pub certificate_fault_words : certificates.Fault → List ℕ
certificate_fault_words certificates.Syntax = numbered 1 (codes "Syntax")
certificate_fault_words certificates.Limit = numbered 2 (codes "Limit")
certificate_fault_words certificates.Order = numbered 3 (codes "Order")

-- `1 Syntax at 257`, with the offset of the faulty line
abbrev pub certificate_words : certificates.Faulty → List ℕ
certificate_words why = certificate_fault_words why.fault ++ codes " at " ++ decimal why.offset

abbrev pub refusal_words : Refusal → List ℕ
refusal_words Wrong_words = codes "words"
refusal_words (No_file name) = codes "file " ++ name
refusal_words (No_task mistake) = codes "task " ++ task_words mistake
refusal_words (No_schedule fault) = codes "schedule " ++ schedule_words fault
refusal_words (No_certificate why) = codes "cert " ++ certificate_words why

abbrev pub fault_words : Fault → List ℕ
fault_words (Refused refusal) = refusal_words refusal
fault_words No_memory = codes "memory"
fault_words No_output = codes "output"

-- the line of the program of this name: `capcheck: memory`
abbrev pub told_line : List ℕ → List ℕ → List ℕ
told_line name words = name ++ (codes ": " ++ (words ++ codes "\n"))

abbrev pub fault_text : List ℕ → Fault → List ℕ
fault_text name fault = told_line name (fault_words fault)

abbrev pub fault_status : Fault → ℕ
fault_status (Refused refusal) = 2
fault_status No_memory = 3
fault_status No_output = 3
