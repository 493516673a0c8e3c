-- The faults that the code's faults stand for.
use Rattle.std.specs.Prelude.{ℕ, List, Option, Some, None, string_bytes}
use Rattle.task_reader.specs.declared.faults.TaskFault.{TaskFault}
use Rattle.task_reader.specs.declared.faults.TaskFault.TheVariants as task
use Rattle.task_reader.specs.FaultViews.{text_fault}
use Rattle.task_reader.specs.Reading.{Not_toml, Wrong_field, Wrong_node, Wrong_grant, Wrong_descriptor, Wrong_program, Past_limit}
use Rattle.instruction_set.specs.Assembly as assembly
use Rattle.simulator.specs.declared.schedule.ScheduleFault.{ScheduleFault}
use Rattle.simulator.specs.declared.schedule.ScheduleFault.TheVariants as schedule
use Rattle.simulator.specs.Schedules.{Faulty, Too_many}
use Rattle.certificate_text.specs.declared.faults.CertFault.{CertFault}
use Rattle.certificate_text.specs.declared.faults.CertFault.TheVariants as cert
use Rattle.certificate_text.specs.Faults as certificates
use Rattle.text_checker.specs.declared.checking.Fault.{Fault as TextFault}
use Rattle.text_checker.specs.declared.checking.Fault.TheVariants as text
use Rattle.rights.specs.declared.stops.Stop.{Stop}
use Rattle.rights.specs.declared.stops.Stop.TheVariants.{Memory, Device, Spent}
use Rattle.console.specs.declared.faults.Fault.{Fault as FaultCode}
use Rattle.console.specs.declared.faults.Fault.TheVariants as code
use Rattle.console.specs.Faults.{Fault, Wrong_words, No_file, No_task, No_schedule, No_certificate, Refused, No_memory, No_output}

-- a program is refused for its text, or there was no memory for it
abbrev pub program_fault : List ℕ → Option assembly.Fault → Fault
program_fault name None = No_memory
program_fault name (Some why) = Refused (No_task (Wrong_program name why))

abbrev pub task_fault : TaskFault → Fault
task_fault task.NotToml = Refused (No_task Not_toml)
task_fault task.Field = Refused (No_task Wrong_field)
task_fault task.Node = Refused (No_task Wrong_node)
task_fault task.Grant = Refused (No_task Wrong_grant)
task_fault task.Descriptor = Refused (No_task Wrong_descriptor)
task_fault (task.Asm program why) = program_fault (string_bytes program) (text_fault why)
task_fault task.Limit = Refused (No_task Past_limit)
task_fault task.Memory = No_memory

abbrev pub schedule_fault : ScheduleFault → Fault
schedule_fault (schedule.Line line) = Refused (No_schedule (Faulty line))
schedule_fault schedule.Limit = Refused (No_schedule Too_many)
schedule_fault schedule.Memory = No_memory

abbrev pub certificate_fault : CertFault → Fault
certificate_fault (cert.Syntax offset) = Refused (No_certificate (record { fault = certificates.Syntax; offset = offset }))
certificate_fault (cert.Limit offset) = Refused (No_certificate (record { fault = certificates.Limit; offset = offset }))
certificate_fault (cert.Order offset) = Refused (No_certificate (record { fault = certificates.Order; offset = offset }))
certificate_fault cert.Memory = No_memory

abbrev pub fault_of : FaultCode → Fault
fault_of code.Words = Refused Wrong_words
fault_of (code.File name) = Refused (No_file name.now)
fault_of (code.Task fault) = task_fault fault
fault_of (code.Schedule fault) = schedule_fault fault
fault_of (code.Cert fault) = certificate_fault fault
fault_of code.Memory = No_memory
fault_of code.Output = No_output

-- A writer that failed is the output's; a machine that is spent had no memory.
abbrev pub stop_fault : Stop → FaultCode
stop_fault Device = code.Output
stop_fault Memory = code.Memory
stop_fault Spent = code.Memory

-- of two texts the one that is at fault
abbrev pub text_fault_code : TextFault → FaultCode
text_fault_code (text.Task fault) = code.Task fault
text_fault_code (text.Cert fault) = code.Cert fault
