-- Why a session does not go on, by what an audit finds.
use Rattle.transcript_audit.specs.declared.fault.AuditFault.{AuditFault}
use Rattle.transcript_audit.specs.declared.fault.AuditFault.TheVariants.{At, NoMemory}
use Rattle.run_record.specs.declared.fault.RunFault.TheVariants as fault
use Rattle.transcript_commands.specs.declared.refusal.Refusal.{Refusal}
use Rattle.transcript_commands.specs.declared.refusal.Refusal.TheVariants.{Ends, Line}

-- a line that has a fault, or want of memory
abbrev pub refused_by : AuditFault → Refusal
refused_by (At n kind) = Line n kind
refused_by NoMemory = Ends fault.NoMemory
