-- The faults that an audit finds, and how they are told (this project's profile).
use Rattle.std.specs.Prelude.{ℕ}
use Rattle.scenario.specs.declared.audit_fault.AuditFault.{AuditFault}
use Rattle.scenario.specs.declared.audit_fault.AuditFault.TheVariants as fault

-- its number among the refusals
abbrev pub fault_number : AuditFault → ℕ
fault_number (fault.Forged e) = 36
fault_number (fault.Impossible e) = 43
fault_number (fault.Letters e) = 44
fault_number (fault.Differs line) = 45

-- the event or the line that it names
abbrev pub fault_place : AuditFault → ℕ
fault_place (fault.Forged e) = e
fault_place (fault.Impossible e) = e
fault_place (fault.Letters e) = e
fault_place (fault.Differs line) = line
