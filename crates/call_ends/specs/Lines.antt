-- The line and the exit code of a status: this project's profile.
use Rattle.std.specs.Prelude.{◌++◌, ℕ, List, [], codes}
use Rattle.std.specs.Fmt.{decimal}
use Rattle.x_base.specs.Verdict.{number_of}
use Rattle.x_base.specs.declared.verdict.Verdict.TheVariants.{CountLow}
use Rattle.scenario.specs.AuditFaults.{fault_number, fault_place}
use Rattle.scenario.specs.declared.audit_fault.AuditFault.TheVariants.{Forged}
use Rattle.csm_grammar.specs.declared.refusal.ReadRefusal.TheVariants.{NoMemory}
use Rattle.csm_feed.specs.declared.unheard.Unheard.TheVariants.{Text, Trailing}
use Rattle.csm_grammar.specs.Places.{read_number, place_of}
use Rattle.pay_auth.specs.Refusals.{pay_number}
use Rattle.pay_auth.specs.declared.refusal.PayRefusal.{PayRefusal}
use Rattle.pay_auth.specs.declared.refusal.PayRefusal.TheVariants.{BadPay, PayLow}
use Rattle.x_line.specs.Usage as usage
use Rattle.call_ends.specs.declared.status.Refusal.{Refusal}
use Rattle.call_ends.specs.declared.status.Refusal.TheVariants.{Unheard, Decided, OtherParty, Audit, Pay, OtherBatch, OutOfStep, Unplanned, Unlike, BadDigits}
use Rattle.call_ends.specs.declared.status.Status.{Status}
use Rattle.call_ends.specs.declared.status.Status.TheVariants as status

-- of a payment: the number, and the place or the expected number where there is one
abbrev pub pay_text : PayRefusal → List ℕ
pay_text (BadPay place) = decimal (pay_number (BadPay place)) ++ (codes " at " ++ decimal place)
pay_text (PayLow expected) = decimal (pay_number (PayLow expected)) ++ (codes " expected " ++ decimal expected)
pay_text refusal = decimal (pay_number refusal)

-- the number, and the place or the expected count where there is one
abbrev pub refusal_text : Refusal → List ℕ
refusal_text (Unheard (Text refusal)) = decimal (read_number refusal) ++ (codes " at " ++ decimal (place_of refusal))
refusal_text (Unheard (Trailing place)) = codes "38 at " ++ decimal place
refusal_text (Decided (CountLow expected)) = codes "30 expected " ++ decimal expected
refusal_text (Decided verdict) = decimal (number_of verdict)
refusal_text (OtherParty asked found) = codes "42"
refusal_text (Audit fault) = decimal (fault_number fault) ++ (codes " at " ++ decimal (fault_place fault))
refusal_text (Pay refusal) = pay_text refusal
refusal_text OtherBatch = codes "40"
refusal_text (OutOfStep entry) = codes "41"
refusal_text (Unplanned missing) = codes "49 missing " ++ decimal missing
refusal_text Unlike = codes "50"
refusal_text (BadDigits line) = codes "51 at " ++ decimal line

-- the line, which ends with a line feed; `Done` has none. A refusal to read for want of memory, and a forged event as what an
-- audit finds, which no run answers, are told as want of memory and as a forged event
abbrev pub line_of : Status → List ℕ
line_of status.Done = []
line_of (status.Refused (Unheard (Text NoMemory))) = codes "x917: no memory\n"
line_of (status.Refused (Audit (Forged event))) = codes "x917: forged event " ++ (decimal event ++ codes "\n")
line_of (status.Refused refusal) = codes "x917: refused " ++ (refusal_text refusal ++ codes "\n")
line_of (status.Usage kind) = codes "x917: usage " ++ (decimal (usage.number_of kind) ++ codes "\n")
line_of status.ReadFault = codes "x917: read fault\n"
line_of status.WriteFault = codes "x917: write fault\n"
line_of status.DiskFault = codes "x917: disk fault\n"
line_of (status.Damaged place) = codes "x917: damaged at " ++ (decimal place ++ codes "\n")
line_of (status.BadScenario number) = codes "x917: bad line " ++ (decimal number ++ codes "\n")
line_of (status.Forged number) = codes "x917: forged event " ++ (decimal number ++ codes "\n")
line_of status.NoMemory = codes "x917: no memory\n"

abbrev pub exit_code_of : Status → ℕ
exit_code_of status.Done = 0
exit_code_of (status.Refused (Unheard (Text NoMemory))) = 9
exit_code_of (status.Refused (Audit (Forged event))) = 8
exit_code_of (status.Refused refusal) = 1
exit_code_of (status.Usage kind) = 2
exit_code_of status.ReadFault = 3
exit_code_of status.WriteFault = 4
exit_code_of status.DiskFault = 5
exit_code_of (status.Damaged place) = 6
exit_code_of (status.BadScenario number) = 7
exit_code_of (status.Forged number) = 8
exit_code_of status.NoMemory = 9
