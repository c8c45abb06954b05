use Rattle.std.proofs.Common.{List, Err, ap, subst}
use Rattle.scenario.specs.declared.line.Line.{Line}
use Rattle.audit_check.specs.Answers.{start_audit}
use Rattle.audit_check.specs.Audits.{AuditLeads, Fails}
use Rattle.audit_check.specs.Ends.{answer_of}
use Rattle.audit_check.proofs.Concluding.{concluded, failed_so}
use Rattle.audit_check.proofs.auditing.tally_or_fault.Goals as goal

pub returns : goal.returns
returns c =
    let lines = c.args.scenario.now in
    let letters = c.args.letters.now in
    let transcript = c.args.transcript.now in
    let led = c.in-Ok-audit_lines.ensures.leads transcript (start_audit lines letters) c.in-Ok.ensures.at in
    concluded lines letters transcript c.law_runs_lawful.ensures c.law_scenario_starts.ensures
    c.law_counted.ensures.texts c.law_counted.ensures.events c.law_counted.ensures.listed c.law_counted.ensures.outcomes led.0 (answer_of c.end_of.result)
    (subst (λ (ls : List Line). AuditLeads ls (start_audit lines letters) led.0) c.lines.ensures.lines led.1) (c.end_of.ensures led.0 led.2)

pub returns-in-Err-audit_lines : goal.returns-in-Err-audit_lines
returns-in-Err-audit_lines c =
    let lines = c.args.scenario.now in
    let letters = c.args.letters.now in
    let transcript = c.args.transcript.now in
    failed_so lines letters transcript c.in-Err-audit_lines.failure
    (λ f is. subst (λ (ls : List Line). Fails ls (start_audit lines letters) f) c.lines.ensures.lines (c.in-Err-audit_lines.ensures.wrong f (ap Err is) transcript (start_audit lines letters) c.in-Ok.ensures.at))
