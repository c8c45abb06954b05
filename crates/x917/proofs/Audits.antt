-- What is found of the bytes of an auditor's input, and what follows of it.
use Rattle.std.proofs.Common.{◌≡◌, ◌≢◌, ◌⊎◌, inl, inr, ℕ, List, [], Option, Some, None, Result, Ok, Err, IfSome, refl, sym, ap, ◌∙◌, subst}
use Rattle.x_base.specs.Edge.{Rose}
use Rattle.scenario.specs.declared.line.Line.{Line}
use Rattle.scenario.specs.declared.fault.ScenarioFault.{ScenarioFault}
use Rattle.scenario.specs.declared.fault.ScenarioFault.TheVariants as fault
use Rattle.course.specs.declared.tally.Tally.{Tally}
use Rattle.audit_check.specs.Answers.{IsAudited, IsFault, IsOnly}
use Rattle.audit_check.specs.Inputs.{IsInputReading}
use Rattle.audit_check.specs.Parts.{Parts}
use Rattle.scenario.specs.declared.audit_fault.AuditFault.{AuditFault}
use Rattle.scenario.specs.declared.audit_fault.AuditFault.TheVariants as wrong
use Rattle.audit_check.specs.declared.result.AuditResult.{AuditResult}
use Rattle.audit_check.specs.declared.result.AuditResult.TheVariants as answer
use Rattle.call_ends.specs.Causes.{HasCause}
use Rattle.call_ends.specs.declared.status.Status.{Status}
use Rattle.call_ends.specs.declared.status.Status.TheVariants as status
use Rattle.x917.specs.Audited.{ExpectsAudit, IsAudit, IsDenied, IsFound, IsNotAudited, IsUnconfirmed, audit_taken, found_of, status_of_fault}

-- ---- one thing is found

-- what the auditor says of these parts it says of those of the input
module _ (parts : Parts) (lines : List Line) (letters transcript : List ℕ) (l : lines ≡ parts.lines) (w : letters ≡ parts.letters) (t : transcript ≡ parts.transcript) where
  at_parts : (P : List Line → List ℕ → List ℕ → Type 0) → P lines letters transcript → P parts.lines parts.letters parts.transcript
  at_parts P h = subst (λ (x : List Line). P x parts.letters parts.transcript) l (subst (λ (x : List ℕ). P lines x parts.transcript) w (subst (λ (x : List ℕ). P lines letters x) t h))

abbrev Reading : Type 0
Reading = Result Parts ScenarioFault

abbrev bad_line : ℕ → Reading
bad_line number = Err (fault.BadLine number)

abbrev as_parts : Parts → Reading
as_parts parts = Ok parts

abbrev unread : Reading
unread = Err fault.NoMemory

-- the bytes are read so, but for want of memory
abbrev Once : List ℕ → Reading → Type 0
Once bytes reading = (r : Reading) → IsInputReading bytes r → r ≢ unread → (reading ≡ r) ⊎ (reading ≡ unread)

never_bad : {A : Type 0} (number : ℕ) (parts : Parts) → (bad_line number ≡ as_parts parts) ⊎ (bad_line number ≡ unread) → A
never_bad number parts (inl e) = absurd (cc e)
never_bad number parts (inr e) = absurd (cc e)

never_read : {A : Type 0} (number : ℕ) (parts : Parts) → (as_parts parts ≡ bad_line number) ⊎ (as_parts parts ≡ unread) → A
never_read number parts (inl e) = absurd (cc e)
never_read number parts (inr e) = absurd (cc e)

same_number : (number other : ℕ) → (bad_line number ≡ bad_line other) ⊎ (bad_line number ≡ unread) → number ≡ other
same_number number other (inl e) = cc e
same_number number other (inr e) = absurd (cc e)

same_parts : (parts other : Parts) → (as_parts parts ≡ as_parts other) ⊎ (as_parts parts ≡ unread) → parts ≡ other
same_parts parts other (inl e) = cc e
same_parts parts other (inr e) = absurd (cc e)

abbrev numbers : Tally → Result Tally Status
numbers tally = Ok tally

abbrev ending : Status → Result Tally Status
ending s = Err s

pub only_bad : (bytes : List ℕ) (number : ℕ) → Once bytes (bad_line number) → (r : Result Tally Status) → IsFound bytes r → r ≢ ending status.NoMemory
    → (ending (status.BadScenario number) ≡ r) ⊎ (ending (status.BadScenario number) ≡ ending status.NoMemory)
only_bad bytes number once (Ok tally) found some = never_bad number found.parts (once (as_parts found.parts) found.input (λ e. cc e))
only_bad bytes number once (Err s) (inl (other, bad, is)) some =
    let same = same_number number other (once (bad_line other) bad (λ e. cc e)) in
    inl (ap ending (ap status.BadScenario same ∙ sym is))
only_bad bytes number once (Err s) (inr (inl (f, denied, is))) some = never_bad number denied.parts (once (as_parts denied.parts) denied.input (λ e. cc e))
only_bad bytes number once (Err s) (inr (inr none)) some = absurd (some (ap ending none))

module _ (bytes : List ℕ) (parts : Parts) (once : Once bytes (as_parts parts)) (a : AuditResult) (only : IsOnly parts.lines parts.letters parts.transcript a) where
  answered : (other : AuditResult) → (a ≡ other) ⊎ (a ≡ answer.NoMemory) → (found_of a ≡ found_of other) ⊎ (found_of a ≡ ending status.NoMemory)
  answered other (inl e) = inl (ap found_of e)
  answered other (inr e) = inr (ap found_of e)

  only_parts : (r : Result Tally Status) → IsFound bytes r → r ≢ ending status.NoMemory → (found_of a ≡ r) ⊎ (found_of a ≡ ending status.NoMemory)
  only_parts (Ok tally) found some =
      let same = same_parts parts found.parts (once (as_parts found.parts) found.input (λ e. cc e)) in
      answered (answer.Yes tally) (only (answer.Yes tally) (subst (λ (p : Parts). IsAudited p.lines p.letters p.transcript tally) (sym same) found.audited) (λ e. cc e))
  only_parts (Err s) (inl (number, bad, is)) some = never_read number parts (once (bad_line number) bad (λ e. cc e))
  only_parts (Err s) (inr (inl (f, denied, is))) some =
      let same = same_parts parts denied.parts (once (as_parts denied.parts) denied.input (λ e. cc e)) in
      subst (λ (x : Status). (found_of a ≡ ending x) ⊎ (found_of a ≡ ending status.NoMemory)) (sym is)
      (answered (answer.No f) (only (answer.No f) (subst (λ (p : Parts). IsFault p.lines p.letters p.transcript f) (sym same) denied.wrong) (λ e. cc e)))
  only_parts (Err s) (inr (inr none)) some = absurd (some (ap ending none))

pub only_read : (bytes : List ℕ) (parts : Parts) (lines : List Line) (letters transcript : List ℕ) → lines ≡ parts.lines → letters ≡ parts.letters → transcript ≡ parts.transcript
    → Once bytes (as_parts parts) → (a : AuditResult) → IsOnly lines letters transcript a → (r : Result Tally Status) → IsFound bytes r → r ≢ ending status.NoMemory
    → (found_of a ≡ r) ⊎ (found_of a ≡ ending status.NoMemory)
only_read bytes parts lines letters transcript l w t once a only =
    only_parts bytes parts once a (at_parts parts lines letters transcript l w t (λ x y z. IsOnly x y z a) only)

-- ---- what is due of it

-- the status of what is wrong isn't want of memory
told : (f : AuditFault) → status_of_fault f ≢ status.NoMemory
told (wrong.Forged event) e = cc e
told (wrong.Impossible event) e = cc e
told (wrong.Letters event) e = cc e
told (wrong.Differs line) e = cc e

abbrev OnlyFound : List ℕ → Result Tally Status → Type 0
OnlyFound bytes found = (r : Result Tally Status) → IsFound bytes r → r ≢ ending status.NoMemory → (found ≡ r) ⊎ (found ≡ ending status.NoMemory)

status_is : (s due : Status) → (ending s ≡ ending due) ⊎ (ending s ≡ ending status.NoMemory) → (s ≡ due) ⊎ (s ≡ status.NoMemory)
status_is s due (inl e) = inl (cc e)
status_is s due (inr e) = inr (cc e)

never_confirmed : {A : Type 0} (s : Status) (tally : Tally) → (ending s ≡ numbers tally) ⊎ (ending s ≡ ending status.NoMemory) → (s ≡ status.NoMemory → A) → A
never_confirmed s tally (inl e) none = absurd (cc e)
never_confirmed s tally (inr e) none = none (cc e)

never_unconfirmed : {A : Type 0} (s : Status) (tally : Tally) → (numbers tally ≡ ending s) ⊎ (numbers tally ≡ ending status.NoMemory) → A
never_unconfirmed s tally (inl e) = absurd (cc e)
never_unconfirmed s tally (inr e) = absurd (cc e)

pub expects_unconfirmed : (bytes : List ℕ) (s : Status) → OnlyFound bytes (ending s) → ExpectsAudit bytes s
expects_unconfirmed bytes s only = record {
  bad = λ number bad. status_is s (status.BadScenario number) (only (ending (status.BadScenario number)) (inl (number, bad, refl)) (λ e. cc e));
  confirmed = λ tally is. never_confirmed s tally (only (numbers tally) is (λ e. cc e)) (λ none. inr none);
  denied = λ f is. status_is s (status_of_fault f) (only (ending (status_of_fault f)) (inr (inl (f, is, refl))) (λ e. told f (cc e)));
}

pub expects_confirmed : (bytes : List ℕ) (tally : Tally) → OnlyFound bytes (numbers tally) → ExpectsAudit bytes status.Done
expects_confirmed bytes tally only = record {
  bad = λ number bad. never_unconfirmed (status.BadScenario number) tally (only (ending (status.BadScenario number)) (inl (number, bad, refl)) (λ e. cc e));
  confirmed = λ other is. inl refl;
  denied = λ f is. never_unconfirmed (status_of_fault f) tally (only (ending (status_of_fault f)) (inr (inl (f, is, refl))) (λ e. told f (cc e)));
}

pub of_taken : (left : Option (List ℕ)) (text bytes : List ℕ) (s : Status) → IfSome left (λ all. text ≡ audit_taken all) → bytes ≡ text → ExpectsAudit bytes s
    → IfSome left (λ all. ExpectsAudit (audit_taken all) s)
of_taken None text bytes s front same expects = tt
of_taken (Some all) text bytes s front same expects = subst (λ (x : List ℕ). ExpectsAudit x s) (same ∙ front) expects

-- ---- how it ends

pub without_memory : (left : Option (List ℕ)) → IsNotAudited left status.NoMemory
without_memory None = inr ([], tt, inr (inr refl))
without_memory (Some all) = inr (audit_taken all, refl, inr (inr refl))

front_of : (left : Option (List ℕ)) (text bytes : List ℕ) → IfSome left (λ all. text ≡ audit_taken all) → bytes ≡ text → IfSome left (λ all. bytes ≡ audit_taken all)
front_of None text bytes front same = tt
front_of (Some all) text bytes front same = same ∙ front

module _ (left rest written : Option (List ℕ)) (text bytes : List ℕ) (front : IfSome left (λ all. text ≡ audit_taken all)) (same : bytes ≡ text) where
  of_fault : (f : AuditFault) → IsDenied bytes f → IsAudit (status_of_fault f) left rest written written
  of_fault (wrong.Forged event) denied = (inr (bytes, front_of left text bytes front same, inr (inl (wrong.Forged event, denied, refl))), refl)
  of_fault (wrong.Impossible event) denied = (inr (bytes, front_of left text bytes front same, inr (inl (wrong.Impossible event, denied, refl))), refl)
  of_fault (wrong.Letters event) denied = (inr (bytes, front_of left text bytes front same, inr (inl (wrong.Letters event, denied, refl))), refl)
  of_fault (wrong.Differs line) denied = (inr (bytes, front_of left text bytes front same, inr (inl (wrong.Differs line, denied, refl))), refl)

  pub unaudited : (s : Status) → IsUnconfirmed bytes s → IsAudit s left rest written written
  unaudited s (inl (number, bad, is)) = subst (λ (x : Status). IsAudit x left rest written written) (sym is) (inr (bytes, front_of left text bytes front same, inl (number, bad, refl)), refl)
  unaudited s (inr (inl (f, denied, is))) = subst (λ (x : Status). IsAudit x left rest written written) (sym is) (of_fault f denied)
  unaudited s (inr (inr is)) = subst (λ (x : Status). IsAudit x left rest written written) (sym is) (without_memory left, refl)

-- ---- among the orders

module _ (read reads put puts disk disks : ℕ) where
  fault_cause : (f : AuditFault) → HasCause (status_of_fault f) read reads put puts disk disks
  fault_cause (wrong.Forged event) = tt
  fault_cause (wrong.Impossible event) = tt
  fault_cause (wrong.Letters event) = tt
  fault_cause (wrong.Differs line) = tt

  not_audited_cause : (left : Option (List ℕ)) (s : Status) → IsNotAudited left s → (s ≡ status.ReadFault → Rose read reads) → HasCause s read reads put puts disk disks
  not_audited_cause left s (inl is) cause = subst (λ (x : Status). HasCause x read reads put puts disk disks) (sym is) (cause is)
  not_audited_cause left s (inr (bytes, front, inl (number, bad, is))) cause = subst (λ (x : Status). HasCause x read reads put puts disk disks) (sym is) tt
  not_audited_cause left s (inr (bytes, front, inr (inl (f, denied, is)))) cause = subst (λ (x : Status). HasCause x read reads put puts disk disks) (sym is) (fault_cause f)
  not_audited_cause left s (inr (bytes, front, inr (inr is))) cause = subst (λ (x : Status). HasCause x read reads put puts disk disks) (sym is) tt

  pub cause_audited : (s : Status) (left rest before after : Option (List ℕ)) → IsAudit s left rest before after → (s ≡ status.ReadFault → Rose read reads) → (s ≡ status.WriteFault → Rose put puts)
      → HasCause s read reads put puts disk disks
  cause_audited status.Done left rest before after is read_cause write = tt
  cause_audited status.WriteFault left rest before after is read_cause write = write refl
  cause_audited (status.Refused refusal) left rest before after is read_cause write = tt
  cause_audited (status.Usage kind) left rest before after is read_cause write = not_audited_cause left (status.Usage kind) is.0 read_cause
  cause_audited status.ReadFault left rest before after is read_cause write = read_cause refl
  cause_audited status.DiskFault left rest before after is read_cause write = not_audited_cause left status.DiskFault is.0 read_cause
  cause_audited (status.Damaged place) left rest before after is read_cause write = tt
  cause_audited (status.BadScenario number) left rest before after is read_cause write = tt
  cause_audited (status.Forged event) left rest before after is read_cause write = tt
  cause_audited status.NoMemory left rest before after is read_cause write = tt
