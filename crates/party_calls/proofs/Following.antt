-- A call's status is that of its outcome, and follows from the outcome that is due.
use Rattle.std.proofs.Common.{◌≡◌, ◌⊎◌, inl, inr, ℕ, List, Option, Some, None, refl, sym, ap, ◌∙◌}
use Rattle.x_base.specs.Edge.{Rose}
use Rattle.x_disk.specs.Disk.{View}
use Rattle.x_party.specs.Dues.{GivesDue}
use Rattle.x_party.specs.declared.outcome.Outcome.{Outcome}
use Rattle.x_party.specs.declared.outcome.Outcome.TheVariants as outcome
use Rattle.call_ends.specs.declared.status.Refusal.TheVariants.{Decided}
use Rattle.call_ends.specs.declared.status.Status.{Status}
use Rattle.call_ends.specs.declared.status.Status.TheVariants as status
use Rattle.call_ends.specs.Transfer.{IsQuiet}
use Rattle.call_ends.specs.Puts.{Puts}
use Rattle.party_calls.specs.Ends.{status_of_outcome, Ends}
use Rattle.party_calls.specs.Dues.{Follows}

put_status : (reply : Option (List ℕ)) (ending : List ℕ) (answer s : Status) (before after : Option (List ℕ)) → Puts reply ending answer s before after → (s ≡ answer) ⊎ (s ≡ status.WriteFault)
put_status None ending answer s before after puts = inl puts.0
put_status (Some text) ending answer s before after (inl puts) = inl puts.0
put_status (Some text) ending answer s before after (inr puts) = inr puts.0

pub ended : (o : Outcome) (ending : List ℕ) (s : Status) (before after : Option (List ℕ)) → Ends o ending s before after → (s ≡ status_of_outcome o) ⊎ (s ≡ status.WriteFault)
ended (outcome.Done reply) ending s before after ends = put_status reply ending status.Done s before after ends
ended (outcome.Refused verdict reply) ending s before after ends = put_status reply ending (status.Refused (Decided verdict)) s before after ends
ended (outcome.OtherParty asked found) ending s before after ends = inl ends.0
ended (outcome.Damaged place) ending s before after ends = inl ends.0
ended outcome.Fault ending s before after ends = inl ends.0
ended outcome.NoMemory ending s before after ends = inl ends.0

-- a disk fault is the outcome's
fault_of : (o : Outcome) → status.DiskFault ≡ status_of_outcome o → o ≡ outcome.Fault
fault_of (outcome.Done reply) is = absurd cc
fault_of (outcome.Refused verdict reply) is = absurd cc
fault_of (outcome.OtherParty asked found) is = absurd cc
fault_of (outcome.Damaged place) is = absurd cc
fault_of outcome.Fault is = refl
fault_of outcome.NoMemory is = absurd cc

module _ (o : Outcome) (ending : List ℕ) (s : Status) (before after : Option (List ℕ)) (put puts disk disks : ℕ)
    (ends : Ends o ending s before after) (put_cause : s ≡ status.WriteFault → Rose put puts) where
  pub follows : (old : View) (due : List ℕ → Outcome → Type 0) → GivesDue old due o → (o ≡ outcome.Fault → Rose disk disks)
      → IsQuiet put puts → IsQuiet disk disks → Follows old due s
  follows old due given disk_cause put_quiet disk_quiet = λ image other now is. go image other (given image other now is) (ended o ending s before after ends) where
    go : (image : List ℕ) (other : Outcome) → (o ≡ other) ⊎ ((o ≡ outcome.Fault) ⊎ (o ≡ outcome.NoMemory)) → (s ≡ status_of_outcome o) ⊎ (s ≡ status.WriteFault)
        → (s ≡ status_of_outcome other) ⊎ (s ≡ status.NoMemory)
    go image other came (inr fault) = absurd (put_quiet (put_cause fault))
    go image other (inl is) (inl same) = inl (same ∙ ap status_of_outcome is)
    go image other (inr (inl fault)) (inl same) = absurd (disk_quiet (disk_cause fault))
    go image other (inr (inr memory)) (inl same) = inr (same ∙ ap status_of_outcome memory)

  pub disk_fault : (o ≡ outcome.Fault → Rose disk disks) → s ≡ status.DiskFault → Rose disk disks
  disk_fault cause is = go (ended o ending s before after ends) where
    go : (s ≡ status_of_outcome o) ⊎ (s ≡ status.WriteFault) → Rose disk disks
    go (inl same) = cause (fault_of o (sym is ∙ same))
    go (inr fault) = let no : status.DiskFault ≡ status.WriteFault = sym is ∙ fault in absurd cc
