-- The playing of a scenario, among the other orders.
use Rattle.std.proofs.Common.{◌≡◌, inl, inr, ℕ, List, Option, refl, sym, ◌∙◌, subst}
use Rattle.x_base.specs.Edge.{Rose}
use Rattle.x_base.specs.declared.verdict.Verdict.{Verdict}
use Rattle.x_disk.specs.Disk.{View}
use Rattle.x_line.specs.declared.order.Order.{Order}
use Rattle.x_line.specs.declared.order.Order.TheVariants as order
use Rattle.replay.specs.Playing.{Surroundings, around}
use Rattle.replay.specs.declared.result.PlayResult.{PlayResult}
use Rattle.replay.specs.declared.result.PlayResult.TheVariants as played
use Rattle.call_ends.specs.declared.status.Status.{Status}
use Rattle.call_ends.specs.declared.status.Status.TheVariants as status
use Rattle.x917.specs.Drilled.{IsDrill}
use Rattle.call_ends.specs.Causes.{HasCause, IsSilent}
use Rattle.x917.specs.Headline.{IsReplay, IsUnread, Says, status_of_play}
use Rattle.party_calls.specs.Obeys.{ExpectsCall}
use Rattle.x917.specs.Expects.{Expects, IsSilentOf}

-- ---- the status of what became of a scenario

pub never_read : (r : PlayResult) → status_of_play r ≡ status.ReadFault → ⊥
never_read (played.Done tally) is = cc is
never_read (played.Refused verdict) is = cc is
never_read (played.Forged number) is = cc is
never_read played.WriteFault is = cc is
never_read played.DiskFault is = cc is
never_read (played.Damaged place) is = cc is
never_read played.NoMemory is = cc is

pub write_of : (r : PlayResult) → status_of_play r ≡ status.WriteFault → r ≡ played.WriteFault
write_of (played.Done tally) is = absurd (cc is)
write_of (played.Refused verdict) is = absurd (cc is)
write_of (played.Forged number) is = absurd (cc is)
write_of played.WriteFault is = refl
write_of played.DiskFault is = absurd (cc is)
write_of (played.Damaged place) is = absurd (cc is)
write_of played.NoMemory is = absurd (cc is)

pub disk_of : (r : PlayResult) → status_of_play r ≡ status.DiskFault → r ≡ played.DiskFault
disk_of (played.Done tally) is = absurd (cc is)
disk_of (played.Refused verdict) is = absurd (cc is)
disk_of (played.Forged number) is = absurd (cc is)
disk_of played.WriteFault is = absurd (cc is)
disk_of played.DiskFault is = refl
disk_of (played.Damaged place) is = absurd (cc is)
disk_of played.NoMemory is = absurd (cc is)

-- with a status of these nothing was written: the disk of a party isn't blank
pub refused_of : (r : PlayResult) → IsSilentOf order.Replay (status_of_play r) → (v : Verdict) × (r ≡ played.Refused v)
refused_of (played.Done tally) silent = absurd silent
refused_of (played.Refused verdict) silent = (verdict, refl)
refused_of (played.Forged number) silent = absurd silent
refused_of played.WriteFault silent = absurd silent
refused_of played.DiskFault silent = absurd silent
refused_of (played.Damaged place) silent = absurd silent
refused_of played.NoMemory silent = absurd silent

-- where no scenario is read, no other status comes
pub unread_other : (left : Option (List ℕ)) (s t : Status) → IsUnread left s → s ≡ t → (t ≡ status.ReadFault → ⊥) → (t ≡ status.NoMemory → ⊥) → ((number : ℕ) → t ≡ status.BadScenario number → ⊥) → ⊥
unread_other left s t (inl (inl fault)) is read memory bad = read (sym is ∙ fault)
unread_other left s t (inl (inr none)) is read memory bad = memory (sym is ∙ none)
unread_other left s t (inr (number, same, first)) is read memory bad = bad number (sym is ∙ same)

pub unread_write : (left : Option (List ℕ)) (s : Status) → IsUnread left s → s ≡ status.WriteFault → ⊥
unread_write left s unread is = unread_other left s status.WriteFault unread is (λ e. cc e) (λ e. cc e) (λ n e. cc e)

pub unread_disk : (left : Option (List ℕ)) (s : Status) → IsUnread left s → s ≡ status.DiskFault → ⊥
unread_disk left s unread is = unread_other left s status.DiskFault unread is (λ e. cc e) (λ e. cc e) (λ n e. cc e)

-- ---- the cause of a fault

module _ (read reads put puts disk disks : ℕ) where
  cause_said : (old : List ℕ → View) (g : Surroundings) (s : Status) → Says old g s → (s ≡ status.WriteFault → Rose put puts) → (s ≡ status.DiskFault → Rose disk disks) → HasCause s read reads put puts disk disks
  cause_said old g status.Done says write fault = tt
  cause_said old g (status.Refused refusal) says write fault = tt
  cause_said old g (status.Usage kind) says write fault = says
  cause_said old g status.ReadFault says write fault = absurd says
  cause_said old g status.WriteFault says write fault = write refl
  cause_said old g status.DiskFault says write fault = fault refl
  cause_said old g (status.Damaged place) says write fault = tt
  cause_said old g (status.BadScenario number) says write fault = tt
  cause_said old g (status.Forged number) says write fault = tt
  cause_said old g status.NoMemory says write fault = tt

  pub cause_played : (s : Status) (left rest before after : Option (List ℕ)) (old new : List ℕ → View) → IsReplay s left rest before after old new disk disks
      → (s ≡ status.ReadFault → Rose read reads) → (s ≡ status.WriteFault → Rose put puts) → (s ≡ status.DiskFault → Rose disk disks) → HasCause s read reads put puts disk disks
  cause_played s left rest before after old new (inl none) read_cause write fault = by none.0
    where
      by : IsUnread left s → HasCause s read reads put puts disk disks
      by (inl (inl is)) = subst (λ (x : Status). HasCause x read reads put puts disk disks) (sym is) (read_cause is)
      by (inl (inr is)) = subst (λ (x : Status). HasCause x read reads put puts disk disks) (sym is) tt
      by (inr (number, is, first)) = subst (λ (x : Status). HasCause x read reads put puts disk disks) (sym is) tt
  cause_played s left rest before after old new (inr (lines, p)) read_cause write fault = cause_said old (around lines new disk disks before after) s p.says write fault

  pub cause_drilled : {H : Type 0} (entry : H → List ℕ → View) (seed events : ℕ) (s : Status) (before after : Option (List ℕ)) → IsDrill entry seed events s before after
      → (s ≡ status.WriteFault → Rose put puts) → HasCause s read reads put puts disk disks
  cause_drilled entry seed events status.Done before after d write = tt
  cause_drilled entry seed events (status.Refused refusal) before after d write = tt
  cause_drilled entry seed events (status.Usage kind) before after d write = d.0
  cause_drilled entry seed events status.ReadFault before after d write = absurd d.0
  cause_drilled entry seed events status.WriteFault before after d write = write refl
  cause_drilled entry seed events status.DiskFault before after d write = absurd d.0
  cause_drilled entry seed events (status.Damaged place) before after d write = tt
  cause_drilled entry seed events (status.BadScenario number) before after d write = absurd d.0
  cause_drilled entry seed events (status.Forged number) before after d write = tt
  cause_drilled entry seed events status.NoMemory before after d write = tt

-- ---- among the orders

pub silent_of : (o : Order) (s : Status) → (o ≡ order.Replay → ⊥) → IsSilentOf o s → IsSilent s
silent_of order.Replay s replay silent = absurd (replay refl)
silent_of o s replay silent = silent

-- what is due of an order that plays no scenario
pub expects_of : (o : Order) (moment : ℕ) (left : Option (List ℕ)) (old : List ℕ → View) (s : Status) → (o ≡ order.Replay → ⊥) → (o ≡ order.Audit → ⊥) → ((seed events : ℕ) → o ≡ order.Drill seed events → ⊥)
    → ExpectsCall o moment left old s → Expects o moment left old s
expects_of order.Replay moment left old s replay audit drill due = absurd (replay refl)
expects_of order.Audit moment left old s replay audit drill due = absurd (audit refl)
expects_of (order.Drill seed events) moment left old s replay audit drill due = absurd (drill seed events refl)
expects_of o moment left old s replay audit drill due = due
