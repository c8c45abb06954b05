-- A journal is made: what a crash leaves, and what stands behind it.
use Rattle.std.proofs.Common.{◌≡◌, ◌⊎◌, inl, inr, ℕ, List, [], ◌∷◌, true, is_some, refl, ◌∙◌}
use Rattle.x_disk.specs.Disk.{View, Tells, LeavesOnly}
use Rattle.x_disk.specs.declared.disk.DiskErr.{DiskErr}
use Rattle.x_disk.specs.declared.disk.DiskErr.TheVariants as disk
use Rattle.x_disk.proofs.Runs.{joined, weaker}
use Rattle.key_journal.specs.Journal.{is_blank}
use Rattle.key_journal.specs.States as journal
use Rattle.key_journal.specs.Causes.{cause_of}
use Rattle.key_journal.specs.Opening.{IsFree}
use Rattle.key_journal.specs.declared.cause.Cause.TheVariants as cause
use Rattle.journal_state.specs.States.{Lead, IsBlankOrFor}

pub free_cause : (d : DiskErr) → IsFree (cause_of d)
free_cause disk.Fault = tt
free_cause disk.NoMemory = tt

pub fault_of : (d : DiskErr) → cause_of d ≡ cause.Fault → d ≡ disk.Fault
fault_of disk.Fault is = refl
fault_of disk.NoMemory is = absurd (cc is)

module _ {S : Type 0} (step : List ℕ → S → S → Type 0) (first : S) (state : S) (v0 v1 : View) where
  abbrev pub MayBe : List ℕ → Type 0
  MayBe c = IsBlankOrFor step first state c ⊎ v0.may_leave c

  -- the disk was looked at
  pub looked : (Tells v0 → LeavesOnly v0 v1 (λ c. (is_blank c ≡ true) ⊎ v0.may_leave c)) → Tells v0 → LeavesOnly v0 v1 MayBe
  looked run tells = weaker v0 v1 (λ c. (is_blank c ≡ true) ⊎ v0.may_leave c) MayBe (run tells) (λ c either. elim either [ inl blank ↦ inl (inl blank) | inr old ↦ inr old ])

  -- and a journal was written there
  pub laid : (v2 : View) (body : List ℕ) → Lead step first (body ∷ []) state → (Tells v0 → LeavesOnly v0 v1 (λ c. (is_blank c ≡ true) ⊎ v0.may_leave c)) → is_some v1.now ≡ is_some v0.now
      → (Tells v1 → LeavesOnly v1 v2 (journal.IsBlankOrFirst body)) → Tells v0 → LeavesOnly v0 v2 MayBe
  laid v2 body lead run same create tells =
      joined v0 v1 v2 MayBe (looked run tells)
      (weaker v1 v2 (journal.IsBlankOrFirst body) MayBe (create (same ∙ tells))
      (λ c either. elim either [ inl blank ↦ inl (inl blank) | inr holds ↦ inl (inr (record { bodies = body ∷ []; holds = holds; lead = lead })) ]))
