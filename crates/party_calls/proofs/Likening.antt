-- How a comparison ends, and what follows of it.
use Rattle.std.proofs.Common.{◌≡◌, ◌⊎◌, inl, inr, ℕ, List, Option, refl, sym, ap, ◌∙◌, subst}
use Rattle.x_base.specs.Edge.{Rose}
use Rattle.x_disk.specs.Disk.{View, IsUntouched}
use Rattle.x_pair.specs.Comparisons.{GivesDueLikeness, IsAnswered, LeavesCompared, TellsLikeness}
use Rattle.x_pair.specs.declared.likeness.Compared.{Compared}
use Rattle.x_pair.specs.declared.likeness.Compared.TheVariants as compared
use Rattle.x_pair.specs.declared.likeness.Likeness.{Likeness}
use Rattle.x_pair.specs.declared.likeness.Likeness.TheVariants as likeness
use Rattle.call_ends.specs.Transfer.{IsQuiet}
use Rattle.call_ends.specs.Causes.{HasCause, IsSilent}
use Rattle.call_ends.specs.declared.status.Status.{Status}
use Rattle.call_ends.specs.declared.status.Status.TheVariants as status
use Rattle.party_calls.specs.Compared.{EndsOrForgets, FollowsComparison, IsComparing, status_of_likeness}
use Rattle.party_calls.specs.Ends.{IsOfParty}
use Rattle.party_calls.specs.Obeys.{LeavesRest}

-- how a comparison ends
data Ended (c : Compared) (s : Status) : Type 0 where
  Told : (l : Likeness) → c ≡ compared.Done l → s ≡ status_of_likeness l → Ended c s
  Failed : c ≡ compared.Fault → s ≡ status.DiskFault → Ended c s
  Forgot : s ≡ status.NoMemory → Ended c s
  Unwritten : s ≡ status.WriteFault → Ended c s

ended : (c : Compared) (s : Status) (before after : Option (List ℕ)) → EndsOrForgets c s before after → Ended c s
ended c s before after (inr forgets) = Forgot forgets.0
ended (compared.Done l) s before after (inl (inl puts)) = Told l refl puts.0
ended (compared.Done l) s before after (inl (inr puts)) = Unwritten puts.0
ended compared.Fault s before after (inl ends) = Failed refl ends.0
ended compared.NoMemory s before after (inl ends) = Forgot ends.0

-- no likeness is told as a fault
no_disk_fault : {A : Type 0} (l : Likeness) → status.DiskFault ≡ status_of_likeness l → A
no_disk_fault likeness.Same is = absurd (cc is)
no_disk_fault likeness.FirstAhead is = absurd (cc is)
no_disk_fault likeness.SecondAhead is = absurd (cc is)
no_disk_fault likeness.Neither is = absurd (cc is)
no_disk_fault likeness.OtherParty is = absurd (cc is)
no_disk_fault likeness.FirstBlank is = absurd (cc is)
no_disk_fault likeness.SecondBlank is = absurd (cc is)
no_disk_fault likeness.BothBlank is = absurd (cc is)
no_disk_fault (likeness.FirstDamaged place) is = absurd (cc is)
no_disk_fault (likeness.SecondDamaged place) is = absurd (cc is)

likeness_cause : (l : Likeness) (read reads put puts disk disks : ℕ) → HasCause (status_of_likeness l) read reads put puts disk disks
likeness_cause likeness.Same read reads put puts disk disks = tt
likeness_cause likeness.FirstAhead read reads put puts disk disks = tt
likeness_cause likeness.SecondAhead read reads put puts disk disks = tt
likeness_cause likeness.Neither read reads put puts disk disks = tt
likeness_cause likeness.OtherParty read reads put puts disk disks = tt
likeness_cause likeness.FirstBlank read reads put puts disk disks = tt
likeness_cause likeness.SecondBlank read reads put puts disk disks = tt
likeness_cause likeness.BothBlank read reads put puts disk disks = tt
likeness_cause (likeness.FirstDamaged place) read reads put puts disk disks = tt
likeness_cause (likeness.SecondDamaged place) read reads put puts disk disks = tt

pub comparing : (party mirror : List ℕ) (old new : List ℕ → View) (c : Compared) (s : Status) (before after : Option (List ℕ)) → TellsLikeness (old party) (old mirror) c → IsUntouched (old party) (new party) → IsUntouched (old mirror) (new mirror)
    → EndsOrForgets c s before after → IsComparing party mirror old new s before after
comparing party mirror old new c s before after tells first second (inl ends) = record { outcome = c; tells = tells; first_stays = first; second_stays = second; ends = ends }
comparing party mirror old new c s before after tells first second (inr forgets) = record { outcome = compared.NoMemory; tells = tt; first_stays = first; second_stays = second; ends = forgets }

module _ (c : Compared) (s : Status) (before after : Option (List ℕ)) (put puts disk disks : ℕ) (ends : EndsOrForgets c s before after) (put_cause : s ≡ status.WriteFault → Rose put puts) (disk_cause : c ≡ compared.Fault → Rose disk disks) where
  pub comparison_follows : (first second : View) → GivesDueLikeness first second c → IsQuiet put puts → IsQuiet disk disks → FollowsComparison first second s
  comparison_follows first second given put_quiet disk_quiet = λ i j l read is. go l (given i j l read is) (ended c s before after ends)
    where
      go : (l : Likeness) → (c ≡ compared.Done l) ⊎ ((c ≡ compared.Fault) ⊎ (c ≡ compared.NoMemory)) → Ended c s → (s ≡ status_of_likeness l) ⊎ (s ≡ status.NoMemory)
      go l came (Forgot is) = inr is
      go l came (Unwritten fault) = absurd (put_quiet (put_cause fault))
      go l came (Failed fault is) = absurd (disk_quiet (disk_cause fault))
      go l (inl same) (Told m told is) = inl (is ∙ ap status_of_likeness (inside (sym told ∙ same)))
        where
          inside : {m l : Likeness} → compared.Done m ≡ compared.Done l → m ≡ l
          inside is = cc is
      go l (inr (inl fault)) (Told m told is) = absurd (disk_quiet (disk_cause fault))
      go l (inr (inr memory)) (Told m told is) = let no : compared.Done m ≡ compared.NoMemory = sym told ∙ memory in absurd (cc no)

  comparison_fault : s ≡ status.DiskFault → Rose disk disks
  comparison_fault is = go (ended c s before after ends) where
    go : Ended c s → Rose disk disks
    go (Told l told same) = no_disk_fault l (sym is ∙ same)
    go (Failed fault same) = disk_cause fault
    go (Forgot same) = let no : status.DiskFault ≡ status.NoMemory = sym is ∙ same in absurd (cc no)
    go (Unwritten same) = let no : status.DiskFault ≡ status.WriteFault = sym is ∙ same in absurd (cc no)

  pub comparison_cause : (read reads : ℕ) → HasCause s read reads put puts disk disks
  comparison_cause read reads = go (ended c s before after ends) where
    go : Ended c s → HasCause s read reads put puts disk disks
    go (Told l told same) = subst (λ (x : Status). HasCause x read reads put puts disk disks) (sym same) (likeness_cause l read reads put puts disk disks)
    go (Failed fault same) = subst (λ (x : Status). HasCause x read reads put puts disk disks) (sym same) (disk_cause fault)
    go (Forgot same) = subst (λ (x : Status). HasCause x read reads put puts disk disks) (sym same) tt
    go (Unwritten same) = subst (λ (x : Status). HasCause x read reads put puts disk disks) (sym same) (put_cause same)

  pub comparison_rest : (party mirror : List ℕ) (is_back : List ℕ → Type 0) (unwritten : Type 0) (old new : List ℕ → View)
      → LeavesCompared party mirror c (is_back party) (is_back mirror) old new disk disks → (IsOfParty s → IsAnswered c) → (IsSilent s → unwritten)
      → LeavesRest party mirror s is_back unwritten old new put puts disk disks
  comparison_rest party mirror is_back unwritten old new shelf answered silent = record {
    back = λ of. shelf.back (answered of);
    thirds = shelf.thirds;
    silent = silent;
    write_fault = put_cause;
    disk_fault = comparison_fault;
  }
