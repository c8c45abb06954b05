-- A spool is opened, whatever its batch.
use Rattle.std.proofs.Common.{◌≡◌, ℕ, ◌≤◌, List, Option, Some, None, Ok, Err, sym, ◌∙◌, subst}
use Rattle.x_disk.specs.Disk.{View, IsUntouched}
use Rattle.key_journal.specs.declared.cause.Cause.TheVariants as cause
use Rattle.key_journal.specs.declared.cause.Unmade.{Unmade}
use Rattle.journal_state.specs.States as journal
use Rattle.journal_state.specs.States.{Stood}
use Rattle.journal_state.specs.Loading.{IsLoaded}
use Rattle.spool_store.specs.Contents.{Progress, Goes, HoldsPlans, IsProgress}
use Rattle.spool_store.specs.Spools.{IsSpool, spooled}
use Rattle.spool_store.specs.Opening.{IsSpoolOpened}
use Rattle.spool_store.proofs.Begun.{never_none}

module _ {E : Type 0} (told : E → View) (old : E) where
  pub unread : (u : Unmade E) → IsLoaded Goes None told old (Err u) → IsSpoolOpened told old (Err u)
  unread u loaded = record {
    spool = tt;
    reads = tt;
    refused = loaded.refused;
    never_refused = λ image p now holds. loaded.never_refused image (Some p) now holds;
    untouched = loaded.untouched;
    fault = loaded.fault;
    faults = loaded.faults;
  }

  module _ (standing : Stood E (Option Progress)) (loaded : IsLoaded Goes None told old (Ok standing)) where
    stands : (image : List ℕ) → (told old).now ≡ Some image → journal.StandsFor Goes None image standing.state
    stands image now = loaded.stands.stands image (loaded.untouched.now ∙ now)

    -- a journal that stands has its batch
    pub empty : standing.state ≡ None → (disk : E) → disk ≡ standing.disk → IsSpoolOpened told old (Err (record { disk = disk; cause = cause.Blank }))
    empty none disk is =
        let never : (image : List ℕ) → (told old).now ≡ Some image → ⊥ = λ image now. never_none image (subst (journal.StandsFor Goes None image) none (stands image now)) in
        record {
          spool = tt;
          reads = tt;
          refused = λ image now. absurd (never image now);
          never_refused = λ image p now holds. absurd (never image now);
          untouched = subst (λ (d : E). IsUntouched (told old) (told d)) (sym is) loaded.untouched;
          fault = λ bad. absurd (cc bad);
          faults = subst (λ (d : E). (told old).faults ≤ (told d).faults) (sym is) loaded.faults;
        }

    pub read : (p : Progress) → standing.state ≡ Some p → IsProgress p → IsSpoolOpened told old (Ok (spooled standing))
    read p some progress = record {
      spool = subst (λ (o : Option Progress). IsSpool (told standing.disk) standing.gate standing.end (spooled (record { disk = standing.disk; gate = standing.gate; end = standing.end; state = o })).progress) (sym some)
          (record { standing = subst (journal.IsStanding Goes None (told standing.disk) standing.gate standing.end) some loaded.stands; progress = progress });
      reads = λ image now. subst (λ (o : Option Progress). HoldsPlans image (spooled (record { disk = standing.disk; gate = standing.gate; end = standing.end; state = o })).progress) (sym some)
          (subst (journal.StandsFor Goes None image) some (stands image now));
      refused = tt;
      never_refused = tt;
      untouched = loaded.untouched;
      fault = tt;
      faults = loaded.faults;
    }
