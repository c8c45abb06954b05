-- A state is kept: what a crash leaves, and what stands behind it.
use Rattle.std.proofs.Common.{◌≡◌, inl, inr, ℕ, ◌≤◌, List, [], ◌∷◌, ◌++◌, length, true, Option, Some, None, is_some, Ok, Err, refl, sym, ◌∙◌, ap, subst, arith}
use Rattle.x_disk.specs.Disk.{View, Tells, LeavesOnly, IsDurable}
use Rattle.x_disk.specs.declared.disk.DiskErr.{DiskErr}
use Rattle.x_disk.proofs.Runs.{joined, weaker}
use Rattle.key_journal.specs.Journal.{HoldsBodies, IsBody, frame_of}
use Rattle.key_journal.specs.States.{HasBodies, HasStaged, FaultsRose, HasRoom, Site, Pending, Failed}
use Rattle.key_journal.specs.States as journal
use Rattle.key_journal.specs.Writing.{IsStaging, IsCommit, IsSwitch}
use Rattle.journal_state.specs.States.{Lead, Stood, IsStanding, StandsForOldOrNext}
use Rattle.journal_state.specs.Keeping.{IsFrameOf, IsKept, IsReplaced}
use Rattle.journal_state.proofs.Leading.{lead_on}
use Rattle.journal_state.proofs.Loaded.{rose_later}

told_image : (now : Option (List ℕ)) → is_some now ≡ true → (image : List ℕ) × (now ≡ Some image)
told_image (Some image) is = (image, refl)
told_image None is = absurd (cc is)

pub told_before : (old new : Option (List ℕ)) (c : List ℕ) → is_some new ≡ is_some old → new ≡ Some c → (b : List ℕ) × (old ≡ Some b)
told_before (Some b) new c tells is = (b, refl)
told_before None None c tells is = absurd (cc is)
told_before None (Some d) c tells is = absurd (cc tells)

pub faults_later : (v0 v1 v2 : View) (cause : DiskErr) → v0.faults ≤ v1.faults → FaultsRose v1 v2 cause → FaultsRose v0 v2 cause
faults_later v0 v1 v2 cause le rose = record { later = omega (arith, le, rose.later); fault = λ is. rose_later v0.faults v1.faults v2.faults le (rose.fault is) }

-- a new journal stands for its state, by what the call that made it says of the bodies
pub made_standing : {S : Type 0} (step : List ℕ → S → S → Type 0) (first : S) (v0 v1 : View) (gate end : ℕ) (state : S) → is_some v1.now ≡ is_some v0.now → (Tells v0 → (bodies : List (List ℕ)) × HasBodies v1 bodies × Lead step first bodies state)
    → IsDurable v1 → HasRoom v1 gate end → IsStanding step first v1 gate end state
made_standing step first v0 v1 gate end state same there durable room = record {
  durable = durable;
  stands = λ image now.
      let was = told_before v0.now v1.now image same now in
      let is = there (ap is_some was.1) in
      let both : Some is.1.image ≡ Some image = sym is.1.now ∙ now in
      let one : is.1.image ≡ image = cc both in
      record { bodies = is.0; holds = subst (λ (l : List ℕ). HoldsBodies l is.0) one is.1.holds; lead = is.2 };
  room = room;
}

module _ {D S : Type 0} (step : List ℕ → S → S → Type 0) (first : S) (told : D → View) (old : Stood D S) (next : S) (standing : IsStanding step first (told old.disk) old.gate old.end old.state) where
  -- the bodies for which the image stands now
  here : Tells (told old.disk) → (bodies : List (List ℕ)) × HasBodies (told old.disk) bodies × Lead step first bodies old.state
  here tells =
      let image = told_image (told old.disk).now tells in
      let s = standing.stands image.0 image.1 in
      (s.bodies, record { image = image.0; now = image.1; holds = s.holds }, s.lead)

  abbrev site : Site D
  site = record { disk = old.disk; gate = old.gate; end = old.end }

  module _ (frame : List ℕ) where
    -- the state begins anew
    module _ (is : IsFrameOf step frame first next) where
      alone : Lead step first (is.body ∷ []) next
      alone = (next, is.leads, refl)

      either_alone : (bodies : List (List ℕ)) (c : List ℕ) → Lead step first bodies old.state → journal.IsOldOrAlone bodies is.body c → StandsForOldOrNext step first old.state next c
      either_alone bodies c lead (inl holds) = inl (record { bodies = bodies; holds = holds; lead = lead })
      either_alone bodies c lead (inr holds) = inr (record { bodies = is.body ∷ []; holds = holds; lead = alone })

      switched_any : (v : View) → ((bodies : List (List ℕ)) (body : List ℕ) → HasBodies (told old.disk) bodies → IsBody body → frame ≡ frame_of body → LeavesOnly (told old.disk) v (journal.IsOldOrAlone bodies body))
          → Tells (told old.disk) → LeavesOnly (told old.disk) v (StandsForOldOrNext step first old.state next)
      switched_any v any tells =
          let h = here tells in
          weaker (told old.disk) v (journal.IsOldOrAlone h.0 is.body) (StandsForOldOrNext step first old.state next) (any h.0 is.body h.1 is.is_body is.is) (λ c either. either_alone h.0 c h.2 either)

      pub switched_standing : (r : Site D) → IsSwitch told site frame (Ok r) → IsStanding step first (told r.disk) r.gate r.end next
      switched_standing r switch =
          made_standing step first (told old.disk) (told r.disk) r.gate r.end next switch.tells (λ tells. (is.body ∷ [], switch.switched is.body is.is_body is.is tells, alone)) switch.durable switch.room

      pub switched : (r : Site D) → IsSwitch told site frame (Ok r) → IsReplaced step first told old next (Ok (record { disk = r.disk; gate = r.gate; end = r.end; state = next }))
      switched r switch = record {
        state = refl;
        stands = switched_standing r switch;
        any_moment = switched_any (told r.disk) switch.any_moment;
        cause = tt;
        faults = switch.faults;
        tells = switch.tells;
      }

      pub not_switched : (b : Failed D) → IsSwitch told site frame (Err b) → IsReplaced step first told old next (Err b)
      not_switched b switch = record {
        state = tt;
        stands = tt;
        any_moment = switched_any (told b.disk) switch.any_moment;
        cause = switch.cause;
        faults = switch.faults;
        tells = switch.tells;
      }

    -- a body more
    module _ (is : IsFrameOf step frame old.state next) where
      either_more : (bodies : List (List ℕ)) (c : List ℕ) → Lead step first bodies old.state → journal.HoldsOldOrNew bodies is.body c → StandsForOldOrNext step first old.state next c
      either_more bodies c lead (inl holds) = inl (record { bodies = bodies; holds = holds; lead = lead })
      either_more bodies c lead (inr holds) = inr (record { bodies = bodies ++ is.body ∷ []; holds = holds; lead = lead_on step first old.state next bodies is.body lead is.leads })

      staged_any : (v : View) → ((bodies : List (List ℕ)) → HasBodies (told old.disk) bodies → LeavesOnly (told old.disk) v (λ c. HoldsBodies c bodies)) → Tells (told old.disk) → LeavesOnly (told old.disk) v (StandsForOldOrNext step first old.state next)
      staged_any v any tells =
          let h = here tells in
          weaker (told old.disk) v (λ c. HoldsBodies c h.0) (StandsForOldOrNext step first old.state next) (any h.0 h.1) (λ c holds. inl (record { bodies = h.0; holds = holds; lead = h.2 }))

      pub not_staged : (b : Failed D) → IsStaging told site frame (Err b) → IsKept step first told old (length frame) next (Err b)
      not_staged b staging = record {
        replaced = record {
          state = tt;
          stands = tt;
          any_moment = staged_any (told b.disk) staging.any_moment;
          cause = staging.cause;
          faults = staging.faults;
          tells = staging.tells;
        };
        place = tt;
      }

      module _ (s : Pending D) (staging : IsStaging told site frame (Ok s)) where
        committed_any : (v : View) → ((bodies : List (List ℕ)) (body : List ℕ) → HasStaged (told s.disk) bodies body → LeavesOnly (told s.disk) v (journal.HoldsOldOrNew bodies body))
            → Tells (told old.disk) → LeavesOnly (told old.disk) v (StandsForOldOrNext step first old.state next)
        committed_any v any tells =
            let h = here tells in
            joined (told old.disk) (told s.disk) v (StandsForOldOrNext step first old.state next) (staged_any (told s.disk) staging.any_moment tells)
            (weaker (told s.disk) v (journal.HoldsOldOrNew h.0 is.body) (StandsForOldOrNext step first old.state next) (any h.0 is.body (staging.staged h.0 is.body h.1 is.is_body is.is)) (λ c either. either_more h.0 c h.2 either))

        pub not_committed : (b : Failed D) → IsCommit told s (Err b) → IsKept step first told old (length frame) next (Err b)
        not_committed b commit = record {
          replaced = record {
            state = tt;
            stands = tt;
            any_moment = committed_any (told b.disk) commit.any_moment;
            cause = faults_later (told old.disk) (told s.disk) (told b.disk) b.cause staging.faults commit.cause;
            faults = omega (arith, staging.faults, commit.faults);
            tells = commit.tells ∙ staging.tells;
          };
          place = tt;
        }

        pub committed_standing : (r : Site D) → IsCommit told s (Ok r) → IsStanding step first (told r.disk) r.gate r.end next
        committed_standing r commit =
            made_standing step first (told old.disk) (told r.disk) r.gate r.end next (commit.tells ∙ staging.tells)
            (λ tells.
            let h = here tells in
            (h.0 ++ is.body ∷ [], commit.committed h.0 is.body (staging.staged h.0 is.body h.1 is.is_body is.is), lead_on step first old.state next h.0 is.body h.2 is.leads))
            commit.durable commit.room

        pub committed : (r : Site D) → IsCommit told s (Ok r) → IsKept step first told old (length frame) next (Ok (record { disk = r.disk; gate = r.gate; end = r.end; state = next }))
        committed r commit = record {
          replaced = record {
            state = refl;
            stands = committed_standing r commit;
            any_moment = committed_any (told r.disk) commit.any_moment;
            cause = tt;
            faults = omega (arith, staging.faults, commit.faults);
            tells = commit.tells ∙ staging.tells;
          };
          place = (commit.place.0 ∙ staging.place.1, commit.place.1 ∙ staging.place.2);
        }
