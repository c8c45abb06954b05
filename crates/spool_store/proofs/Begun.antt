-- A spool is opened, or created where the image is blank.
use Rattle.std.proofs.Common.{◌≡◌, ◌≢◌, ◌⊎◌, inl, inr, ℕ, ◌≤◌, ◌<◌, Bool, true, false, List, [], ◌∷◌, length, Option, Some, None, is_some, Result, Ok, Err, refl, sym, ◌∙◌, ap, subst, arith}
use Rattle.std.proofs.lemmas.List.Elements.{All-nil}
use Rattle.x_base.specs.Edge.{Rose}
use Rattle.x_disk.specs.Disk.{View, Tells, LeavesOnly, IsUntouched}
use Rattle.x_disk.proofs.Runs.{joined, weaker}
use Rattle.key_journal.specs.Journal.{is_blank}
use Rattle.key_journal.specs.Opening.{IsFree}
use Rattle.key_journal.specs.declared.cause.Cause.{Cause}
use Rattle.key_journal.specs.declared.cause.Cause.TheVariants as cause
use Rattle.key_journal.specs.declared.cause.Unmade.{Unmade}
use Rattle.journal_state.specs.States as journal
use Rattle.journal_state.specs.States.{Stood, Lead}
use Rattle.journal_state.specs.Loading.{IsLoaded}
use Rattle.journal_state.specs.Loading as loading
use Rattle.scenario.specs.Rows.{rows_of}
use Rattle.csm_batch.specs.declared.entry.Entry.{Entry}
use Rattle.csm_batch.specs.Batches.{IsBatch, IsSized, entries_in}
use Rattle.spool_store.specs.declared.cause.SpoolCause.TheVariants.{Journal, OtherBatch}
use Rattle.spool_store.specs.declared.cause.Unbegun.{Unbegun}
use Rattle.spool_store.specs.Plans.{IsEntryPlan}
use Rattle.spool_store.specs.Contents.{Progress, Goes, HoldsPlans, IsProgress}
use Rattle.spool_store.specs.Spools.{Spooled}
use Rattle.spool_store.specs.Beginning.{HoldsBatch, IsFreeCause, IsSpoolRefusal, IsBlankOrBegun, IsBegun, IsSorted, IsSpoolMade}

abbrev pub OneProgress : Type 0
OneProgress = (image : List ℕ) (a b : Option Progress) → journal.StandsFor Goes None image a → journal.StandsFor Goes None image b → a ≡ b

abbrev pub NotBlank : Type 0
NotBlank = (image : List ℕ) (s : Option Progress) → journal.StandsFor Goes None image s → is_blank image ≡ false

differ : (b : Bool) → b ≡ true → b ≡ false → ⊥
differ b set clear = let both : true ≡ false = sym set ∙ clear in cc both

-- some bodies lead to something
leads_some : (s : Option Progress) (bodies : List (List ℕ)) → 0 < length bodies → Lead Goes s bodies None → ⊥
leads_some s [] some lead = absurd (omega (arith, some))
leads_some s (body ∷ []) some lead = subst (λ (o : Option Progress). Goes body s o) (sym lead.2) lead.1
leads_some s (body ∷ next ∷ bodies) some lead = leads_some lead.0 (next ∷ bodies) (omega arith) lead.2

pub never_none : (image : List ℕ) → journal.StandsFor Goes None image None → ⊥
never_none image is = leads_some None is.bodies is.holds.area.some is.lead

free_refusal : (image text : List ℕ) (reason : Cause) → IsFree reason → IsSpoolRefusal image text (Journal reason)
free_refusal image text cause.Blank free = free
free_refusal image text cause.NotEmpty free = free
free_refusal image text (cause.Damaged place) free = absurd free
free_refusal image text cause.Fault free = tt
free_refusal image text cause.NoMemory free = tt

spool_refusal : (image text : List ℕ) (reason : Cause) → (reason ≡ cause.Blank → ⊥) → loading.IsRefusal Goes None image reason → IsSpoolRefusal image text (Journal reason)
spool_refusal image text cause.Blank other refused = other refl
spool_refusal image text cause.NotEmpty other refused = refused
spool_refusal image text (cause.Damaged place) other refused = refused
spool_refusal image text cause.Fault other refused = tt
spool_refusal image text cause.NoMemory other refused = tt

-- a blank image gives no other cause
blank_free : (image : List ℕ) (reason : Cause) → is_blank image ≡ true → (reason ≡ cause.Blank → ⊥) → loading.IsRefusal Goes None image reason → IsFree reason
blank_free image cause.Blank blank other refused = other refl
blank_free image cause.NotEmpty blank other refused = refused
blank_free image (cause.Damaged place) blank other refused = absurd (differ (is_blank image) blank refused.not_blank)
blank_free image cause.Fault blank other refused = tt
blank_free image cause.NoMemory blank other refused = tt

rose_later : (a b c : ℕ) → a ≤ b → Rose b c → Rose a c
rose_later a b c le (inl less) = inl (omega (arith, le, less))
rose_later a b c le (inr most) = inr most

same_journal : (a b : Cause) → Journal a ≡ Journal b → a ≡ b
same_journal a b is = cc is

module _ {E : Type 0} (told : E → View) (old : E) (text : List ℕ) (entries : List Entry) (batch : IsBatch text entries) (sized : IsSized text entries) (one : OneProgress) (not_blank : NotBlank) where
  -- a disk that is left untouched leaves what it may leave
  either : (new : View) → IsUntouched (told old) new → Tells (told old) → LeavesOnly (told old) new (λ c. IsBlankOrBegun text entries c ⊎ (told old).may_leave c)
  either new untouched tells = weaker (told old) new (told old).may_leave (λ c. IsBlankOrBegun text entries c ⊎ (told old).may_leave c) untouched.any_moment (λ c left. inr left)

  -- the image stands
  module _ (standing : Stood E (Option Progress)) (loaded : IsLoaded Goes None told old (Ok standing)) where
    stands_for : (p : Progress) → standing.state ≡ Some p → (image : List ℕ) → (told old).now ≡ Some image → HoldsPlans image p
    stands_for p is image now = subst (journal.StandsFor Goes None image) is (loaded.stands.stands image (loaded.untouched.now ∙ now))

    abbrev Why : Unbegun E → Type 0
    Why u = ((u.cause ≡ OtherBatch) × ((p : Progress) × (standing.state ≡ Some p) × (p.text ≢ text))) ⊎ ((u.cause ≡ Journal cause.Blank) × (standing.state ≡ None))

    pub sorted : (result : Result (Spooled E) (Unbegun E)) → IsSorted told text standing result → IsBegun told text entries old result
    sorted (Ok s) h =
        let disk : standing.disk ≡ s.disk = ap (λ (t : Stood E (Option Progress)). t.disk) h.is in
        let untouched : IsUntouched (told old) (told s.disk) = subst (λ (d : E). IsUntouched (told old) (told d)) disk loaded.untouched in
        record {
          spool = h.spool;
          batch = (h.same, h.spool.progress.batch.values ∙ (ap (λ (t : List ℕ). entries_in (rows_of t)) h.same ∙ sym batch.values));
          reads = λ image now. inr (stands_for s.progress (ap (λ (t : Stood E (Option Progress)). t.state) h.is) image now);
          refused = tt;
          never_refused = tt;
          untouched = λ image now some. untouched;
          any_moment = either (told s.disk) untouched;
          fault = tt;
          faults = subst (λ (d : E). (told old).faults ≤ (told d).faults) disk loaded.faults;
          tells = ap is_some untouched.now;
        }
    sorted (Err u) h =
        let untouched : IsUntouched (told old) (told u.disk) = subst (λ (d : E). IsUntouched (told old) (told d)) (sym h.disk) loaded.untouched in
        record {
          spool = tt;
          batch = tt;
          reads = tt;
          refused = λ image now. refused_by image now h.other;
          never_refused = λ image now either. absurd (never image now either h.other);
          untouched = λ image now some. untouched;
          any_moment = λ tells. weaker (told old) (told u.disk) (told old).may_leave (λ c. IsBlankOrBegun text entries c ⊎ (told old).may_leave c) untouched.any_moment (λ c left. inr left);
          fault = λ is. absurd (no_fault is h.other);
          faults = subst (λ (d : E). (told old).faults ≤ (told d).faults) (sym h.disk) loaded.faults;
          tells = ap is_some untouched.now;
        }
      where
        refused_by : (image : List ℕ) → (told old).now ≡ Some image → Why u → IsSpoolRefusal image text u.cause
        refused_by image now (inl (is, (p, state, differs))) = subst (IsSpoolRefusal image text) (sym is) (record { other = p; holds = stands_for p state image now; differs = differs })
        refused_by image now (inr (is, state)) = absurd (never_none image (subst (journal.StandsFor Goes None image) state (loaded.stands.stands image (loaded.untouched.now ∙ now))))

        never : (image : List ℕ) → (told old).now ≡ Some image → (is_blank image ≡ true) ⊎ HoldsBatch image text → Why u → ⊥
        never image now (inl blank) why = differ (is_blank image) blank (loaded.not_blank image now)
        never image now (inr same) (inl (is, (p, state, differs))) =
            let both : Some same.same ≡ Some p = one image (Some same.same) (Some p) same.holds (stands_for p state image now) in
            let progress : same.same ≡ p = cc both in
            differs (sym (ap (λ (q : Progress). q.text) progress) ∙ same.is)
        never image now (inr same) (inr (is, state)) = never_none image (subst (journal.StandsFor Goes None image) state (loaded.stands.stands image (loaded.untouched.now ∙ now)))

        no_fault : u.cause ≡ Journal cause.Fault → Why u → ⊥
        no_fault is (inl (other, rest)) = let both : Journal cause.Fault ≡ OtherBatch = sym is ∙ other in cc both
        no_fault is (inr (blank, rest)) = let both : cause.Fault ≡ cause.Blank = same_journal cause.Fault cause.Blank (sym is ∙ blank) in cc both

  -- it is neither blank nor stands
  pub unopened : (u : Unmade E) → (u.cause ≡ cause.Blank → ⊥) → IsLoaded Goes None told old (Err u) → IsBegun told text entries old (Err (record { disk = u.disk; cause = Journal u.cause }))
  unopened u other loaded = record {
    spool = tt;
    batch = tt;
    reads = tt;
    refused = λ image now. spool_refusal image text u.cause other (loaded.refused image now);
    never_refused = λ image now reads. elim reads [
      | inl blank ↦ blank_free image u.cause blank other (loaded.refused image now)
      | inr has ↦ loaded.never_refused image (Some has.same) now has.holds
    ];
    untouched = λ image now some. loaded.untouched;
    any_moment = either (told u.disk) loaded.untouched;
    fault = λ is. loaded.fault (same_journal u.cause cause.Fault is);
    faults = loaded.faults;
    tells = ap is_some loaded.untouched.now;
  }

  -- it is blank
  module _ (u : Unmade E) (blank_is : u.cause ≡ cause.Blank) (loaded : IsLoaded Goes None told old (Err u)) where
    blank : (image : List ℕ) → (told old).now ≡ Some image → is_blank image ≡ true
    blank image now = subst (loading.IsRefusal Goes None image) blank_is (loaded.refused image now)

    made_moments : (new : View) → (Tells (told u.disk) → LeavesOnly (told u.disk) new (λ c. IsBlankOrBegun text entries c ⊎ (told u.disk).may_leave c)) → Tells (told old)
        → LeavesOnly (told old) new (λ c. IsBlankOrBegun text entries c ⊎ (told old).may_leave c)
    made_moments new made tells =
        joined (told old) (told u.disk) new (λ c. IsBlankOrBegun text entries c ⊎ (told old).may_leave c) (either (told u.disk) loaded.untouched tells)
        (weaker (told u.disk) new (λ c. IsBlankOrBegun text entries c ⊎ (told u.disk).may_leave c) (λ c. IsBlankOrBegun text entries c ⊎ (told old).may_leave c)
        (made (ap is_some loaded.untouched.now ∙ tells)) (λ c left. elim left [ inl there ↦ inl there | inr before ↦ inr (loaded.untouched.images c before) ]))

    pub created : (result : Result (Spooled E) (Unbegun E)) → IsSpoolMade told text entries u.disk result → IsBegun told text entries old result
    created (Ok s) (is, made) =
        let any : Tells (told old) → LeavesOnly (told old) (told s.disk) (λ c. IsBlankOrBegun text entries c ⊎ (told old).may_leave c) = made_moments (told s.disk) made.any_moment in
        record {
          spool = record { standing = made.stands; progress = subst IsProgress (sym is) (record { batch = batch; sized = sized; each = All-nil IsEntryPlan; few = omega arith }) };
          batch = (ap (λ (p : Progress). p.text) is, ap (λ (p : Progress). p.entries) is);
          reads = λ image now. inl (blank image now, ap (λ (p : Progress). p.plans) is);
          refused = tt;
          never_refused = tt;
          untouched = λ image now some. absurd (differ (is_blank image) (blank image now) some);
          any_moment = any;
          fault = tt;
          faults = omega (arith, loaded.faults, made.faults);
          tells = made.tells ∙ ap is_some loaded.untouched.now;
        }
    created (Err v) (reason, is, made) =
        let any : Tells (told old) → LeavesOnly (told old) (told v.disk) (λ c. IsBlankOrBegun text entries c ⊎ (told old).may_leave c) = made_moments (told v.disk) made.any_moment in
        record {
          spool = tt;
          batch = tt;
          reads = tt;
          refused = λ image now. subst (IsSpoolRefusal image text) (sym is) (free_refusal image text reason (free image now));
          never_refused = λ image now reads. subst IsFreeCause (sym is) (free image now);
          untouched = λ image now some. absurd (differ (is_blank image) (blank image now) some);
          any_moment = any;
          fault = λ f. rose_later (told old).faults (told u.disk).faults (told v.disk).faults loaded.faults (made.fault (same_journal reason cause.Fault (sym is ∙ f)));
          faults = omega (arith, loaded.faults, made.faults);
          tells = made.tells ∙ ap is_some loaded.untouched.now;
        }
      where
        free : (image : List ℕ) → (told old).now ≡ Some image → IsFree reason
        free image now = elim (made.exact image (loaded.untouched.now ∙ now)) [ inl none ↦ none | inr full ↦ absurd (differ (is_blank image) (blank image now) full.1) ]
