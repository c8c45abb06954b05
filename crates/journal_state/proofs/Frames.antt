-- Reading the frames of a journal one after the other.
use Rattle.std.proofs.Common.{◌≡◌, ◌⊎◌, inl, inr, ℕ, ◌+◌, List, [], ◌∷◌, ◌++◌, Some, Ok, Err, refl, sym, ◌∙◌, ap, subst}
use Rattle.key_journal.specs.Layout.{area_size}
use Rattle.x_disk.specs.Disk.{View}
use Rattle.key_journal.specs.Journal.{HoldsBodies, Begins, start}
use Rattle.key_journal.specs.Opening.{IsFree, IsFound, found_at}
use Rattle.key_journal.specs.States.{HasRead, HasBodies, AreFirst}
use Rattle.key_journal.specs.declared.cause.Cause.{Cause}
use Rattle.key_journal.specs.declared.cause.Cause.TheVariants as cause
use Rattle.journal_state.specs.States.{Lead, IsDamagedFrame}
use Rattle.journal_state.specs.Loading.{ReadTo, Stops, StandsOnly, NeverRefused}
use Rattle.journal_state.proofs.Leading.{lead_on, one_lead, lead_at}

-- what holds of the image that a read gives
same_image : (v : View) (image other : List ℕ) → v.now ≡ Some image → v.now ≡ Some other → other ≡ image
same_image v image other is there = let both : Some other ≡ Some image = sym there ∙ is in cc both

module _ {S : Type 0} (step : List ℕ → S → S → Type 0) (first : S) where
  -- a frame that is damaged in itself
  stop_frame : (image : List ℕ) (bodies : List (List ℕ)) (state : S) (gate end : ℕ) (reason : Cause) → Begins image bodies gate → Lead step first bodies state → end ≡ start image + area_size
      → IsFound (found_at image gate end) (Err reason) → IsFree reason ⊎ (reason ≡ cause.Damaged gate) → IsFree reason ⊎ ((reason ≡ cause.Damaged gate) × IsDamagedFrame step first image gate)
  stop_frame image bodies state gate end reason begins lead last (inl free) names = inl free
  stop_frame image bodies state gate end reason begins lead last (inr is) (inl free) = inl free
  stop_frame image bodies state gate end reason begins lead last (inr is) (inr there) = inr (
    there,
    record { bodies = bodies; state = state; begins = begins; lead = lead; damage = inl (ap (λ (e : ℕ). found_at image gate e) (sym last) ∙ (is ∙ ap (λ (c : Cause). Err c) there)) },
  )

  module _ (v0 v1 : View) (gate end : ℕ) (state : S) (read : ReadTo step first v0 gate end state) where
    pub next_stops : (reason : Cause) → ((image : List ℕ) → v0.now ≡ Some image → IsFound (found_at image gate end) (Err reason)) → IsFree reason ⊎ (reason ≡ cause.Damaged gate) → Stops step first v0 gate reason
    next_stops reason exact names image now =
        let r = read image now in
        stop_frame image r.bodies state gate end reason r.begins r.lead r.last (exact image now) names

    -- a body that can't follow
    pub next_unsound : (body : List ℕ) → ((image : List ℕ) → v0.now ≡ Some image → IsFound (found_at image gate end) (Ok (Some body))) → ((s : S) → step body state s → ⊥) → Stops step first v0 gate (cause.Damaged gate)
    next_unsound body exact never image now =
        let r = read image now in
        inr (refl, record { bodies = r.bodies; state = state; begins = r.begins; lead = r.lead; damage = inr (body, ap (λ (e : ℕ). found_at image gate e) (sym r.last) ∙ exact image now, never) })

    pub next_read : (next : ℕ) (body : List ℕ) (new : S) → v1.now ≡ v0.now
        → ((bodies : List (List ℕ)) → HasRead v0 bodies gate → HasRead v1 (bodies ++ body ∷ []) next) → step body state new → ReadTo step first v1 next end new
    next_read next body new same more follows image now =
        let before = sym same ∙ now in
        let r = read image before in
        let there = more r.bodies (record { image = image; now = before; begins = r.begins }) in
        record {
          bodies = r.bodies ++ body ∷ [];
          begins = subst (λ (l : List ℕ). Begins l (r.bodies ++ body ∷ []) next) (same_image v1 image there.image now there.now) there.begins;
          lead = lead_on step first state new r.bodies body r.lead follows;
          last = r.last;
        }

    module _ (one : (body : List ℕ) (old a b : S) → step body old a → step body old b → a ≡ b) (same : v1.now ≡ v0.now) where
      pub next_none : ((bodies : List (List ℕ)) → HasRead v0 bodies gate → HasBodies v1 bodies)
          → ((bodies all : List (List ℕ)) → HasRead v0 bodies gate → HasBodies v0 all → all ≡ bodies) → StandsOnly step first v1 state
      next_none all only image now =
          let before = sym same ∙ now in
          let r = read image before in
          let there : HasRead v0 r.bodies gate = record { image = image; now = before; begins = r.begins } in
          let has = all r.bodies there in (
            record { bodies = r.bodies; holds = subst (λ (l : List ℕ). HoldsBodies l r.bodies) (same_image v1 image has.image now has.now) has.holds; lead = r.lead },
            λ other stands.
                let all_same = only r.bodies stands.bodies there (record { image = image; now = before; holds = stands.holds }) in
                one_lead step one first state other r.bodies r.lead (subst (λ (l : List (List ℕ)). Lead step first l other) all_same stands.lead),
          )

      -- a body that can't follow isn't there in an image that stands
      pub never_unsound : (next : ℕ) (body : List ℕ) → ((bodies : List (List ℕ)) → HasRead v0 bodies gate → HasRead v1 (bodies ++ body ∷ []) next)
          → ((bodies all : List (List ℕ)) → HasRead v1 bodies next → HasBodies v1 all → AreFirst bodies all) → (reason : Cause) → ((s : S) → step body state s → ⊥) → NeverRefused step first v0 reason
      never_unsound next body more front reason never image last now stands =
          let r = read image now in
          let f = front (r.bodies ++ body ∷ []) stands.bodies (more r.bodies (record { image = image; now = now; begins = r.begins })) (record { image = image; now = same ∙ now; holds = stands.holds }) in
          let new = lead_at step one first state last r.bodies f.rest body (subst (λ (l : List (List ℕ)). Lead step first l last) f.whole stands.lead) r.lead in
          absurd (never new.0 new.1)

  -- a cause of the journal
  pub is_never_refused : (v : View) (reason : Cause) → ((bodies : List (List ℕ)) → HasBodies v bodies → IsFree reason) → NeverRefused step first v reason
  is_never_refused v reason undamaged image state now stands = undamaged stands.bodies (record { image = image; now = now; holds = stands.holds })
