-- No image is nothing: neither blank, nor the image of a state, nor damaged.
use Rattle.std.proofs.Common.{◌≡◌, inl, inr, ℕ, ◌+◌, true, false, List, [], ◌∷◌, ◌++◌, Some, Ok, refl, sym, ◌∙◌, subst, append_assoc, append-nil}
use Rattle.key_journal.specs.Layout.{area_size}
use Rattle.key_journal.specs.Journal.{HoldsBodies, Begins, is_blank, has_magic, start, gate_place}
use Rattle.key_journal.specs.Opening.{AreBytes, IsDamagedAt, IsJudged, found_at}
use Rattle.journal_state.specs.States.{Lead, IsDamagedFrame, IsNothing}
use Rattle.journal_state.proofs.Leading.{lead_on}

module _ {S : Type 0} (step : List ℕ → S → S → Type 0) (first : S)
    (front : (image : List ℕ) (bodies rest : List (List ℕ)) (last : ℕ) → Begins image (bodies ++ rest) last → Begins image bodies (gate_place image bodies))
    (next : (image : List ℕ) (bodies rest : List (List ℕ)) (body : List ℕ) (gate last : ℕ) → Begins image bodies gate → Begins image (bodies ++ body ∷ rest) last
    → found_at image gate (start image + area_size) ≡ Ok (Some body)) where
  -- the bodies of an image without a damage lead to a state
  all_lead : (image : List ℕ) (last : ℕ) (bodies rest : List (List ℕ)) (state : S) → ((gate : ℕ) → IsDamagedFrame step first image gate → ⊥) → Begins image (bodies ++ rest) last → Lead step first bodies state
      → ((new : S) → Lead step first (bodies ++ rest) new → ⊥) → ⊥
  all_lead image last bodies [] state whole begins lead never = never state (subst (λ (l : List (List ℕ)). Lead step first l state) (sym (append-nil bodies)) lead)
  all_lead image last bodies (body ∷ rest) state whole begins lead never =
      let here = front image bodies (body ∷ rest) last begins in
      let gate = gate_place image bodies in
      let is = next image bodies rest body gate last here begins in
      let same = append_assoc bodies (body ∷ []) rest in
      let leads : (new : S) → step body state new → ⊥ = λ new follows.
      all_lead image last (bodies ++ body ∷ []) rest new whole (subst (λ (l : List (List ℕ)). Begins image l last) (sym same) begins) (lead_on step first state new bodies body lead follows)
      (λ end all. never end (subst (λ (l : List (List ℕ)). Lead step first l end) same all)) in
      whole gate (record { bodies = bodies; state = state; begins = here; lead = lead; damage = inr (body, is, leads) })

  -- no image is nothing
  pub never_nothing : ((image : List ℕ) (bodies : List (List ℕ)) → HoldsBodies image bodies → Begins image bodies (gate_place image bodies))
      → ((image : List ℕ) (bodies : List (List ℕ)) → HoldsBodies image bodies → (is_blank image ≡ false) × (has_magic image ≡ true))
      → ((image : List ℕ) → AreBytes image → IsJudged image)
      → (image : List ℕ) → AreBytes image → IsNothing step first image → ⊥
  never_nothing begins head judged image bytes nothing = elim (judged image bytes) [
    | inl blank ↦ let never : true ≡ false = sym blank ∙ nothing.not_blank in cc never
    | inr other ↦ elim other [
      | inl sound ↦ stood sound.0 sound.1
      | inr broken ↦ damaged broken.0 broken.1
    ]
  ]
    where
      whole : has_magic image ≡ true → (gate : ℕ) → IsDamagedFrame step first image gate → ⊥
      whole is gate frame = nothing.undamaged gate (record { not_blank = nothing.not_blank; damage = inr (is, frame) })

      stood : (bodies : List (List ℕ)) → HoldsBodies image bodies → ⊥
      stood bodies holds =
          all_lead image (gate_place image bodies) [] bodies first (whole (head image bodies holds).1) (begins image bodies holds) refl
          (λ state lead. nothing.no_state state (record { bodies = bodies; holds = holds; lead = lead }))

      damaged : (place : ℕ) → IsDamagedAt image place → ⊥
      damaged place d = elim d.damage [
        | inl bad ↦ nothing.undamaged place (record { not_blank = nothing.not_blank; damage = inl bad })
        | inr gate ↦ all_lead image place [] gate.1.bodies first (whole gate.0) gate.1.begins refl
            (λ state lead. whole gate.0 place (record { bodies = gate.1.bodies; state = state; begins = gate.1.begins; lead = lead; damage = inl gate.1.damage }))
      ]
