-- An image is blank, stands for one state or has one first damage, and no two of these.
use Rattle.std.proofs.Common.{◌≡◌, ◌⊎◌, inl, inr, ℕ, ◌+◌, Bool, true, false, List, [], ◌∷◌, ◌++◌, Some, None, Ok, Err, sym, ◌∙◌, ap, subst, append_assoc, append-nil}
use Rattle.key_journal.specs.Layout.{area_size}
use Rattle.key_journal.specs.Journal.{HoldsBodies, Begins, is_blank, has_magic, start, gate_place}
use Rattle.key_journal.specs.Opening.{found_at}
use Rattle.key_journal.specs.States.{AreFirst}
use Rattle.key_journal.specs.declared.cause.Cause.TheVariants as cause
use Rattle.journal_state.specs.States.{Lead, StandsFor, IsDamagedFrame, IsFirstDamage, found}
use Rattle.journal_state.proofs.Leading.{one_lead, lead_at}

differ : (b : Bool) → b ≡ true → b ≡ false → ⊥
differ b set clear = let never : true ≡ false = sym set ∙ clear in cc never

module _ {S : Type 0} (step : List ℕ → S → S → Type 0) (first : S) (one : (body : List ℕ) (old a b : S) → step body old a → step body old b → a ≡ b) where
  -- what lies at the gate behind bodies that lead to a state is damage
  abbrev Damage : List ℕ → ℕ → S → Type 0
  Damage image gate state = (found image gate ≡ Err (cause.Damaged gate)) ⊎ ((body : List ℕ) × (found image gate ≡ Ok (Some body)) × ((next : S) → step body state next → ⊥))

  -- where the next body of a list lies there is no damage
  sound_there : (image : List ℕ) (gate : ℕ) (bodies rest : List (List ℕ)) (body : List ℕ) (state last : S) → found image gate ≡ Ok (Some body) → Lead step first (bodies ++ body ∷ rest) last → Lead step first bodies state → Damage image gate state → ⊥
  sound_there image gate bodies rest body state last is lead front (inl damaged) =
      let never : Ok (Some body) ≡ Err (cause.Damaged gate) = sym is ∙ damaged in
      cc never
  sound_there image gate bodies rest body state last is lead front (inr other) =
      let both : Ok (Some body) ≡ Ok (Some other.0) = sym is ∙ other.1 in
      let same : body ≡ other.0 = cc both in
      let there : Lead step first ((bodies ++ body ∷ []) ++ rest) last = subst (λ (l : List (List ℕ)). Lead step first l last) (sym (append_assoc bodies (body ∷ []) rest)) lead in
      let next = lead_at step one first state last bodies rest body there front in
      other.2 next.0 (subst (λ (b : List ℕ). step b state next.0) same next.1)

  -- and none where the list ends
  sound_end : (image : List ℕ) (gate : ℕ) (state : S) → found image gate ≡ Ok None → Damage image gate state → ⊥
  sound_end image gate state is (inl damaged) =
      let never : Ok None ≡ Err (cause.Damaged gate) = sym is ∙ damaged in
      cc never
  sound_end image gate state is (inr other) =
      let never : Ok None ≡ Ok (Some other.0) = sym is ∙ other.1 in
      cc never

  module _ (next : (image : List ℕ) (bodies rest : List (List ℕ)) (body : List ℕ) (gate last : ℕ) → Begins image bodies gate → Begins image (bodies ++ body ∷ rest) last
      → found_at image gate (start image + area_size) ≡ Ok (Some body)) where
    -- the bodies of one go on behind those of the other
    same_place_of : (image : List ℕ) (p q : ℕ) (d : IsDamagedFrame step first image p) (e : IsDamagedFrame step first image q) (rest : List (List ℕ)) → e.bodies ≡ d.bodies ++ rest → p ≡ q
    same_place_of image p q d e [] whole =
        let same : e.bodies ≡ d.bodies = whole ∙ append-nil d.bodies in
        d.begins.place ∙ (ap (λ (l : List (List ℕ)). gate_place image l) (sym same) ∙ sym e.begins.place)
    same_place_of image p q d e (body ∷ rest) whole =
        absurd (sound_there image p d.bodies rest body d.state e.state (next image d.bodies rest body p q d.begins (subst (λ (l : List (List ℕ)). Begins image l q) whole e.begins))
        (subst (λ (l : List (List ℕ)). Lead step first l e.state) whole e.lead) d.lead d.damage)

    same_place : (image : List ℕ) (p q : ℕ) (d : IsDamagedFrame step first image p) (e : IsDamagedFrame step first image q) → AreFirst d.bodies e.bodies ⊎ AreFirst e.bodies d.bodies → p ≡ q
    same_place image p q d e (inl more) = same_place_of image p q d e more.rest more.whole
    same_place image p q d e (inr more) = sym (same_place_of image q p e d more.rest more.whole)

    module _ (either : (image : List ℕ) (front other : List (List ℕ)) (g h : ℕ) → Begins image front g → Begins image other h → AreFirst front other ⊎ AreFirst other front) where
      -- one first damage
      pub one_damage : (image : List ℕ) (p q : ℕ) → IsFirstDamage step first image p → IsFirstDamage step first image q → p ≡ q
      one_damage image p q d e = elim d.damage [
        | inl head ↦ elim e.damage [
          | inl there ↦ head.1 ∙ sym there.1
          | inr there ↦ absurd (differ (has_magic image) there.0 head.0)
        ]
        | inr frame ↦ elim e.damage [
          | inl there ↦ absurd (differ (has_magic image) frame.0 there.0)
          | inr there ↦ same_place image p q frame.1 there.1 (either image frame.1.bodies there.1.bodies p q frame.1.begins there.1.begins)
        ]
      ]

      module _ (begins : (image : List ℕ) (bodies : List (List ℕ)) → HoldsBodies image bodies → Begins image bodies (gate_place image bodies))
          (end : (image : List ℕ) (bodies : List (List ℕ)) (gate : ℕ) → Begins image bodies gate → HoldsBodies image bodies → found_at image gate (start image + area_size) ≡ Ok None)
          (head : (image : List ℕ) (bodies : List (List ℕ)) → HoldsBodies image bodies → (is_blank image ≡ false) × (has_magic image ≡ true)) where
        sound_of_all : (image : List ℕ) (place : ℕ) (d : IsDamagedFrame step first image place) (all rest : List (List ℕ)) (state : S) → HoldsBodies image all → Lead step first all state → all ≡ d.bodies ++ rest → ⊥
        sound_of_all image place d all [] state holds lead whole =
            sound_end image place d.state (end image d.bodies place d.begins (subst (λ (l : List (List ℕ)). HoldsBodies image l) (whole ∙ append-nil d.bodies) holds)) d.damage
        sound_of_all image place d all (body ∷ rest) state holds lead whole =
            let holds_all = subst (λ (l : List (List ℕ)). HoldsBodies image l) whole holds in
            sound_there image place d.bodies rest body d.state state (next image d.bodies rest body place (gate_place image (d.bodies ++ body ∷ rest)) d.begins (begins image (d.bodies ++ body ∷ rest) holds_all))
            (subst (λ (l : List (List ℕ)). Lead step first l state) whole lead) d.lead d.damage

        longer_than_all : (image : List ℕ) (place : ℕ) (d : IsDamagedFrame step first image place) (all rest : List (List ℕ)) (state : S) → HoldsBodies image all → Lead step first all state → d.bodies ≡ all ++ rest → ⊥
        longer_than_all image place d all [] state holds lead whole =
            sound_of_all image place d all [] state holds lead (sym (append-nil all) ∙ (sym whole ∙ sym (append-nil d.bodies)))
        longer_than_all image place d all (body ∷ rest) state holds lead whole =
            let here = begins image all holds in
            let some = next image all rest body (gate_place image all) place here (subst (λ (l : List (List ℕ)). Begins image l place) whole d.begins) in
            let none = end image all (gate_place image all) here holds in
            let never : Ok (Some body) ≡ Ok None = sym some ∙ none in
            cc never

        -- an image that stands has no damage
        pub undamaged : (image : List ℕ) (state : S) (place : ℕ) → StandsFor step first image state → IsFirstDamage step first image place → ⊥
        undamaged image state place s damage = elim damage.damage [
          | inl bad ↦ differ (has_magic image) (head image s.bodies s.holds).1 bad.0
          | inr frame ↦ elim (either image frame.1.bodies s.bodies place (gate_place image s.bodies) frame.1.begins (begins image s.bodies s.holds)) [
            | inl more ↦ sound_of_all image place frame.1 s.bodies more.rest state s.holds s.lead more.whole
            | inr more ↦ longer_than_all image place frame.1 s.bodies more.rest state s.holds s.lead more.whole
          ]
        ]

  pub one_state : ((image : List ℕ) (front other : List (List ℕ)) → HoldsBodies image front → HoldsBodies image other → front ≡ other) → (image : List ℕ) (a b : S) → StandsFor step first image a → StandsFor step first image b → a ≡ b
  one_state list image a b x y =
      one_lead step one first a b x.bodies x.lead (subst (λ (l : List (List ℕ)). Lead step first l b) (list image y.bodies x.bodies y.holds x.holds) y.lead)
