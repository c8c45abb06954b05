-- Bodies one after the other, and the state that they make.
use Rattle.std.proofs.Common.{◌≡◌, ℕ, List, [], ◌∷◌, ◌++◌, refl, sym, ◌∙◌, subst}
use Rattle.journal_state.specs.States.{Lead}

-- one body more
pub lead_on : {S : Type 0} (step : List ℕ → S → S → Type 0) (old mid new : S) (bodies : List (List ℕ)) (body : List ℕ) → Lead step old bodies mid → step body mid new → Lead step old (bodies ++ body ∷ []) new
lead_on step old mid new [] body is next = (new, subst (λ s. step body s new) is next, refl)
lead_on step old mid new (b ∷ bodies) body lead next = (lead.0, lead.1, lead_on step lead.0 mid new bodies body lead.2 next)

module _ {S : Type 0} (step : List ℕ → S → S → Type 0) (one : (body : List ℕ) (old a b : S) → step body old a → step body old b → a ≡ b) where
  -- bodies lead to one state only
  pub one_lead : (old a b : S) (bodies : List (List ℕ)) → Lead step old bodies a → Lead step old bodies b → a ≡ b
  one_lead old a b [] first second = first ∙ sym second
  one_lead old a b (body ∷ bodies) first second =
      one_lead first.0 a b bodies first.2 (subst (λ s. Lead step s bodies b) (one body old second.0 first.0 second.1 first.1) second.2)

  -- each body follows those in front of it
  pub lead_at : (old mid last : S) (bodies rest : List (List ℕ)) (body : List ℕ) → Lead step old ((bodies ++ body ∷ []) ++ rest) last → Lead step old bodies mid → (next : S) × step body mid next
  lead_at old mid last [] rest body all some = (all.0, subst (λ s. step body s all.0) (sym some) all.1)
  lead_at old mid last (b ∷ bodies) rest body all some =
      lead_at all.0 mid last bodies rest body all.2 (subst (λ s. Lead step s bodies mid) (one b old some.0 all.0 some.1 all.1) some.2)
