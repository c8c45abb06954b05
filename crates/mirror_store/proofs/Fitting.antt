-- When the plan of a member with a second disk is that it has no room.
use Rattle.std.proofs.Common.{◌≡◌, ◌≢◌, inl, inr, Bool, true, false, cond, List, [], ◌∷◌, Option, refl, ap}
use Rattle.party_state.specs.declared.decision.Decision.{Decision}
use Rattle.party_state.specs.declared.decision.Lead.{Lead}
use Rattle.party_state.specs.declared.edit.Edit.{Edit}
use Rattle.party_state.specs.State.{Party, apply}
use Rattle.change_code.specs.declared.format.Format.TheVariants.{Two}
use Rattle.change_code.specs.Cost.{can_compact, fits}
use Rattle.change_code.specs.Whole.{IsTooLarge}
use Rattle.member.specs.Member.{Member, Plan, as_decided, as_full}
use Rattle.mirror_store.specs.Turns.{fits_frame, pair_plan, DoesNotFit}
use Rattle.mirror_store.proofs.Turned.{small_is, fits_not}

module _ (can : (p : Party) → can_compact Two p ≡ true → IsTooLarge Two p → ⊥) (cannot : (p : Party) → can_compact Two p ≡ false → IsTooLarge Two p) (x : Member) (l : Option Lead) (d : Decision) where
  -- what is planned, by whether the change fits on the first disk
  abbrev by_space : Bool → Plan
  by_space b = cond b (as_decided l d) (as_full l)

  too_large : fits_frame x.party d.change ≡ false → (b : Bool) → pair_plan x.party (by_space b) ≡ as_full l
  too_large full true = ap (λ c. cond c (as_decided l d) (as_full l)) full
  too_large full false = refl

  pub has_none : DoesNotFit x d.change → pair_plan x.party (by_space (fits x.space d.change)) ≡ as_full l
  has_none (inl full) = ap (λ b. pair_plan x.party (by_space b)) full
  has_none (inr large) = too_large (fits_not x.party d.change large.0 can large.1) (fits x.space d.change)

  frame_fits : (es : List Edit) → (es ≢ [] → IsTooLarge Two (apply es x.party) → ⊥) → fits_frame x.party es ≡ true
  frame_fits [] small = refl
  frame_fits (e ∷ es) small = small_is (can_compact Two (apply (e ∷ es) x.party)) (IsTooLarge Two (apply (e ∷ es) x.party)) (cannot (apply (e ∷ es) x.party)) (small (λ none. cc none))

  pub has_room : (DoesNotFit x d.change → ⊥) → pair_plan x.party (by_space (fits x.space d.change)) ≡ as_decided l d
  has_room room = go (fits x.space d.change) refl
    where
      go : (b : Bool) → fits x.space d.change ≡ b → pair_plan x.party (by_space b) ≡ as_decided l d
      go true is = ap (λ c. cond c (as_decided l d) (as_full l)) (frame_fits d.change (λ some large. room (inr (some, large))))
      go false is = absurd (room (inl is))
