-- What a crash leaves at any moment of a play: of the set-up, and of the lines behind it.
use Rattle.std.proofs.Common.{◌≡◌, ◌⊎◌, inl, inr, ℕ, zero, suc, Bool, true, false, List, [], ◌∷◌, bytes_eq, refl, subst, arith}
use Rattle.std.specs.Prelude.{Contains}
use Rattle.std.proofs.lemmas.Slice.Eq.{bytes_eq-Decides}
use Rattle.x_disk.specs.Disk.{View, IsSound}
use Rattle.scenario.specs.declared.line.Line.{Line}
use Rattle.course.specs.Starts.{start_course}
use Rattle.replay.specs.Crash.{AddsOnly, IsOfPlay, IsOfLines}
use Rattle.open_parties.specs.OpenParties.{owners, NoneOf}
use Rattle.replay.specs.SettingUp.{ReadsBlank, AllReadBlank, IsOfSetUp, SetsUpOnly}
use Rattle.open_parties.specs.declared.open_party.OpenParty.{OpenParty}
use Rattle.replay.proofs.Adding.{adds_on, adds_weaker}
use Rattle.open_parties.proofs.Holding.{apart_by}

-- one of these is of an identity, or none
pub owned_or_not : {D : Type 0} (open_parties : List (OpenParty D)) (own : List ℕ) → Contains (owners open_parties) own ⊎ NoneOf open_parties own
owned_or_not [] own = inr tt
owned_or_not (s ∷ open_parties) own = go (bytes_eq s.own own) refl (owned_or_not open_parties own)
  where
    go : (t : Bool) → bytes_eq s.own own ≡ t → Contains (owners open_parties) own ⊎ NoneOf open_parties own → Contains (owners (s ∷ open_parties)) own ⊎ NoneOf (s ∷ open_parties) own
    go true is rest = inl (zero, omega arith, (bytes_eq-Decides s.own own).0 is)
    go false is (inl c) = inl (suc c.0, omega (arith, c.1), c.2)
    go false is (inr none) = inr (apart_by s.own own is, none)

pub blank_of : (entry : List ℕ → View) (owns : List (List ℕ)) (own : List ℕ) → AllReadBlank entry owns → Contains owns own → ReadsBlank (entry own)
blank_of entry [] own all (k, lt, is) = absurd (omega (arith, lt))
blank_of entry (o ∷ owns) own all (zero, lt, is) = subst (λ (name : List ℕ). ReadsBlank (entry name)) is all.0
blank_of entry (o ∷ owns) own all (suc k, lt, is) = blank_of entry owns own all.1 (k, omega (arith, lt), is)

module _ (before after : ℕ) (lines : List Line) (own : List ℕ) where
  abbrev pub OfPlay : View → List ℕ → Type 0
  OfPlay old image = ReadsBlank old × IsOfPlay before after lines own image

  pub set_up_leaves : (old new : View) → SetsUpOnly lines own old new → AddsOnly old new (OfPlay old)
  set_up_leaves old new run = adds_weaker old new (IsOfSetUp lines own old) (OfPlay old) run (λ image p. (p.0, inl p.1))

  pub play_leaves : (old mid new : View) → IsSound mid → ReadsBlank old → SetsUpOnly lines own old mid → AddsOnly mid new (IsOfLines before after lines (start_course lines) own) → AddsOnly old new (OfPlay old)
  play_leaves old mid new sound blank first second =
      adds_on old mid new (OfPlay old) sound (set_up_leaves old mid first) (adds_weaker mid new (IsOfLines before after lines (start_course lines) own) (OfPlay old) second (λ image way. (blank, inr way)))
