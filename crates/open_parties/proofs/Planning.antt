-- Where a plan changes nothing, the member stays.
use Rattle.std.proofs.Common.{◌≡◌, ℕ, ◌-◌, true, false, List, [], ◌∷◌, refl, arith}
use Rattle.party_state.specs.declared.edit.Edit.{Edit}
use Rattle.change_code.specs.Cost.{is_change}
use Rattle.member.specs.Member.{Member, after}

-- where nothing changes, the member stays
less_nothing : (room : ℕ) → room - 0 ≡ room
less_nothing room = omega arith

pub same_none : (x : Member) (es : List Edit) → (is_change es ≡ true → ⊥) → after x es ≡ x
same_none x [] none = λ i. record { party = x.party; space = record { format = x.space.format; room = less_nothing x.space.room i } }
same_none x (e ∷ es) none = absurd (none refl)

pub changes_or_not : (es : List Edit) (P : Type 0) → (is_change es ≡ true → P) → ((is_change es ≡ true → ⊥) → P) → P
changes_or_not [] P some none = none (λ is. (let lie : false ≡ true = is in cc lie))
changes_or_not (e ∷ es) P some none = some refl
