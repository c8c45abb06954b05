-- A party that is too large for one change.
use Rattle.std.proofs.Common.{◌≡◌, ◌⊎◌, inl, inr, Bool, true, false, ◌&&◌, length, refl, arith}
use Rattle.std.specs.Prelude.{nat_le}
use Rattle.std.proofs.lemmas.Bool.{leb-true, leb-false}
use Rattle.key_journal.specs.Layout.{largest_body}
use Rattle.party_state.specs.State.{Party}
use Rattle.change_code.specs.declared.format.Format.{Format}
use Rattle.change_code.specs.Code.{most_edits}
use Rattle.change_code.specs.Cost.{can_compact}
use Rattle.change_code.specs.Whole.{whole_edits, whole_of, IsTooLarge}

both_hold : (a b : Bool) → (a && b) ≡ true → (a ≡ true) × (b ≡ true)
both_hold true true is = (refl, refl)
both_hold true false is = absurd (cc is)
both_hold false b is = absurd (cc is)

one_fails : (a b : Bool) → (a && b) ≡ false → (a ≡ false) ⊎ (b ≡ false)
one_fails true true is = absurd (cc is)
one_fails true false is = inr refl
one_fails false b is = inl refl

pub small_enough : (format : Format) (p : Party) → can_compact format p ≡ true → IsTooLarge format p → ⊥
small_enough format p can large =
    let tests = both_hold (nat_le (length (whole_edits p)) most_edits) (nat_le (length (whole_of format p)) largest_body) can in
    elim large [
      | inl many ↦ omega (arith, many, leb-true _ _ tests.0)
      | inr long ↦ omega (arith, long, leb-true _ _ tests.1)
    ]

pub too_large : (format : Format) (p : Party) → can_compact format p ≡ false → IsTooLarge format p
too_large format p cannot = elim (one_fails (nat_le (length (whole_edits p)) most_edits) (nat_le (length (whole_of format p)) largest_body) cannot) [
  | inl many ↦ inl (leb-false _ _ many)
  | inr long ↦ inr (leb-false _ _ long)
]
