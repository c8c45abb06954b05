use Rattle.std.proofs.Common.{◌≡◌, ◌+◌, ◌-◌, ◌/◌, ◌%◌, [], ◌∷◌, drop, false, get_or, inl, inr, not, ap, ◌∙◌, arith}
use Rattle.std.proofs.lemmas.Bool.{cases_lt}
use Rattle.std.proofs.lemmas.List.{get_or-drop, get_or-take}
use Rattle.x_des.specs.Bits.{bit}
use Rattle.des_slices.proofs.mask.unchosen.Goals as goal

pub returns-clause-lanes : goal.returns-clause-lanes
returns-clause-lanes c l h =
    let chosen = c.args.chosen.now in
    let low = c.unset_bits-low.result in
    let high = c.unset_bits-high.result in
    elim (cases_lt l 64) [
      | inl p ↦
          let word : l / 64 ≡ 0 = omega arith in
          let place : l % 64 ≡ l = omega arith in
          ap (λ n. bit (get_or (low ∷ high ∷ []) n 0) (l % 64)) word ∙ ap (bit low) place ∙ c.unset_bits-low.ensures l p ∙ ap not (get_or-take 64 chosen l false p)
      | inr p ↦
          let word : l / 64 ≡ 1 = omega arith in
          let place : l % 64 ≡ l - 64 = omega arith in
          let whole : 64 + (l - 64) ≡ l = omega arith in
          ap (λ n. bit (get_or (low ∷ high ∷ []) n 0) (l % 64)) word ∙ ap (bit high) place ∙ c.unset_bits-high.ensures (l - 64) (omega arith)
          ∙ ap not (get_or-take 64 (drop 64 chosen) (l - 64) false (omega arith) ∙ get_or-drop 64 chosen (l - 64) false ∙ ap (λ n. get_or chosen n false) whole)
    ]
