-- The first bad line of so many bytes in front is that of all bytes.
use Rattle.std.proofs.Common.{◌≡◌, ◌⊎◌, inl, inr, ℕ, ◌+◌, ◌≤◌, ◌<◌, Bool, true, false, List, [], ◌∷◌, ◌++◌, length, take, drop, refl, sym, ap, ◌∙◌, subst, arith}
use Rattle.std.specs.Prelude.{◌&&◌, nat_le, nat_lt, is_some}
use Rattle.std.proofs.lemmas.Bool.{cases_lt, lt-leb}
use Rattle.std.proofs.lemmas.List.{length-take, take-append-drop, take_all}
use Rattle.std.proofs.lemmas.List.Sums.{sum_by_push}
use Rattle.scenario.specs.Behind.{FirstFails}
use Rattle.scenario.specs.Rows.{Row, rows_of, size_of, total_of}
use Rattle.scenario.proofs.Fronts.{Grows, grown}
use Rattle.scenario.proofs.Sizes.{total_is}
use Rattle.csm_batch.specs.Batches.{IsFirstBad, entry_at, is_good}
use Rattle.csm_batch.specs.Laws.{BadInFront}

past : (a b c : Bool) → b ≡ false → ((a && b) && c) ≡ false
past false b c e = refl
past true false c e = refl
past true true c e = absurd cc

too_much : (before : List Row) (row : Row) → 1048576 < total_of before + size_of row → is_good before row ≡ false
too_much before row large =
    past (nat_lt (length before) 2048) (nat_le (total_of before + size_of row) 1048576) (row.ended && is_some (entry_at row))
    (lt-leb (total_of before + size_of row) 1048576 large)

stays_bad : (front : List ℕ) (before : List Row) (f : FirstFails is_good (rows_of front) before) (larger : List Row) (g : Grows larger before f.here f.after) → length front ≡ 1048577
    → is_good before g.now ≡ false
stays_bad front before f larger g full = by g.same
  where
    by : (f.after ≡ []) ⊎ (g.now ≡ f.here) → is_good before g.now ≡ false
    by (inr same) = subst (λ (row : Row). is_good before row ≡ false) (sym same) f.fails
    by (inl last) =
        let whole : total_of (rows_of front) ≡ total_of (before ++ f.here ∷ []) = ap (λ (rows : List Row). total_of rows) (f.whole ∙ ap (λ (rows : List Row). before ++ f.here ∷ rows) last) in
        let size : size_of f.here ≤ size_of g.now = g.size in
        too_much before g.now (omega (arith, whole, size, full, total_is front, sum_by_push size_of before f.here))

bad_of : (front rest : List ℕ) (number : ℕ) → length front ≡ 1048577 → IsFirstBad front number → IsFirstBad (front ++ rest) number
bad_of front rest number full is =
    let f = is.1 in
    let g = grown front rest is.0 f.here f.after f.whole in
    (is.0, record { each = f.each; here = g.now; after = g.more; whole = g.whole; fails = stays_bad front is.0 f (rows_of (front ++ rest)) g full }, is.2)

pub bad_in_front : BadInFront
bad_in_front text number is = elim (cases_lt (length text) 1048577) [
  | inl lt ↦ subst (λ (t : List ℕ). IsFirstBad t number) (take_all 1048577 text (omega (arith, lt))) is
  | inr ge ↦
      let size = length-take 1048577 text in
      subst (λ (t : List ℕ). IsFirstBad t number) (take-append-drop 1048577 text) (bad_of (take 1048577 text) (drop 1048577 text) number (omega (arith, size, ge)) is)
]
