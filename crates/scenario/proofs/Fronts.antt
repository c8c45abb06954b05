-- The lines of the first bytes of a text are lines of the text, but for the last one, which may be longer there.
use Rattle.std.proofs.Common.{◌≡◌, ◌⊎◌, inl, inr, ◌==◌, ℕ, ◌+◌, ◌≤◌, ◌<◌, Bool, true, false, List, [], ◌∷◌, ◌++◌, length, take, drop, refl, sym, ap, ◌∙◌, subst, arith}
use Rattle.std.specs.Prelude.{◌&&◌, ◌||◌, nat_le, nat_lt}
use Rattle.std.specs.Option.{option_map_or}
use Rattle.std.proofs.lemmas.Bool.{cases_lt, lt-leb}
use Rattle.std.proofs.lemmas.List.{length-take, take-append-drop, take_all}
use Rattle.std.proofs.lemmas.List.Sums.{sum_by_push}
use Rattle.scenario.specs.Behind.{FirstFails}
use Rattle.scenario.specs.Kinds.{line_of}
use Rattle.scenario.specs.Laws.{BadInFront}
use Rattle.scenario.specs.Reading.{IsFirstBad, is_good, is_skipped, lines_in}
use Rattle.scenario.specs.Rows.{Row, put_before, rows_of, size_of, total_of}
use Rattle.scenario.specs.Rules.{may_follow}
use Rattle.scenario.proofs.Sizes.{feed, rows_by, total_is}

-- where this line stood among others, behind the same lines, one stands that is at least as long; and the same one, unless it
-- was the last
pub record Grows (rows before : List Row) (here : Row) (after : List Row) : Type 0 where
  pub now : Row
  pub more : List Row
  pub whole : rows ≡ before ++ now ∷ more
  pub size : size_of here ≤ size_of now
  pub same : (after ≡ []) ⊎ (now ≡ here)

abbrev pub GrowsTo : List Row → List Row → Type 0
GrowsTo rows larger = (before : List Row) (here : Row) (after : List Row) → rows ≡ before ++ here ∷ after → Grows larger before here after

no_place : (before : List Row) (here : Row) (after : List Row) → [] ≡ before ++ here ∷ after → ⊥
no_place [] here after e = cc
no_place (row ∷ before) here after e = cc

same_size : (a b : Row) → a ≡ b → size_of a ≤ size_of b
same_size a b e = subst (λ (row : Row). size_of a ≤ size_of row) e (omega arith)

-- one more byte in front

abbrev longer : ℕ → Row → Row
longer byte row = record { line = byte ∷ row.line; ended = row.ended }

longer_size : (byte : ℕ) (a b : Row) → size_of a ≤ size_of b → size_of (longer byte a) ≤ size_of (longer byte b)
longer_size byte a b le = omega (arith, le)

fed : (rows larger : List Row) → GrowsTo rows larger → GrowsTo (feed ∷ rows) (feed ∷ larger)
fed rows larger grows [] here after e =
    let first : feed ≡ here = cc in
    record { now = feed; more = larger; whole = refl; size = same_size here feed (sym first); same = inr first }
fed rows larger grows (row ∷ before) here after e =
    let first : feed ≡ row = cc in
    let rest : rows ≡ before ++ here ∷ after = cc in
    let g = grows before here after rest in
    record { now = g.now; more = g.more; whole = ap (λ (l : List Row). feed ∷ l) g.whole ∙ ap (λ (r : Row). r ∷ (before ++ g.now ∷ g.more)) first; size = g.size; same = g.same }

alone : (byte : ℕ) (larger : List Row) → Grows (put_before byte larger) [] (record { line = byte ∷ []; ended = false }) []
alone byte [] = record { now = record { line = byte ∷ []; ended = false }; more = []; whole = refl; size = omega arith; same = inl refl }
alone byte (row ∷ more) = record { now = longer byte row; more = more; whole = refl; size = omega arith; same = inl refl }

put : (byte : ℕ) (rows larger : List Row) → GrowsTo rows larger → GrowsTo (put_before byte rows) (put_before byte larger)
put byte [] larger grows [] here after e =
    let first : record { line = byte ∷ []; ended = false } ≡ here = cc in
    let none : [] ≡ after = cc in
    subst (λ (l : List Row). Grows (put_before byte larger) [] here l) none (subst (λ (r : Row). Grows (put_before byte larger) [] r []) first (alone byte larger))
put byte [] larger grows (row ∷ before) here after e = absurd (no_place before here after cc)
put byte (first ∷ rows) larger grows [] here after e =
    let is : longer byte first ≡ here = cc in
    let rest : rows ≡ after = cc in
    let g = grows [] first rows refl in
    record {
      now = longer byte g.now;
      more = g.more;
      whole = ap (λ (l : List Row). put_before byte l) g.whole;
      size = subst (λ (r : Row). size_of r ≤ size_of (longer byte g.now)) is (longer_size byte first g.now g.size);
      same = by g.now g.same;
    }
  where
    by : (now : Row) → (rows ≡ []) ⊎ (now ≡ first) → (after ≡ []) ⊎ (longer byte now ≡ here)
    by now (inl none) = inl (let rest : rows ≡ after = cc in sym rest ∙ none)
    by now (inr same) = inr (let is : longer byte first ≡ here = cc in ap (λ (r : Row). longer byte r) same ∙ is)
put byte (first ∷ rows) larger grows (row ∷ before) here after e =
    let is : longer byte first ≡ row = cc in
    let rest : rows ≡ before ++ here ∷ after = cc in
    let g = grows (first ∷ before) here after (ap (λ (l : List Row). first ∷ l) rest) in
    record {
      now = g.now;
      more = g.more;
      whole = ap (λ (l : List Row). put_before byte l) g.whole ∙ ap (λ (r : Row). r ∷ (before ++ g.now ∷ g.more)) is;
      size = g.size;
      same = g.same;
    }

step : (ended : Bool) (byte : ℕ) (front rest : List ℕ) → GrowsTo (rows_of front) (rows_of (front ++ rest)) → GrowsTo (rows_by ended byte front) (rows_by ended byte (front ++ rest))
step true byte front rest grows = fed (rows_of front) (rows_of (front ++ rest)) grows
step false byte front rest grows = put byte (rows_of front) (rows_of (front ++ rest)) grows

pub grown : (front rest : List ℕ) → GrowsTo (rows_of front) (rows_of (front ++ rest))
grown [] rest before here after e = absurd (no_place before here after e)
grown (byte ∷ front) rest before here after e = step (byte == 10) byte front rest (grown front rest) before here after e

-- ---- the first bad line

past : (a b c d : Bool) → c ≡ false → ((a && (b && c)) && d) ≡ false
past false b c d e = refl
past true false c d e = refl
past true true true d e = absurd cc
past true true false d e = refl

too_much : (before : List Row) (row : Row) → 16777216 < total_of before + size_of row → is_good before row ≡ false
too_much before row large =
    past (nat_lt (length before) 65536) (nat_le (length row.line) 2200) (nat_le (total_of before + size_of row) 16777216)
    (is_skipped row.line || option_map_or (may_follow (lines_in before)) (line_of row.line) false) (lt-leb (total_of before + size_of row) 16777216 large)

stays_bad : (front : List ℕ) (before : List Row) (f : FirstFails is_good (rows_of front) before) (larger : List Row) (g : Grows larger before f.here f.after) → length front ≡ 16777217
    → is_good before g.now ≡ false
stays_bad front before f larger g full = by g.same
  where
    by : (f.after ≡ []) ⊎ (g.now ≡ f.here) → is_good before g.now ≡ false
    by (inr same) = subst (λ (row : Row). is_good before row ≡ false) (sym same) f.fails
    by (inl last) =
        let whole : total_of (rows_of front) ≡ total_of (before ++ f.here ∷ []) = ap (λ (rows : List Row). total_of rows) (f.whole ∙ ap (λ (rows : List Row). before ++ f.here ∷ rows) last) in
        let size : size_of f.here ≤ size_of g.now = g.size in
        too_much before g.now (omega (arith, whole, size, full, total_is front, sum_by_push size_of before f.here))

bad_of : (front rest : List ℕ) (number : ℕ) → length front ≡ 16777217 → IsFirstBad front number → IsFirstBad (front ++ rest) number
bad_of front rest number full is =
    let f = is.1 in
    let g = grown front rest is.0 f.here f.after f.whole in
    (is.0, record { each = f.each; here = g.now; after = g.more; whole = g.whole; fails = stays_bad front is.0 f (rows_of (front ++ rest)) g full }, is.2)

pub bad_in_front : BadInFront
bad_in_front text number is = elim (cases_lt (length text) 16777217) [
  | inl lt ↦ subst (λ (t : List ℕ). IsFirstBad t number) (take_all 16777217 text (omega (arith, lt))) is
  | inr ge ↦
      let size = length-take 16777217 text in
      subst (λ (t : List ℕ). IsFirstBad t number) (take-append-drop 16777217 text) (bad_of (take 16777217 text) (drop 16777217 text) number (omega (arith, size, ge)) is)
]
