-- The bytes of a text are those of its lines, of which a scenario has few.
use Rattle.std.proofs.Common.{◌≡◌, ◌==◌, ◌≤◌, ◌+◌, ℕ, Bool, true, false, List, [], ◌∷◌, ◌++◌, length, refl, ap, ◌∙◌, arith}
use Rattle.std.specs.Prelude.{if◌then◌else◌}
use Rattle.std.proofs.lemmas.Bool.{and_parts, leb-true}
use Rattle.std.proofs.lemmas.List.Sums.{sum_by-cons, sum_by_push}
use Rattle.scenario.specs.Behind.{EachBehind}
use Rattle.scenario.specs.Laws.{FewBytes}
use Rattle.scenario.specs.Reading.{is_good}
use Rattle.scenario.specs.Rows.{Row, put_before, rows_of, size_of, total_of}

put_total : (byte : ℕ) (rows : List Row) → total_of (put_before byte rows) ≡ total_of rows + 1
put_total byte [] = refl
put_total byte (row ∷ rows) = omega (arith, sum_by-cons size_of (record { line = byte ∷ row.line; ended = row.ended }) rows, sum_by-cons size_of row rows)

-- a line feed alone
abbrev pub feed : Row
feed = record { line = []; ended = true }

abbrev pub rows_by : Bool → ℕ → List ℕ → List Row
rows_by ended byte bytes = if ended then feed ∷ rows_of bytes else put_before byte (rows_of bytes)

total_by : (ended : Bool) (byte : ℕ) (bytes : List ℕ) → total_of (rows_of bytes) ≡ length bytes → total_of (rows_by ended byte bytes) ≡ length bytes + 1
total_by true byte bytes rest = omega (arith, rest, sum_by-cons size_of feed (rows_of bytes))
total_by false byte bytes rest = omega (arith, rest, put_total byte (rows_of bytes))

pub total_is : (text : List ℕ) → total_of (rows_of text) ≡ length text
total_is [] = refl
total_is (byte ∷ bytes) = total_by (byte == 10) byte bytes (total_is bytes) ∙ omega arith

-- the last of some rows, and those before it
record HasLast (rows : List Row) : Type 0 where
  pub before : List Row
  pub last : Row
  pub is : rows ≡ before ++ last ∷ []

last_of : (row : Row) (rows : List Row) → HasLast (row ∷ rows)
last_of row [] = record { before = []; last = row; is = refl }
last_of row (next ∷ rows) = let h = last_of next rows in record { before = row ∷ h.before; last = h.last; is = ap (λ l. row ∷ l) h.is }

within : (before : List Row) (row : Row) → is_good before row ≡ true → total_of before + size_of row ≤ 16777216
within before row good = leb-true _ _ (and_parts _ _ (and_parts _ _ (and_parts _ _ good).0).1).1

total_within : (rows : List Row) → EachBehind is_good rows → total_of rows ≤ 16777216
total_within [] good = omega arith
total_within (row ∷ rows) good =
    let h = last_of row rows in
    let limit : total_of h.before + size_of h.last ≤ 16777216 = within h.before h.last (good h.before [] h.last h.is) in
    let whole : total_of (row ∷ rows) ≡ total_of (h.before ++ h.last ∷ []) = ap (λ (rows : List Row). total_of rows) h.is in
    omega (arith, limit, whole, sum_by_push size_of h.before h.last)

pub few_bytes : FewBytes
few_bytes text lines is = omega (arith, total_is text, total_within (rows_of text) is.good)
