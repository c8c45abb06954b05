-- A text read up to a line.
use Rattle.std.proofs.Common.{◌≡◌, ℕ, ◌+◌, ◌-◌, ◌≤◌, ◌<◌, Bool, true, false, List, [], ◌∷◌, ◌++◌, length, is_some, Option, Some, None, refl, sym, ap, subst, ◌∙◌, arith, append-nil, append_assoc, length-append}
use Rattle.std.specs.Prelude.{◌&&◌, nat_le, nat_lt}
use Rattle.std.specs.List.{All, cons_option, filter_map}
use Rattle.std.proofs.lemmas.Bool.{and_parts, ltb-true, leb-true}
use Rattle.std.proofs.lemmas.List.Elements.{filter_map-append}
use Rattle.std.proofs.lemmas.List.Sums.{sum_by-append}
use Rattle.scenario.specs.Behind.{EachBehind}
use Rattle.scenario.specs.Rows.{Row, rows_of, size_of, total_of}
use Rattle.scenario.proofs.Judging.{more_behind}
use Rattle.csm_batch.specs.declared.entry.Entry.{Entry}
use Rattle.csm_batch.specs.Batches.{IsBatch, IsFirstBad, IsShort, IsSized, is_good, entry_of, entry_at, entries_in}
use Rattle.csm_batch.proofs.Short.{short_rows}

-- so many lines are read and these bytes are left
pub record IsUnderWay (text rest : List ℕ) (count : ℕ) (entries : List Entry) : Type 0 where
  pub before : List Row
  pub rows : rows_of text ≡ before ++ rows_of rest
  pub counted : count ≡ length before
  pub bytes : total_of before + length rest ≡ length text
  pub good : EachBehind is_good before
  pub values : entries ≡ entries_in before
  pub short : count ≤ 2048
  pub within : total_of before ≤ 1048576

-- the test of the code, where the text is read up to a line
abbrev pub is_taken : ℕ → ℕ → Row → Bool
is_taken count taken row = (nat_lt count 2048 && nat_le taken 1048576) && (row.ended && is_some (entry_of row.line))

taken_is_good : (text rest behind : List ℕ) (count : ℕ) (entries : List Entry) (row : Row) (w : IsUnderWay text rest count entries)
    → size_of row + length behind ≡ length rest → is_taken count (length text - length behind) row ≡ is_good w.before row
taken_is_good text rest behind count entries row w size =
    let taken : length text - length behind ≡ total_of w.before + size_of row = omega (arith, w.bytes) in
    rw (w.counted, taken) refl

pub begun : (text : List ℕ) (entries : List Entry) → entries ≡ [] → IsUnderWay text text 0 entries
begun text entries e = record {
  before = [];
  rows = refl;
  counted = refl;
  bytes = omega arith;
  good = λ before after x w. absurd (no before after x w);
  values = e;
  short = omega arith;
  within = omega arith;
}
  where
    no : (before after : List Row) (x : Row) → ¬ ([] ≡ before ++ x ∷ after)
    no [] after x w = cc
    no (b ∷ before) after x w = cc

pub one_more : (text rest behind : List ℕ) (count : ℕ) (entries after : List Entry) (row : Row) → IsUnderWay text rest count entries
    → rows_of rest ≡ row ∷ rows_of behind → size_of row + length behind ≡ length rest
    → true ≡ is_taken count (length text - length behind) row → after ≡ entries ++ entries_in (row ∷ [])
    → IsUnderWay text behind (count + 1) after
one_more text rest behind count entries after row w rows size taken values =
    let below : count < 2048 = ltb-true _ _ (and_parts _ _ (and_parts _ _ (sym taken)).0).0 in
    record {
      before = w.before ++ row ∷ [];
      rows = w.rows ∙ ap (λ l. w.before ++ l) rows ∙ sym (append_assoc w.before (row ∷ []) (rows_of behind));
      counted = simp (length-append) (omega (arith, w.counted));
      bytes = omega (arith, w.bytes, sum_by-append size_of w.before (row ∷ []));
      good = more_behind is_good w.before row w.good (sym (taken_is_good text rest behind count entries row w size) ∙ sym taken);
      values = values ∙ ap (λ l. l ++ entries_in (row ∷ [])) w.values ∙ sym (filter_map-append entry_at w.before (row ∷ []));
      short = omega (arith, below);
      within =
          let test : length text - length behind ≤ 1048576 = leb-true (length text - length behind) 1048576 (and_parts (nat_lt count 2048) (nat_le (length text - length behind) 1048576) (and_parts (nat_lt count 2048 && nat_le (length text - length behind) 1048576) (row.ended && is_some (entry_of row.line)) (sym taken)).0).1 in
          omega (arith, test, w.bytes, size, sum_by-append size_of w.before (row ∷ []));
    }

pub is_first_bad : (text rest behind : List ℕ) (count : ℕ) (entries : List Entry) (row : Row) → IsUnderWay text rest count entries
    → rows_of rest ≡ row ∷ rows_of behind → size_of row + length behind ≡ length rest
    → false ≡ is_taken count (length text - length behind) row → IsFirstBad text (count + 1)
is_first_bad text rest behind count entries row w rows size taken = (
  w.before,
  record {
    each = w.good;
    here = row;
    after = rows_of behind;
    whole = w.rows ∙ ap (λ l. w.before ++ l) rows;
    fails = sym (taken_is_good text rest behind count entries row w size) ∙ sym taken;
  },
  ap (λ n. n + 1) w.counted,
)

pub all_read : (text rest : List ℕ) (count : ℕ) (entries : List Entry) → IsUnderWay text rest count entries → length rest ≡ 0 → IsBatch text entries
all_read text [] count entries w none =
    let whole : rows_of text ≡ w.before = w.rows ∙ append-nil w.before in
    record {
      good = subst (EachBehind is_good) (sym whole) w.good;
      values = w.values ∙ ap entries_in (sym whole);
    }
all_read text (byte ∷ rest) count entries w none = absurd (omega (arith, none))

kept_within : {X Y : Type 0} (h : X → Option Y) (xs : List X) → length (filter_map h xs) ≤ length xs
kept_within h [] = omega arith
kept_within {X} {Y} h (x ∷ xs) = by (h x) (filter_map h xs) (kept_within h xs)
  where
    by : (o : Option Y) (ys : List Y) → length ys ≤ length xs → length (cons_option o ys) ≤ length (x ∷ xs)
    by None ys rest = omega (arith, rest)
    by (Some y) ys rest = omega (arith, rest)

pub all_sized : (text rest : List ℕ) (count : ℕ) (entries : List Entry) → IsUnderWay text rest count entries → length rest ≡ 0 → IsSized text entries
all_sized text rest count entries w none = record {
  short = omega (arith, none, w.bytes, w.within);
  few =
      let kept : length (entries_in w.before) ≤ length w.before = kept_within entry_at w.before in
      let same : length entries ≡ length (entries_in w.before) = ap length w.values in
      omega (arith, kept, same, w.counted, w.short);
  each = subst (λ (es : List Entry). All IsShort es) (sym w.values) (short_rows w.before);
}
