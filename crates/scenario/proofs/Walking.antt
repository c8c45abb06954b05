-- A text read up to a line.
use Rattle.std.proofs.Common.{◌≡◌, ℕ, ◌+◌, ◌-◌, ◌≤◌, ◌<◌, Bool, true, false, List, [], ◌∷◌, ◌++◌, length, refl, sym, ap, subst, ◌∙◌, arith, append-nil, append_assoc, length-append, Option, Some, None}
use Rattle.std.specs.Prelude.{◌&&◌, ◌||◌, nat_le, nat_lt}
use Rattle.std.specs.Option.{option_map_or}
use Rattle.std.specs.List.{cons_option, filter_map}
use Rattle.std.proofs.lemmas.Bool.{and_parts, ltb-true}
use Rattle.std.proofs.lemmas.List.Elements.{filter_map-append}
use Rattle.std.proofs.lemmas.List.Sums.{sum_by-append}
use Rattle.scenario.specs.declared.line.Line.{Line}
use Rattle.scenario.specs.declared.draft.Draft.{Draft}
use Rattle.scenario.specs.Behind.{EachBehind}
use Rattle.scenario.specs.Kinds.{line_of}
use Rattle.scenario.specs.Reading.{IsFirstBad, IsScenario, is_good, is_skipped, line_in, lines_in}
use Rattle.scenario.specs.Rows.{Row, rows_of, size_of, total_of}
use Rattle.scenario.specs.Rules.{may_follow}
use Rattle.scenario.specs.Tables.{IsDraft}
use Rattle.scenario.proofs.Judging.{more_behind}

-- so many lines are read and these bytes are left
pub record Walked (text rest : List ℕ) (count : ℕ) (lines : List Line) : Type 0 where
  pub before : List Row
  pub rows : rows_of text ≡ before ++ rows_of rest
  pub counted : count ≡ length before
  pub bytes : total_of before + length rest ≡ length text
  pub good : EachBehind is_good before
  pub values : lines ≡ lines_in before

-- the test of the code, where the text is read up to a line
abbrev pub is_taken : List Line → ℕ → ℕ → List ℕ → Bool
is_taken lines count taken bytes =
    (nat_lt count 65536 && (nat_le (length bytes) 2200 && nat_le taken 16777216))
    && (is_skipped bytes || option_map_or (may_follow lines) (line_of bytes) false)

taken_is_good : (text rest behind : List ℕ) (count : ℕ) (lines : List Line) (row : Row) (w : Walked text rest count lines)
    → size_of row + length behind ≡ length rest → is_taken lines count (length text - length behind) row.line ≡ is_good w.before row
taken_is_good text rest behind count lines row w size =
    let taken : length text - length behind ≡ total_of w.before + size_of row = omega (arith, w.bytes) in
    rw (w.counted, w.values, taken) refl

one_more_row : (text rest behind : List ℕ) (count : ℕ) (lines after : List Line) (row : Row) → Walked text rest count lines
    → rows_of rest ≡ row ∷ rows_of behind → size_of row + length behind ≡ length rest
    → is_taken lines count (length text - length behind) row.line ≡ true → after ≡ lines ++ lines_in (row ∷ [])
    → Walked text behind (count + 1) after
one_more_row text rest behind count lines after row w rows size taken values = record {
  before = w.before ++ row ∷ [];
  rows = w.rows ∙ ap (λ l. w.before ++ l) rows ∙ sym (append_assoc w.before (row ∷ []) (rows_of behind));
  counted = simp (length-append) (omega (arith, w.counted));
  bytes = omega (arith, w.bytes, sum_by-append size_of w.before (row ∷ []));
  good = more_behind is_good w.before row w.good (sym (taken_is_good text rest behind count lines row w size) ∙ taken);
  values = values ∙ ap (λ l. l ++ lines_in (row ∷ [])) w.values ∙ sym (filter_map-append line_in w.before (row ∷ []));
}

first_bad_row : (text rest behind : List ℕ) (count : ℕ) (lines : List Line) (row : Row) → Walked text rest count lines
    → rows_of rest ≡ row ∷ rows_of behind → size_of row + length behind ≡ length rest
    → is_taken lines count (length text - length behind) row.line ≡ false → IsFirstBad text (count + 1)
first_bad_row text rest behind count lines row w rows size taken = (
  w.before,
  record {
    each = w.good;
    here = row;
    after = rows_of behind;
    whole = w.rows ∙ ap (λ l. w.before ++ l) rows;
    fails = sym (taken_is_good text rest behind count lines row w size) ∙ taken;
  },
  ap (λ n. n + 1) w.counted,
)

-- the same, with the lines so far in a draft
pub record IsUnderWay (text rest : List ℕ) (count : ℕ) (d : Draft) : Type 0 where
  pub walked : Walked text rest count d.lines.items
  pub draft : IsDraft d
  pub short : count ≤ 65536

pub begun : (text : List ℕ) (d : Draft) → d.lines.items ≡ [] → IsDraft d → IsUnderWay text text 0 d
begun text d e draft = record {
  walked = record {
    before = [];
    rows = refl;
    counted = refl;
    bytes = omega arith;
    good = λ before after x w. absurd (no before after x w);
    values = e;
  };
  draft = draft;
  short = omega arith;
}
  where
    no : (before after : List Row) (x : Row) → ¬ ([] ≡ before ++ x ∷ after)
    no [] after x w = cc
    no (b ∷ before) after x w = cc

pub one_more : (text rest behind : List ℕ) (count : ℕ) (d e : Draft) (row : Row) → IsUnderWay text rest count d
    → rows_of rest ≡ row ∷ rows_of behind → size_of row + length behind ≡ length rest
    → true ≡ is_taken d.lines.items count (length text - length behind) row.line
    → ((ended : Bool) → e.lines.items ≡ d.lines.items ++ lines_in (record { line = row.line; ended = ended } ∷ [])) → IsDraft e
    → IsUnderWay text behind (count + 1) e
one_more text rest behind count d e row w rows size taken values draft =
    let below : count < 65536 = ltb-true _ _ (and_parts _ _ (and_parts _ _ (sym taken)).0).0 in
    record {
      walked = one_more_row text rest behind count d.lines.items e.lines.items row w.walked rows size (sym taken) (values row.ended);
      draft = draft;
      short = omega arith;
    }

pub is_first_bad : (text rest behind : List ℕ) (count : ℕ) (d : Draft) (row : Row) → IsUnderWay text rest count d
    → rows_of rest ≡ row ∷ rows_of behind → size_of row + length behind ≡ length rest
    → false ≡ is_taken d.lines.items count (length text - length behind) row.line → IsFirstBad text (count + 1)
is_first_bad text rest behind count d row w rows size taken = first_bad_row text rest behind count d.lines.items row w.walked rows size (sym taken)

pub all_read : (text rest : List ℕ) (count : ℕ) (d : Draft) → IsUnderWay text rest count d → rest ≡ [] → IsScenario text d.lines.items
all_read text rest count d w e =
    let whole : rows_of text ≡ w.walked.before = w.walked.rows ∙ ap (λ r. w.walked.before ++ rows_of r) e ∙ append-nil w.walked.before in
    record {
      good = subst (EachBehind is_good) (sym whole) w.walked.good;
      values = w.walked.values ∙ ap lines_in (sym whole);
    }

kept_within : {X Y : Type 0} (h : X → Option Y) (xs : List X) → length (filter_map h xs) ≤ length xs
kept_within h [] = omega arith
kept_within {X} {Y} h (x ∷ xs) = by (h x) (filter_map h xs) (kept_within h xs)
  where
    by : (o : Option Y) (ys : List Y) → length ys ≤ length xs → length (cons_option o ys) ≤ length (x ∷ xs)
    by None ys rest = omega (arith, rest)
    by (Some y) ys rest = omega (arith, rest)

-- there are no more lines than were counted
pub few_lines : (text rest : List ℕ) (count : ℕ) (d : Draft) → IsUnderWay text rest count d → length d.lines.items ≤ 65536
few_lines text rest count d w =
    let kept : length (lines_in w.walked.before) ≤ length w.walked.before = kept_within line_in w.walked.before in
    let same : length d.lines.items ≡ length (lines_in w.walked.before) = ap length w.walked.values in
    omega (arith, kept, same, w.walked.counted, w.short)
