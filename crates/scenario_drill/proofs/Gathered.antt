-- A text as lines that may follow one another.
use Rattle.std.proofs.Common.{◌≡◌, ℕ, ◌+◌, ◌*◌, ◌≤◌, ◌==◌, true, false, List, [], ◌∷◌, ◌++◌, length, Some, refl, sym, ap, ap₂, subst, ◌∙◌, arith, append_assoc, append-nil, length-append}
use Rattle.std.specs.Prelude.{nat_le, nat_lt, slice_index}
use Rattle.std.specs.List.{cons_option}
use Rattle.std.specs.Option.{option_map_or}
use Rattle.std.proofs.lemmas.Bool.{and_from, or_from, or_right, ne_eqb, le-leb, lt-ltb}
use Rattle.std.proofs.lemmas.List.Elements.{filter_map-append}
use Rattle.std.proofs.lemmas.List.Sums.{sum_by-append}
use Rattle.scenario.specs.declared.line.Line.{Line}
use Rattle.scenario.specs.Kinds.{line_of, line_of_words}
use Rattle.scenario.specs.Reading.{IsScenario, is_good, is_skipped, is_within, line_in, lines_in}
use Rattle.scenario.specs.Rows.{Row, rows_of, size_of, total_of}
use Rattle.scenario.specs.Rules.{may_follow}
use Rattle.scenario_drill.proofs.Spelling.{all_plain, joined, spelled, row_spelled, words_spelled}

-- each of these rows is good behind those before it
abbrev GoodFrom : List Row → List Row → Type 0
GoodFrom b [] = Unit {0}
GoodFrom b (r ∷ rows) = (is_good b r ≡ true) × GoodFrom (b ++ r ∷ []) rows

good_both : (rows more b : List Row) → GoodFrom b rows → GoodFrom (b ++ rows) more → GoodFrom b (rows ++ more)
good_both [] more b first second = subst (λ (x : List Row). GoodFrom x more) (append-nil b) second
good_both (r ∷ rows) more b first second = (first.0, good_both rows more (b ++ r ∷ []) first.1 (subst (λ (x : List Row). GoodFrom x more) (sym (append_assoc b (r ∷ []) rows)) second))

picked : (rows b front back : List Row) (x : Row) → rows ≡ front ++ x ∷ back → GoodFrom b rows → is_good (b ++ front) x ≡ true
picked [] b [] back x is good = absurd (cc is)
picked [] b (f ∷ front) back x is good = absurd (cc is)
picked (r ∷ rows) b [] back x is good =
    let same : r ≡ x = cc is in
    subst (λ (l : List Row). is_good l x ≡ true) (sym (append-nil b)) (subst (λ (y : Row). is_good b y ≡ true) same good.0)
picked (r ∷ rows) b (f ∷ front) back x is good =
    let same : r ≡ f = cc is in
    let rest : rows ≡ front ++ x ∷ back = cc is in
    subst (λ (l : List Row). is_good l x ≡ true) (append_assoc b (f ∷ []) front)
    (subst (λ (y : Row). is_good ((b ++ y ∷ []) ++ front) x ≡ true) same (picked rows (b ++ r ∷ []) front back x rest good.1))

-- behind these lines the text writes these, so many at most, each of at most 99 bytes and a line feed
pub record Sets (before : List Line) (text : List ℕ) (lines : List Line) (count : ℕ) : Type 0 where
  pub rows : List Row
  pub are : (rest : List ℕ) → rows_of (text ++ rest) ≡ rows ++ rows_of rest
  pub added : lines_in rows ≡ lines
  pub few : length rows ≤ count
  pub short : total_of rows ≤ 100 * count
  pub good : (b : List Row) → lines_in b ≡ before → length b + length rows ≤ 65536 → total_of b + total_of rows ≤ 16777216 → GoodFrom b rows

pub not_skipped : (b : ℕ) (bs : List ℕ) → (b == 35) ≡ false → is_skipped (b ∷ bs) ≡ false
not_skipped b bs other = or_from (length (b ∷ bs) == 0) (slice_index (b ∷ bs) 0 == 35) (ne_eqb (length (b ∷ bs)) 0 (λ e. omega (arith, e))) other

-- the words write this line, which may follow these
pub record IsLine (before : List Line) (w : List ℕ) (ws : List (List ℕ)) (l : Line) : Type 0 where
  pub plain : all_plain w ws ≡ true
  pub kept : is_skipped (joined w ws) ≡ false
  pub reads : line_of_words (w ∷ ws) ≡ Some l
  pub follows : may_follow before l ≡ true
  pub size : length (joined w ws) ≤ 99

line_by : (row : Row) (l : Line) → is_skipped row.line ≡ false → line_of row.line ≡ Some l → line_in row ≡ Some l
line_by row l kept is = rw kept is

pub one : (before : List Line) (w : List ℕ) (ws : List (List ℕ)) (l : Line) → IsLine before w ws l → Sets before (spelled w ws) (l ∷ []) 1
one before w ws l k =
    let row : Row = record { line = joined w ws; ended = true } in
    let is : line_of (joined w ws) ≡ Some l = ap line_of_words (words_spelled w ws k.plain) ∙ k.reads in
    let all : total_of (row ∷ []) ≡ length (joined w ws) + 1 = omega arith in
    record {
      rows = row ∷ [];
      are = λ rest. row_spelled w ws rest k.plain;
      added = ap (λ o. cons_option o []) (line_by row l k.kept is);
      few = omega arith;
      short = omega (arith, all, k.size);
      good = λ b lines room bytes. (
        and_from (is_within b row) _
            (and_from (nat_lt (length b) 65536) _ (lt-ltb (length b) 65536 (omega (arith, room)))
            (and_from (nat_le (length (joined w ws)) 2200) _ (le-leb (length (joined w ws)) 2200 (omega (arith, k.size))) (le-leb (total_of b + size_of row) 16777216 (omega (arith, bytes, all)))))
            (or_right (is_skipped (joined w ws)) _ (ap₂ (λ ls o. option_map_or (may_follow ls) o false) lines is ∙ k.follows)),
        tt,
      );
    }

-- a text that is the same as that of the words
pub one_as : (before : List Line) (text w : List ℕ) (ws : List (List ℕ)) (l : Line) → text ≡ spelled w ws → IsLine before w ws l → Sets before text (l ∷ []) 1
one_as before text w ws l is k = subst (λ (t : List ℕ). Sets before t (l ∷ []) 1) (sym is) (one before w ws l k)

pub both : (before : List Line) (a b : List ℕ) (la lb : List Line) (m n : ℕ) → Sets before a la m → Sets (before ++ la) b lb n → Sets before (a ++ b) (la ++ lb) (m + n)
both before a b la lb m n first second =
    let rows : List Row = first.rows ++ second.rows in
    let count : length rows ≡ length first.rows + length second.rows = length-append first.rows second.rows in
    let sum : total_of rows ≡ total_of first.rows + total_of second.rows = sum_by-append size_of first.rows second.rows in
    record {
      rows = rows;
      are = λ rest.
          ap rows_of (append_assoc a b rest) ∙ (first.are (b ++ rest) ∙ (ap (λ (l : List Row). first.rows ++ l) (second.are rest) ∙ sym (append_assoc first.rows second.rows (rows_of rest))));
      added = filter_map-append line_in first.rows second.rows ∙ ap₂ (λ (x y : List Line). x ++ y) first.added second.added;
      few = omega (arith, count, first.few, second.few);
      short = omega (arith, sum, first.short, second.short);
      good = λ c lines room bytes.
          let ahead : length (c ++ first.rows) ≡ length c + length first.rows = length-append c first.rows in
          let ahead_sum : total_of (c ++ first.rows) ≡ total_of c + total_of first.rows = sum_by-append size_of c first.rows in
          good_both first.rows second.rows c (first.good c lines (omega (arith, room, count)) (omega (arith, bytes, sum)))
          (second.good (c ++ first.rows) (filter_map-append line_in c first.rows ∙ ap₂ (λ (x y : List Line). x ++ y) lines first.added) (omega (arith, room, count, ahead)) (omega (arith, bytes, sum, ahead_sum)));
    }

pub none : (before : List Line) → Sets before [] [] 0
none before = record { rows = []; are = λ rest. refl; added = refl; few = omega arith; short = omega arith; good = λ b lines room bytes. tt }

pub fewer : (before : List Line) (a : List ℕ) (la : List Line) (m n : ℕ) → m ≤ n → Sets before a la m → Sets before a la n
fewer before a la m n le s = record { rows = s.rows; are = s.are; added = s.added; few = omega (arith, s.few, le); short = omega (arith, s.short, le); good = s.good }

-- a whole text
pub is_scenario : (text : List ℕ) (lines : List Line) (n : ℕ) → n ≤ 60000 → Sets [] text lines n → IsScenario text lines
is_scenario text lines n few s =
    let whole : rows_of text ≡ s.rows = ap rows_of (sym (append-nil text)) ∙ (s.are [] ∙ append-nil s.rows) in
    record {
      good = λ before after x split. picked s.rows [] before after x (sym whole ∙ split) (s.good [] refl (omega (arith, s.few, few)) (omega (arith, s.short, few)));
      values = sym s.added ∙ ap lines_in (sym whole);
    }
