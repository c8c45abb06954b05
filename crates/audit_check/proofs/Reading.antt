-- The line with the letters is found, and an input is read in one way.
use Rattle.std.proofs.Common.{◌≡◌, ◌⊎◌, inl, inr, ℕ, ◌+◌, ◌≤◌, ◌<◌, true, false, List, [], ◌∷◌, ◌++◌, length, take, Result, Ok, Err, refl, sym, ◌∙◌, ap, ap₂, subst, arith, append_assoc}
use Rattle.std.specs.Prelude.{codes}
use mathlib.Core.Logic.{◌≢◌}
use Rattle.std.specs.List.{All}
use Rattle.std.proofs.lemmas.List.{length-append, append_cancel_left}
use Rattle.std.proofs.lemmas.List.Elements.{All-append, All-nil, All-cons, All-head, All-tail}
use Rattle.std.proofs.lemmas.List.Sums.{sum_by-append}
use Rattle.scenario.specs.Laws.{OneScenario, OneFirstBad, NeverBoth}
use Rattle.scenario.specs.Reading.{IsScenario}
use Rattle.scenario.specs.Rows.{Row, rows_of, size_of, total_of}
use Rattle.scenario.specs.declared.fault.ScenarioFault.{ScenarioFault}
use Rattle.scenario.specs.declared.fault.ScenarioFault.TheVariants as fault
use Rattle.scenario.specs.declared.line.Line.{Line}
use Rattle.audit_check.specs.Audits.{IsLetter}
use Rattle.audit_check.specs.Inputs.{IsOther, Writes, IsAuditLine, IsCut, IsAuditInput, IsBadWhole, IsBadBehind, IsBadCut, IsBadInput, IsInputReading, IsOnlyReading, IsFound, begins_audit, most_bytes, line_past_most, scenario_in, transcript_in}
use Rattle.audit_check.specs.Parts.{Parts}

-- ---- the search

pub record Searched (bytes rest : List ℕ) (lines : ℕ) : Type 0 where
  pub front : List Row
  pub split : rows_of bytes ≡ front ++ rows_of rest
  pub others : All IsOther front
  pub lines_are : lines ≡ length front
  pub size : total_of front + length rest ≡ length bytes
  pub few : lines + length rest ≤ length bytes

pub one_more : (bytes rest behind : List ℕ) (lines : ℕ) (row : Row) → Searched bytes rest lines → rows_of rest ≡ row ∷ rows_of behind → size_of row + length behind ≡ length rest → length behind < length rest → IsOther row → Searched bytes behind (lines + 1)
one_more bytes rest behind lines row s rows size shorter other = record {
  front = s.front ++ row ∷ [];
  split = s.split ∙ (ap (λ (l : List Row). s.front ++ l) rows ∙ sym (append_assoc s.front (row ∷ []) (rows_of behind)));
  others = All-append IsOther s.front (row ∷ []) s.others (All-cons IsOther row [] other (All-nil IsOther));
  lines_are = (let l = length-append s.front (row ∷ []) in omega (arith, s.lines_are, l));
  size = (let t = sum_by-append size_of s.front (row ∷ []) in omega (arith, s.size, size, t));
  few = omega (arith, s.few, shorter);
}

-- ---- an input is read in one way

begins_not : (row : Row) → begins_audit row.line ≡ true → IsOther row → ⊥
begins_not row begins other = let lie : true ≡ false = sym begins ∙ other in cc lie

record SameCut (f g : List Row) (r s : Row) : Type 0 where
  front : f ≡ g
  row : r ≡ s

same_cut : (f g : List Row) (r s : Row) (b c : List Row) → f ++ r ∷ b ≡ g ++ s ∷ c → All IsOther f → All IsOther g → begins_audit r.line ≡ true → begins_audit s.line ≡ true → SameCut f g r s
same_cut [] [] r s b c is fs gs mine too = record { front = refl; row = cc is }
same_cut [] (y ∷ g) r s b c is fs gs mine too = absurd (let same : r ≡ y = cc is in begins_not y (ap (λ (x : Row). begins_audit x.line) (sym same) ∙ mine) (All-head IsOther y g gs))
same_cut (x ∷ f) [] r s b c is fs gs mine too = absurd (let same : x ≡ s = cc is in begins_not x (ap (λ (y : Row). begins_audit y.line) same ∙ too) (All-head IsOther x f fs))
same_cut (x ∷ f) (y ∷ g) r s b c is fs gs mine too =
    let first : x ≡ y = cc is in
    let rest : f ++ r ∷ b ≡ g ++ s ∷ c = cc is in
    let same = same_cut f g r s b c rest (All-tail IsOther x f fs) (All-tail IsOther y g gs) mine too in
    record { front = ap₂ (λ (z : Row) (l : List Row). z ∷ l) first same.front; row = same.row }

cut_once : (bytes : List ℕ) (f g : List Row) (r s : Row) (b c : List Row) → IsCut bytes f r b → IsCut bytes g s c → SameCut f g r s
cut_once bytes f g r s b c one two = same_cut f g r s b c (sym one.split ∙ two.split) one.others two.others one.begins two.begins

among : (front : List Row) (row : Row) (back : List Row) → All IsOther (front ++ row ∷ back) → IsOther row
among [] row back all = All-head IsOther row back all
among (x ∷ front) row back all = among front row back (All-tail IsOther x (front ++ row ∷ back) all)

none_or_cut : (bytes : List ℕ) (front : List Row) (row : Row) (back : List Row) → All IsOther (rows_of bytes) → IsCut bytes front row back → ⊥
none_or_cut bytes front row back all cut = begins_not row cut.begins (among front row back (subst (λ (l : List Row). All IsOther l) cut.split all))

no_letter : (letters : List ℕ) → letters ≡ codes "-" → All IsLetter letters → ⊥
no_letter letters is all = go (All-head IsLetter 45 [] (subst (λ (l : List ℕ). All IsLetter l) is all))
  where
    go : IsLetter 45 → ⊥
    go (inl old) = omega (arith, old)
    go (inr new) = omega (arith, new)

writes_once : (word a b : List ℕ) → Writes word a → Writes word b → a ≡ b
writes_once word a b (inl one) (inl two) = one.1 ∙ sym two.1
writes_once word a b (inl one) (inr two) = absurd (no_letter b (sym two.0 ∙ one.0) two.3)
writes_once word a b (inr one) (inl two) = absurd (no_letter a (sym one.0 ∙ two.0) one.3)
writes_once word a b (inr one) (inr two) = sym one.0 ∙ two.0

letters_once : (line a b : List ℕ) → IsAuditLine line a → IsAuditLine line b → a ≡ b
letters_once line a b one two =
    let same : one.0 ≡ two.0 = append_cancel_left (codes "AUDIT ") one.0 two.0 (sym one.1 ∙ two.1) in
    writes_once two.0 a b (subst (λ (w : List ℕ). Writes w a) same one.2) two.2

module _ (one_scenario : OneScenario) (one_bad : OneFirstBad) (never : NeverBoth) where
  whole_once : (bytes : List ℕ) (m n : ℕ) → IsBadWhole bytes m → IsBadWhole bytes n → m ≡ n
  whole_once bytes m n (inl one) (inl two) = one_bad bytes m n one two
  whole_once bytes m n (inl one) (inr two) = absurd (never bytes two.0.0 m two.0.1 one)
  whole_once bytes m n (inr one) (inl two) = absurd (never bytes one.0.0 n one.0.1 two)
  whole_once bytes m n (inr one) (inr two) = one.1 ∙ sym two.1

  behind_once : (bytes : List ℕ) (front : List Row) (row : Row) (m n : ℕ) → IsBadBehind bytes front row m → IsBadBehind bytes front row n → m ≡ n
  behind_once bytes front row m n (inl one) (inl two) = one.1 ∙ sym two.1
  behind_once bytes front row m n (inl one) (inr two) = absurd (one.0 two.0.0 two.0.1)
  behind_once bytes front row m n (inr one) (inl two) = absurd (two.0 one.0.0 one.0.1)
  behind_once bytes front row m n (inr one) (inr two) = one.2 ∙ sym two.2

  bad_cut_once : (bytes : List ℕ) (front : List Row) (row : Row) (m n : ℕ) → IsBadCut bytes front row m → IsBadCut bytes front row n → m ≡ n
  bad_cut_once bytes front row m n (inl one) (inl two) = one_bad (scenario_in bytes front) m n one two
  bad_cut_once bytes front row m n (inl one) (inr two) = absurd (never (scenario_in bytes front) two.0.0 m two.0.1 one)
  bad_cut_once bytes front row m n (inr one) (inl two) = absurd (never (scenario_in bytes front) one.0.0 n one.0.1 two)
  bad_cut_once bytes front row m n (inr one) (inr two) = behind_once bytes front row m n one.1 two.1

  bad_once : (bytes : List ℕ) (m n : ℕ) → IsBadInput bytes m → IsBadInput bytes n → m ≡ n
  bad_once bytes m n (inl one) (inl two) = whole_once bytes m n one.1 two.1
  bad_once bytes m n (inl one) (inr two) = absurd (none_or_cut bytes two.0 two.1 two.2 one.0 two.3)
  bad_once bytes m n (inr one) (inl two) = absurd (none_or_cut bytes one.0 one.1 one.2 two.0 one.3)
  bad_once bytes m n (inr one) (inr two) =
      let same = cut_once bytes one.0 two.0 one.1 two.1 one.2 two.2 one.3 two.3 in
      bad_cut_once bytes two.0 two.1 m n (subst (λ (r : Row). IsBadCut bytes two.0 r m) same.row (subst (λ (f : List Row). IsBadCut bytes f one.1 m) same.front one.4)) two.4

  -- an input has no bad line
  good_cut : (bytes : List ℕ) (front : List Row) (row : Row) (parts : Parts) (n : ℕ) → IsScenario (scenario_in bytes front) parts.lines → IsAuditLine row.line parts.letters → length bytes ≤ most_bytes → IsBadCut bytes front row n → ⊥
  good_cut bytes front row parts n scenario letters few (inl bad) = never (scenario_in bytes front) parts.lines n scenario bad
  good_cut bytes front row parts n scenario letters few (inr (_, inl bad)) = bad.0 parts.letters letters
  good_cut bytes front row parts n scenario letters few (inr (_, inr bad)) = omega (arith, few, bad.1)

  good : (bytes : List ℕ) (parts : Parts) (n : ℕ) → IsAuditInput bytes parts → IsBadInput bytes n → ⊥
  good bytes parts n is (inl bad) = none_or_cut bytes is.front is.row is.back bad.0 is.cut
  good bytes parts n is (inr bad) =
      let same = cut_once bytes bad.0 is.front bad.1 is.row bad.2 is.back bad.3 is.cut in
      good_cut bytes is.front is.row parts n is.scenario is.letters is.few (subst (λ (r : Row). IsBadCut bytes is.front r n) same.row (subst (λ (f : List Row). IsBadCut bytes f bad.1 n) same.front bad.4))

  input_once : (bytes : List ℕ) (a b : Parts) → IsAuditInput bytes a → IsAuditInput bytes b → a ≡ b
  input_once bytes a b one two =
      let same = cut_once bytes one.front two.front one.row two.row one.back two.back one.cut two.cut in
      let lines : a.lines ≡ b.lines = one_scenario (scenario_in bytes two.front) a.lines b.lines (subst (λ (f : List Row). IsScenario (scenario_in bytes f) a.lines) same.front one.scenario) two.scenario in
      let letters : a.letters ≡ b.letters = letters_once two.row.line a.letters b.letters (subst (λ (r : Row). IsAuditLine r.line a.letters) same.row one.letters) two.letters in
      let transcript : a.transcript ≡ b.transcript = one.transcript ∙ (ap₂ (λ (f : List Row) (r : Row). transcript_in bytes f r) same.front same.row ∙ sym two.transcript) in
      λ i. record { lines = lines i; letters = letters i; transcript = transcript i }

  pub one_reading : (bytes : List ℕ) (a b : Result Parts ScenarioFault) → IsInputReading bytes a → IsInputReading bytes b → a ≢ Err fault.NoMemory → b ≢ Err fault.NoMemory → a ≡ b
  one_reading bytes (Ok a) (Ok b) one two some other = ap Ok (input_once bytes a b one two)
  one_reading bytes (Ok a) (Err (fault.BadLine n)) one two some other = absurd (good bytes a n one two)
  one_reading bytes (Err (fault.BadLine m)) (Ok b) one two some other = absurd (good bytes b m two one)
  one_reading bytes (Err (fault.BadLine m)) (Err (fault.BadLine n)) one two some other = ap (λ (k : ℕ). Err (fault.BadLine k)) (bad_once bytes m n one two)
  one_reading bytes (Err fault.NoMemory) b one two some other = absurd (some refl)
  one_reading bytes a (Err fault.NoMemory) one two some other = absurd (other refl)

  pub only_one : (bytes : List ℕ) (result : Result Parts ScenarioFault) → IsInputReading bytes result → IsOnlyReading bytes result
  only_one bytes (Ok parts) is = λ r reading some. inl (one_reading bytes (Ok parts) r is reading (λ same. cc same) some)
  only_one bytes (Err (fault.BadLine n)) is = λ r reading some. inl (one_reading bytes (Err (fault.BadLine n)) r is reading (λ same. cc same) some)
  only_one bytes (Err fault.NoMemory) is = λ r reading some. inr refl

-- ---- what is answered

-- the line of this number, if it is told
pub told : (bytes : List ℕ) (why : ScenarioFault) (n : ℕ) → (why ≡ fault.BadLine n) ⊎ (why ≡ fault.NoMemory) → IsBadInput bytes n → IsInputReading bytes (Err why)
told bytes why n (inl is) bad = subst (λ (w : ScenarioFault). IsInputReading bytes (Err w)) (sym is) bad
told bytes why n (inr is) bad = subst (λ (w : ScenarioFault). IsInputReading bytes (Err w)) (sym is) tt

-- where a line is found
module _ (bytes line : List ℕ) (lines start end : ℕ) (f : IsFound bytes line lines start end) where
  front : (text : List ℕ) → text ≡ take start bytes → text ≡ scenario_in bytes f.front
  front text is = is ∙ ap (λ (n : ℕ). take n bytes) f.start_is

  module _ (text : List ℕ) (scenario : List Line) (is : text ≡ take start bytes) (reads : IsScenario text scenario) where
    good_front : IsScenario (scenario_in bytes f.front) scenario
    good_front = subst (λ (t : List ℕ). IsScenario t scenario) (front text is) reads

    pub no_letters : ((letters : List ℕ) → IsAuditLine line letters → ⊥) → IsBadInput bytes (lines + 1)
    no_letters none = inr (f.front, record { line = line; ended = f.ended }, f.back, f.cut, inr ((scenario, good_front), inl (none, ap (λ (n : ℕ). n + 1) f.lines_are)))

    pub too_long : (letters : List ℕ) → IsAuditLine line letters → most_bytes < length bytes → IsBadInput bytes (line_past_most bytes)
    too_long letters has long = inr (f.front, record { line = line; ended = f.ended }, f.back, f.cut, inr ((scenario, good_front), inr ((letters, has), long, refl)))
