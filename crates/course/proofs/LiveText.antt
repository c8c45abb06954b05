-- The text of a scenario, line by line.
use Rattle.std.proofs.Common.{arith, ◌≡◌, Bool, true, ◌&&◌, List, [], ◌∷◌, ◌++◌, refl, sym, subst}
use Rattle.std.proofs.lemmas.Bool.{and_parts}
use Rattle.std.proofs.lemmas.List.{append-nil, append_assoc}
use Rattle.std.proofs.lemmas.List.Elements.{All-from_recursion}
use Rattle.hex.specs.Hex.{decode_pairs}
use Rattle.x_base.specs.Ident.{repeated, expanded}
use Rattle.party_tables.specs.Ranges.{IsPair}
use Rattle.x_gen.specs.Parity.{odd_parity_of}
use Rattle.scenario.specs.Behind.{EachBehind}
use Rattle.scenario.specs.Reading.{IsScenario, is_good, lines_in}
use Rattle.scenario.specs.Rows.{rows_of}
use Rattle.scenario.specs.Rules.{may_follow}
use Rattle.course.specs.Starts.{AreLinesInRange, IsLineInRange}
use Rattle.course.specs.Live.{live_lines, live_text, other_pair, weak_pair}

-- each element passes behind those before it, which stand behind these
abbrev all_pass : {A : Type 0} → (List A → A → Bool) → List A → List A → Bool
all_pass passes before [] = true
all_pass passes before (x ∷ rest) = passes before x && all_pass passes (before ++ x ∷ []) rest

passes_behind : {A : Type 0} (passes : List A → A → Bool) (before rest : List A) → all_pass passes before rest ≡ true
    → (front back : List A) (x : A) → rest ≡ front ++ x ∷ back → passes (before ++ front) x ≡ true
passes_behind passes before [] h [] back x is = absurd (cc is)
passes_behind passes before [] h (y ∷ front) back x is = absurd (cc is)
passes_behind {A} passes before (r ∷ rest) h [] back x is = passes_here (and_parts _ _ h).0
  where
    passes_here : passes before r ≡ true → passes (before ++ []) x ≡ true
    passes_here t = let same : r ≡ x = cc is in subst (λ (l : List A). passes l x ≡ true) (sym (append-nil before)) (subst (λ (y : A). passes before y ≡ true) same t)
passes_behind {A} passes before (r ∷ rest) h (y ∷ front) back x is = passes_on (passes_behind passes (before ++ r ∷ []) rest (and_parts _ _ h).1 front back x (cc is))
  where
    passes_on : passes ((before ++ r ∷ []) ++ front) x ≡ true → passes (before ++ y ∷ front) x ≡ true
    passes_on t =
        let same : r ≡ y = cc is in
        subst (λ (z : A). passes (before ++ z ∷ front) x ≡ true) same (subst (λ (l : List A). passes l x ≡ true) (append_assoc before (r ∷ []) front) t)

lines_pass : all_pass is_good [] (rows_of live_text) ≡ true
unfolding expanded repeated odd_parity_of lib.Count.ones decode_pairs
lines_pass = refl

rules_pass : all_pass may_follow [] live_lines ≡ true
unfolding expanded repeated odd_parity_of lib.Count.ones
rules_pass = refl

-- each line may stand behind those before it
pub live_rules : EachBehind may_follow live_lines
live_rules = λ before after x is. passes_behind may_follow [] live_lines rules_pass before after x is

weak_fits : IsPair weak_pair
weak_fits = record { left = omega arith; right = omega arith }

other_fits : IsPair other_pair
other_fits = record { left = omega arith; right = omega arith }

pub live_in_range : AreLinesInRange live_lines
live_in_range = All-from_recursion IsLineInRange live_lines (
  record { name_is = refl; pair_is = weak_fits; v_is = omega arith },
  (
    record { name_is = refl; pair_is = other_fits; v_is = omega arith },
    (
      record { origin_is = refl; recipient_is = refl; label_is = refl; pair_is = other_fits },
      (tt, (tt, (tt, (tt, tt)))),
    ),
  ),
)

values_are : live_lines ≡ lines_in (rows_of live_text)
unfolding decode_pairs
values_are = refl

-- the text is a scenario with these lines
pub live_scenario : IsScenario live_text live_lines
live_scenario = record {
  good = λ before after x is. passes_behind is_good [] (rows_of live_text) lines_pass before after x is;
  values = values_are;
}
