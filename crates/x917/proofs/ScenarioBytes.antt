-- A scenario is read of bytes that were taken.
use Rattle.std.proofs.Common.{◌≡◌, inr, ℕ, ◌≤◌, ◌<◌, ◌++◌, List, [], length, Option, Some, None, IfSome, refl, sym, ap, ◌∙◌, subst, arith}
use Rattle.std.proofs.lemmas.List.{append-nil}
use Rattle.scenario.specs.declared.line.Line.{Line}
use Rattle.scenario.specs.Laws.{BadInFront, FewBytes}
use Rattle.scenario.specs.Reading.{IsFirstBad, IsScenario}
use Rattle.call_ends.specs.declared.status.Status.TheVariants as status
use Rattle.party_calls.specs.Obeys.{scenario_limit}
use Rattle.x917.specs.Headline.{IsUnread, ReadsScenario}
use Rattle.call_ends.specs.Transfer.{IsAtEnd, IsFront, Took}

-- a scenario has fewer bytes than are taken, so that the source was read to its end
pub scenario_read : FewBytes → (before after : Option (List ℕ)) (text bytes : List ℕ) (lines : List Line) → Took before after text
    → (length text < scenario_limit → IsAtEnd before after) → bytes ≡ text → IsScenario bytes lines → ReadsScenario before after lines
scenario_read few None after text bytes lines took end same is = tt
scenario_read few (Some all) None text bytes lines took end same is = absurd took
scenario_read few (Some all) (Some rest) text bytes lines took end same is =
    let of_text : IsScenario text lines = subst (λ (t : List ℕ). IsScenario t lines) same is in
    let size : length text ≤ 16777216 = few text lines of_text in
    let e : Some rest ≡ Some [] = end (omega (arith, size)) in
    let none : rest ≡ [] = cc in
    let whole : all ≡ text = took ∙ ap (λ (r : List ℕ). text ++ r) none ∙ append-nil text in
    (e, subst (λ (t : List ℕ). IsScenario t lines) (sym whole) of_text)

bad_taken : BadInFront → (before : Option (List ℕ)) (text : List ℕ) (number : ℕ) → IsFront scenario_limit before text → IsFirstBad text number → IfSome before (λ all. IsFirstBad all number)
bad_taken in_front None text number front is = tt
bad_taken in_front (Some all) text number front is = in_front all number (subst (λ (t : List ℕ). IsFirstBad t number) front is)

pub bad_read : BadInFront → (before : Option (List ℕ)) (text bytes : List ℕ) (number : ℕ) → IsFront scenario_limit before text → bytes ≡ text → IsFirstBad bytes number → IsUnread before (status.BadScenario number)
bad_read in_front before text bytes number front same is =
    inr (number, refl, bad_taken in_front before text number front (subst (λ (t : List ℕ). IsFirstBad t number) same is))
