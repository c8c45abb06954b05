-- A message is heard of bytes that were taken.
use Rattle.std.proofs.Common.{◌≡◌, ◌≢◌, inl, inr, ℕ, ◌+◌, ◌≤◌, ◌<◌, List, [], length, take, Option, Some, None, Result, Ok, Err, IfOk, IfSome, refl, ap, ◌∙◌, subst, arith}
use Rattle.std.proofs.lemmas.Bool.{cases_lt}
use Rattle.csm_grammar.specs.declared.arrival.Arrival.{Arrival}
use Rattle.csm_grammar.specs.declared.refusal.ReadRefusal.{ReadRefusal}
use Rattle.csm_grammar.specs.declared.refusal.ReadRefusal.TheVariants as reason
use Rattle.csm_feed.specs.declared.unheard.Unheard.{Unheard}
use Rattle.csm_feed.specs.declared.unheard.Unheard.TheVariants as unheard
use Rattle.csm_feed.specs.Heard.{leading, after_leading, refused_place, Heard, readings, input_limit}
use Rattle.call_ends.specs.declared.status.Refusal.TheVariants as refusal
use Rattle.call_ends.specs.declared.status.Status.TheVariants as status
use Rattle.call_ends.specs.Transfer.{IsAtEnd, IsFront}
use Rattle.call_ends.specs.Listening.{IsHeard, IsPossible, IsUnheard, taken}

-- a message that is heard isn't among 2,049 bytes
not_full : (end count : ℕ) (o : Option ℕ) → refused_place end count o ≡ None → count ≡ input_limit → ⊥
not_full end count (Some n) h e = absurd cc
not_full end count None h e = let k : Some 2048 ≡ None = subst (λ (c : ℕ). refused_place end c None ≡ None) e h in absurd cc

refused_possible : (u : Unheard) → u ≢ unheard.Text reason.NoMemory → IsPossible (refusal.Unheard u)
refused_possible (unheard.Text r) h = go r h where
  go : (r : ReadRefusal) → unheard.Text r ≢ unheard.Text reason.NoMemory → IsPossible (refusal.Unheard (unheard.Text r))
  go (reason.NotCsm p) h = tt
  go (reason.TooLong p) h = tt
  go (reason.Unended p) h = tt
  go (reason.BadTag p) h = tt
  go (reason.UnknownTag p) h = tt
  go (reason.Repeated t p) h = tt
  go (reason.Missing t p) h = tt
  go (reason.Unwanted t p) h = tt
  go (reason.BadContents t p) h = tt
  go (reason.Unsupported t p) h = tt
  go reason.NoMemory h = h refl
refused_possible (unheard.Trailing place) h = tt

module _ (before after : Option (List ℕ)) (text bytes : List ℕ) (front : IsFront input_limit before text) (bound : length text ≤ input_limit)
    (end : length text < input_limit → IsAtEnd before after) (same : bytes ≡ text) (r : Result Arrival Unheard) (h : Heard bytes (readings r)) where
  heard_short : (a : Arrival) → Heard text (Ok a.parsed) → length text < input_limit
  heard_short a heard = elim (cases_lt (length text) input_limit) [
    | inl lt ↦ lt
    | inr ge ↦
        let full : length text ≡ input_limit = omega (arith, bound, ge) in
        absurd (not_full (leading text + a.parsed.len) (length text) _ heard.1 full)
  ]

  of_text : (q : Result Arrival Unheard) → r ≡ q → Heard text (readings q)
  of_text q is = subst (λ (t : List ℕ). Heard t (readings q)) same (subst (λ (x : Result Arrival Unheard). Heard bytes (readings x)) is h)

  heard_in : (o : Option (List ℕ)) (a : Arrival) → IsFront input_limit o text → (length text < input_limit → IsAtEnd o after) → Heard text (Ok a.parsed) → a.text ≡ take a.parsed.len (after_leading text)
      → IfSome o (λ all. IsHeard all a × (after ≡ Some []))
  heard_in None a t e heard kept = tt
  heard_in (Some all) a t e heard kept =
      let is : text ≡ taken all = t in (
        record { heard = subst (λ (b : List ℕ). Heard b (Ok a.parsed)) is heard; text = kept ∙ ap (λ (b : List ℕ). take a.parsed.len (after_leading b)) is },
        e (heard_short a heard),
      )

  pub heard_was : (a : Arrival) → IfOk r (λ a. a.text ≡ take a.parsed.len (after_leading bytes)) → r ≡ Ok a → IfSome before (λ all. IsHeard all a × (after ≡ Some []))
  heard_was a kept is =
      let k : a.text ≡ take a.parsed.len (after_leading bytes) = subst (λ (x : Result Arrival Unheard). IfOk x (λ a. a.text ≡ take a.parsed.len (after_leading bytes))) is kept in
      heard_in before a front end (of_text (Ok a) is) (k ∙ ap (λ (b : List ℕ). take a.parsed.len (after_leading b)) same)

  unheard_in : (o : Option (List ℕ)) (u : Unheard) → IsFront input_limit o text → Heard text (Err u) → IfSome o (λ all. Heard (taken all) (Err u))
  unheard_in None u t heard = tt
  unheard_in (Some all) u t heard = subst (λ (b : List ℕ). Heard b (Err u)) t heard

  pub unheard_was : (u : Unheard) → r ≡ Err u → u ≢ unheard.Text reason.NoMemory → IsUnheard before (status.Refused (refusal.Unheard u))
  unheard_was u is some = inr (u, refl, refused_possible u some, unheard_in before u front (of_text (Err u) is))
