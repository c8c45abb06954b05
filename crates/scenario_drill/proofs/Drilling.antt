-- A drill up to an event.
use Rattle.std.proofs.Common.{◌≡◌, ℕ, suc, ◌+◌, ◌*◌, ◌/◌, ◌^◌, List, [], ◌++◌, arith, refl, sym, ap, ◌∙◌, append-nil, append_assoc, add-one}
use Rattle.scenario_drill.specs.Drill.{advanced, draw, event, event_with, events, number_after, set_up}

pub record IsDrilled (seed done : ℕ) (text : List ℕ) (number : ℕ) : Type 0 where
  pub text_is : text ≡ set_up seed ++ events seed done
  pub number_is : number ≡ number_after seed (3 * done)

none_after : (seed : ℕ) → number_after seed 0 ≡ seed
unfolding number_after
none_after seed = refl

one_after : (seed n m : ℕ) → m ≡ suc n → number_after seed m ≡ advanced (number_after seed n)
unfolding number_after
one_after seed n m e = rw e refl

no_events : (seed : ℕ) → events seed 0 ≡ []
unfolding events
no_events seed = refl

one_event : (seed n : ℕ) → events seed (n + 1) ≡ events seed n ++ event seed n
unfolding events
one_event seed n = rw (add-one n) refl

pub none_drilled : (seed : ℕ) (text : List ℕ) (number : ℕ) → text ≡ [] ++ set_up seed → number ≡ seed → IsDrilled seed 0 text number
none_drilled seed text number t n = record {
  text_is = t ∙ sym (append-nil (set_up seed)) ∙ ap (λ e. set_up seed ++ e) (sym (no_events seed));
  number_is = n ∙ sym (none_after seed);
}

pub one_drilled : (seed done : ℕ) (text after : List ℕ) (number : ℕ) (a b c : ℕ) → IsDrilled seed done text number
    → a ≡ advanced number / 2 ^ 33 → b ≡ advanced (advanced number) / 2 ^ 33 → c ≡ advanced (advanced (advanced number)) / 2 ^ 33
    → after ≡ text ++ event_with done a b c → IsDrilled seed (done + 1) after (advanced (advanced (advanced number)))
one_drilled seed done text after number a b c d ea eb ec e =
    let first : number_after seed (3 * done + 1) ≡ advanced number = one_after seed (3 * done) (3 * done + 1) (omega arith) ∙ ap advanced (sym d.number_is) in
    let second : number_after seed (3 * done + 2) ≡ advanced (advanced number) = one_after seed (3 * done + 1) (3 * done + 2) (omega arith) ∙ ap advanced first in
    let third : number_after seed (3 * done + 3) ≡ advanced (advanced (advanced number)) = one_after seed (3 * done + 2) (3 * done + 3) (omega arith) ∙ ap advanced second in
    let next : 3 * (done + 1) ≡ 3 * done + 3 = omega arith in
    let draws : event_with done a b c ≡ event seed done =
    ap (λ x. event_with done x b c) (ea ∙ ap (λ x. x / 2 ^ 33) (sym first))
    ∙ ap (λ x. event_with done (draw seed (3 * done + 1)) x c) (eb ∙ ap (λ x. x / 2 ^ 33) (sym second))
    ∙ ap (λ x. event_with done (draw seed (3 * done + 1)) (draw seed (3 * done + 2)) x) (ec ∙ ap (λ x. x / 2 ^ 33) (sym third)) in
    record {
      text_is = e ∙ ap (λ t. t ++ event_with done a b c) d.text_is ∙ append_assoc (set_up seed) (events seed done) (event_with done a b c)
          ∙ ap (λ t. set_up seed ++ (events seed done ++ t)) draws ∙ ap (λ t. set_up seed ++ t) (sym (one_event seed done));
      number_is = sym third ∙ ap (number_after seed) (sym next);
    }

-- five pieces, one behind the other
pub five_more : (t u v w x y a b c d e : List ℕ) → u ≡ t ++ a → v ≡ u ++ b → w ≡ v ++ c → x ≡ w ++ d → y ≡ x ++ e → y ≡ t ++ (a ++ b ++ c ++ d ++ e)
five_more t u v w x y a b c d e ea eb ec ed ee = rw (ee, ed, ec, eb, ea) (simp append_assoc)
