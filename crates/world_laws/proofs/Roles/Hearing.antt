-- One thing is heard of bytes that arrive: a message that is heard arrives, and two that are heard are one.
use Rattle.std.proofs.Common.{arith, ◌≡◌, ℕ, Option, Some, None, Result, Ok, Err, List, length, take, refl, sym, ◌∙◌, ap, subst}
use Rattle.std.proofs.Math.Logic.{∥∥₁_prop}
use Rattle.std.proofs.lemmas.List.{take_all, length-take-le}
use Rattle.csm_grammar.specs.declared.arrival.Arrival.{Arrival}
use Rattle.csm_grammar.specs.declared.parsed.Parsed.{Parsed}
use Rattle.csm_grammar.specs.Reading.{IsRead, IsArrival}
use Rattle.csm_grammar.specs.Spelling.{Spells}
use Rattle.csm_feed.specs.declared.unheard.Unheard.{Unheard}
use Rattle.csm_feed.specs.Heard.{Heard, OneHeard, after_leading}
use Rattle.csm_feed.specs.Laws.{OneHearing}
use Rattle.world_laws.specs.Hearing.{IsHeard, HeardOnce}

arrives : (b : List ℕ) (p : Parsed) → IsRead b p → IsArrival (take p.len b) p
arrives b p r =
    let n : length (take p.len b) ≡ p.len = length-take-le p.len b r.within in
    let same : take p.len (take p.len b) ≡ take p.len b = take_all p.len (take p.len b) (omega arith) in
    record {
      read = record { within = omega arith; spelled = subst (λ (x : List ℕ). Spells x p.message p.shut p.auth_len) (sym same) r.spelled };
      whole = sym n;
    }

arrival_of : (b : List ℕ) (p : Parsed) → IsRead b p → Arrival
arrival_of b p r = record { parsed = p; text = take p.len b; arrived = ∣ arrives b p r ∣₁ }

same_arrival : (a b : Arrival) → a.text ≡ b.text → a.parsed ≡ b.parsed → a ≡ b
same_arrival a b e f =
    subst (λ (t : List ℕ). (y : ∥ IsArrival t b.parsed ∥₁) → a ≡ record { parsed = b.parsed; text = t; arrived = y }) e
    (subst (λ (p : Parsed). (y : ∥ IsArrival a.text p ∥₁) → a ≡ record { parsed = p; text = a.text; arrived = y }) f
    (λ y. ap (λ (z : ∥ IsArrival a.text a.parsed ∥₁). record { parsed = a.parsed; text = a.text; arrived = z }) (∥∥₁_prop a.arrived y))) b.arrived

pub heard_once : OneHearing → (bytes : List ℕ) → HeardOnce bytes
unfolding arrival_of
heard_once law bytes = by_hearing one.heard one.holds one.alone
  where
    one : OneHeard bytes
    one = law bytes

    by_hearing : (r : Result Parsed Unheard) → Heard bytes r → ((other : Result Parsed Unheard) → Heard bytes other → other ≡ r) → HeardOnce bytes
    by_hearing (Ok p) h alone = record { heard = Some (arrival_of (after_leading bytes) p h.0); holds = (h, refl); alone = only }
      where
        only : (other : Option Arrival) → IsHeard bytes other → other ≡ Some (arrival_of (after_leading bytes) p h.0)
        only None k = absurd (let e : Err k.0 ≡ Ok p = alone (Err k.0) k.1 in cc)
        only (Some a) k =
            let e : Ok a.parsed ≡ Ok p = alone (Ok a.parsed) k.0 in
            let parsed : a.parsed ≡ p = cc in
            let text : a.text ≡ take p.len (after_leading bytes) = k.1 ∙ ap (λ (q : Parsed). take q.len (after_leading bytes)) parsed in
            ap (λ (x : Arrival). let o : Option Arrival = Some x in o) (same_arrival a (arrival_of (after_leading bytes) p h.0) text parsed)
    by_hearing (Err u) h alone = record { heard = None; holds = (u, h); alone = only }
      where
        only : (other : Option Arrival) → IsHeard bytes other → other ≡ None
        only None k = refl
        only (Some a) k = absurd (let e : Ok a.parsed ≡ Err u = alone (Ok a.parsed) k.0 in cc)
