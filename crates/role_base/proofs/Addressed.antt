-- Whom a message is for.
use Rattle.std.proofs.Common.{◌≡◌, ◌≢◌, ℕ, true, not, bytes_eq, List}
use Rattle.std.proofs.lemmas.Bool.{both_ways, not-true, not_from_false, false_from_ne_true, and_parts, and_from}
use Rattle.std.proofs.lemmas.Slice.Eq.{bytes_eq-Decides}
use Rattle.party_state.specs.State.{Party}
use Rattle.role_base.specs.Conditions.{is_for}

pub others : (a b : List ℕ) → not (bytes_eq a b) ≡ true → a ≢ b
others a b h = λ e. both_ways (bytes_eq a b) (not-true (bytes_eq a b) h) ((bytes_eq-Decides a b).1 e)

pub apart : (a b : List ℕ) → a ≢ b → not (bytes_eq a b) ≡ true
apart a b h = not_from_false (bytes_eq a b) (false_from_ne_true (bytes_eq a b) (λ t. h ((bytes_eq-Decides a b).0 t)))

pub for_me : (p : Party) (receiver originator : List ℕ) → is_for p receiver originator ≡ true → (receiver ≡ p.own) × (originator ≢ p.own)
for_me p receiver originator h =
    let both : (bytes_eq receiver p.own ≡ true) × (not (bytes_eq originator p.own) ≡ true) = and_parts (bytes_eq receiver p.own) (not (bytes_eq originator p.own)) h in
    ((bytes_eq-Decides receiver p.own).0 both.0, others originator p.own both.1)

pub mine : (p : Party) (receiver originator : List ℕ) → receiver ≡ p.own → originator ≢ p.own → is_for p receiver originator ≡ true
mine p receiver originator r o = and_from (bytes_eq receiver p.own) (not (bytes_eq originator p.own)) ((bytes_eq-Decides receiver p.own).1 r) (apart originator p.own o)
