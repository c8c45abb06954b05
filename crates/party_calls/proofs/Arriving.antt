-- What follows of a message that was heard, or of none.
use Rattle.std.proofs.Common.{◌≡◌, inl, inr, ℕ, List, [], take, Option, Some, None, Result, Ok, Err, IfSome, sym, ap, ◌∙◌, subst}
use Rattle.std.proofs.Math.Logic.{∥∥₁_prop}
use Rattle.x_base.specs.Edge.{Rose}
use Rattle.csm_grammar.specs.declared.arrival.Arrival.{Arrival}
use Rattle.csm_grammar.specs.declared.parsed.Parsed.{Parsed}
use Rattle.csm_grammar.specs.Reading.{IsArrival}
use Rattle.csm_feed.specs.declared.unheard.Unheard.{Unheard}
use Rattle.csm_feed.specs.Heard.{after_leading, Heard}
use Rattle.csm_feed.specs.Laws.{OneHearing}
use Rattle.x_disk.specs.Disk.{View}
use Rattle.party_state.specs.declared.command.Input.TheVariants.{Arrived}
use Rattle.call_ends.specs.declared.status.Status.{Status}
use Rattle.call_ends.specs.declared.status.Status.TheVariants as status
use Rattle.call_ends.specs.declared.status.Refusal.TheVariants as refusal
use Rattle.call_ends.specs.Transfer.{IsQuiet}
use Rattle.call_ends.specs.Listening.{taken, IsHeard, IsUnheard}
use Rattle.party_calls.specs.Ends.{IsOfParty}
use Rattle.x_party.specs.Dues.{IsDue}
use Rattle.party_calls.specs.Dues.{Follows, FollowsBytes}

-- a status that comes without a party comes of none
pub none_told : (left : Option (List ℕ)) (s : Status) → IsUnheard left s → IsOfParty s → ⊥
none_told left s (inl (inl fault)) of = subst IsOfParty fault of
none_told left s (inl (inr memory)) of = subst IsOfParty memory of
none_told left s (inr (u, is, possible, heard)) of = subst IsOfParty is of

-- ---- what follows of it

same_arrival : (a b : Arrival) → a.parsed ≡ b.parsed → a.text ≡ b.text → a ≡ b
same_arrival a b f e =
    subst (λ (t : List ℕ). (y : ∥ IsArrival t b.parsed ∥₁) → a ≡ record { parsed = b.parsed; text = t; arrived = y }) e
    (subst (λ (p : Parsed). (y : ∥ IsArrival a.text p ∥₁) → a ≡ record { parsed = p; text = a.text; arrived = y }) f
    (λ y. ap (λ (z : ∥ IsArrival a.text a.parsed ∥₁). record { parsed = a.parsed; text = a.text; arrived = z }) (∥∥₁_prop a.arrived y))) b.arrived

module _ (one : OneHearing) where
  same_heard : (bytes : List ℕ) (a b : Result Parsed Unheard) → Heard bytes a → Heard bytes b → a ≡ b
  same_heard bytes a b h k = (one bytes).alone a h ∙ sym ((one bytes).alone b k)

  one_arrival : (all : List ℕ) (a b : Arrival) → IsHeard all a → IsHeard all b → a ≡ b
  one_arrival all a b h k =
      let read : Ok a.parsed ≡ Ok b.parsed = same_heard (taken all) (Ok a.parsed) (Ok b.parsed) h.heard k.heard in
      let parsed : a.parsed ≡ b.parsed = cc in
      same_arrival a b parsed (h.text ∙ (ap (λ (p : Parsed). take p.len (after_leading (taken all))) parsed ∙ sym k.text))

  heard_or_not : {A : Type 0} (all : List ℕ) (a : Arrival) (u : Unheard) → IsHeard all a → Heard (taken all) (Err u) → A
  heard_or_not all a u h k = let no : Ok a.parsed ≡ Err u = same_heard (taken all) (Ok a.parsed) (Err u) h.heard k in absurd cc

  pub follows_heard : (left rest : Option (List ℕ)) (name : List ℕ) (old : View) (moment : ℕ) (s : Status) (a : Arrival) → IfSome left (λ all. IsHeard all a × (rest ≡ Some []))
      → Follows old (IsDue name (Arrived a) moment) s → IfSome left (λ all. FollowsBytes all name old moment s)
  follows_heard None rest name old moment s a h f = tt
  follows_heard (Some all) rest name old moment s a h f = record {
    unheard = λ u k. heard_or_not all a u h.0 k;
    heard = λ b k. subst (λ (x : Arrival). Follows old (IsDue name (Arrived x) moment) s) (one_arrival all a b h.0 k) f;
  }

  pub follows_unheard : (left : Option (List ℕ)) (name : List ℕ) (old : View) (moment : ℕ) (s : Status) (read reads : ℕ) → IsUnheard left s → (s ≡ status.ReadFault → Rose read reads)
      → IsQuiet read reads → IfSome left (λ all. FollowsBytes all name old moment s)
  follows_unheard None name old moment s read reads is cause quiet = tt
  follows_unheard (Some all) name old moment s read reads (inl (inl fault)) cause quiet = absurd (quiet (cause fault))
  follows_unheard (Some all) name old moment s read reads (inl (inr memory)) cause quiet = record { unheard = λ u k. inr memory; heard = λ a k image o now due. inr memory }
  follows_unheard (Some all) name old moment s read reads (inr (u, is, possible, h)) cause quiet = record {
    unheard = λ v k. (let e : Err u ≡ Err v = same_heard (taken all) (Err u) (Err v) h k in let q : u ≡ v = cc in inl (is ∙ ap (λ (x : Unheard). status.Refused (refusal.Unheard x)) q));
    heard = λ a k. heard_or_not all a u k h;
  }
