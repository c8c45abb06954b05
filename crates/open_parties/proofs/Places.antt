-- The place of an identity among the parties.
use Rattle.std.proofs.Common.{◌≡◌, ℕ, zero, suc, ◌+◌, ◌<◌, Bool, true, false, not, cond, nat_lt, List, [], ◌∷◌, ◌++◌, length, get_or, take, Some, None, bytes_eq, refl, sym, ◌∙◌, ap, subst, arith}
use Rattle.std.specs.Prelude.{position}
use Rattle.std.specs.List.{position_or_len}
use Rattle.std.proofs.lemmas.Bool.{ltb-true, ltb-false}
use Rattle.std.proofs.lemmas.Slice.Eq.{bytes_eq-Decides}
use Rattle.std.proofs.lemmas.List.{get_or_at, take_all}
use Rattle.key_store.specs.Store.{Stored}
use Rattle.open_parties.specs.OpenParties.{open_party, IsOpen, AreOpen, NoneOf, IsPlace, owners}
use Rattle.open_parties.specs.declared.open_party.OpenParty.{OpenParty}
use Rattle.open_parties.specs.declared.open_party.PartyDisk.{PartyDisk}
use Rattle.open_parties.specs.declared.open_party.PartyDisk.TheVariants.{Open, Closed, Away}
use Rattle.open_parties.proofs.Owning.{count_owners}

module _ {D : Type 0} where
  take_front : (front back : List (OpenParty D)) → take (length front) (front ++ back) ≡ front
  take_front [] back = refl
  take_front (f ∷ front) back = ap (λ (l : List (OpenParty D)). f ∷ l) (take_front front back)

  pub found_place : (open_parties : List (OpenParty D)) (own : List ℕ) (place : ℕ) (s : OpenParty D) → s ≡ get_or open_parties place s → s.own ≡ own → NoneOf (take place open_parties) own → IsPlace open_parties own place
  found_place open_parties own place s read named none = λ front t back is size.
      let front_is : take place open_parties ≡ front = ap (λ (l : List (OpenParty D)). take place l) is ∙ (ap (λ (n : ℕ). take n (front ++ t ∷ back)) (sym size) ∙ take_front front (t ∷ back)) in
      let same : s ≡ t = read ∙ (ap (λ (l : List (OpenParty D)). get_or l place s) is ∙ get_or_at front t back s place size) in
      (subst (λ (l : List (OpenParty D)). NoneOf l own) front_is none, sym (ap (λ (x : OpenParty D). x.own) same) ∙ named)

  -- the place that a table of the identities gives is the first one of an identity
  record IsFirst (open_parties : List (OpenParty D)) (own : List ℕ) (place : ℕ) : Type 0 where
    none : NoneOf (take place open_parties) own
    here : place < length open_parties → (s : OpenParty D) × (s ≡ get_or open_parties place s) × (s.own ≡ own)

  first_of : (open_parties : List (OpenParty D)) (own : List ℕ) → IsFirst open_parties own (position_or_len (bytes_eq own) (owners open_parties))
  first_of [] own = record { none = tt; here = λ lt. absurd (omega (arith, lt)) }
  first_of (t ∷ open_parties) own = go (bytes_eq own t.own) refl (first_of open_parties own)
    where
      go : (b : Bool) → bytes_eq own t.own ≡ b → IsFirst open_parties own (position_or_len (bytes_eq own) (owners open_parties)) → IsFirst (t ∷ open_parties) own (position_or_len (bytes_eq own) (owners (t ∷ open_parties)))
      go true is rest = subst (IsFirst (t ∷ open_parties) own) (sym (ap (λ (b : Bool). cond (not b) (1 + position_or_len (bytes_eq own) (owners open_parties)) 0) is)) (record {
        none = tt;
        here = λ lt. (t, refl, sym ((bytes_eq-Decides own t.own).0 is));
      })
      go false is rest =
          let one_more : position_or_len (bytes_eq own) (owners (t ∷ open_parties)) ≡ suc (position_or_len (bytes_eq own) (owners open_parties)) = ap (λ (b : Bool). cond (not b) (1 + position_or_len (bytes_eq own) (owners open_parties)) 0) is ∙ omega arith in
          subst (IsFirst (t ∷ open_parties) own) (sym one_more) (record {
            none = (λ same. let both : true ≡ false = sym ((bytes_eq-Decides own t.own).1 (sym same)) ∙ is in cc both, rest.none);
            here = λ lt. rest.here (omega (arith, lt));
          })

  pub placed : (open_parties : List (OpenParty D)) (own : List ℕ) (names : List (List ℕ)) (place : ℕ) → names ≡ owners open_parties → position (bytes_eq own) names ≡ Some place → (place < length open_parties) × IsPlace open_parties own place
  placed open_parties own names place named is =
      let there : position (bytes_eq own) (owners open_parties) ≡ Some place = ap (position (bytes_eq own)) (sym named) ∙ is in
      go (nat_lt (position_or_len (bytes_eq own) (owners open_parties)) (length (owners open_parties))) refl there
    where
      go : (b : Bool) → nat_lt (position_or_len (bytes_eq own) (owners open_parties)) (length (owners open_parties)) ≡ b → cond b (Some (position_or_len (bytes_eq own) (owners open_parties))) None ≡ Some place → (place < length open_parties) × IsPlace open_parties own place
      go true lt is = let same : position_or_len (bytes_eq own) (owners open_parties) ≡ place = cc is in
          let first : IsFirst open_parties own place = subst (IsFirst open_parties own) same (first_of open_parties own) in
          let within : place < length open_parties = omega (arith, ltb-true _ _ lt, same, count_owners open_parties) in
          let h = first.here within in
          (within, found_place open_parties own place h.0 h.1 h.2 first.none)
      go false lt is = absurd (cc is)

  pub nowhere : (open_parties : List (OpenParty D)) (own : List ℕ) (names : List (List ℕ)) → names ≡ owners open_parties → position (bytes_eq own) names ≡ None → NoneOf open_parties own
  nowhere open_parties own names named is =
      let there : position (bytes_eq own) (owners open_parties) ≡ None = ap (position (bytes_eq own)) (sym named) ∙ is in
      go (nat_lt (position_or_len (bytes_eq own) (owners open_parties)) (length (owners open_parties))) refl there
    where
      go : (b : Bool) → nat_lt (position_or_len (bytes_eq own) (owners open_parties)) (length (owners open_parties)) ≡ b → cond b (Some (position_or_len (bytes_eq own) (owners open_parties))) None ≡ None → NoneOf open_parties own
      go true lt is = absurd (cc is)
      go false lt is = subst (λ (l : List (OpenParty D)). NoneOf l own) (take_all (position_or_len (bytes_eq own) (owners open_parties)) open_parties (omega (arith, ltb-false _ _ lt, count_owners open_parties))) (first_of open_parties own).none

-- a place among open parties has an open disk
pub record OpenAt {D : Type 0} (open_parties : List (OpenParty D)) (place : ℕ) : Type 0 where
  pub front : List (OpenParty D)
  pub own : List ℕ
  pub node : Stored D
  pub back : List (OpenParty D)
  pub was : open_parties ≡ front ++ open_party own (Open node) ∷ back
  pub size : length front ≡ place

pub open_at : {D : Type 0} (open_parties : List (OpenParty D)) (place : ℕ) → place < length open_parties → AreOpen open_parties → OpenAt open_parties place
open_at [] place lt all = absurd (omega (arith, lt))
open_at {D = D} (s ∷ open_parties) zero lt all = go s.held refl all.0
  where
    go : (h : PartyDisk D) → s.held ≡ h → IsOpen h → OpenAt (s ∷ open_parties) zero
    go (Open node) is opened = record { front = []; own = s.own; node = node; back = open_parties; was = ap (λ (h : PartyDisk D). open_party s.own h ∷ open_parties) is; size = refl }
    go (Closed disk) is opened = absurd opened
    go Away is opened = absurd opened
open_at {D = D} (s ∷ open_parties) (suc place) lt all =
    let o : OpenAt open_parties place = open_at open_parties place (omega (arith, lt)) all.1 in
    record { front = s ∷ o.front; own = o.own; node = o.node; back = o.back; was = ap (λ (l : List (OpenParty D)). s ∷ l) o.was; size = ap suc o.size }
