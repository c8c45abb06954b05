-- The members of the network for which open disks stand.
use Rattle.std.proofs.Common.{◌≡◌, ℕ, Bool, true, false, List, [], ◌∷◌, ◌++◌, Some, bytes_eq, refl, sym, ◌∙◌, ap, None}
use Rattle.x_disk.specs.Disk.{View}
use Rattle.party_tables.specs.Tables.{put_row}
use Rattle.key_store.specs.Store.{Stored}
use Rattle.member.specs.Member.{Member}
use Rattle.world_laws.specs.World.{own_of, member_at}
use Rattle.node_core.specs.Turns.{member_of}
use Rattle.open_parties.specs.OpenParties.{open_party, members, with_held, IsIn, AreIn, NoneOf}
use Rattle.open_parties.specs.declared.open_party.OpenParty.{OpenParty}
use Rattle.open_parties.specs.declared.open_party.PartyDisk.{PartyDisk}
use Rattle.open_parties.specs.declared.open_party.PartyDisk.TheVariants.{Open, Closed, Away}
use Rattle.open_parties.proofs.Members.{cond_yes, cond_not, same_yes, same_not}

module _ {D : Type 0} (tell : Bool) (told : D → View) (own : List ℕ) (n : Stored D) (back : List (OpenParty D)) where
  -- the member whose place it is
  pub found : (front : List (OpenParty D)) → AreIn tell told (front ++ open_party own (Open n) ∷ back) → NoneOf front own → member_at own (members (front ++ open_party own (Open n) ∷ back)) ≡ Some (member_of n)
  found [] all none = cond_yes (bytes_eq own n.party.own) (Some (member_of n)) _ (same_yes own n.party.own (sym all.0.named))
  found (f ∷ front) all none = go f.held all.0 (found front all.1 none.1)
    where
      go : (h : PartyDisk D) → IsIn tell told f.own h → member_at own (members (front ++ open_party own (Open n) ∷ back)) ≡ Some (member_of n) → member_at own (with_held h (members (front ++ open_party own (Open n) ∷ back))) ≡ Some (member_of n)
      go (Open m) is rest = cond_not (bytes_eq own m.party.own) (Some (member_of m)) _ (same_not own m.party.own (λ same. none.0 (sym is.named ∙ sym same))) ∙ rest
      go (Closed disk) is rest = absurd is
      go Away is rest = absurd is

  -- and after it has another
  pub put : (new : Stored D) → new.party.own ≡ own → (front : List (OpenParty D)) → AreIn tell told (front ++ open_party own (Open n) ∷ back) → NoneOf front own
      → members (front ++ open_party own (Open new) ∷ back) ≡ put_row own_of bytes_eq (member_of new) (members (front ++ open_party own (Open n) ∷ back))
  put new named [] all none = sym (cond_yes (bytes_eq new.party.own n.party.own) _ _ (same_yes new.party.own n.party.own (named ∙ sym all.0.named)))
  put new named (f ∷ front) all none = go f.held all.0 (put new named front all.1 none.1)
    where
      go : (h : PartyDisk D) → IsIn tell told f.own h → members (front ++ open_party own (Open new) ∷ back) ≡ put_row own_of bytes_eq (member_of new) (members (front ++ open_party own (Open n) ∷ back)) → with_held h (members (front ++ open_party own (Open new) ∷ back)) ≡ put_row own_of bytes_eq (member_of new) (with_held h (members (front ++ open_party own (Open n) ∷ back)))
      go (Open m) is rest =
          ap (λ (ms : List Member). member_of m ∷ ms) rest
          ∙ sym (cond_not (bytes_eq new.party.own m.party.own) _ _ (same_not new.party.own m.party.own (λ same. none.0 (sym is.named ∙ (sym same ∙ named)))))
      go (Closed disk) is rest = absurd is
      go Away is rest = absurd is

-- a row that stands is put in its own place
pub put_stands : (x : Member) (own : List ℕ) (ms : List Member) → own_of x ≡ own → member_at own ms ≡ Some x → put_row own_of bytes_eq x ms ≡ ms
put_stands x own [] named is = absurd (cc is)
put_stands x own (m ∷ ms) named is = go (bytes_eq own (own_of m)) refl is (λ (e : member_at own ms ≡ Some x). put_stands x own ms named e)
  where
    mine : bytes_eq (own_of x) (own_of m) ≡ bytes_eq own (own_of m)
    mine = ap (λ (o : List ℕ). bytes_eq o (own_of m)) named

    go : (t : Bool) → bytes_eq own (own_of m) ≡ t → member_at own (m ∷ ms) ≡ Some x → (member_at own ms ≡ Some x → put_row own_of bytes_eq x ms ≡ ms) → put_row own_of bytes_eq x (m ∷ ms) ≡ m ∷ ms
    go true yes_is found_is rest =
        let there : Some m ≡ Some x = sym (cond_yes (bytes_eq own (own_of m)) (Some m) (member_at own ms) yes_is) ∙ found_is in
        let same : m ≡ x = cc there in
        cond_yes (bytes_eq (own_of x) (own_of m)) (x ∷ ms) _ (mine ∙ yes_is) ∙ ap (λ (y : Member). y ∷ ms) (sym same)
    go false not_is found_is rest =
        cond_not (bytes_eq (own_of x) (own_of m)) (x ∷ ms) _ (mine ∙ not_is)
        ∙ ap (λ (l : List Member). m ∷ l) (rest (sym (cond_not (bytes_eq own (own_of m)) (Some m) (member_at own ms) not_is) ∙ found_is))

module _ {D : Type 0} where
  -- an identity without a place has no member
  pub none_found : (tell : Bool) (told : D → View) (own : List ℕ) (open_parties : List (OpenParty D)) → AreIn tell told open_parties → NoneOf open_parties own → member_at own (members open_parties) ≡ None
  none_found tell told own [] all none = refl
  none_found tell told own (s ∷ open_parties) all none = go s.held all.0 (none_found tell told own open_parties all.1 none.1)
    where
      go : (h : PartyDisk D) → IsIn tell told s.own h → member_at own (members open_parties) ≡ None → member_at own (with_held h (members open_parties)) ≡ None
      go (Open m) is rest = cond_not (bytes_eq own m.party.own) (Some (member_of m)) _ (same_not own m.party.own (λ same. none.0 (sym is.named ∙ sym same))) ∙ rest
      go (Closed disk) is rest = absurd is
      go Away is rest = absurd is
