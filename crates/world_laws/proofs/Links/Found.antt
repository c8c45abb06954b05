-- The links that are found by search are those of their keys, and go on.
use Rattle.std.proofs.Common.{◌≡◌, ℕ, Bool, true, false, cond, not, ◌&&◌, Option, Some, None, List, refl, sym, ◌∙◌, ap, subst, bytes_eq}
use Rattle.std.proofs.lemmas.Bool.{and_parts}
use Rattle.x_base.specs.declared.party.Side.{Side}
use Rattle.x_base.specs.declared.party.Side.TheVariants.{Sends, Takes}
use Rattle.party_tables.specs.declared.link.LinkKey.{LinkKey}
use Rattle.party_tables.specs.declared.link.LinkRec.{LinkRec}
use Rattle.party_tables.specs.Tables.{Distinct}
use Rattle.party_tables.specs.Keys.{same_link, same_side, link_key, sends, takes}
use Rattle.party_state.specs.State.{Party, centre_label, link_with, first_link, is_usable}
use Rattle.party_tables.proofs.Keys.{test_idents, test_links, test_sides}
use Rattle.party_tables.proofs.Tables.{find_key}
use Rattle.party_tables.proofs.Distinct.{first_found, first_passes}
use Rattle.bank_orders.specs.Start.{if_ready, sending_link}
use Rattle.bank_keys.specs.Ksm.{link_in_use}
use Rattle.world_laws.proofs.Links.Growth.{LinkGrows}
use Rattle.world_laws.proofs.Links.Taking.{TakesGrow}

abbrev pub HasLinks : Party → Type 0
HasLinks p = Distinct link_key same_link p.links

-- a link stands under this key
pub record LinkAt (p : Party) (k : LinkKey) (l : LinkRec) : Type 0 where
  pub found : link_with k p ≡ Some l
  pub key : link_key l ≡ k

pub link_at : (p : Party) (k : LinkKey) (l : LinkRec) → link_with k p ≡ Some l → LinkAt p k l
link_at p k l h = record { found = h; key = sym (find_key link_key same_link test_links k l p.links h) }

-- the first link is the one of its key, and ready
pub record FirstAt (p : Party) (peer : List ℕ) (side : Side) (l : LinkRec) : Type 0 where
  pub at : LinkAt p (record { peer = peer; label = l.label; side = side }) l
  pub ready : l.ready ≡ true
  pub label : bytes_eq l.label centre_label ≡ false

false_from_not : (b : Bool) → not b ≡ true → b ≡ false
false_from_not true h = absurd (cc)
false_from_not false h = refl

pub first_at : (p : Party) (peer : List ℕ) (side : Side) (l : LinkRec) → HasLinks p → first_link peer side p ≡ Some l → FirstAt p peer side l
first_at p peer side l d h =
    let at : link_with (link_key l) p ≡ Some l = first_found link_key same_link test_links (is_usable peer side) l p.links d h in
    let passes : is_usable peer side l ≡ true = first_passes (is_usable peer side) l p.links h in
    let a = and_parts (bytes_eq peer l.peer) (same_side side l.side && (l.ready && not (bytes_eq l.label centre_label))) passes in
    let b = and_parts (same_side side l.side) (l.ready && not (bytes_eq l.label centre_label)) a.1 in
    let c = and_parts l.ready (not (bytes_eq l.label centre_label)) b.1 in
    let peer_is : peer ≡ l.peer = (test_idents.decides peer l.peer).0 a.0 in
    let side_is : side ≡ l.side = (test_sides.decides side l.side).0 b.0 in
    let key : link_key l ≡ record { peer = peer; label = l.label; side = side } = (λ i. record { peer = (sym peer_is) i; label = l.label; side = (sym side_is) i }) in
    record {
      at = record { found = subst (λ (k : LinkKey). link_with k p ≡ Some l) key at; key = key };
      ready = c.0;
      label = false_from_not (bytes_eq l.label centre_label) c.1;
    }

-- the link in use for what an originator sends

pub in_use_at : (p : Party) (originator : List ℕ) (idk2 : Option (List ℕ)) (l : LinkRec) → HasLinks p → link_in_use p originator idk2 ≡ Some l → LinkAt p (takes originator l.label) l
in_use_at p originator None l d h = (first_at p originator Takes l d h).at
in_use_at p originator (Some label) l d h = go (bytes_eq label centre_label) h
  where
    go : (b : Bool) → cond b None (link_with (takes originator label) p) ≡ Some l → LinkAt p (takes originator l.label) l
    go true h = absurd (cc)
    go false h =
        let at : LinkAt p (takes originator label) l = link_at p (takes originator label) l h in
        let is : takes originator label ≡ takes originator l.label = (λ i. takes originator ((sym (ap (λ (k : LinkKey). k.label) at.key)) i)) in
        subst (λ (k : LinkKey). LinkAt p k l) is at

pub in_use_grows : (s t : Party) (originator : List ℕ) (idk2 : Option (List ℕ)) (l : LinkRec) → TakesGrow s t → link_in_use s originator idk2 ≡ Some l → (m : LinkRec) × (link_in_use t originator idk2 ≡ Some m) × LinkGrows l m
in_use_grows s t originator None l g h = g.first originator l h
in_use_grows s t originator (Some label) l g h = go (bytes_eq label centre_label) h
  where
    go : (b : Bool) → cond b None (link_with (takes originator label) s) ≡ Some l → (m : LinkRec) × (cond b None (link_with (takes originator label) t) ≡ Some m) × LinkGrows l m
    go true h = absurd (cc)
    go false h = g.link (takes originator label) l refl h

-- the link to send under, which is ready
pub record SendingAt (p : Party) (peer : List ℕ) (l : LinkRec) : Type 0 where
  pub at : LinkAt p (sends peer l.label) l
  pub ready : l.ready ≡ true

ready_is : (o : Option LinkRec) (l : LinkRec) → if_ready o ≡ Some l → (o ≡ Some l) × (l.ready ≡ true)
ready_is None l h = absurd (cc)
ready_is (Some m) l h = go m.ready refl h
  where
    go : (b : Bool) → m.ready ≡ b → cond b (Some m) None ≡ Some l → (Some m ≡ Some l) × (l.ready ≡ true)
    go true r h = (h, (let is : m ≡ l = cc in ap (λ (x : LinkRec). x.ready) (sym is) ∙ r))
    go false r h = absurd (cc)

pub sending_at : (p : Party) (peer : List ℕ) (label : Option (List ℕ)) (l : LinkRec) → HasLinks p → sending_link p peer label ≡ Some l → SendingAt p peer l
sending_at p peer None l d h = let f = first_at p peer Sends l d h in record { at = f.at; ready = f.ready }
sending_at p peer (Some label) l d h = go (bytes_eq label centre_label) h
  where
    go : (b : Bool) → cond b None (if_ready (link_with (sends peer label) p)) ≡ Some l → SendingAt p peer l
    go true h = absurd (cc)
    go false h =
        let r = ready_is (link_with (sends peer label) p) l h in
        let at : LinkAt p (sends peer label) l = link_at p (sends peer label) l r.0 in
        let is : sends peer label ≡ sends peer l.label = (λ i. sends peer ((sym (ap (λ (k : LinkKey). k.label) at.key)) i)) in
        record { at = subst (λ (k : LinkKey). LinkAt p k l) is at; ready = r.1 }
