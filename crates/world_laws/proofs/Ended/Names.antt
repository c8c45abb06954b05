-- The names of what is accepted, as its message has them.
use Rattle.std.proofs.Common.{◌≡◌, ℕ, ◌&&◌, Bool, true, false, cond, not, Option, Some, None, List, map, refl, sym, ◌∙◌, ap, bytes_eq}
use Rattle.std.proofs.lemmas.Bool.{and_parts}
use Rattle.x_base.specs.declared.key_name.FullName.{FullName}
use Rattle.x_base.specs.declared.party.Side.TheVariants.{Takes}
use Rattle.x_mac.specs.declared.pair.Pair.{Pair}
use Rattle.csm_grammar.specs.declared.message.Dsm.{Dsm}
use Rattle.csm_grammar.specs.declared.message.Ksm.{Ksm}
use Rattle.csm_grammar.specs.declared.message.KsmBody.{KsmBody}
use Rattle.csm_grammar.specs.declared.message.KsmBody.TheVariants as body
use Rattle.party_tables.specs.declared.key.KeyRec.{KeyRec}
use Rattle.party_tables.specs.declared.link.LinkKey.{LinkKey}
use Rattle.party_tables.specs.declared.link.LinkRec.{LinkRec}
use Rattle.party_tables.specs.Keys.{same_side, takes}
use Rattle.party_tables.proofs.Distinct.{first_passes}
use Rattle.party_tables.proofs.Keys.{test_idents}
use Rattle.party_state.specs.State.{Party, centre_label, link_with, is_usable}
use Rattle.role_base.specs.Exchanges.{record_of}
use Rattle.role_base.specs.Texts.{direct_name}
use Rattle.bank_arrivals.specs.declared.disconnection.NamedKey.{NamedKey}
use Rattle.bank_arrivals.specs.Dsm.{paired, code_name, named_by}
use Rattle.bank_keys.specs.Ksm.{link_in_use, body_link, body_count, body_name, body_twin, key_names}
use Rattle.world_laws.specs.Carried.{body_keys, carried_keys, carried_name}
use Rattle.world_laws.proofs.Links.Found.{link_at}
use Rattle.world_laws.proofs.Links.Taken.{twin_link}

-- the key that a disconnection names stands
pub named_at : (q : Party) (m : Dsm) (n : NamedKey) → named_by q m ≡ Some n → record_of q m.originator m.idd ≡ Some n.key
named_at q m n h = go (record_of q m.originator m.idd) (record_of q m.originator (code_name m.idd m.ida)) h
  where
    go : (a b : Option KeyRec) → paired a b ≡ Some n → a ≡ Some n.key
    go None b h = absurd (cc)
    go (Some a) None h = absurd (cc)
    go (Some a) (Some b) h = cc

-- the names of a text's keys, as a list and as its row has them
pub names_listed : (label : List ℕ) (pair : Pair) (m : Ksm) → key_names (carried_name label m (body_count m.body)) (body_twin m.body) ≡ map (λ k. carried_name label m k.count) (carried_keys pair m)
names_listed label pair m = go m.body
  where
    go : (b : KsmBody) → key_names (carried_name label (record m { body = b }) (body_count b)) (body_twin b) ≡ map (λ k. carried_name label (record m { body = b }) k.count) (body_keys pair m.originator m.receiver b)
    go (body.Direct idk2 None kd ctp) = refl
    go (body.Direct idk2 (Some new) kd ctp) = refl
    go (body.Centre centre kdu ctb) = refl
    go (body.Twin idk2 first second ctp) = refl

-- the link in use is one with the originator
in_use_peer : (p : Party) (originator : List ℕ) (idk2 : Option (List ℕ)) (l : LinkRec) → link_in_use p originator idk2 ≡ Some l → l.peer ≡ originator
in_use_peer p originator None l h =
    let passes : is_usable originator Takes l ≡ true = first_passes (is_usable originator Takes) l p.links h in
    sym ((test_idents.decides originator l.peer).0 (and_parts (bytes_eq originator l.peer) (same_side Takes l.side && (l.ready && not (bytes_eq l.label centre_label))) passes).0)
in_use_peer p originator (Some label) l h = go (bytes_eq label centre_label) h
  where
    go : (b : Bool) → cond b None (link_with (takes originator label) p) ≡ Some l → l.peer ≡ originator
    go true h = absurd (cc)
    go false h = ap (λ (k : LinkKey). k.peer) (link_at p (takes originator label) l h).key

module _ (p : Party) (m : Ksm) (l : LinkRec) (own : m.receiver ≡ p.own) where
  direct : (ctp : ℕ) → l.peer ≡ m.originator → (u : FullName) → u ≡ record { name = direct_name m.originator l.label ctp; recipient = m.receiver } → record { name = direct_name l.peer l.label ctp; recipient = p.own } ≡ u
  direct ctp peer u is = (λ i. record { name = direct_name (peer i) l.label ctp; recipient = (sym own) i }) ∙ sym is

  first_name : (b : KsmBody) → body_link p m.originator b ≡ Some l → body_name p m.originator b l ≡ carried_name l.label (record m { body = b }) (body_count b)
  first_name (body.Direct idk2 new kd ctp) h = direct ctp (in_use_peer p m.originator idk2 l h) _ refl
  first_name (body.Centre centre kdu ctb) h =
      let label : l.label ≡ centre_label = ap (λ (k : LinkKey). k.label) (link_at p (takes centre centre_label) l h).key in
      λ i. record { name = record { issuer = centre; originator = m.originator; label = (sym label) i; count = ctb }; recipient = (sym own) i }
  first_name (body.Twin idk2 first second ctp) h = direct ctp (in_use_peer p m.originator idk2 l (twin_link p m.originator idk2 ctp l h).1) _ refl

-- the names of a key service message for this party, as the message has them
pub names_carried : (p : Party) (m : Ksm) (l : LinkRec) → body_link p m.originator m.body ≡ Some l → m.receiver ≡ p.own → key_names (body_name p m.originator m.body l) (body_twin m.body) ≡ map (λ k. carried_name l.label m k.count) (carried_keys l.pair m)
names_carried p m l h own = ap (λ (u : FullName). key_names u (body_twin m.body)) (first_name p m l own m.body h) ∙ names_listed l.label l.pair m
