-- What the names, labels and counts of a party's links and records are.
use Rattle.std.proofs.Common.{ℕ, bytes_eq}
use Rattle.party_tables.specs.declared.exchange.Via.{Via}
use Rattle.party_tables.specs.declared.exchange.Via.TheVariants as vias
use Rattle.party_tables.specs.declared.exchange.Kind.{Kind}
use Rattle.party_tables.specs.declared.exchange.Kind.TheVariants as kind
use Rattle.party_tables.specs.declared.exchange.Exchange.{Exchange}
use Rattle.party_tables.specs.Keys.{exchange_key}
use Rattle.party_state.specs.State.{exchange_with}
use Rattle.std.proofs.Common.{◌≡◌, not, Some, List, [], ◌∷◌}
use Rattle.std.specs.List.{All, AllByRecursion}
use Rattle.std.proofs.lemmas.List.Elements.{All-nil, All-filter}
use Rattle.x_base.specs.Names.{IsIdent, IsLabel}
use Rattle.x_base.specs.KeyName.{IsKeyName}
use Rattle.party_tables.specs.declared.link.LinkKey.{LinkKey}
use Rattle.party_tables.specs.declared.link.LinkRec.{LinkRec}
use Rattle.party_tables.specs.declared.key.RecordKey.{RecordKey}
use Rattle.party_tables.specs.declared.key.KeyRec.{KeyRec}
use Rattle.party_state.specs.declared.edit.Edit.{Edit}
use Rattle.party_state.specs.declared.edit.Edit.TheVariants.{Begin, PutLink, DropLink, PutKey, DropEnded, PutExchange, DropExchange, PutAnswer, SetGen}
use Rattle.party_tables.specs.Keys.{same_link, same_record, link_key, record_key}
use Rattle.party_tables.specs.Ranges.{IsNextCount}
use Rattle.party_state.specs.Ranges.{IsParty}
use Rattle.party_tables.specs.Statuses.{is_ended}
use Rattle.party_state.specs.State.{Party, link_with, record_with, apply_edit, apply}
use Rattle.party_tables.proofs.Each.{find_all, all_put, all_drop}

pub record LinkNamed (l : LinkRec) : Type 0 where
  pub peer : IsIdent l.peer
  pub label : IsLabel l.label
  pub next : IsNextCount l.next

pub record RecordNamed (k : KeyRec) : Type 0 where
  pub peer : IsIdent k.peer
  pub name : IsKeyName k.name

-- the centre of an exchange whose key came from one
abbrev pub ViaNamed : Via → Type 0
ViaNamed (vias.Direct label new) = Unit {0}
ViaNamed (vias.Distribution centre cta) = IsIdent centre
ViaNamed (vias.Translation centre) = Unit {0}

abbrev pub KindNamed : Kind → Type 0
KindNamed (kind.Asked ultimate) = Unit {0}
KindNamed (kind.Translating ultimate value cta) = Unit {0}
KindNamed (kind.KeySent name via) = ViaNamed via
KindNamed (kind.Ending name) = Unit {0}
KindNamed (kind.PairSent name) = Unit {0}

pub record ExchangeNamed (e : Exchange) : Type 0 where
  pub kind : KindNamed e.kind

pub record IsNamed (p : Party) : Type 0 where
  pub own : IsIdent p.own
  pub exchanges : All ExchangeNamed p.exchanges
  pub links : All LinkNamed p.links
  pub keys : All RecordNamed p.keys

-- what an edit has to meet
abbrev pub NamesFine : Edit → Type 0
NamesFine (Begin own role generator) = ⊥
NamesFine (PutLink l) = LinkNamed l
NamesFine (PutKey k) = RecordNamed k
NamesFine (DropLink peer label side) = Unit {0}
NamesFine DropEnded = Unit {0}
NamesFine (PutExchange e) = KindNamed e.kind
NamesFine (DropExchange peer) = Unit {0}
NamesFine (PutAnswer a) = Unit {0}
NamesFine (SetGen v) = Unit {0}

edit_named : (p : Party) (e : Edit) → NamesFine e → IsNamed p → IsNamed (apply_edit e p)
edit_named p (Begin own role generator) f i = absurd f
edit_named p (PutLink l) f i = record { own = i.own; exchanges = i.exchanges; links = all_put LinkNamed link_key same_link l p.links f i.links; keys = i.keys }
edit_named p (PutKey k) f i = record { own = i.own; exchanges = i.exchanges; links = i.links; keys = all_put RecordNamed record_key same_record k p.keys f i.keys }
edit_named p (DropLink peer label side) f i = record { own = i.own; exchanges = i.exchanges; links = all_drop LinkNamed link_key same_link (record { peer = peer; label = label; side = side }) p.links i.links; keys = i.keys }
edit_named p DropEnded f i = record { own = i.own; exchanges = i.exchanges; links = i.links; keys = All-filter (λ (k : KeyRec). not (is_ended k.status)) RecordNamed p.keys i.keys }
edit_named p (PutExchange e) f i = record { own = i.own; exchanges = all_put ExchangeNamed exchange_key bytes_eq e p.exchanges (record { kind = f }) i.exchanges; links = i.links; keys = i.keys }
edit_named p (DropExchange peer) f i = record { own = i.own; exchanges = all_drop ExchangeNamed exchange_key bytes_eq peer p.exchanges i.exchanges; links = i.links; keys = i.keys }
edit_named p (PutAnswer a) f i = record { own = i.own; exchanges = i.exchanges; links = i.links; keys = i.keys }
edit_named p (SetGen v) f i = record { own = i.own; exchanges = i.exchanges; links = i.links; keys = i.keys }

pub change_named : (es : List Edit) (p : Party) → AllByRecursion NamesFine es → IsNamed p → IsNamed (apply es p)
change_named [] p f i = i
change_named (e ∷ es) p f i = change_named es (apply_edit e p) f.1 (edit_named p e f.0 i)

pub link_named : (p : Party) (k : LinkKey) (l : LinkRec) → IsNamed p → link_with k p ≡ Some l → LinkNamed l
link_named p k l i h = find_all LinkNamed link_key same_link k l p.links i.links h

pub record_named : (p : Party) (k : RecordKey) (r : KeyRec) → IsNamed p → record_with k p ≡ Some r → RecordNamed r
record_named p k r i h = find_all RecordNamed record_key same_record k r p.keys i.keys h

pub exchange_named : (p : Party) (peer : List ℕ) (e : Exchange) → IsNamed p → exchange_with peer p ≡ Some e → KindNamed e.kind
exchange_named p peer e i h = (find_all ExchangeNamed exchange_key bytes_eq peer e p.exchanges i.exchanges h).kind

-- every party's are so
pub party_named : (p : Party) → IsParty p → p.keys ≡ [] → p.exchanges ≡ [] → IsNamed p
party_named p i none free = record { own = i.own; exchanges = rw free (All-nil ExchangeNamed); links = λ j d l. (let r = i.links j d l in record { peer = r.peer; label = r.label; next = r.next }); keys = rw none (All-nil RecordNamed) }
