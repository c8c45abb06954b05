-- The ranges of what a party and edits hold (this project's profile).
use Rattle.std.specs.Prelude.{List, bytes_eq}
use Rattle.std.specs.List.{All}
use Rattle.x_base.specs.Names.{IsIdent, IsLabel}
use Rattle.x_gen.specs.declared.generator.Gen.{Gen}
use Rattle.party_tables.specs.Tables.{Distinct}
use Rattle.party_tables.specs.Keys.{same_link, same_record, same_answer, link_key, record_key, exchange_key, answer_key}
use Rattle.party_tables.specs.Ranges.{IsWord, IsPair, IsNextCount, IsLink, IsRecord, IsExchange, IsFittingExchange, IsCentreAnswer}
use Rattle.party_state.specs.declared.edit.Edit.{Edit}
use Rattle.party_state.specs.declared.edit.Edit.TheVariants.{Begin, PutLink, DropLink, PutKey, DropEnded, PutExchange, DropExchange, PutAnswer, SetGen}
use Rattle.party_state.specs.State.{Party}

pub record IsGen (g : Gen) : Type 0 where
  pub key : IsPair g.key
  pub v : IsWord g.v

-- each part of an edit is in its range
abbrev pub InRange : Edit → Type 0
InRange (Begin own role generator) = IsIdent own × IsGen generator
InRange (PutLink l) = IsLink l
InRange (DropLink peer label side) = IsIdent peer × IsLabel label
InRange (PutKey k) = IsRecord k
InRange DropEnded = Unit {0}
InRange (PutExchange e) = IsExchange e
InRange (DropExchange peer) = IsIdent peer
InRange (PutAnswer a) = IsCentreAnswer a
InRange (SetGen v) = IsWord v

abbrev pub AreInRange : List Edit → Type 0
AreInRange es = All InRange es

-- what the types of an edit leave open: the next count of a link, and the parts of an exchange
abbrev pub IsFitting : Edit → Type 0
IsFitting (PutLink l) = IsNextCount l.next
IsFitting (PutExchange e) = IsFittingExchange e
IsFitting e = Unit {0}

abbrev pub AreFitting : List Edit → Type 0
AreFitting es = All IsFitting es

-- an edit that begins a party
abbrev pub IsNoBegin : Edit → Type 0
IsNoBegin (Begin own role generator) = ⊥
IsNoBegin e = Unit {0}

abbrev pub HasNoBegin : List Edit → Type 0
HasNoBegin es = All IsNoBegin es

-- what holds of every party: each part is in its range, and each table has each key once
pub record IsParty (p : Party) : Type 0 where
  pub own : IsIdent p.own
  pub generator : IsGen p.generator
  pub links : All IsLink p.links
  pub keys : All IsRecord p.keys
  pub exchanges : All IsExchange p.exchanges
  pub answers : All IsCentreAnswer p.answers
  pub links_once : Distinct link_key same_link p.links
  pub keys_once : Distinct record_key same_record p.keys
  pub exchanges_once : Distinct exchange_key bytes_eq p.exchanges
  pub answers_once : Distinct answer_key same_answer p.answers
