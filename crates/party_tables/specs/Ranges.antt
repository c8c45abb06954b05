-- The ranges of what the rows of a party's tables hold (this project's profile).
use Rattle.std.specs.Prelude.{ℕ, ◌+◌, ◌≤◌, ◌<◌, ◌^◌, length, IfSome}
use Rattle.x_base.specs.Names.{IsIdent, IsLabel}
use Rattle.x_base.specs.Count.{IsCount}
use Rattle.x_base.specs.KeyName.{IsKeyName}
use Rattle.x_mac.specs.declared.pair.Pair.{Pair}
use Rattle.party_tables.specs.Names.{name_behind}
use Rattle.party_tables.specs.declared.link.LinkRec.{LinkRec}
use Rattle.party_tables.specs.declared.key.KeyRec.{KeyRec}
use Rattle.party_tables.specs.declared.exchange.Via.{Via}
use Rattle.party_tables.specs.declared.exchange.Via.TheVariants as via
use Rattle.party_tables.specs.declared.exchange.Kind.{Kind}
use Rattle.party_tables.specs.declared.exchange.Kind.TheVariants as kind
use Rattle.party_tables.specs.declared.exchange.Exchange.{Exchange}
use Rattle.party_tables.specs.declared.answer.Answer.{Answer}

abbrev pub IsWord : ℕ → Type 0
IsWord n = n < 2 ^ 64

pub record IsPair (p : Pair) : Type 0 where
  pub left : IsWord p.left
  pub right : IsWord p.right

-- one past the last count
abbrev pub largest_next : ℕ
largest_next = 100000000000000

-- the next count of a link: a count, or one past the last
pub record IsNextCount (n : ℕ) : Type 0 where
  pub low : 1 ≤ n
  pub high : n ≤ largest_next

pub record IsLink (l : LinkRec) : Type 0 where
  pub peer : IsIdent l.peer
  pub label : IsLabel l.label
  pub pair : IsPair l.pair
  pub next : IsNextCount l.next

pub record IsRecord (k : KeyRec) : Type 0 where
  pub peer : IsIdent k.peer
  pub name : IsKeyName k.name
  pub value : IsWord k.value

abbrev pub IsVia : Via → Type 0
IsVia (via.Direct label new) = IsLabel label × IfSome new IsLabel
IsVia (via.Distribution centre cta) = IsIdent centre × IsCount cta
IsVia (via.Translation centre) = IsIdent centre

abbrev pub IsKind : Kind → Type 0
IsKind (kind.Asked ultimate) = IsIdent ultimate
IsKind (kind.Translating ultimate value cta) = IsIdent ultimate × IsWord value × IsCount cta
IsKind (kind.KeySent name v) = IsKeyName name × IsVia v
IsKind (kind.Ending name) = IsKeyName name
IsKind (kind.PairSent name) = IsKeyName name × IsKeyName (name_behind name)

-- what the types of a kind leave open: the count of the second of two keys is a count
abbrev pub IsFittingKind : Kind → Type 0
IsFittingKind (kind.PairSent name) = IsCount (name.count + 1)
IsFittingKind k = Unit {0}

-- how many bytes the text of an exchange has at most
abbrev pub longest_text : ℕ
longest_text = 1024

pub record IsExchange (e : Exchange) : Type 0 where
  pub peer : IsIdent e.peer
  pub kind : IsKind e.kind
  pub text : length e.text ≤ longest_text

pub record IsCentreAnswer (a : Answer) : Type 0 where
  pub requester : IsIdent a.requester
  pub ultimate : IsIdent a.ultimate
  pub cta : IsCount a.cta
  pub value : IsWord a.value

-- what the types of an exchange leave open: its kind's range, and the length of its text
pub record IsFittingExchange (e : Exchange) : Type 0 where
  pub kind : IsFittingKind e.kind
  pub text : length e.text ≤ longest_text
