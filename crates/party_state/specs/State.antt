-- A party's state, what is looked up in it, and what an edit makes of it (this project's profile).
use Rattle.std.specs.Prelude.{ℕ, ◌==◌, Bool, not, ◌&&◌, ◌||◌, Option, List, [], ◌∷◌, filter, bytes_eq, codes}
use Rattle.std.specs.List.{find, list_any}
use Rattle.x_base.specs.Ident.{expanded}
use Rattle.x_base.specs.declared.party.Role.{Role}
use Rattle.x_base.specs.declared.party.Side.{Side}
use Rattle.x_mac.specs.declared.pair.Pair.{Pair}
use Rattle.x_gen.specs.declared.generator.Gen.{Gen}
use Rattle.party_tables.specs.declared.link.LinkKey.{LinkKey}
use Rattle.party_tables.specs.declared.link.LinkRec.{LinkRec}
use Rattle.party_tables.specs.declared.key.RecordKey.{RecordKey}
use Rattle.party_tables.specs.declared.key.KeyRec.{KeyRec}
use Rattle.party_tables.specs.declared.exchange.Exchange.{Exchange}
use Rattle.party_tables.specs.declared.answer.AnswerKey.{AnswerKey}
use Rattle.party_tables.specs.declared.answer.Answer.{Answer}
use Rattle.party_state.specs.declared.edit.Edit.{Edit}
use Rattle.party_state.specs.declared.edit.Edit.TheVariants.{Begin, PutLink, DropLink, PutKey, DropEnded, PutExchange, DropExchange, PutAnswer, SetGen}
use Rattle.party_tables.specs.Tables.{find_row, put_row, drop_row}
use Rattle.party_tables.specs.Statuses.{is_ended}
use Rattle.party_tables.specs.Keys.{same_side, same_link, same_record, same_answer, link_key, record_key, exchange_key, answer_key}

-- a party: who it is, its generator, and its four tables
pub record Party : Type 0 where
  pub own : List ℕ
  pub role : Role
  pub generator : Gen
  pub links : List LinkRec
  pub keys : List KeyRec
  pub exchanges : List Exchange
  pub answers : List Answer

-- a party that has just begun
abbrev pub begun : List ℕ → Role → Gen → Party
begun own role generator = record { own = own; role = role; generator = generator; links = []; keys = []; exchanges = []; answers = [] }

-- what is looked up by key

abbrev pub link_with : LinkKey → Party → Option LinkRec
link_with k p = find_row link_key same_link k p.links

abbrev pub record_with : RecordKey → Party → Option KeyRec
record_with k p = find_row record_key same_record k p.keys

abbrev pub exchange_with : List ℕ → Party → Option Exchange
exchange_with peer p = find_row exchange_key bytes_eq peer p.exchanges

abbrev pub answer_with : AnswerKey → Party → Option Answer
answer_with k p = find_row answer_key same_answer k p.answers

-- what is looked up otherwise

-- the label of the links with centres
abbrev pub centre_label : List ℕ
centre_label = codes "C"

-- a ready link on this side with the peer, not with it as a centre
abbrev pub is_usable : List ℕ → Side → LinkRec → Bool
is_usable peer side l = bytes_eq peer l.peer && (same_side side l.side && (l.ready && not (bytes_eq l.label centre_label)))

-- the first such link
abbrev pub first_link : List ℕ → Side → Party → Option LinkRec
first_link peer side p = find (is_usable peer side) p.links

-- a link names the peer
abbrev pub knows : List ℕ → Party → Bool
knows peer p = list_any (λ l. bytes_eq peer l.peer) p.links

abbrev pub same_pair : Pair → Pair → Bool
same_pair a b = (a.left == b.left) && (a.right == b.right)

-- a link has that pair
abbrev pub has_pair : Pair → Party → Bool
has_pair pair p = list_any (λ l. same_pair pair l.pair) p.links

abbrev pub expands_alike : List ℕ → List ℕ → Bool
expands_alike a b = ((expanded a).0 == (expanded b).0) && ((expanded a).1 == (expanded b).1)

-- the peer expands as the party itself, or as the peer of a link that has another identity
abbrev pub aliases : List ℕ → Party → Bool
aliases peer p = expands_alike peer p.own || list_any (λ l. not (bytes_eq peer l.peer) && expands_alike peer l.peer) p.links

-- edits

-- the party after an edit
abbrev pub apply_edit : Edit → Party → Party
apply_edit (Begin own role generator) p = begun own role generator
apply_edit (PutLink l) p = record p { links = put_row link_key same_link l p.links }
apply_edit (DropLink peer label side) p = record p { links = drop_row link_key same_link (record { peer = peer; label = label; side = side }) p.links }
apply_edit (PutKey k) p = record p { keys = put_row record_key same_record k p.keys }
apply_edit DropEnded p = record p { keys = filter (λ (k : KeyRec). not (is_ended k.status)) p.keys }
apply_edit (PutExchange e) p = record p { exchanges = put_row exchange_key bytes_eq e p.exchanges }
apply_edit (DropExchange peer) p = record p { exchanges = drop_row exchange_key bytes_eq peer p.exchanges }
apply_edit (PutAnswer a) p = record p { answers = put_row answer_key same_answer a p.answers }
apply_edit (SetGen v) p = record p { generator = record { key = p.generator.key; v = v } }

-- the party after a list of edits, in order
abbrev pub apply : List Edit → Party → Party
apply [] p = p
apply (e ∷ es) p = apply es (apply_edit e p)
