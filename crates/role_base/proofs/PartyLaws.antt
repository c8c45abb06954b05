-- What the laws of verdicts and of a party's tables say, as the proofs of the roles take it.
use Rattle.std.proofs.Common.{◌≡◌, ◌↔◌, ◌+◌, ◌≤◌, ℕ, true, false, cond, is_some, Some, None, List, length, bytes_eq, refl, sym, ◌∙◌}
use Rattle.std.proofs.lemmas.Slice.Eq.{bytes_eq-Decides}
use Rattle.x_base.specs.declared.party.Side.{Side}
use Rattle.x_base.specs.declared.verdict.Verdict.TheVariants.{Accept}
use Rattle.party_state.specs.declared.edit.Edit.TheVariants.{PutLink, DropLink, PutKey, DropEnded, PutExchange, DropExchange, PutAnswer}
use Rattle.party_tables.specs.declared.link.LinkKey.{LinkKey}
use Rattle.party_tables.specs.declared.link.LinkRec.{LinkRec}
use Rattle.party_tables.specs.declared.key.RecordKey.{RecordKey}
use Rattle.party_tables.specs.declared.key.KeyRec.{KeyRec}
use Rattle.party_tables.specs.declared.exchange.Exchange.{Exchange}
use Rattle.party_tables.specs.declared.answer.AnswerKey.{AnswerKey}
use Rattle.party_tables.specs.declared.answer.Answer.{Answer}
use Rattle.party_tables.specs.Keys.{same_link, same_record, same_answer, link_key, record_key, exchange_key, answer_key}
use Rattle.party_tables.specs.Ranges.{IsLink, IsRecord, IsExchange}
use Rattle.party_state.specs.Ranges.{IsParty}
use Rattle.party_state.specs.State.{Party, apply_edit, link_with, first_link, record_with, exchange_with, answer_with}
use Rattle.party_state.specs.Verdicts.{Test, verdict_of, TestsHold, is_accept, all_refuse}

-- verdicts

abbrev pub HeldAtAccept : Type 0
HeldAtAccept = (ts : List Test) → all_refuse ts ≡ true → verdict_of ts ≡ Accept → TestsHold ts

abbrev pub HeldIfAccepted : Type 0
HeldIfAccepted = (ts : List Test) → all_refuse ts ≡ true → is_accept (verdict_of ts) ≡ true → TestsHold ts

abbrev pub AcceptedIfHeld : Type 0
AcceptedIfHeld = (ts : List Test) → TestsHold ts → verdict_of ts ≡ Accept

-- what is found has the key under which it was looked for

abbrev pub LinksFound : Type 0
LinksFound = (k : LinkKey) (l : LinkRec) (p : Party) → link_with k p ≡ Some l → k ≡ link_key l

abbrev pub KeysFound : Type 0
KeysFound = (k : RecordKey) (r : KeyRec) (p : Party) → record_with k p ≡ Some r → k ≡ record_key r

abbrev pub AnswersFound : Type 0
AnswersFound = (k : AnswerKey) (a : Answer) (p : Party) → answer_with k p ≡ Some a → k ≡ answer_key a

-- the links: when two keys are one, and what is found under a key, also after a put
pub record LinkLaws : Type 0 where
  pub same : (a b : LinkKey) → (same_link a b ≡ true) ↔ (a ≡ b)
  pub found : LinksFound
  pub put : (k : LinkKey) (l : LinkRec) (p : Party) → link_with k (apply_edit (PutLink l) p) ≡ cond (same_link k (link_key l)) (Some l) (link_with k p)

-- the same of the keys' records
pub record KeyLaws : Type 0 where
  pub same : (a b : RecordKey) → (same_record a b ≡ true) ↔ (a ≡ b)
  pub found : KeysFound
  pub put : (k : RecordKey) (r : KeyRec) (p : Party) → record_with k (apply_edit (PutKey r) p) ≡ cond (same_record k (record_key r)) (Some r) (record_with k p)

-- and of the answers that a centre keeps
pub record AnswerLaws : Type 0 where
  pub same : (a b : AnswerKey) → (same_answer a b ≡ true) ↔ (a ≡ b)
  pub put : (k : AnswerKey) (a : Answer) (p : Party) → answer_with k (apply_edit (PutAnswer a) p) ≡ cond (same_answer k (answer_key a)) (Some a) (answer_with k p)

-- and of the exchanges, also after a drop
pub record ExchangeLaws : Type 0 where
  pub put : (peer : List ℕ) (e : Exchange) (p : Party) → exchange_with peer (apply_edit (PutExchange e) p) ≡ cond (bytes_eq peer (exchange_key e)) (Some e) (exchange_with peer p)
  pub drop : (peer other : List ℕ) (p : Party) → exchange_with peer (apply_edit (DropExchange other) p) ≡ cond (bytes_eq peer other) None (exchange_with peer p)

-- what is left of the links after a drop
abbrev pub LinksDropped : Type 0
LinksDropped = (k j : LinkKey) (p : Party) → link_with k (apply_edit (DropLink j.peer j.label j.side) p) ≡ cond (same_link k j) None (link_with k p)

-- to put what stands, or to drop what doesn't, changes nothing
pub record StandingLaws : Type 0 where
  pub link : (l : LinkRec) (p : Party) → link_with (link_key l) p ≡ Some l → apply_edit (PutLink l) p ≡ p
  pub key : (r : KeyRec) (p : Party) → record_with (record_key r) p ≡ Some r → apply_edit (PutKey r) p ≡ p
  pub answer : (a : Answer) (p : Party) → answer_with (answer_key a) p ≡ Some a → apply_edit (PutAnswer a) p ≡ p
  pub no_link : (k : LinkKey) (p : Party) → link_with k p ≡ None → apply_edit (DropLink k.peer k.label k.side) p ≡ p
  pub no_exchange : (peer : List ℕ) (p : Party) → exchange_with peer p ≡ None → apply_edit (DropExchange peer) p ≡ p

-- the first usable link is found under its key, too
abbrev pub FirstLinksFound : Type 0
FirstLinksFound = (peer : List ℕ) (side : Side) (l : LinkRec) (p : Party) → IsParty p → first_link peer side p ≡ Some l → link_with (link_key l) p ≡ Some l

-- what is found is in its range

abbrev pub LinksInRange : Type 0
LinksInRange = (k : LinkKey) (l : LinkRec) (p : Party) → IsParty p → link_with k p ≡ Some l → IsLink l

abbrev pub KeysInRange : Type 0
KeysInRange = (k : RecordKey) (r : KeyRec) (p : Party) → IsParty p → record_with k p ≡ Some r → IsRecord r

abbrev pub ExchangesInRange : Type 0
ExchangesInRange = (peer : List ℕ) (e : Exchange) (p : Party) → IsParty p → exchange_with peer p ≡ Some e → IsExchange e

-- how many rows there are after a put, or where the ended keys are dropped

abbrev pub LinksCounted : Type 0
LinksCounted = (l : LinkRec) (p : Party) → length (apply_edit (PutLink l) p).links ≡ length p.links + cond (is_some (link_with (link_key l) p)) 0 1

abbrev pub KeysCounted : Type 0
KeysCounted = (r : KeyRec) (p : Party) → length (apply_edit (PutKey r) p).keys ≡ length p.keys + cond (is_some (record_with (record_key r) p)) 0 1

abbrev pub FewerKeys : Type 0
FewerKeys = (p : Party) → length (apply_edit DropEnded p).keys ≤ length p.keys

-- a row that is put is found under its key, and under another what was found before

pub put_same : LinkLaws → (l : LinkRec) (p : Party) → link_with (link_key l) (apply_edit (PutLink l) p) ≡ Some l
put_same links l p = let s : same_link (link_key l) (link_key l) ≡ true = (links.same (link_key l) (link_key l)).1 refl in links.put (link_key l) l p ∙ rw s refl

pub put_other : LinkLaws → (k : LinkKey) (l : LinkRec) (p : Party) → same_link k (link_key l) ≡ false → link_with k (apply_edit (PutLink l) p) ≡ link_with k p
put_other links k l p other = links.put k l p ∙ rw other refl

pub put_over : LinkLaws → (k : LinkKey) (l x : LinkRec) (p : Party) → link_with k p ≡ Some l → link_key x ≡ link_key l → link_with k (apply_edit (PutLink x) p) ≡ Some x
put_over links k l x p f e = let s : same_link k (link_key x) ≡ true = (links.same k (link_key x)).1 (links.found k l p f ∙ sym e) in links.put k x p ∙ rw s refl

pub key_put_same : KeyLaws → (r : KeyRec) (p : Party) → record_with (record_key r) (apply_edit (PutKey r) p) ≡ Some r
key_put_same keys r p = let s : same_record (record_key r) (record_key r) ≡ true = (keys.same (record_key r) (record_key r)).1 refl in keys.put (record_key r) r p ∙ rw s refl

pub key_put_over : KeyLaws → (k : RecordKey) (r x : KeyRec) (p : Party) → record_with k p ≡ Some r → record_key x ≡ record_key r → record_with k (apply_edit (PutKey x) p) ≡ Some x
key_put_over keys k r x p f e = let s : same_record k (record_key x) ≡ true = (keys.same k (record_key x)).1 (keys.found k r p f ∙ sym e) in keys.put k x p ∙ rw s refl

pub answer_put : AnswerLaws → (a : Answer) (p : Party) → answer_with (answer_key a) (apply_edit (PutAnswer a) p) ≡ Some a
answer_put answers a p = let s : same_answer (answer_key a) (answer_key a) ≡ true = (answers.same (answer_key a) (answer_key a)).1 refl in answers.put (answer_key a) a p ∙ rw s refl

pub exchange_put : ExchangeLaws → (e : Exchange) (p : Party) → exchange_with (exchange_key e) (apply_edit (PutExchange e) p) ≡ Some e
exchange_put exchanges e p = let s : bytes_eq (exchange_key e) (exchange_key e) ≡ true = (bytes_eq-Decides (exchange_key e) (exchange_key e)).1 refl in exchanges.put (exchange_key e) e p ∙ rw s refl

pub exchange_put_other : ExchangeLaws → (peer : List ℕ) (e : Exchange) (p : Party) → bytes_eq peer (exchange_key e) ≡ false → exchange_with peer (apply_edit (PutExchange e) p) ≡ exchange_with peer p
exchange_put_other exchanges peer e p other = exchanges.put peer e p ∙ rw other refl

-- what is dropped is found no longer, and the others are as before

pub drop_same : LinkLaws → LinksDropped → (k : LinkKey) (p : Party) → link_with k (apply_edit (DropLink k.peer k.label k.side) p) ≡ None
drop_same links dropped k p = let s : same_link k k ≡ true = (links.same k k).1 refl in dropped k k p ∙ rw s refl

pub drop_other : LinksDropped → (k j : LinkKey) (p : Party) → same_link k j ≡ false → link_with k (apply_edit (DropLink j.peer j.label j.side) p) ≡ link_with k p
drop_other dropped k j p other = dropped k j p ∙ rw other refl

pub exchange_dropped : ExchangeLaws → (peer : List ℕ) (p : Party) → exchange_with peer (apply_edit (DropExchange peer) p) ≡ None
exchange_dropped exchanges peer p = let s : bytes_eq peer peer ≡ true = (bytes_eq-Decides peer peer).1 refl in exchanges.drop peer peer p ∙ rw s refl
