-- Where edits are apart, leaving out those that make no difference gives the same party.
use Rattle.std.proofs.Common.{◌≡◌, ℕ, Bool, true, false, cond, not, filter, Option, List, [], ◌∷◌, refl, sym, ap, ◌∙◌, bytes_eq}
use Rattle.std.specs.Prelude.{is_some}
use Rattle.std.specs.List.{AllByRecursion}
use Rattle.std.proofs.lemmas.Bool.{true≢false}
use Rattle.party_tables.specs.declared.link.LinkKey.{LinkKey}
use Rattle.party_tables.specs.declared.link.LinkRec.{LinkRec}
use Rattle.party_tables.specs.declared.key.KeyRec.{KeyRec}
use Rattle.party_tables.specs.declared.exchange.Exchange.{Exchange}
use Rattle.party_tables.specs.declared.answer.Answer.{Answer}
use Rattle.party_tables.specs.Keys.{same_link, same_record, same_answer, link_key, record_key, exchange_key, answer_key}
use Rattle.party_tables.proofs.Tables.{find_put_other, find_drop_other}
use Rattle.party_tables.proofs.Keys.{test_idents, test_links, test_records, test_answers}
use Rattle.party_state.specs.declared.edit.Edit.{Edit}
use Rattle.party_state.specs.declared.edit.Edit.TheVariants.{Begin, PutLink, DropLink, PutKey, DropEnded, PutExchange, DropExchange, PutAnswer, SetGen}
use Rattle.party_state.specs.State.{Party, apply_edit, apply, link_with}
use Rattle.role_base.specs.Differing.{has_link, has_record, has_answer, differs, differing}
use Rattle.role_base.specs.Apart.{touches_link, touches, AllLeave, AreApart}

-- an edit that makes no difference changes nothing
abbrev Unchanged : Type 0
Unchanged = (p : Party) (e : Edit) → differs p e ≡ false → apply_edit e p ≡ p

-- an edit that doesn't touch what another changed makes a difference exactly where it did before

link_left : (e f : Edit) (k : LinkKey) (p : Party) → ((j : LinkKey) → touches_link j f ≡ same_link k j) → touches e f ≡ false → link_with k (apply_edit e p) ≡ link_with k p
link_left (Begin own role generator) f k p same h = absurd (true≢false h)
link_left (PutLink l) f k p same h = find_put_other link_key same_link test_links k l p.links (sym (same (link_key l)) ∙ h)
link_left (DropLink peer label side) f k p same h =
    let j : LinkKey = record { peer = peer; label = label; side = side } in
    find_drop_other link_key same_link test_links k j p.links (sym (same j) ∙ h)
link_left _ f k p same h = refl

put_key_left : (e : Edit) (k : KeyRec) (p : Party) → touches e (PutKey k) ≡ false → differs (apply_edit e p) (PutKey k) ≡ differs p (PutKey k)
put_key_left (Begin own role generator) k p h = absurd (true≢false h)
put_key_left (PutKey r) k p h = ap (λ (o : Option KeyRec). not (has_record o k)) (find_put_other record_key same_record test_records (record_key k) r p.keys h)
put_key_left DropEnded k p h = absurd (true≢false h)
put_key_left _ k p h = refl

drop_ended_left : (e : Edit) (p : Party) → touches e DropEnded ≡ false → differs (apply_edit e p) DropEnded ≡ differs p DropEnded
drop_ended_left (Begin own role generator) p h = absurd (true≢false h)
drop_ended_left (PutKey r) p h = absurd (true≢false h)
drop_ended_left DropEnded p h = absurd (true≢false h)
drop_ended_left _ p h = refl

drop_exchange_left : (e : Edit) (peer : List ℕ) (p : Party) → touches e (DropExchange peer) ≡ false → differs (apply_edit e p) (DropExchange peer) ≡ differs p (DropExchange peer)
drop_exchange_left (Begin own role generator) peer p h = absurd (true≢false h)
drop_exchange_left (PutExchange x) peer p h = ap (λ (o : Option Exchange). is_some o) (find_put_other exchange_key bytes_eq test_idents peer x p.exchanges h)
drop_exchange_left (DropExchange other) peer p h = ap (λ (o : Option Exchange). is_some o) (find_drop_other exchange_key bytes_eq test_idents peer other p.exchanges h)
drop_exchange_left _ peer p h = refl

put_answer_left : (e : Edit) (a : Answer) (p : Party) → touches e (PutAnswer a) ≡ false → differs (apply_edit e p) (PutAnswer a) ≡ differs p (PutAnswer a)
put_answer_left (Begin own role generator) a p h = absurd (true≢false h)
put_answer_left (PutAnswer b) a p h = ap (λ (o : Option Answer). not (has_answer o a)) (find_put_other answer_key same_answer test_answers (answer_key a) b p.answers h)
put_answer_left _ a p h = refl

set_left : (e : Edit) (v : ℕ) (p : Party) → touches e (SetGen v) ≡ false → differs (apply_edit e p) (SetGen v) ≡ differs p (SetGen v)
set_left (Begin own role generator) v p h = absurd (true≢false h)
set_left (SetGen w) v p h = absurd (true≢false h)
set_left _ v p h = refl

differs_alike : (e f : Edit) (p : Party) → touches e f ≡ false → differs (apply_edit e p) f ≡ differs p f
differs_alike e (Begin own role generator) p h = refl
differs_alike e (PutLink l) p h = ap (λ (o : Option LinkRec). not (has_link o l)) (link_left e (PutLink l) (link_key l) p (λ j. refl) h)
differs_alike e (DropLink peer label side) p h = ap (λ (o : Option LinkRec). is_some o) (link_left e (DropLink peer label side) (record { peer = peer; label = label; side = side }) p (λ j. refl) h)
differs_alike e (PutKey k) p h = put_key_left e k p h
differs_alike e DropEnded p h = drop_ended_left e p h
differs_alike e (PutExchange x) p h = refl
differs_alike e (DropExchange peer) p h = drop_exchange_left e peer p h
differs_alike e (PutAnswer a) p h = put_answer_left e a p h
differs_alike e (SetGen v) p h = set_left e v p h

-- each edit makes a difference to the one party exactly where it does to the other
abbrev DiffersAlike : Party → Party → List Edit → Type 0
DiffersAlike p q es = AllByRecursion (λ (e : Edit). differs p e ≡ differs q e) es

alike : (p : Party) (es : List Edit) → DiffersAlike p p es
alike p [] = tt
alike p (e ∷ es) = (refl, alike p es)

alike_behind : (p q : Party) (e : Edit) (es : List Edit) → DiffersAlike p q es → AllLeave e es → DiffersAlike p (apply_edit e q) es
alike_behind p q e [] h a = tt
alike_behind p q e (f ∷ es) h a = (h.0 ∙ sym (differs_alike e f q a.0), alike_behind p q e es h.1 a.1)

left_out_from : Unchanged → (p q : Party) (es : List Edit) → DiffersAlike p q es → AreApart es → apply (filter (differs p) es) q ≡ apply es q
left_out_from unchanged p q [] h a = refl
left_out_from unchanged p q (e ∷ es) h a = go (differs p e) refl (left_out_from unchanged p (apply_edit e q) es (alike_behind p q e es h.1 a.0) a.1)
  where
    go : (b : Bool) → differs p e ≡ b → apply (filter (differs p) es) (apply_edit e q) ≡ apply es (apply_edit e q) → apply (cond b (e ∷ filter (differs p) es) (filter (differs p) es)) q ≡ apply es (apply_edit e q)
    go true d ih = ih
    go false d ih = let same : apply_edit e q ≡ q = unchanged q e (sym h.0 ∙ d) in ap (apply (filter (differs p) es)) (sym same) ∙ ih

pub left_out : Unchanged → (p : Party) (es : List Edit) → AreApart es → apply (differing p es) p ≡ apply es p
unfolding differing
left_out unchanged p es a = left_out_from unchanged p p es (alike p es) a
