-- Edits that are apart are done behind them, also where those that make no difference are left out; and no edit that makes one is
-- done before.
use Rattle.std.proofs.Common.{◌≡◌, ℕ, Bool, true, false, cond, not, Option, Some, None, List, [], ◌∷◌, filter, bytes_eq, refl, sym, ap, ◌∙◌}
use Rattle.std.proofs.lemmas.Bool.{true≢false, false_from_ne_true}
use Rattle.party_tables.specs.declared.link.LinkKey.{LinkKey}
use Rattle.party_tables.specs.declared.link.LinkRec.{LinkRec}
use Rattle.party_tables.specs.declared.key.RecordKey.{RecordKey}
use Rattle.party_tables.specs.declared.key.KeyRec.{KeyRec}
use Rattle.party_tables.specs.declared.exchange.Exchange.{Exchange}
use Rattle.party_tables.specs.declared.answer.AnswerKey.{AnswerKey}
use Rattle.party_tables.specs.declared.answer.Answer.{Answer}
use Rattle.party_tables.specs.Keys.{same_link, same_record, same_answer, link_key, record_key, exchange_key, answer_key}
use Rattle.party_tables.specs.Statuses.{is_ended}
use Rattle.party_tables.proofs.Tables.{IsTest, find_put_same, find_put_other, find_drop_same, find_drop_other, put_stands}
use Rattle.party_tables.proofs.Lengths.{drop_absent}
use Rattle.party_tables.proofs.Keys.{test_idents, test_links, test_records, test_answers}
use Rattle.party_state.specs.declared.edit.Edit.{Edit}
use Rattle.party_state.specs.declared.edit.Edit.TheVariants.{Begin, PutLink, DropLink, PutKey, DropEnded, PutExchange, DropExchange, PutAnswer, SetGen}
use Rattle.party_state.specs.State.{Party, begun, apply_edit, apply, link_with, record_with, exchange_with, answer_with}
use Rattle.role_base.specs.Beginning.{BeginsFree, AllBeginFree}
use Rattle.role_base.specs.Differing.{differs, always_differs, differing}
use Rattle.role_base.specs.Apart.{touches_link, touches_record, touches_records, touches_exchange, touches_answer, touches_generator, touches, AllLeave, AreApart, AreDone, NoneDone}

-- the party is as the edit leaves it
abbrev IsLeft : Party → Edit → Type 0
IsLeft p (Begin own role generator) = begun own role generator ≡ p
IsLeft p (PutLink l) = link_with (link_key l) p ≡ Some l
IsLeft p (DropLink peer label side) = link_with (record { peer = peer; label = label; side = side }) p ≡ None
IsLeft p (PutKey k) = record_with (record_key k) p ≡ Some k
IsLeft p DropEnded = filter (λ (k : KeyRec). not (is_ended k.status)) p.keys ≡ p.keys
IsLeft p (PutExchange e) = exchange_with (exchange_key e) p ≡ Some e
IsLeft p (DropExchange peer) = exchange_with peer p ≡ None
IsLeft p (PutAnswer a) = answer_with (answer_key a) p ≡ Some a
IsLeft p (SetGen v) = p.generator.v ≡ v

-- what passes a test passes it again
filter_twice : {A : Type 0} (f : A → Bool) (xs : List A) → filter f (filter f xs) ≡ filter f xs
filter_twice f [] = refl
filter_twice {A} f (x ∷ xs) = go (f x) refl (filter_twice f xs)
  where
    go : (b : Bool) → f x ≡ b → filter f (filter f xs) ≡ filter f xs → filter f (cond b (x ∷ filter f xs) (filter f xs)) ≡ cond b (x ∷ filter f xs) (filter f xs)
    go true e ih = rw e (ap (λ (ys : List A). x ∷ ys) ih)
    go false e ih = ih

left_after : (e : Edit) (p : Party) → IsLeft (apply_edit e p) e
left_after (Begin own role generator) p = refl
left_after (PutLink l) p = find_put_same link_key same_link test_links l p.links
left_after (DropLink peer label side) p = find_drop_same link_key same_link test_links (record { peer = peer; label = label; side = side }) p.links
left_after (PutKey k) p = find_put_same record_key same_record test_records k p.keys
left_after DropEnded p = filter_twice (λ (k : KeyRec). not (is_ended k.status)) p.keys
left_after (PutExchange e) p = find_put_same exchange_key bytes_eq test_idents e p.exchanges
left_after (DropExchange peer) p = find_drop_same exchange_key bytes_eq test_idents peer p.exchanges
left_after (PutAnswer a) p = find_put_same answer_key same_answer test_answers a p.answers
left_after (SetGen v) p = refl

-- where a party is as the edit leaves it, the edit is done
is_done : (e : Edit) (p : Party) → IsLeft p e → apply_edit e p ≡ p
is_done (Begin own role generator) p h = h
is_done (PutLink l) p h = ap (λ (rows : List LinkRec). record p { links = rows }) (put_stands link_key same_link l p.links h)
is_done (DropLink peer label side) p h = ap (λ (rows : List LinkRec). record p { links = rows }) (drop_absent link_key same_link (record { peer = peer; label = label; side = side }) p.links h)
is_done (PutKey k) p h = ap (λ (rows : List KeyRec). record p { keys = rows }) (put_stands record_key same_record k p.keys h)
is_done DropEnded p h = ap (λ (rows : List KeyRec). record p { keys = rows }) h
is_done (PutExchange e) p h = ap (λ (rows : List Exchange). record p { exchanges = rows }) (put_stands exchange_key bytes_eq e p.exchanges h)
is_done (DropExchange peer) p h = ap (λ (rows : List Exchange). record p { exchanges = rows }) (drop_absent exchange_key bytes_eq peer p.exchanges h)
is_done (PutAnswer a) p h = ap (λ (rows : List Answer). record p { answers = rows }) (put_stands answer_key same_answer a p.answers h)
is_done (SetGen v) p h = ap (λ (x : ℕ). record p { generator = record { key = p.generator.key; v = x } }) (sym h)

-- what an edit doesn't touch stays

other_way : {K : Type 0} {same : K → K → Bool} → IsTest same → (a b : K) → same a b ≡ false → same b a ≡ false
other_way {K} {same} t a b h = false_from_ne_true (same b a) (λ e. true≢false (sym ((t.decides a b).1 (sym ((t.decides b a).0 e))) ∙ h))

link_stays : (k : LinkKey) (o : Option LinkRec) (f : Edit) (p : Party) → link_with k p ≡ o → touches_link k f ≡ false → link_with k (apply_edit f p) ≡ o
link_stays k o (Begin own role generator) p h t = absurd (true≢false t)
link_stays k o (PutLink l) p h t = find_put_other link_key same_link test_links k l p.links (other_way test_links (link_key l) k t) ∙ h
link_stays k o (DropLink peer label side) p h t =
    let j : LinkKey = record { peer = peer; label = label; side = side } in
    find_drop_other link_key same_link test_links k j p.links (other_way test_links j k t) ∙ h
link_stays k o _ p h t = h

record_stays : (k : RecordKey) (o : Option KeyRec) (f : Edit) (p : Party) → record_with k p ≡ o → touches_record k f ≡ false → record_with k (apply_edit f p) ≡ o
record_stays k o (Begin own role generator) p h t = absurd (true≢false t)
record_stays k o (PutKey r) p h t = find_put_other record_key same_record test_records k r p.keys (other_way test_records (record_key r) k t) ∙ h
record_stays k o DropEnded p h t = absurd (true≢false t)
record_stays k o _ p h t = h

abbrev NoneEnded : List KeyRec → Type 0
NoneEnded ks = filter (λ (k : KeyRec). not (is_ended k.status)) ks ≡ ks

none_ended_stays : (f : Edit) (p : Party) → NoneEnded p.keys → touches_records f ≡ false → NoneEnded (apply_edit f p).keys
none_ended_stays (Begin own role generator) p h t = absurd (true≢false t)
none_ended_stays (PutKey r) p h t = absurd (true≢false t)
none_ended_stays DropEnded p h t = absurd (true≢false t)
none_ended_stays _ p h t = h

exchange_stays : (peer : List ℕ) (o : Option Exchange) (f : Edit) (p : Party) → exchange_with peer p ≡ o → touches_exchange peer f ≡ false → exchange_with peer (apply_edit f p) ≡ o
exchange_stays peer o (Begin own role generator) p h t = absurd (true≢false t)
exchange_stays peer o (PutExchange e) p h t = find_put_other exchange_key bytes_eq test_idents peer e p.exchanges (other_way test_idents (exchange_key e) peer t) ∙ h
exchange_stays peer o (DropExchange other) p h t = find_drop_other exchange_key bytes_eq test_idents peer other p.exchanges (other_way test_idents other peer t) ∙ h
exchange_stays peer o _ p h t = h

answer_stays : (k : AnswerKey) (o : Option Answer) (f : Edit) (p : Party) → answer_with k p ≡ o → touches_answer k f ≡ false → answer_with k (apply_edit f p) ≡ o
answer_stays k o (Begin own role generator) p h t = absurd (true≢false t)
answer_stays k o (PutAnswer a) p h t = find_put_other answer_key same_answer test_answers k a p.answers (other_way test_answers (answer_key a) k t) ∙ h
answer_stays k o _ p h t = h

seed_stays : (v : ℕ) (f : Edit) (p : Party) → p.generator.v ≡ v → touches_generator f ≡ false → (apply_edit f p).generator.v ≡ v
seed_stays v (Begin own role generator) p h t = absurd (true≢false t)
seed_stays v (SetGen w) p h t = absurd (true≢false t)
seed_stays v _ p h t = h

left_stays : (e f : Edit) (p : Party) → IsLeft p e → touches e f ≡ false → IsLeft (apply_edit f p) e
left_stays (Begin own role generator) f p h t = absurd (true≢false t)
left_stays (PutLink l) f p h t = link_stays (link_key l) (Some l) f p h t
left_stays (DropLink peer label side) f p h t = link_stays (record { peer = peer; label = label; side = side }) None f p h t
left_stays (PutKey k) f p h t = record_stays (record_key k) (Some k) f p h t
left_stays DropEnded f p h t = none_ended_stays f p h t
left_stays (PutExchange e) f p h t = exchange_stays (exchange_key e) (Some e) f p h t
left_stays (DropExchange peer) f p h t = exchange_stays peer None f p h t
left_stays (PutAnswer a) f p h t = answer_stays (answer_key a) (Some a) f p h t
left_stays (SetGen v) f p h t = seed_stays v f p h t

-- lists of edits

left_through : (e : Edit) (es : List Edit) (p : Party) → IsLeft p e → AllLeave e es → IsLeft (apply es p) e
left_through e [] p h a = h
left_through e (f ∷ es) p h a = left_through e es (apply_edit f p) (left_stays e f p h a.0) a.1

all_done : (es : List Edit) (p : Party) → AreApart es → AreDone (apply es p) es
all_done [] p a = tt
all_done (e ∷ es) p a = (is_done e (apply (e ∷ es) p) (left_through e es (apply_edit e p) (left_after e p) a.0), all_done es (apply_edit e p) a.1)

all_leave_filtered : (e : Edit) (f : Edit → Bool) (es : List Edit) → AllLeave e es → AllLeave e (filter f es)
all_leave_filtered e f [] a = tt
all_leave_filtered e f (x ∷ es) a = go (f x) (all_leave_filtered e f es a.1)
  where
    go : (b : Bool) → AllLeave e (filter f es) → AllLeave e (cond b (x ∷ filter f es) (filter f es))
    go true ih = (a.0, ih)
    go false ih = ih

apart_filtered : (f : Edit → Bool) (es : List Edit) → AreApart es → AreApart (filter f es)
apart_filtered f [] a = tt
apart_filtered f (e ∷ es) a = go (f e) (apart_filtered f es a.1)
  where
    go : (b : Bool) → AreApart (filter f es) → AreApart (cond b (e ∷ filter f es) (filter f es))
    go true ih = (all_leave_filtered e f es a.0, ih)
    go false ih = ih

-- behind those of the edits that make a difference each of them is done
pub done : (p q : Party) (es : List Edit) → AreApart es → AreDone (apply (differing p es) q) (differing p es)
unfolding differing
done p q es a = all_done (filter (differs p) es) q (apart_filtered (differs p) es a)

-- edits that are done change nothing
pub together : (p : Party) (es : List Edit) → AreDone p es → apply es p ≡ p
together p [] h = refl
together p (e ∷ es) h = ap (apply es) h.0 ∙ together p es h.1

-- an edit that makes a difference changes something
abbrev Needed : Type 0
Needed = (p : Party) (e : Edit) → always_differs e ≡ false → apply_edit e p ≡ p → differs p e ≡ false

abbrev Begun : Type 0
Begun = (p : Party) (e : Exchange) → BeginsFree p (PutExchange e) → apply_edit (PutExchange e) p ≡ p → ⊥

not_done : Needed → Begun → (p : Party) (e : Edit) → BeginsFree p e → differs p e ≡ true → apply_edit e p ≡ p → ⊥
not_done needed begun p (Begin own role generator) f d h = f
not_done needed begun p (PutExchange e) f d h = begun p e f h
not_done needed begun p (PutLink l) f d h = true≢false (sym d ∙ needed p (PutLink l) refl h)
not_done needed begun p (DropLink peer label side) f d h = true≢false (sym d ∙ needed p (DropLink peer label side) refl h)
not_done needed begun p (PutKey k) f d h = true≢false (sym d ∙ needed p (PutKey k) refl h)
not_done needed begun p DropEnded f d h = true≢false (sym d ∙ needed p DropEnded refl h)
not_done needed begun p (DropExchange peer) f d h = true≢false (sym d ∙ needed p (DropExchange peer) refl h)
not_done needed begun p (PutAnswer a) f d h = true≢false (sym d ∙ needed p (PutAnswer a) refl h)
not_done needed begun p (SetGen v) f d h = true≢false (sym d ∙ needed p (SetGen v) refl h)

none_done : Needed → Begun → (p : Party) (es : List Edit) → AllBeginFree p es → NoneDone p (filter (differs p) es)
none_done needed begun p [] f = tt
none_done needed begun p (e ∷ es) f = go (differs p e) refl (none_done needed begun p es f.1)
  where
    go : (b : Bool) → differs p e ≡ b → NoneDone p (filter (differs p) es) → NoneDone p (cond b (e ∷ filter (differs p) es) (filter (differs p) es))
    go true d ih = (not_done needed begun p e f.0 d, ih)
    go false d ih = ih

-- none of the edits that make a difference is done before
pub undone : Needed → Begun → (p : Party) (es : List Edit) → AllBeginFree p es → NoneDone p (differing p es)
unfolding differing
undone needed begun p es f = none_done needed begun p es f
