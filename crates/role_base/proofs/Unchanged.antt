-- An edit makes no difference exactly where it changes nothing, but for those that always make one.
use Rattle.std.proofs.Common.{arith, ◌≡◌, ℕ, suc, ◌≤◌, Bool, true, false, cond, not, ◌&&◌, ◌||◌, is_some, Option, Some, None, List, [], ◌∷◌, length, filter, refl, sym, ap, ◌∙◌}
use Rattle.std.specs.Prelude.{◌==◌}
use Rattle.std.specs.List.{list_any}
use Rattle.std.proofs.lemmas.Bool.{and_parts, and_from, not-false, true≢false}
use Rattle.std.proofs.lemmas.Bool.Decides.{Decides-eqb}
use Rattle.x_mac.specs.declared.pair.Pair.{Pair}
use Rattle.party_tables.specs.declared.link.LinkKey.{LinkKey}
use Rattle.party_tables.specs.declared.link.LinkRec.{LinkRec}
use Rattle.party_tables.specs.declared.key.KeyRec.{KeyRec}
use Rattle.party_tables.specs.declared.key.KeyStatus.{KeyStatus}
use Rattle.party_tables.specs.declared.key.KeyStatus.TheVariants.{Pending, Live, Held, Closing, Ended}
use Rattle.party_tables.specs.declared.answer.Answer.{Answer}
use Rattle.party_state.specs.declared.edit.Edit.{Edit}
use Rattle.party_state.specs.declared.edit.Edit.TheVariants.{Begin, PutLink, DropLink, PutKey, DropEnded, PutExchange, DropExchange, PutAnswer, SetGen}
use Rattle.party_tables.specs.Keys.{link_key, record_key, answer_key}
use Rattle.party_tables.specs.Statuses.{is_ended}
use Rattle.party_state.specs.State.{Party, apply_edit, same_pair, link_with, record_with, exchange_with, answer_with}
use Rattle.role_base.specs.Differing.{same_bool, same_status, has_link, has_record, has_answer, differs, always_differs}
use Rattle.role_base.proofs.PartyLaws.{LinksFound, KeysFound, AnswersFound, LinkLaws, KeyLaws, AnswerLaws, ExchangeLaws, LinksDropped, StandingLaws, FewerKeys, put_same, key_put_same, answer_put, drop_same, exchange_dropped}

-- the tests of contents

same_number : (n : ℕ) → (n == n) ≡ true
same_number n = (Decides-eqb n n).1 refl

same_bool_is : (a b : Bool) → same_bool a b ≡ true → a ≡ b
same_bool_is true true h = refl
same_bool_is true false h = cc
same_bool_is false true h = cc
same_bool_is false false h = refl

same_bool_refl : (a : Bool) → same_bool a a ≡ true
same_bool_refl true = refl
same_bool_refl false = refl

same_status_is : (a b : KeyStatus) → same_status a b ≡ true → a ≡ b
same_status_is Pending Pending h = refl
same_status_is Live Live h = refl
same_status_is Held Held h = refl
same_status_is Closing Closing h = refl
same_status_is Ended Ended h = refl
same_status_is _ _ h = cc

same_status_refl : (a : KeyStatus) → same_status a a ≡ true
same_status_refl Pending = refl
same_status_refl Live = refl
same_status_refl Held = refl
same_status_refl Closing = refl
same_status_refl Ended = refl

same_pair_is : (a b : Pair) → same_pair a b ≡ true → a ≡ b
same_pair_is a b h =
    let parts = and_parts (a.left == b.left) (a.right == b.right) h in
    let left : a.left ≡ b.left = (Decides-eqb a.left b.left).0 parts.0 in
    let right : a.right ≡ b.right = (Decides-eqb a.right b.right).0 parts.1 in
    λ i. record { left = left i; right = right i }

-- a link is the one that stands under its key exactly where it has its contents
link_is : (old l : LinkRec) → link_key l ≡ link_key old → has_link (Some old) l ≡ true → old ≡ l
link_is old l k h =
    let parts = and_parts (same_pair old.pair l.pair) ((old.next == l.next) && same_bool old.ready l.ready) h in
    let rest = and_parts (old.next == l.next) (same_bool old.ready l.ready) parts.1 in
    let pair : old.pair ≡ l.pair = same_pair_is old.pair l.pair parts.0 in
    let next : old.next ≡ l.next = (Decides-eqb old.next l.next).0 rest.0 in
    let ready : old.ready ≡ l.ready = same_bool_is old.ready l.ready rest.1 in
    let key : link_key old ≡ link_key l = sym k in
    λ i. record { peer = (key i).peer; label = (key i).label; side = (key i).side; pair = pair i; next = next i; ready = ready i }

has_same_link : (l : LinkRec) → has_link (Some l) l ≡ true
has_same_link l = and_from _ _ (and_from _ _ (same_number l.pair.left) (same_number l.pair.right)) (and_from _ _ (same_number l.next) (same_bool_refl l.ready))

link_found : LinksFound → (p : Party) (l : LinkRec) → has_link (link_with (link_key l) p) l ≡ true → link_with (link_key l) p ≡ Some l
link_found found p l h = go (link_with (link_key l) p) refl h
  where
    go : (o : Option LinkRec) → link_with (link_key l) p ≡ o → has_link o l ≡ true → o ≡ Some l
    go None e h = cc
    go (Some old) e h = ap (λ (x : LinkRec). let s : Option LinkRec = Some x in s) (link_is old l (found (link_key l) old p e) h)

record_is : (old k : KeyRec) → record_key k ≡ record_key old → has_record (Some old) k ≡ true → old ≡ k
record_is old k e h =
    let parts = and_parts (old.value == k.value) (same_status old.status k.status) h in
    let value : old.value ≡ k.value = (Decides-eqb old.value k.value).0 parts.0 in
    let status : old.status ≡ k.status = same_status_is old.status k.status parts.1 in
    let key : record_key old ≡ record_key k = sym e in
    λ i. record { peer = (key i).peer; name = (key i).name; value = value i; status = status i }

has_same_record : (k : KeyRec) → has_record (Some k) k ≡ true
has_same_record k = and_from _ _ (same_number k.value) (same_status_refl k.status)

record_found : KeysFound → (p : Party) (k : KeyRec) → has_record (record_with (record_key k) p) k ≡ true → record_with (record_key k) p ≡ Some k
record_found found p k h = go (record_with (record_key k) p) refl h
  where
    go : (o : Option KeyRec) → record_with (record_key k) p ≡ o → has_record o k ≡ true → o ≡ Some k
    go None e h = cc
    go (Some old) e h = ap (λ (x : KeyRec). let s : Option KeyRec = Some x in s) (record_is old k (found (record_key k) old p e) h)

answer_is : (old a : Answer) → answer_key a ≡ answer_key old → has_answer (Some old) a ≡ true → old ≡ a
answer_is old a e h =
    let parts = and_parts (old.cta == a.cta) (old.value == a.value) h in
    let cta : old.cta ≡ a.cta = (Decides-eqb old.cta a.cta).0 parts.0 in
    let value : old.value ≡ a.value = (Decides-eqb old.value a.value).0 parts.1 in
    let key : answer_key old ≡ answer_key a = sym e in
    λ i. record { requester = (key i).requester; ultimate = (key i).ultimate; cta = cta i; value = value i }

has_same_answer : (a : Answer) → has_answer (Some a) a ≡ true
has_same_answer a = and_from _ _ (same_number a.cta) (same_number a.value)

answer_found : AnswersFound → (p : Party) (a : Answer) → has_answer (answer_with (answer_key a) p) a ≡ true → answer_with (answer_key a) p ≡ Some a
answer_found found p a h = go (answer_with (answer_key a) p) refl h
  where
    go : (o : Option Answer) → answer_with (answer_key a) p ≡ o → has_answer o a ≡ true → o ≡ Some a
    go None e h = cc
    go (Some old) e h = ap (λ (x : Answer). let s : Option Answer = Some x in s) (answer_is old a (found (answer_key a) old p e) h)

-- what is dropped

none_there : {A : Type 0} (o : Option A) → is_some o ≡ false → o ≡ None
none_there None h = refl
none_there (Some x) h = cc

not_there : {A : Type 0} (o : Option A) → o ≡ None → is_some o ≡ false
not_there None h = refl
not_there (Some x) h = cc

abbrev is_kept : KeyRec → Bool
is_kept k = not (is_ended k.status)

abbrev is_over : KeyRec → Bool
is_over k = is_ended k.status

none_over : (ks : List KeyRec) → list_any is_over ks ≡ false → filter is_kept ks ≡ ks
none_over [] h = refl
none_over (k ∷ ks) h = go (is_over k) h (none_over ks)
  where
    go : (b : Bool) → (b || list_any is_over ks) ≡ false → (list_any is_over ks ≡ false → filter is_kept ks ≡ ks) → cond (not b) (k ∷ filter is_kept ks) (filter is_kept ks) ≡ k ∷ ks
    go true h ih = cc
    go false h ih = ap (λ (xs : List KeyRec). k ∷ xs) (ih h)

all_kept : ((ks : List KeyRec) → length (filter is_kept ks) ≤ length ks) → (ks : List KeyRec) → filter is_kept ks ≡ ks → list_any is_over ks ≡ false
all_kept fewer [] h = refl
all_kept fewer (k ∷ ks) h = go (is_over k) h (all_kept fewer ks)
  where
    go : (b : Bool) → cond (not b) (k ∷ filter is_kept ks) (filter is_kept ks) ≡ k ∷ ks → (filter is_kept ks ≡ ks → list_any is_over ks ≡ false) → (b || list_any is_over ks) ≡ false
    go true h ih =
        let more : length (filter is_kept ks) ≡ suc (length ks) = ap length h in
        let most : length (filter is_kept ks) ≤ length ks = fewer ks in
        absurd (omega arith)
    go false h ih = let rest : filter is_kept ks ≡ ks = cc in ih rest

-- an edit that makes no difference changes nothing
pub unchanged : LinksFound → KeysFound → AnswersFound → StandingLaws → (p : Party) (e : Edit) → differs p e ≡ false → apply_edit e p ≡ p
unchanged links keys answers stands p (Begin own role generator) h = absurd (true≢false h)
unchanged links keys answers stands p (PutLink l) h = stands.link l p (link_found links p l (not-false _ h))
unchanged links keys answers stands p (DropLink peer label side) h =
    let k : LinkKey = record { peer = peer; label = label; side = side } in
    stands.no_link k p (none_there (link_with k p) h)
unchanged links keys answers stands p (PutKey k) h = stands.key k p (record_found keys p k (not-false _ h))
unchanged links keys answers stands p DropEnded h = ap (λ (ks : List KeyRec). record p { keys = ks }) (none_over p.keys h)
unchanged links keys answers stands p (PutExchange e) h = absurd (true≢false h)
unchanged links keys answers stands p (DropExchange peer) h = stands.no_exchange peer p (none_there (exchange_with peer p) h)
unchanged links keys answers stands p (PutAnswer a) h = stands.answer a p (answer_found answers p a (not-false _ h))
unchanged links keys answers stands p (SetGen v) h =
    let e : v ≡ p.generator.v = (Decides-eqb v p.generator.v).0 (not-false _ h) in
    ap (λ (x : ℕ). record p { generator = record { key = p.generator.key; v = x } }) e

-- and one that changes nothing makes none, but for those that always do
module _ (links : LinkLaws) (keys : KeyLaws) (answers : AnswerLaws) (exchanges : ExchangeLaws) (dropped : LinksDropped) (fewer : FewerKeys) where
  pub same_after : (p : Party) (e : Edit) → always_differs e ≡ false → apply_edit e p ≡ p → differs p e ≡ false
  same_after p (Begin own role generator) a h = absurd (true≢false a)
  same_after p (PutLink l) a h =
      let found : link_with (link_key l) p ≡ Some l = ap (link_with (link_key l)) (sym h) ∙ put_same links l p in
      ap not (ap (λ (o : Option LinkRec). has_link o l) found ∙ has_same_link l)
  same_after p (DropLink peer label side) a h =
      let k : LinkKey = record { peer = peer; label = label; side = side } in
      not_there (link_with k p) (ap (link_with k) (sym h) ∙ drop_same links dropped k p)
  same_after p (PutKey k) a h =
      let found : record_with (record_key k) p ≡ Some k = ap (record_with (record_key k)) (sym h) ∙ key_put_same keys k p in
      ap not (ap (λ (o : Option KeyRec). has_record o k) found ∙ has_same_record k)
  same_after p DropEnded a h = all_kept (λ ks. fewer (record p { keys = ks })) p.keys (ap (λ (q : Party). q.keys) h)
  same_after p (PutExchange e) a h = absurd (true≢false a)
  same_after p (DropExchange peer) a h = not_there (exchange_with peer p) (ap (exchange_with peer) (sym h) ∙ exchange_dropped exchanges peer p)
  same_after p (PutAnswer a) b h =
      let found : answer_with (answer_key a) p ≡ Some a = ap (answer_with (answer_key a)) (sym h) ∙ answer_put answers a p in
      ap not (ap (λ (o : Option Answer). has_answer o a) found ∙ has_same_answer a)
  same_after p (SetGen v) a h =
      let e : v ≡ p.generator.v = ap (λ (q : Party). q.generator.v) h in
      ap not ((Decides-eqb v p.generator.v).1 e)
