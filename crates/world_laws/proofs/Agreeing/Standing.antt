-- What waits with a new label has its link, and the record of its key stands.
use Rattle.std.proofs.Common.{◌≡◌, ◌⊎◌, inl, inr, ℕ, ◌+◌, Bool, true, false, not, cond, Some, None, List, [], ◌∷◌, ◌++◌, refl, sym, ◌∙◌, ap, subst}
use Rattle.std.specs.List.{AllByRecursion}
use Rattle.x_base.specs.declared.key_name.KeyName.{KeyName}
use Rattle.party_state.specs.declared.edit.Edit.{Edit}
use Rattle.party_state.specs.declared.edit.Edit.TheVariants.{Begin, PutLink, DropLink, PutKey, DropEnded, PutExchange, DropExchange, PutAnswer, SetGen}
use Rattle.party_tables.specs.declared.exchange.Exchange.{Exchange}
use Rattle.party_tables.specs.declared.exchange.Kind.{Kind}
use Rattle.party_tables.specs.declared.exchange.Kind.TheVariants as kind
use Rattle.party_tables.specs.Names.{name_behind}
use Rattle.party_tables.specs.declared.key.KeyRec.{KeyRec}
use Rattle.party_tables.specs.declared.key.KeyStatus.{KeyStatus}
use Rattle.party_tables.specs.declared.key.KeyStatus.TheVariants.{Pending}
use Rattle.party_tables.specs.declared.key.RecordKey.{RecordKey}
use Rattle.party_tables.specs.declared.link.LinkKey.{LinkKey}
use Rattle.party_tables.specs.declared.link.LinkRec.{LinkRec}
use Rattle.party_tables.specs.Tables.{find_row, put_row}
use Rattle.party_tables.specs.Keys.{same_link, same_record, link_key, record_key, sends}
use Rattle.party_tables.specs.Statuses.{is_ended}
use Rattle.party_state.specs.State.{Party, apply_edit, apply, link_with, record_with, exchange_with}
use Rattle.party_tables.proofs.Keys.{test_links, test_records}
use Rattle.party_tables.proofs.Tables.{find_put, find_put_same, find_drop, filter_keeps}
use Rattle.role_base.specs.Sending.{next_name}
use Rattle.bank_orders.specs.declared.draws.KkDrawn.{KkDrawn}
use Rattle.bank_orders.specs.StartKk.{fresh_link, kk_edits}
use Rattle.bank_arrivals.specs.declared.draws.TwinsDrawn.{TwinsDrawn}
use Rattle.bank_arrivals.specs.SendingTwins.{twins_edits, first_pending, second_pending}
use Rattle.world_laws.proofs.Links.Waiting.{new_of}
use Rattle.world_laws.proofs.Agreeing.Lists.{Lists}
use Rattle.world_laws.proofs.Agreeing.KeyRecords.{KeysMove, unmoved, one, two, purged, put_then}
use Rattle.world_laws.proofs.Agreeing.Waiting.{AllSent, SendsName, sent_name_by, second_name_by, mark_of, marked}
use Rattle.world_laws.proofs.Agreeing.Exchanges.{ex_drop, ex_put}
use Rattle.world_laws.proofs.Agreeing.Steps.{some_is}
use Rattle.world_laws.proofs.Agreeing.SendingRows.{sent_record, kk_exchange}
use Rattle.world_laws.proofs.Agreeing.TwinRows.{twins_exchange}

pub record NewStands (s : Party) (peer new : List ℕ) (name : KeyName) : Type 0 where
  pub link : LinkRec
  pub found : link_with (sends peer new) s ≡ Some link
  pub entry : KeyRec
  pub stands : record_with (record { peer = peer; name = name }) s ≡ Some entry

abbrev pub AllNewStand : Party → Type 0
AllNewStand s = (peer : List ℕ) (e : Exchange) (name : KeyName) (new : List ℕ) → exchange_with peer s ≡ Some e → sent_name_by e.kind ≡ Some name → new_of e.kind ≡ Some new → NewStands s peer new name

-- an exchange with this peer goes
abbrev pub Frees : List ℕ → Edit → Type 0
Frees q (DropExchange peer) = peer ≡ q
Frees q e = ⊥

abbrev pub Freed : List Edit → List ℕ → Type 0
Freed [] q = ⊥
Freed (e ∷ es) q = Frees q e ⊎ Freed es q

-- no exchange with a new label or for two keys comes, and where a link goes, so does the exchange with its peer
abbrev pub TidyIn : List Edit → Edit → Type 0
TidyIn all (Begin own role generator) = ⊥
TidyIn all (PutExchange x) = mark_of x.kind ≡ None
TidyIn all (DropLink peer label side) = Freed all peer
TidyIn all e = Unit {0}

abbrev pub Tidy : List Edit → Type 0
Tidy es = AllByRecursion (TidyIn es) es

-- the edits of a row: tidy, or those of a start with a new key-encrypting key, or with which two keys are sent
pub data RowNews (p : Party) (es : List Edit) : Type 0 where
  tidy : Tidy es → RowNews p es
  starts : (l : LinkRec) (new : List ℕ) (single : Bool) (d : KkDrawn) → es ≡ kk_edits p l new single d → RowNews p es
  twice : (l : LinkRec) (d : TwinsDrawn) → es ≡ twins_edits p l d → RowNews p es

pub tidy_join : (all es fs : List Edit) → AllByRecursion (TidyIn all) es → AllByRecursion (TidyIn all) fs → AllByRecursion (TidyIn all) (es ++ fs)
tidy_join all [] fs a b = b
tidy_join all (e ∷ es) fs a b = (a.0, tidy_join all es fs a.1 b)

pub freed_behind : (es fs : List Edit) (q : List ℕ) → Freed fs q → Freed (es ++ fs) q
freed_behind [] fs q f = f
freed_behind (e ∷ es) fs q f = inr (freed_behind es fs q f)

-- exchanges

edit_back : (all : List Edit) (e : Edit) (s : Party) (q : List ℕ) (x : Exchange) (new : List ℕ) → TidyIn all e → exchange_with q (apply_edit e s) ≡ Some x → mark_of x.kind ≡ Some new → exchange_with q s ≡ Some x
edit_back all (Begin own role generator) s q x new t h n = absurd t
edit_back all (PutLink l) s q x new t h n = h
edit_back all (DropLink peer label side) s q x new t h n = h
edit_back all (PutKey k) s q x new t h n = h
edit_back all DropEnded s q x new t h n = h
edit_back all (PutExchange y) s q x new t h n = elim (ex_put s.exchanges y q x h) [
  | inl a ↦ absurd (let none : mark_of x.kind ≡ None = ap (λ (z : Exchange). mark_of z.kind) (sym a.1) ∙ t in cc)
  | inr a ↦ a.0
]
edit_back all (DropExchange j) s q x new t h n = (ex_drop s.exchanges j q x h).0
edit_back all (PutAnswer a) s q x new t h n = h
edit_back all (SetGen v) s q x new t h n = h

pub came : (all es : List Edit) (s : Party) (q : List ℕ) (x : Exchange) (new : List ℕ) → AllByRecursion (TidyIn all) es → exchange_with q (apply es s) ≡ Some x → mark_of x.kind ≡ Some new → exchange_with q s ≡ Some x
came all [] s q x new t h n = h
came all (e ∷ es) s q x new t h n = edit_back all e s q x new t.0 (came all es (apply_edit e s) q x new t.1 h n) n

-- no exchange with this peer has a new label
abbrev QuietAt : Party → List ℕ → Type 0
QuietAt s q = (x : Exchange) (new : List ℕ) → exchange_with q s ≡ Some x → mark_of x.kind ≡ Some new → ⊥

freed_now : (e : Edit) (s : Party) (q : List ℕ) → Frees q e → QuietAt (apply_edit e s) q
freed_now (Begin own role generator) s q f x new h n = absurd f
freed_now (PutLink l) s q f x new h n = absurd f
freed_now (DropLink peer label side) s q f x new h n = absurd f
freed_now (PutKey k) s q f x new h n = absurd f
freed_now DropEnded s q f x new h n = absurd f
freed_now (PutExchange y) s q f x new h n = absurd f
freed_now (DropExchange j) s q f x new h n = (ex_drop s.exchanges j q x h).1 (sym f)
freed_now (PutAnswer a) s q f x new h n = absurd f
freed_now (SetGen v) s q f x new h n = absurd f

quiet_after : (all es : List Edit) (s : Party) (q : List ℕ) → AllByRecursion (TidyIn all) es → Freed es q → QuietAt (apply es s) q
quiet_after all [] s q t f x new h n = absurd f
quiet_after all (e ∷ es) s q t (inl f) x new h n = freed_now e s q f x new (came all es (apply_edit e s) q x new t.1 h n) n
quiet_after all (e ∷ es) s q t (inr f) x new h n = quiet_after all es (apply_edit e s) q t.1 f x new h n

-- links

put_found : (y : LinkRec) (s : Party) (k : LinkKey) (l : LinkRec) → link_with k s ≡ Some l → (m : LinkRec) × (find_row link_key same_link k (put_row link_key same_link y s.links) ≡ Some m)
put_found y s k l h = go (same_link k (link_key y)) refl
  where
    at_put : (b : Bool) → same_link k (link_key y) ≡ b → find_row link_key same_link k (put_row link_key same_link y s.links) ≡ cond b (Some y) (find_row link_key same_link k s.links)
    at_put b i = rw (← i) (find_put link_key same_link test_links k y s.links)

    go : (b : Bool) → same_link k (link_key y) ≡ b → (m : LinkRec) × (find_row link_key same_link k (put_row link_key same_link y s.links) ≡ Some m)
    go true i = (y, at_put true i)
    go false i = (l, at_put false i ∙ h)

edit_link : (all : List Edit) (e : Edit) (s : Party) (q new : List ℕ) (l : LinkRec) → TidyIn all e → link_with (sends q new) s ≡ Some l → ((m : LinkRec) × (link_with (sends q new) (apply_edit e s) ≡ Some m)) ⊎ Freed all q
edit_link all (Begin own role generator) s q new l t h = absurd t
edit_link all (PutLink y) s q new l t h = inl (put_found y s (sends q new) l h)
edit_link all (DropLink peer label side) s q new l t h = go (same_link (sends q new) dropped) refl
  where
    dropped : LinkKey
    dropped = record { peer = peer; label = label; side = side }

    at_drop : (b : Bool) → same_link (sends q new) dropped ≡ b → link_with (sends q new) (apply_edit (DropLink peer label side) s) ≡ cond b None (find_row link_key same_link (sends q new) s.links)
    at_drop b i = rw (← i) (find_drop link_key same_link test_links (sends q new) dropped s.links)

    go : (b : Bool) → same_link (sends q new) dropped ≡ b → ((m : LinkRec) × (link_with (sends q new) (apply_edit (DropLink peer label side) s) ≡ Some m)) ⊎ Freed all q
    go true i = inr (subst (Freed all) (ap (λ (k : LinkKey). k.peer) (sym ((test_links.decides (sends q new) dropped).0 i))) t)
    go false i = inl (l, at_drop false i ∙ h)
edit_link all (PutKey k) s q new l t h = inl (l, h)
edit_link all DropEnded s q new l t h = inl (l, h)
edit_link all (PutExchange y) s q new l t h = inl (l, h)
edit_link all (DropExchange j) s q new l t h = inl (l, h)
edit_link all (PutAnswer a) s q new l t h = inl (l, h)
edit_link all (SetGen v) s q new l t h = inl (l, h)

link_after : (all es : List Edit) (s : Party) (q new : List ℕ) (l : LinkRec) → AllByRecursion (TidyIn all) es → link_with (sends q new) s ≡ Some l → ((m : LinkRec) × (link_with (sends q new) (apply es s) ≡ Some m)) ⊎ Freed all q
link_after all [] s q new l t h = inl (l, h)
link_after all (e ∷ es) s q new l t h = elim (edit_link all e s q new l t.0 h) [
  | inl m ↦ link_after all es (apply_edit e s) q new m.0 t.1 m.1
  | inr f ↦ inr f
]

-- records

-- a record that stood stands, whichever was put
put_stays : (ks : List KeyRec) (k : RecordKey) (m r : KeyRec) → find_row record_key same_record k ks ≡ Some r → (q : KeyRec) × (find_row record_key same_record k (put_row record_key same_record m ks) ≡ Some q)
put_stays ks k m r h = elim (put_then ks k m) [ inl a ↦ (m, a.1) | inr a ↦ (r, a ∙ h) ]

key_after : (v w : Lists) (s t : Party) → KeysMove v w s t → (k : RecordKey) (r : KeyRec) → record_with k s ≡ Some r → r.status ≡ Pending → (q : KeyRec) × (record_with k t ≡ Some q)
key_after v w s t (unmoved e) k r h pending = (r, rw e h)
key_after v w s t (purged e) k r h pending =
    let stays : not (is_ended r.status) ≡ true = ap (λ (z : KeyStatus). not (is_ended z)) pending in
    (r, rw e (filter_keeps record_key same_record (λ (y : KeyRec). not (is_ended y.status)) k r s.keys stays h))
key_after v w s t (one m e fine) k r h pending = let f = put_stays s.keys k m r h in (f.0, rw e f.1)
key_after v w s t (two m n ne e fine second) k r h pending =
    let f = put_stays s.keys k m r h in
    let g = put_stays (put_row record_key same_record m s.keys) k n f.0 f.1 in
    (g.0, rw e g.1)

-- a row keeps it

tidy_stand : (v w : Lists) (s : Party) (es : List Edit) → Tidy es → KeysMove v w s (apply es s) → AllSent s → AllNewStand s → AllNewStand (apply es s)
tidy_stand v w s es t move sent all q x name new h n l =
    let before : exchange_with q s ≡ Some x = came es es s q x new t h (marked x.kind new l) in
    let b : NewStands s q new name = all q x name new before n l in
    let entry = key_after v w s (apply es s) move (record { peer = q; name = name }) b.entry b.stands ((sent q x name before (inl n)).pending b.entry b.stands) in
    elim (link_after es es s q new b.link t b.found) [
      | inl m ↦ record { link = m.0; found = m.1; entry = entry.0; stands = entry.1 }
      | inr f ↦ absurd (quiet_after es es s q t f x new h (marked x.kind new l))
    ]

start_stand : (v w : Lists) (s : Party) (l : LinkRec) (new : List ℕ) (single : Bool) (d : KkDrawn) → KeysMove v w s (apply (kk_edits s l new single d) s) → AllSent s → AllNewStand s → AllNewStand (apply (kk_edits s l new single d) s)
start_stand v w s l new single d move sent all q x name label h n is = elim (ex_put s.exchanges (kk_exchange s l new single d) q x h) [
  | inl a ↦ fresh a.0 (ap (λ (z : Exchange). sent_name_by z.kind) a.1 ∙ n) (ap (λ (z : Exchange). new_of z.kind) a.1 ∙ is)
  | inr a ↦ (
      let b : NewStands s q label name = all q x name label a.0 n is in
      let entry = key_after v w s (apply (kk_edits s l new single d) s) move (record { peer = q; name = name }) b.entry b.stands ((sent q x name a.0 (inl n)).pending b.entry b.stands) in
      let up = put_found (record l { next = l.next + 1 }) s (sends q label) b.link b.found in
      let both = put_found (fresh_link l new d.pair) (record s { links = put_row link_key same_link (record l { next = l.next + 1 }) s.links }) (sends q label) up.0 up.1 in
      record { link = both.0; found = both.1; entry = entry.0; stands = entry.1 })
]
  where
    fresh : q ≡ l.peer → Some (next_name s l) ≡ Some name → Some new ≡ Some label → NewStands (apply (kk_edits s l new single d) s) q label name
    fresh peer name_is label_is =
        let name_e : next_name s l ≡ name = some_is (next_name s l) name name_is in
        let label_e : new ≡ label = some_is new label label_is in
        subst (λ (z : List ℕ). NewStands (apply (kk_edits s l new single d) s) z label name) (sym peer)
        (subst (λ (z : List ℕ). NewStands (apply (kk_edits s l new single d) s) l.peer z name) label_e
        (subst (λ (z : KeyName). NewStands (apply (kk_edits s l new single d) s) l.peer new z) name_e (record {
          link = fresh_link l new d.pair;
          found = find_put_same link_key same_link test_links (fresh_link l new d.pair) (put_row link_key same_link (record l { next = l.next + 1 }) s.links);
          entry = sent_record s l d.key;
          stands = find_put_same record_key same_record test_records (sent_record s l d.key) s.keys;
        })))

-- where two keys are sent, what waits with a new label stays
twice_stand : (v w : Lists) (s : Party) (l : LinkRec) (d : TwinsDrawn) → KeysMove v w s (apply (twins_edits s l d) s) → AllSent s → AllNewStand s → AllNewStand (apply (twins_edits s l d) s)
twice_stand v w s l d move sent all q x name label h n is = elim (ex_put s.exchanges (twins_exchange s l d) q x h) [
  | inl a ↦ absurd (let none : None ≡ Some label = ap (λ (z : Exchange). new_of z.kind) a.1 ∙ is in cc)
  | inr a ↦ (
      let b : NewStands s q label name = all q x name label a.0 n is in
      let entry = key_after v w s (apply (twins_edits s l d) s) move (record { peer = q; name = name }) b.entry b.stands ((sent q x name a.0 (inl n)).pending b.entry b.stands) in
      let up = put_found (record l { next = l.next + 2 }) s (sends q label) b.link b.found in
      record { link = up.0; found = up.1; entry = entry.0; stands = entry.1 })
]

pub row_stand : (v w : Lists) (s : Party) (es : List Edit) → RowNews s es → KeysMove v w s (apply es s) → AllSent s → AllNewStand s → AllNewStand (apply es s)
row_stand v w s es (tidy t) move sent all = tidy_stand v w s es t move sent all
row_stand v w s es (starts l new single d e) move sent all =
    subst (λ (z : List Edit). AllNewStand (apply z s)) (sym e) (start_stand v w s l new single d (subst (λ (z : List Edit). KeysMove v w s (apply z s)) e move) sent all)
row_stand v w s es (twice l d e) move sent all =
    subst (λ (z : List Edit). AllNewStand (apply z s)) (sym e) (twice_stand v w s l d (subst (λ (z : List Edit). KeysMove v w s (apply z s)) e move) sent all)

-- Two keys that were sent at once: both records stand

abbrev pub AllTwinsStand : Party → Type 0
AllTwinsStand s = (peer : List ℕ) (e : Exchange) (first name : KeyName) → exchange_with peer s ≡ Some e → e.kind ≡ kind.PairSent first → SendsName (kind.PairSent first) name → (r : KeyRec) × (record_with (record { peer = peer; name = name }) s ≡ Some r)

-- an exchange that stood before keeps its records
old_twins : (v w : Lists) (s t : Party) → KeysMove v w s t → AllSent s → AllTwinsStand s → (q : List ℕ) (x : Exchange) (first name : KeyName) → exchange_with q s ≡ Some x → x.kind ≡ kind.PairSent first → SendsName (kind.PairSent first) name → (r : KeyRec) × (record_with (record { peer = q; name = name }) t ≡ Some r)
old_twins v w s t move sent all q x first name before is n =
    let r = all q x first name before is n in
    let sends : SendsName x.kind name = subst (λ (z : Kind). SendsName z name) (sym is) n in
    key_after v w s t move (record { peer = q; name = name }) r.0 r.1 ((sent q x name before sends).pending r.0 r.1)

fresh_twins : (s : Party) (l : LinkRec) (d : TwinsDrawn) (name : KeyName) → SendsName (kind.PairSent (next_name s l)) name → (r : KeyRec) × (record_with (record { peer = l.peer; name = name }) (apply (twins_edits s l d) s) ≡ Some r)
fresh_twins s l d name (inl h) =
    let is : next_name s l ≡ name = some_is (next_name s l) name h in
    let first : KeyRec = first_pending s l d in
    let ks : List KeyRec = put_row record_key same_record (first_pending s l d) s.keys in
    put_stays ks (record { peer = l.peer; name = name }) (second_pending s l d) (first_pending s l d) (subst (λ (z : KeyName). find_row record_key same_record (record { peer = l.peer; name = z }) ks ≡ Some (first_pending s l d)) is (find_put_same record_key same_record test_records (first_pending s l d) s.keys))
fresh_twins s l d name (inr h) =
    let is : name_behind (next_name s l) ≡ name = some_is (name_behind (next_name s l)) name h in
    let ks : List KeyRec = put_row record_key same_record (first_pending s l d) s.keys in
    (second_pending s l d, subst (λ (z : KeyName). find_row record_key same_record (record { peer = l.peer; name = z }) (put_row record_key same_record (second_pending s l d) ks) ≡ Some (second_pending s l d)) is (find_put_same record_key same_record test_records (second_pending s l d) ks))

pub row_twins : (v w : Lists) (s : Party) (es : List Edit) → RowNews s es → KeysMove v w s (apply es s) → AllSent s → AllTwinsStand s → AllTwinsStand (apply es s)
row_twins v w s es (tidy t) move sent all q x first name h is n = old_twins v w s (apply es s) move sent all q x first name (came es es s q x [] t h (ap mark_of is)) is n
row_twins v w s es (starts l new single d e) move sent all q x first name h is n = elim (ex_put s.exchanges (kk_exchange s l new single d) q x (subst (λ (z : List Edit). exchange_with q (apply z s) ≡ Some x) e h)) [
  | inl a ↦ absurd (let none : None ≡ Some (name_behind first) = ap (λ (z : Exchange). second_name_by z.kind) a.1 ∙ ap second_name_by is in cc)
  | inr a ↦ old_twins v w s (apply es s) move sent all q x first name a.0 is n
]
row_twins v w s es (twice l d e) move sent all q x first name h is n = elim (ex_put s.exchanges (twins_exchange s l d) q x (subst (λ (z : List Edit). exchange_with q (apply z s) ≡ Some x) e h)) [
  | inl a ↦ (let first_is : next_name s l ≡ first = some_is (next_name s l) first (ap (λ (z : Exchange). sent_name_by z.kind) a.1 ∙ ap sent_name_by is) in
      let r = fresh_twins s l d name (subst (λ (z : KeyName). SendsName (kind.PairSent z) name) (sym first_is) n) in
      (r.0, subst (λ (z : List Edit). record_with (record { peer = q; name = name }) (apply z s) ≡ Some r.0) (sym e) (subst (λ (z : List ℕ). record_with (record { peer = z; name = name }) (apply (twins_edits s l d) s) ≡ Some r.0) (sym a.0) r.1)))
  | inr a ↦ old_twins v w s (apply es s) move sent all q x first name a.0 is n
]
