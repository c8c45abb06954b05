-- A disconnection of one of two keys that were sent in one message: the other ends too.
use Rattle.std.proofs.Common.{◌≡◌, ◌≢◌, ℕ, Bool, true, false, cond, Option, Some, None, option_map, List, [], ◌∷◌, ◌++◌, refl, sym, ap, ◌∙◌}
use Rattle.std.proofs.lemmas.Bool.{false_from_ne_true}
use Rattle.x_base.specs.declared.key_name.KeyName.{KeyName}
use Rattle.party_tables.specs.declared.key.KeyRec.{KeyRec}
use Rattle.party_tables.specs.declared.key.RecordKey.{RecordKey}
use Rattle.party_tables.specs.declared.key.KeyStatus.{KeyStatus}
use Rattle.party_tables.specs.declared.key.KeyStatus.TheVariants.{Pending, Live, Held as IsHeld, Closing, Ended}
use Rattle.party_tables.specs.declared.exchange.Kind.{Kind}
use Rattle.party_tables.specs.declared.exchange.Kind.TheVariants as kind
use Rattle.party_tables.specs.declared.exchange.Exchange.{Exchange}
use Rattle.party_state.specs.declared.edit.Edit.{Edit}
use Rattle.party_state.specs.declared.edit.Edit.TheVariants.{PutKey, DropExchange}
use Rattle.party_tables.specs.Keys.{record_key, same_name}
use Rattle.party_tables.specs.Names.{name_behind}
use Rattle.party_tables.specs.Statuses.{is_ended}
use Rattle.party_state.specs.State.{Party, exchange_with, apply_edit, apply}
use Rattle.role_base.proofs.PartyLaws.{KeyLaws, ExchangeLaws, exchange_dropped}
use Rattle.role_base.proofs.TwinKeys.{behind_other}
use Rattle.bank_arrivals.specs.Dsm.{left_by, left_in, disconnected}
use Rattle.bank_arrivals.specs.Heard.{IsAbout, HasKey, EndsBoth}
use Rattle.bank_arrivals.proofs.About.{names_same, put_found, put_beside}

pub ended_is : (k : KeyRec) → is_ended k.status ≡ true → k ≡ record k { status = Ended }
ended_is k h = ap (λ (s : KeyStatus). record k { status = s }) (go k.status h)
  where
    go : (s : KeyStatus) → is_ended s ≡ true → s ≡ Ended
    go Ended h = refl
    go Pending h = cc
    go Live h = cc
    go IsHeld h = cc
    go Closing h = cc

pub not_ended : (k : KeyRec) → k.status ≢ Ended → is_ended k.status ≡ false
not_ended k ne = false_from_ne_true (is_ended k.status) (λ t. ne (ap (λ (x : KeyRec). x.status) (ended_is k t)))

left_is : (p : Party) (peer : List ℕ) (name : KeyName) (o : Option Exchange) (x : Kind) → option_map (λ (e : Exchange). e.kind) o ≡ Some x → left_in p peer name o ≡ left_by p peer name x
left_is p peer name None x h = absurd (cc)
left_is p peer name (Some e) x h = let is : e.kind ≡ x = cc in ap (λ (y : Kind). left_by p peer name y) is

disconnected_is : (p : Party) (peer : List ℕ) (k : KeyRec) (gone : List Edit × List Edit) → k.status ≢ Ended → left_in p peer k.name (exchange_with peer p) ≡ gone → disconnected p peer k ≡ gone.0 ++ (PutKey (record k { status = Ended }) ∷ gone.1)
disconnected_is p peer k gone ne g =
    let here : List Edit × List Edit = left_in p peer k.name (exchange_with peer p) in
    ap (λ (b : Bool). cond b [] (here.0 ++ (PutKey (record k { status = Ended }) ∷ here.1))) (not_ended k ne) ∙ ap (λ (gone : List Edit × List Edit). gone.0 ++ (PutKey (record k { status = Ended }) ∷ gone.1)) g

-- the records of a key and of the one behind it differ
module _ (of_keys : KeyLaws) where
  pub apart_behind : (p : Party) (peer : List ℕ) (sent : KeyName) (k x : KeyRec) → same_name k.name sent ≡ true → HasKey p peer (name_behind sent) x → record_key x ≢ record_key k
  apart_behind p peer sent k x named f =
      let is : k.name ≡ sent = (names_same of_keys k.name sent).0 named in
      let key : record { peer = peer; name = name_behind sent } ≡ record_key x = of_keys.found (record { peer = peer; name = name_behind sent }) x p f in
      behind_other (record_key k) (record_key x) (ap (λ (z : RecordKey). z.name) (sym key) ∙ ap name_behind (sym is))

  pub apart_before : (p : Party) (peer : List ℕ) (sent : KeyName) (k x : KeyRec) → same_name k.name (name_behind sent) ≡ true → HasKey p peer sent x → record_key x ≢ record_key k
  apart_before p peer sent k x named f =
      let is : k.name ≡ name_behind sent = (names_same of_keys k.name (name_behind sent)).0 named in
      let key : record { peer = peer; name = sent } ≡ record_key x = of_keys.found (record { peer = peer; name = sent }) x p f in
      let ne : record_key k ≢ record_key x = behind_other (record_key x) (record_key k) (is ∙ ap (λ (z : RecordKey). name_behind z.name) key) in
      λ i. ne (sym i)

-- of two keys that were sent in one message both end
module _ (of_keys : KeyLaws) (of_exchanges : ExchangeLaws) where
  pub second_ends : (p : Party) (peer : List ℕ) (idd : KeyName) (k x : KeyRec) → HasKey p peer idd k → k.status ≢ Ended → IsAbout p peer (kind.PairSent idd) → HasKey p peer (name_behind idd) x → EndsBoth (apply (disconnected p peer k) p) peer (name_behind idd) x
  second_ends p peer idd k x st ne about g =
      let key : record { peer = peer; name = idd } ≡ record_key k = of_keys.found (record { peer = peer; name = idd }) k p st in
      let named : same_name k.name idd ≡ true = (names_same of_keys k.name idd).1 (ap (λ (z : RecordKey). z.name) (sym key)) in
      let one : KeyRec = record k { status = Ended } in
      let other : KeyRec = record x { status = Ended } in
      let gone : left_in p peer k.name (exchange_with peer p) ≡ ([], PutKey other ∷ DropExchange peer ∷ []) = left_is p peer k.name (exchange_with peer p) (kind.PairSent idd) about ∙ rw (named, g) refl in
      let es : disconnected p peer k ≡ PutKey one ∷ PutKey other ∷ DropExchange peer ∷ [] = disconnected_is p peer k ([], PutKey other ∷ DropExchange peer ∷ []) ne gone in
      rw es (record {
        ended = put_found of_keys (apply_edit (PutKey one) p) peer (name_behind idd) x other (put_beside of_keys p peer (name_behind idd) x one g (λ i. apart_behind of_keys p peer idd k x named g (sym i))) refl;
        over = exchange_dropped of_exchanges peer p;
      })

  pub first_ends : (p : Party) (peer : List ℕ) (idd name : KeyName) (k x : KeyRec) → HasKey p peer idd k → k.status ≢ Ended → idd ≡ name_behind name → IsAbout p peer (kind.PairSent name) → HasKey p peer name x → EndsBoth (apply (disconnected p peer k) p) peer name x
  first_ends p peer idd name k x st ne behind about f =
      let key : record { peer = peer; name = idd } ≡ record_key k = of_keys.found (record { peer = peer; name = idd }) k p st in
      let is : k.name ≡ name_behind name = ap (λ (z : RecordKey). z.name) (sym key) ∙ behind in
      let named : same_name k.name (name_behind name) ≡ true = (names_same of_keys k.name (name_behind name)).1 is in
      let other_name : same_name k.name name ≡ false = false_from_ne_true (same_name k.name name) (λ t. (let same : k.name ≡ name = (names_same of_keys k.name name).0 t in behind_other (record { peer = peer; name = name }) (record { peer = peer; name = k.name }) is (ap (λ (n : KeyName). record { peer = peer; name = n }) same))) in
      let one : KeyRec = record k { status = Ended } in
      let other : KeyRec = record x { status = Ended } in
      let gone : left_in p peer k.name (exchange_with peer p) ≡ (PutKey other ∷ [], DropExchange peer ∷ []) = left_is p peer k.name (exchange_with peer p) (kind.PairSent name) about ∙ rw (other_name, named, f) refl in
      let es : disconnected p peer k ≡ PutKey other ∷ PutKey one ∷ DropExchange peer ∷ [] = disconnected_is p peer k (PutKey other ∷ [], DropExchange peer ∷ []) ne gone in
      rw es (record {
        ended = put_beside of_keys (apply_edit (PutKey other) p) peer name other one (put_found of_keys p peer name x other f refl) (λ i. apart_before of_keys p peer name k x named f (sym i));
        over = exchange_dropped of_exchanges peer p;
      })
