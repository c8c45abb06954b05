-- The change of a disconnection can be kept.
use Rattle.std.proofs.Common.{◌≡◌, ℕ, Bool, true, false, cond, Option, Some, None, Result, IfOk, List, [], ◌∷◌, ◌++◌, refl, sym, lit≤}
use Rattle.x_base.specs.declared.text.NoMemory.{NoMemory}
use Rattle.csm_grammar.specs.declared.arrival.Arrival.{Arrival}
use Rattle.csm_grammar.specs.declared.message.Dsm.{Dsm}
use Rattle.party_state.specs.declared.decision.Decision.{Decision}
use Rattle.party_tables.specs.declared.link.LinkRec.{LinkRec}
use Rattle.party_tables.specs.declared.key.KeyRec.{KeyRec}
use Rattle.party_tables.specs.declared.key.KeyStatus.TheVariants.{Ended}
use Rattle.party_tables.specs.declared.exchange.Kind.{Kind}
use Rattle.party_tables.specs.declared.exchange.Kind.TheVariants as kind
use Rattle.party_tables.specs.declared.exchange.Exchange.{Exchange}
use Rattle.party_state.specs.declared.edit.Edit.{Edit}
use Rattle.party_state.specs.declared.edit.Edit.TheVariants.{PutKey, DropExchange}
use Rattle.party_tables.specs.Keys.{record_key, same_name}
use Rattle.x_base.specs.declared.key_name.KeyName.{KeyName}
use Rattle.party_tables.specs.Names.{name_behind}
use Rattle.party_tables.specs.Statuses.{is_ended}
use Rattle.party_state.specs.State.{Party, exchange_with}
use Rattle.role_base.specs.Deciding.{decision_of, Decides}
use Rattle.role_base.specs.Storable.{can_put_key, AreFew}
use Rattle.role_base.specs.Standing.{KeyStands}
use Rattle.role_base.specs.Exchanges.{record_of, new_link, dropped, ended}
use Rattle.bank_arrivals.specs.declared.disconnection.NamedKey.{NamedKey}
use Rattle.bank_arrivals.specs.Dsm.{paired, code_name, named_by, left_by, left_in, disconnected, dsm_on}
use Rattle.role_base.proofs.Found.{key_stands}
use Rattle.role_base.proofs.Keeping.{key_room, key_room_behind}
use Rattle.role_base.proofs.Kept.{row_kept, made_kept}
use Rattle.role_base.proofs.PartyLaws.{KeysFound}

-- the record of the key that ends stands
pub named_stands : KeysFound → (p : Party) (m : Dsm) (n : NamedKey) → named_by p m ≡ Some n → KeyStands p n.key
named_stands keys p m n h = go (record_of p m.originator m.idd) refl (record_of p m.originator (code_name m.idd m.ida)) h
  where
    go : (o : Option KeyRec) → record_of p m.originator m.idd ≡ o → (b : Option KeyRec) → paired o b ≡ Some n → KeyStands p n.key
    go None f b e = absurd (cc)
    go (Some k) f None e = absurd (cc)
    go (Some k) f (Some b) e = let i : n.key ≡ k = cc in rw i (key_stands keys p (record { peer = m.originator; name = m.idd }) k f)

-- what goes before the key, the key, and what goes behind it
abbrev with_key : KeyRec → List Edit × List Edit → List Edit
with_key k gone = gone.0 ++ (PutKey (record k { status = Ended }) ∷ gone.1)

disconnected_few : KeysFound → (p : Party) (peer : List ℕ) (k : KeyRec) → KeyStands p k → AreFew p (disconnected p peer k)
disconnected_few keys p peer k st = by_status (is_ended k.status) (by_exchange (exchange_with peer p))
  where
    room : can_put_key p (record_key k) ≡ true
    room = key_room p k st

    nothing : AreFew p (with_key k ([], []))
    nothing = record { keepable = record { each = (room, tt); order = refl }; few = lit≤ tt }

    by_link : (l : Option LinkRec) → AreFew p (with_key k (dropped l, DropExchange peer ∷ []))
    by_link None = record { keepable = record { each = (room, (tt, tt)); order = refl }; few = lit≤ tt }
    by_link (Some l) = record { keepable = record { each = (tt, (room, (tt, tt))); order = refl }; few = lit≤ tt }

    by_name : (b : Bool) (l : Option LinkRec) → AreFew p (with_key k (cond b (dropped l, DropExchange peer ∷ []) ([], [])))
    by_name true l = by_link l
    by_name false l = nothing

    by_kind : (x : Kind) → AreFew p (with_key k (left_by p peer k.name x))
    by_kind (kind.KeySent sent via) = by_name (same_name k.name sent) (new_link p peer via)
    by_kind (kind.Ending ending) = by_name (same_name k.name ending) None
    by_kind (kind.Asked ultimate) = nothing
    by_kind (kind.Translating ultimate value cta) = nothing
    by_kind (kind.PairSent sent) = by_names (record_of p peer sent) (record_of p peer (name_behind sent)) refl refl (same_name k.name sent) (same_name k.name (name_behind sent))
      where
        stands : (n : KeyName) (j : KeyRec) → record_of p peer n ≡ Some j → KeyStands p j
        stands n j f = key_stands keys p (record { peer = peer; name = n }) j f

        by_names : (i j : Option KeyRec) → record_of p peer sent ≡ i → record_of p peer (name_behind sent) ≡ j → (b c : Bool) → AreFew p (with_key k (cond b ([], ended j ++ DropExchange peer ∷ []) (cond c (ended i, DropExchange peer ∷ []) ([], []))))
        by_names i None f g true c = record { keepable = record { each = (room, (tt, tt)); order = refl }; few = lit≤ tt }
        by_names i (Some x) f g true c = record { keepable = record { each = (room, (key_room_behind _ p x (stands (name_behind sent) x g), (tt, tt))); order = refl }; few = lit≤ tt }
        by_names None j f g false true = record { keepable = record { each = (room, (tt, tt)); order = refl }; few = lit≤ tt }
        by_names (Some x) j f g false true = record { keepable = record { each = (key_room p x (stands sent x f), (key_room_behind _ p k st, (tt, tt))); order = refl }; few = lit≤ tt }
        by_names i j f g false false = nothing

    by_exchange : (o : Option Exchange) → AreFew p (with_key k (left_in p peer k.name o))
    by_exchange None = nothing
    by_exchange (Some e) = by_kind e.kind

    by_status : (b : Bool) → AreFew p (with_key k (left_in p peer k.name (exchange_with peer p))) → AreFew p (cond b [] (with_key k (left_in p peer k.name (exchange_with peer p))))
    by_status true f = record { keepable = record { each = tt; order = refl }; few = lit≤ tt }
    by_status false f = f

pub dsm_kept : KeysFound → (p : Party) (a : Arrival) (m : Dsm) (o : Option NamedKey) (made : Result Decision NoMemory) → o ≡ named_by p m → IfOk made (λ d. d ≡ decision_of p (dsm_on p a m o)) → Decides p (dsm_on p a m o) made
dsm_kept keys p a m None made h e = made_kept p (dsm_on p a m None) made (row_kept p (dsm_on p a m None) (λ _. record { each = tt; order = refl }) (lit≤ tt)) e
dsm_kept keys p a m (Some n) made h e =
    let f : AreFew p (disconnected p m.originator n.key) = disconnected_few keys p m.originator n.key (named_stands keys p m n (sym h)) in
    made_kept p (dsm_on p a m (Some n)) made (row_kept p (dsm_on p a m (Some n)) (λ _. f.keepable) f.few) e
