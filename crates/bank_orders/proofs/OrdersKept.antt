-- The changes of the commands can be kept.
use Rattle.std.proofs.Common.{◌≡◌, ℕ, ◌≤◌, Option, Some, None, List, [], ◌∷◌, ◌++◌, length, refl, lit≤}
use Rattle.party_tables.specs.declared.link.LinkRec.{LinkRec}
use Rattle.party_tables.specs.declared.key.KeyRec.{KeyRec}
use Rattle.party_tables.specs.declared.exchange.Exchange.{Exchange}
use Rattle.party_state.specs.declared.edit.Edit.TheVariants.{PutKey, PutExchange, DropExchange}
use Rattle.party_tables.specs.declared.key.KeyStatus.TheVariants.{Closing}
use Rattle.party_tables.specs.declared.exchange.Kind.{Kind}
use Rattle.party_tables.specs.declared.exchange.Kind.TheVariants as kind
use Rattle.x_base.specs.declared.key_name.KeyName.{KeyName}
use Rattle.party_state.specs.State.{Party}
use Rattle.party_tables.specs.Ranges.{IsFittingExchange}
use Rattle.party_tables.specs.Names.{name_behind}
use Rattle.role_base.specs.Exchanges.{record_of, new_link, dropped, ended}
use Rattle.bank_orders.specs.GivingUp.{given_up, given_up_in}
use Rattle.role_base.specs.Storable.{AreKeepable}
use Rattle.role_base.specs.Standing.{KeyStands}
use Rattle.role_base.proofs.Found.{key_stands}
use Rattle.role_base.proofs.Keeping.{key_room, key_room_behind}
use Rattle.role_base.proofs.PartyLaws.{KeysFound}
use Rattle.role_base.specs.Texts.{text_of}
use Rattle.bank_orders.specs.Ending.{end_reply, ended_edits}

-- a key that is being closed
pub ended_keepable : (p : Party) (k : KeyRec) (e : Exchange) → KeyStands p k → IsFittingExchange e → AreKeepable p (PutKey (record k { status = Closing }) ∷ PutExchange e ∷ [])
ended_keepable p k e s fits = record { each = (key_room p k s, (fits, tt)); order = refl }

-- an exchange that is given up
pub given_up_keepable : KeysFound → (p : Party) (peer : List ℕ) (e : Exchange) → AreKeepable p (given_up_in p peer (Some e))
given_up_keepable keys p peer e = by_kind e.kind
  where
    by_record : (l : Option LinkRec) (name : KeyName) (o : Option KeyRec) → record_of p peer name ≡ o → AreKeepable p (dropped l ++ ended o ++ DropExchange peer ∷ [])
    by_record None name None h = record { each = (tt, tt); order = refl }
    by_record (Some l) name None h = record { each = (tt, (tt, tt)); order = refl }
    by_record None name (Some k) h = record { each = (key_room p k (key_stands keys p (record { peer = peer; name = name }) k h), (tt, tt)); order = refl }
    by_record (Some l) name (Some k) h = record { each = (tt, (key_room p k (key_stands keys p (record { peer = peer; name = name }) k h), (tt, tt))); order = refl }

    stands : (name : KeyName) (k : KeyRec) → record_of p peer name ≡ Some k → KeyStands p k
    stands name k h = key_stands keys p (record { peer = peer; name = name }) k h

    by_pair : (name : KeyName) (j k : Option KeyRec) → record_of p peer name ≡ j → record_of p peer (name_behind name) ≡ k → AreKeepable p (ended j ++ ended k ++ DropExchange peer ∷ [])
    by_pair name None None f g = record { each = (tt, tt); order = refl }
    by_pair name None (Some k) f g = record { each = (key_room p k (stands (name_behind name) k g), (tt, tt)); order = refl }
    by_pair name (Some j) None f g = record { each = (key_room p j (stands name j f), (tt, tt)); order = refl }
    by_pair name (Some j) (Some k) f g = record { each = (key_room p j (stands name j f), (key_room_behind _ p k (stands (name_behind name) k g), (tt, tt))); order = refl }

    by_kind : (k : Kind) → AreKeepable p (given_up p peer k ++ DropExchange peer ∷ [])
    by_kind (kind.KeySent name via) = by_record (new_link p peer via) name (record_of p peer name) refl
    by_kind (kind.Asked ultimate) = record { each = (tt, tt); order = refl }
    by_kind (kind.Translating ultimate value cta) = record { each = (tt, tt); order = refl }
    by_kind (kind.Ending name) = record { each = (tt, tt); order = refl }
    by_kind (kind.PairSent name) = by_pair name (record_of p peer name) (record_of p peer (name_behind name)) refl refl

pub given_up_few : (p : Party) (peer : List ℕ) (e : Exchange) → length (given_up_in p peer (Some e)) ≤ 9
given_up_few p peer e = by_kind e.kind
  where
    by_parts : (l : Option LinkRec) (o : Option KeyRec) → length (dropped l ++ ended o ++ DropExchange peer ∷ []) ≤ 9
    by_parts None None = lit≤ tt
    by_parts (Some l) None = lit≤ tt
    by_parts None (Some k) = lit≤ tt
    by_parts (Some l) (Some k) = lit≤ tt

    by_pair : (j k : Option KeyRec) → length (ended j ++ ended k ++ DropExchange peer ∷ []) ≤ 9
    by_pair None None = lit≤ tt
    by_pair None (Some k) = lit≤ tt
    by_pair (Some j) None = lit≤ tt
    by_pair (Some j) (Some k) = lit≤ tt

    by_kind : (k : Kind) → length (given_up p peer k ++ DropExchange peer ∷ []) ≤ 9
    by_kind (kind.KeySent name via) = by_parts (new_link p peer via) (record_of p peer name)
    by_kind (kind.Asked ultimate) = lit≤ tt
    by_kind (kind.Translating ultimate value cta) = lit≤ tt
    by_kind (kind.Ending name) = lit≤ tt
    by_kind (kind.PairSent name) = by_pair (record_of p peer name) (record_of p peer (name_behind name))

pub ended_same : (p : Party) (k : KeyRec) (text : List ℕ) → text ≡ text_of (end_reply p k)
    → (PutKey (record k { status = Closing }) ∷ PutExchange (record { peer = k.peer; kind = kind.Ending k.name; text = text }) ∷ []) ≡ ended_edits p k
ended_same p k text t = rw t refl
