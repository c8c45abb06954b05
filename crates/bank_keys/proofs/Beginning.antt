-- A key that comes begins an exchange only with a peer with whom none stands.
use Rattle.std.proofs.Common.{◌≡◌, ℕ, true, Option, Some, None, List, ◌∷◌, refl}
use Rattle.csm_grammar.specs.declared.message.Ksm.{Ksm}
use Rattle.csm_grammar.specs.declared.message.KsmBody.{KsmBody}
use Rattle.csm_grammar.specs.declared.message.NewKk.{NewKk}
use Rattle.csm_grammar.specs.declared.message.Rtr.{Rtr}
use Rattle.csm_grammar.specs.declared.arrival.Arrival.{Arrival}
use Rattle.party_tables.specs.declared.key.KeyRec.{KeyRec}
use Rattle.party_tables.specs.declared.link.LinkRec.{LinkRec}
use Rattle.party_state.specs.declared.edit.Edit.TheVariants.{PutKey}
use Rattle.party_tables.specs.Keys.{takes}
use Rattle.party_state.specs.State.{Party, centre_label, link_with, exchange_with}
use Rattle.party_state.specs.Verdicts.{TestsHold, is_accept}
use Rattle.role_base.specs.Beginning.{AllBeginFree}
use Rattle.role_base.proofs.PartyLaws.{HeldIfAccepted}
use Rattle.role_base.proofs.Beginning.{none_stands, begin_append}
use Rattle.bank_keys.specs.declared.waits.KeyAtCentre.{KeyAtCentre}
use Rattle.bank_keys.specs.Waiting.{waiting_with}
use Rattle.bank_keys.specs.Ksm.{body_link, body_count, body_new, body_record, body_second, taken_edits, second_edits, key_row, key_arrives}
use Rattle.bank_keys.specs.Rtr.{brought_tests, brought, translated_tests, translated, rtr_with, rtr}

taken_begins : (p : Party) (originator : List ℕ) (l : LinkRec) (count : ℕ) (o : Option (List ℕ × NewKk)) → AllBeginFree p (taken_edits originator l count o)
taken_begins p originator l count None = tt
taken_begins p originator l count (Some new) = (tt, tt)

second_begins : (p : Party) (o : Option KeyRec) → AllBeginFree p (second_edits o)
second_begins p None = tt
second_begins p (Some k) = (tt, tt)

key_begins : (p : Party) (a : Arrival) (m : Ksm) (b : KsmBody) (o : Option LinkRec) → AllBeginFree p (key_row p a m b o).edits
key_begins p a m b None = tt
key_begins p a m b (Some l) = (
  tt,
  begin_append p (taken_edits m.originator l (body_count b) (body_new b)) (PutKey (body_record p m b l) ∷ second_edits (body_second p m b l)) (taken_begins p m.originator l (body_count b) (body_new b)) (tt, second_begins p (body_second p m b l)),
)

pub ksm_begins : (p : Party) (a : Arrival) (m : Ksm) → AllBeginFree p (key_arrives p a m).edits
ksm_begins p a m = key_begins p a m m.body (body_link p m.originator m.body)

with_begins : HeldIfAccepted → (p : Party) (a : Arrival) (m : Rtr) (o : Option (ℕ × ℕ)) → is_accept (rtr_with p a m o).verdict ≡ true → AllBeginFree p (rtr_with p a m o).edits
with_begins held p a m (Some k) e = by_link (link_with (takes m.originator centre_label) p) e
  where
    by_link : (o : Option LinkRec) → is_accept (brought p a m k o).verdict ≡ true → AllBeginFree p (brought p a m k o).edits
    by_link None e = tt
    by_link (Some l) e = let h : TestsHold (brought_tests p a m k l) = held (brought_tests p a m k l) refl e in (tt, (tt, (tt, (none_stands (exchange_with m.ultimate p) h.1.1.1.0, tt))))
with_begins held p a m None e = by_waiting (waiting_with p m.originator) e
  where
    by_waiting : (o : Option KeyAtCentre) → is_accept (translated p a m o).verdict ≡ true → AllBeginFree p (translated p a m o).edits
    by_waiting None e = tt
    by_waiting (Some t) e = let h : TestsHold (translated_tests p a m t) = held (translated_tests p a m t) refl e in (tt, (tt, (none_stands (exchange_with m.ultimate p) h.1.1.1.0, tt)))

pub rtr_begins : HeldIfAccepted → (p : Party) (a : Arrival) (m : Rtr) → is_accept (rtr p a m).verdict ≡ true → AllBeginFree p (rtr p a m).edits
rtr_begins held p a m e = with_begins held p a m m.kd e
