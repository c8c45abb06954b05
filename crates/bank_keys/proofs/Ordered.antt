-- The tests of keys that come are made in the order.
use Rattle.std.proofs.Common.{ℕ, Some, None, refl}
use Rattle.csm_grammar.specs.declared.message.Ksm.{Ksm}
use Rattle.csm_grammar.specs.declared.message.KsmBody.{KsmBody}
use Rattle.csm_grammar.specs.declared.message.KsmBody.TheVariants as body
use Rattle.csm_grammar.specs.declared.message.Rtr.{Rtr}
use Rattle.csm_grammar.specs.declared.arrival.Arrival.{Arrival}
use Rattle.party_tables.specs.declared.link.LinkRec.{LinkRec}
use Rattle.party_state.specs.State.{Party}
use Rattle.role_base.specs.Order.{InOrder}
use Rattle.bank_keys.specs.declared.waits.KeyAtCentre.{KeyAtCentre}
use Rattle.bank_keys.specs.Ksm.{body_front, body_tests}
use Rattle.bank_keys.specs.Rtr.{brought_front, brought_tests, translated_front, translated_tests}

pub ksm_order : (p : Party) (a : Arrival) (m : Ksm) (b : KsmBody) (l : LinkRec) → InOrder (body_tests p a m b l)
ksm_order p a m (body.Direct idk2 None kd ctp) l = refl
ksm_order p a m (body.Direct idk2 (Some new) kd ctp) l = refl
ksm_order p a m (body.Centre centre kdu ctb) l = refl
ksm_order p a m (body.Twin idk2 first second ctp) l = refl

pub ksm_front_order : (p : Party) (m : Ksm) (b : KsmBody) → InOrder (body_front p m b None)
ksm_front_order p m b = refl

pub brought_order : (p : Party) (a : Arrival) (m : Rtr) (k : ℕ × ℕ) (l : LinkRec) → InOrder (brought_tests p a m k l)
brought_order p a m k l = refl

pub brought_front_order : (p : Party) (m : Rtr) → InOrder (brought_front p m None)
brought_front_order p m = refl

pub translated_order : (p : Party) (a : Arrival) (m : Rtr) (t : KeyAtCentre) → InOrder (translated_tests p a m t)
translated_order p a m t = refl

pub translated_front_order : (p : Party) (m : Rtr) → InOrder (translated_front p m None)
translated_front_order p m = refl
