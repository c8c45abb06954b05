-- A centre's answer arrives: what the laws that need no honesty ask.
use Rattle.std.proofs.Common.{arith, ◌≡◌, ℕ, ◌+◌, ◌≤◌, inl, true, Option, Some, None, refl}
use Rattle.csm_grammar.specs.declared.arrival.Arrival.{Arrival}
use Rattle.party_tables.specs.declared.link.LinkRec.{LinkRec}
use Rattle.party_tables.specs.Keys.{link_key, takes}
use Rattle.party_state.specs.State.{Party, centre_label, link_with}
use Rattle.party_state.specs.Verdicts.{TestsHold, is_accept}
use Rattle.party_state.proofs.Verdicts.{held}
use Rattle.csm_grammar.specs.Arrivals.{authenticated_text}
use Rattle.world_laws.proofs.Links.Growth.{next_up}
use Rattle.world_laws.proofs.Links.Found.{LinkAt}
use Rattle.world_laws.proofs.Counting.Sound.{IsSound}
use Rattle.csm_grammar.specs.declared.message.Rtr.{Rtr}
use Rattle.party_state.specs.Verdicts.{verdict_of}
use Rattle.bank_keys.specs.declared.waits.KeyAtCentre.{KeyAtCentre}
use Rattle.bank_keys.specs.Waiting.{waiting_with}
use Rattle.bank_keys.specs.Rtr.{brought_front, brought_tests, brought, translated_front, translated, rtr_with}
use Rattle.world_laws.proofs.Links.Found.{link_at}
use Rattle.world_laws.proofs.Counting.Quiet.{refused_sound, quiet_sound, passes_sound}
use Rattle.world_laws.proofs.Sound.Keys.{count_low}

pub brought_low : (p : Party) (a : Arrival) (m : Rtr) (k : ℕ × ℕ) (l : LinkRec) → is_accept (brought p a m k (Some l)).verdict ≡ true → l.next ≤ k.1
brought_low p a m k l h =
    let t : TestsHold (brought_tests p a m k l) = held (brought_tests p a m k l) refl h in
    count_low l.next k.1 t.1.1.1.1.1.1.0 t.1.1.1.1.1.1.1.0

brought_sound : (p : Party) (a : Arrival) (m : Rtr) (k : ℕ × ℕ) (o : Option LinkRec) → link_with (takes m.originator centre_label) p ≡ o → is_accept (brought p a m k o).verdict ≡ true → IsSound None p (authenticated_text a) (brought p a m k o)
brought_sound p a m k None e h = refused_sound p (authenticated_text a) (verdict_of (brought_front p m None))
brought_sound p a m k (Some l) e h =
    let at : LinkAt p (takes m.originator centre_label) l = link_at p (takes m.originator centre_label) l e in
    let at_key : link_with (link_key l) p ≡ Some l = rw at.key e in
    let low : l.next ≤ k.1 = brought_low p a m k l h in
    passes_sound p (authenticated_text a) (brought p a m k (Some l)) ((inl (l, at_key, next_up l (k.1 + 1) (omega (arith, low))), (tt, (tt, (tt, tt)))), ((l, at_key, refl), (tt, (tt, (refl, tt))))) refl (λ a e. absurd (cc))

translated_sound : (p : Party) (a : Arrival) (m : Rtr) (o : Option KeyAtCentre) → IsSound None p (authenticated_text a) (translated p a m o)
translated_sound p a m None = refused_sound p (authenticated_text a) (verdict_of (translated_front p m None))
translated_sound p a m (Some t) = quiet_sound p (authenticated_text a) (translated p a m (Some t)) (tt, (tt, (refl, tt))) refl (λ a e. absurd (cc))

pub rtr_sound : (p : Party) (a : Arrival) (m : Rtr) (o : Option (ℕ × ℕ)) → is_accept (rtr_with p a m o).verdict ≡ true → IsSound None p (authenticated_text a) (rtr_with p a m o)
rtr_sound p a m (Some k) h = brought_sound p a m k (link_with (takes m.originator centre_label) p) refl h
rtr_sound p a m None h = translated_sound p a m (waiting_with p m.originator)
