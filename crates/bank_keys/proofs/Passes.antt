-- A centre's answer is accepted exactly where its key can go on.
use Rattle.std.proofs.Common.{◌≡◌, ℕ, ◌↔◌, true, false, not, nat_le, Option, Some, None, List, refl, sym, ap, subst, ◌∙◌}
use Rattle.std.specs.Prelude.{is_none}
use Rattle.std.proofs.lemmas.Bool.{leb-true, le-leb, both_ways, or_right}
use Rattle.std.proofs.lemmas.Slice.Eq.{bytes_eq-Decides}
use Rattle.x_base.specs.declared.verdict.Verdict.TheVariants.{Accept}
use Rattle.csm_grammar.specs.declared.message.Message.{Message}
use Rattle.csm_grammar.specs.declared.message.Message.TheVariants as message
use Rattle.csm_grammar.specs.declared.message.Rtr.{Rtr}
use Rattle.csm_grammar.specs.declared.arrival.Arrival.{Arrival}
use Rattle.party_state.specs.declared.command.Input.{Input}
use Rattle.party_state.specs.declared.command.Input.TheVariants as input
use Rattle.party_tables.specs.declared.link.LinkRec.{LinkRec}
use Rattle.party_tables.specs.declared.exchange.Kind.{Kind}
use Rattle.party_tables.specs.declared.exchange.Kind.TheVariants as kind
use Rattle.party_tables.specs.declared.exchange.Exchange.{Exchange}
use Rattle.party_tables.specs.Keys.{takes}
use Rattle.party_state.specs.State.{Party, centre_label, link_with, record_with, exchange_with}
use Rattle.party_state.specs.Verdicts.{TestsHold, verdict_of}
use Rattle.role_base.specs.Conditions.{has_count}
use Rattle.role_base.specs.Deciding.{decision_of}
use Rattle.role_base.proofs.Addressed.{for_me, mine}
use Rattle.role_base.proofs.PartyLaws.{HeldAtAccept, AcceptedIfHeld, KeysCounted}
use Rattle.bank_keys.specs.declared.waits.KeyAtCentre.{KeyAtCentre}
use Rattle.bank_keys.specs.Waiting.{waiting_by, waiting_in, waiting_with, is_asked_by, is_asked_in}
use Rattle.bank_keys.specs.Rtr.{centre_key, passed_record, brought_front, brought_value, brought_tests, brought, translated_front, translated_tests, translated, rtr_with, rtr}
use Rattle.bank_keys.specs.Passing.{Brought, Waits, IsKeyOf, CanPassOn, PassesKeys}
use Rattle.bank_keys.proofs.Rooms.{not_low, room_after, room_before}

absent : {A : Type 0} (o : Option A) → is_none o ≡ true → o ≡ None
absent None h = refl
absent (Some x) h = absurd (cc)

-- what the exchange with the centre says

asked_for : (o : Option Exchange) (u : List ℕ) → is_asked_in o u ≡ true → (e : Exchange) × (o ≡ Some e) × (e.kind ≡ kind.Asked u)
asked_for None u h = absurd (cc)
asked_for (Some e) u h = by_kind e.kind refl h
  where
    by_kind : (k : Kind) → e.kind ≡ k → is_asked_by k u ≡ true → (x : Exchange) × (Some e ≡ Some x) × (x.kind ≡ kind.Asked u)
    by_kind (kind.Asked v) i h = (e, refl, i ∙ ap kind.Asked ((bytes_eq-Decides v u).0 h))
    by_kind (kind.Translating v value cta) i h = absurd (cc)
    by_kind (kind.KeySent name via) i h = absurd (cc)
    by_kind (kind.Ending name) i h = absurd (cc)
    by_kind (kind.PairSent name) i h = absurd (cc)

waits_for : (o : Option Exchange) (t : KeyAtCentre) → waiting_in o ≡ Some t → (e : Exchange) × (o ≡ Some e) × (e.kind ≡ kind.Translating t.ultimate t.value t.cta)
waits_for None t h = absurd (cc)
waits_for (Some e) t h = by_kind e.kind refl h
  where
    by_kind : (k : Kind) → e.kind ≡ k → waiting_by k ≡ Some t → (x : Exchange) × (Some e ≡ Some x) × (x.kind ≡ kind.Translating t.ultimate t.value t.cta)
    by_kind (kind.Asked v) i h = absurd (cc)
    by_kind (kind.Translating v value cta) i h = let same : record { ultimate = v; value = value; cta = cta } ≡ t = cc in (e, refl, i ∙ ap (λ (x : KeyAtCentre). kind.Translating x.ultimate x.value x.cta) same)
    by_kind (kind.KeySent name via) i h = absurd (cc)
    by_kind (kind.Ending name) i h = absurd (cc)
    by_kind (kind.PairSent name) i h = absurd (cc)

module _ (held : HeldAtAccept) (accepted : AcceptedIfHeld) (keys : KeysCounted) where
  -- with the key

  passes_brought : (p : Party) (a : Arrival) (m : Rtr) (k : ℕ × ℕ) (l : LinkRec) → link_with (takes m.originator centre_label) p ≡ Some l → m.kd ≡ Some k → verdict_of (brought_tests p a m k l) ≡ Accept → CanPassOn p a m
  passes_brought p a m k l f is e =
      let h : TestsHold (brought_tests p a m k l) = held (brought_tests p a m k l) refl e in
      let who = for_me p m.receiver m.originator h.0 in
      let asked = asked_for (exchange_with m.originator p) m.ultimate h.1.1.0 in
      let key : Brought p m (brought_value l k) k = record {
        exchange = asked.0;
        stands = asked.1;
        asked = asked.2;
        link = l;
        in_use = f;
        unwrapped = refl;
        fresh = leb-true l.next k.1 (not_low (has_count l) (nat_le l.next k.1) h.1.1.1.1.1.1.0 h.1.1.1.1.1.1.1.0);
        left = leb-true l.next 99999999999999 h.1.1.1.1.1.1.1.0;
      } in
      record {
        receiver = who.0;
        originator = who.1;
        known = h.1.0;
        value = brought_value l k;
        key = subst (λ (o : Option (ℕ × ℕ)). IsKeyOf p m (brought_value l k) o) (sym is) key;
        alone = absent (exchange_with m.ultimate p) h.1.1.1.0;
        code = h.1.1.1.1.1.0;
        unnamed = absent (record_with (centre_key p m) p) h.1.1.1.1.1.1.1.1.0;
        room = room_after keys p (passed_record p m (brought_value l k)) h.1.1.1.1.1.1.1.1.1.0;
      }

  brought_passes : (p : Party) (a : Arrival) (m : Rtr) (k : ℕ × ℕ) (t : CanPassOn p a m) (b : Brought p m t.value k) → verdict_of (brought_tests p a m k b.link) ≡ Accept
  brought_passes p a m k t b = accepted (brought_tests p a m k b.link) (
    mine p m.receiver m.originator t.receiver t.originator,
    (
      t.known,
      (
        rw (b.stands, b.asked) ((bytes_eq-Decides m.ultimate m.ultimate).1 refl),
        (
          rw t.alone refl,
          (
            refl,
            (
              rw (← b.unwrapped) t.code,
              (
                or_right (not (has_count b.link)) (nat_le b.link.next k.1) (le-leb b.link.next k.1 b.fresh),
                (le-leb b.link.next 99999999999999 b.left, (rw t.unnamed refl, (room_before keys p (passed_record p m t.value) t.room, tt))),
              ),
            ),
          ),
        ),
      ),
    ),
  )

  -- without it

  passes_translated : (p : Party) (a : Arrival) (m : Rtr) (t : KeyAtCentre) → waiting_with p m.originator ≡ Some t → m.kd ≡ None → verdict_of (translated_tests p a m t) ≡ Accept → CanPassOn p a m
  passes_translated p a m t f is e =
      let h : TestsHold (translated_tests p a m t) = held (translated_tests p a m t) refl e in
      let who = for_me p m.receiver m.originator h.0 in
      let waits = waits_for (exchange_with m.originator p) t f in
      let named : t.ultimate ≡ m.ultimate = (bytes_eq-Decides t.ultimate m.ultimate).0 h.1.1.0 in
      let key : Waits p m t.value = record { exchange = waits.0; stands = waits.1; cta = t.cta; translating = waits.2 ∙ ap (λ (u : List ℕ). kind.Translating u t.value t.cta) named } in
      record {
        receiver = who.0;
        originator = who.1;
        known = h.1.0;
        value = t.value;
        key = subst (λ (o : Option (ℕ × ℕ)). IsKeyOf p m t.value o) (sym is) key;
        alone = absent (exchange_with m.ultimate p) h.1.1.1.0;
        code = h.1.1.1.1.0;
        unnamed = absent (record_with (centre_key p m) p) h.1.1.1.1.1.0;
        room = room_after keys p (passed_record p m t.value) h.1.1.1.1.1.1.0;
      }

  translated_passes : (p : Party) (a : Arrival) (m : Rtr) (t : CanPassOn p a m) (w : Waits p m t.value) → verdict_of (translated_tests p a m (record { ultimate = m.ultimate; value = t.value; cta = w.cta })) ≡ Accept
  translated_passes p a m t w = accepted (translated_tests p a m (record { ultimate = m.ultimate; value = t.value; cta = w.cta })) (
    mine p m.receiver m.originator t.receiver t.originator,
    (
      t.known,
      (
        (bytes_eq-Decides m.ultimate m.ultimate).1 refl,
        (rw t.alone refl, (t.code, (rw t.unnamed refl, (room_before keys p (passed_record p m t.value) t.room, tt)))),
      ),
    ),
  )

  -- either way

  accepts : (p : Party) (a : Arrival) (m : Rtr) (o : Option (ℕ × ℕ)) → m.kd ≡ o → (rtr_with p a m o).verdict ≡ Accept → CanPassOn p a m
  accepts p a m (Some k) is e = by_link (link_with (takes m.originator centre_label) p) refl e
    where
      by_link : (o : Option LinkRec) → link_with (takes m.originator centre_label) p ≡ o → (brought p a m k o).verdict ≡ Accept → CanPassOn p a m
      by_link None f e = let h : TestsHold (brought_front p m None) = held (brought_front p m None) refl e in absurd (both_ways false refl h.1.1.1.1.0)
      by_link (Some l) f e = passes_brought p a m k l f is e
  accepts p a m None is e = by_waiting (waiting_with p m.originator) refl e
    where
      by_waiting : (o : Option KeyAtCentre) → waiting_with p m.originator ≡ o → (translated p a m o).verdict ≡ Accept → CanPassOn p a m
      by_waiting None f e = let h : TestsHold (translated_front p m None) = held (translated_front p m None) refl e in absurd (both_ways false refl h.1.1.0)
      by_waiting (Some t) f e = passes_translated p a m t f is e

  accepted_with : (p : Party) (a : Arrival) (m : Rtr) (o : Option (ℕ × ℕ)) → m.kd ≡ o → CanPassOn p a m → (rtr_with p a m o).verdict ≡ Accept
  accepted_with p a m (Some k) is t = let b : Brought p m t.value k = subst (λ (o : Option (ℕ × ℕ)). IsKeyOf p m t.value o) is t.key in rw b.in_use (brought_passes p a m k t b)
  accepted_with p a m None is t =
      let w : Waits p m t.value = subst (λ (o : Option (ℕ × ℕ)). IsKeyOf p m t.value o) is t.key in
      let waits : waiting_with p m.originator ≡ Some (record { ultimate = m.ultimate; value = t.value; cta = w.cta }) = rw (w.stands, w.translating) refl in
      rw waits (translated_passes p a m t w)

  accepts_exactly : (p : Party) (a : Arrival) (m : Rtr) → ((rtr p a m).verdict ≡ Accept) ↔ CanPassOn p a m
  accepts_exactly p a m = (accepts p a m m.kd refl, accepted_with p a m m.kd refl)

  -- what is decided of a centre's answer
  pub passes_keys : (p : Party) (a : Arrival) (m : Rtr) → a.parsed.message ≡ message.Rtr m → PassesKeys p (input.Arrived a) (decision_of p (rtr p a m))
  passes_keys p a m e = λ b n answers.
      let arrived : a ≡ b = ap (λ (i : Input). arrival_of a i) answers.arrived in
      let said : message.Rtr m ≡ message.Rtr n = sym e ∙ (ap (λ (x : Arrival). x.parsed.message) arrived ∙ answers.message) in
      let same : m ≡ n = ap (λ (x : Message). rtr_of m x) said in
      rw (arrived, same) (accepts_exactly p b n)
    where
      arrival_of : Arrival → Input → Arrival
      arrival_of d (input.Arrived x) = x
      arrival_of d (input.Ordered x) = d

      rtr_of : Rtr → Message → Rtr
      rtr_of d (message.Rtr x) = x
      rtr_of d _ = d
