-- A request for a data key, or for two, is accepted exactly where they can be sent, and what is sent then.
use Rattle.std.proofs.Common.{arith, ◌≡◌, ℕ, ◌+◌, ◌↔◌, ◌⊎◌, inl, inr, Bool, true, false, ◌||◌, cond, is_some, nat_le, Option, Some, None, List, ◌++◌, length, refl, sym, ap, subst, ◌∙◌}
use Rattle.std.specs.Prelude.{is_none}
use Rattle.std.proofs.lemmas.Bool.{both_ways, and_parts, and_from, leb-true, le-leb, ltb-true, lt-ltb}
use Rattle.x_base.specs.declared.party.Side.TheVariants.{Sends}
use Rattle.x_base.specs.declared.verdict.Verdict.TheVariants.{Accept}
use Rattle.x_gen.specs.declared.generator.Gen.{Gen}
use Rattle.x_gen.specs.Gen.{good_draw}
use Rattle.csm_grammar.specs.declared.message.Service.{Service}
use Rattle.csm_grammar.specs.declared.message.Service.TheVariants as service
use Rattle.csm_grammar.specs.declared.message.Rsi.{Rsi}
use Rattle.csm_grammar.specs.declared.arrival.Arrival.{Arrival}
use Rattle.party_tables.specs.declared.key.KeyRec.{KeyRec}
use Rattle.party_tables.specs.declared.key.RecordKey.{RecordKey}
use Rattle.party_tables.specs.declared.link.LinkRec.{LinkRec}
use Rattle.party_state.specs.Limits.{most_keys}
use Rattle.party_state.specs.State.{Party, first_link, record_with, exchange_with, apply}
use Rattle.party_state.specs.Rows.{Row}
use Rattle.party_state.specs.Verdicts.{Test, TestsHold}
use Rattle.role_base.specs.Conditions.{is_data_key, is_two_keys, count_after, one_more, has_room_for_two}
use Rattle.role_base.specs.Sending.{sending_tests, sending_drawn, sending}
use Rattle.role_base.specs.Sends.{SendsKey}
use Rattle.role_base.proofs.Addressed.{mine}
use Rattle.role_base.proofs.PartyLaws.{HeldAtAccept, AcceptedIfHeld}
use Rattle.bank_arrivals.specs.declared.draws.TwinsDrawn.{TwinsDrawn}
use Rattle.bank_arrivals.specs.SendingTwins.{second_drawn, first_drawn, twins_drawn, twins_tests, twins_sending_drawn}
use Rattle.bank_arrivals.specs.Rsi.{rsi_tests, rsi_row, rsi_under, rsi}
use Rattle.bank_arrivals.specs.Accepting.{key_at, CanServe, CanServeTwo}
use Rattle.bank_arrivals.proofs.About.{is_to}

only_one : (s : Service) → is_two_keys s ≡ false → (is_data_key s || is_two_keys s) ≡ true → s ≡ service.Kd
only_one service.Kd n h = refl
only_one service.KdKd n h = absurd (cc)
only_one service.Kk n h = absurd (cc)
only_one service.DoubleKk n h = absurd (cc)
only_one service.KkKd n h = absurd (cc)
only_one service.DoubleKkKd n h = absurd (cc)

both_keys : (s : Service) → is_two_keys s ≡ true → s ≡ service.KdKd
both_keys service.KdKd h = refl
both_keys service.Kd h = absurd (cc)
both_keys service.Kk h = absurd (cc)
both_keys service.DoubleKk h = absurd (cc)
both_keys service.KkKd h = absurd (cc)
both_keys service.DoubleKkKd h = absurd (cc)

nothing : {A : Type 0} (o : Option A) → is_none o ≡ true → o ≡ None
nothing None h = refl
nothing (Some x) h = absurd (cc)

none_so : {A : Type 0} (o : Option A) → o ≡ None → is_none o ≡ true
none_so o h = ap (λ (x : Option _). is_none x) h

counted : (o : Option KeyRec) (ks : List KeyRec) → count_after o ks ≡ length ks + cond (is_some o) 0 1
counted None ks = refl
counted (Some k) ks = omega arith

more_is : (o : Option KeyRec) → one_more o ≡ cond (is_some o) 0 1
more_is None = refl
more_is (Some k) = refl

-- two keys that were drawn one after the other

record AreDrawn (g : Gen) (moment : ℕ) : Type 0 where
  drawn : ℕ × Gen
  draws : good_draw g moment ≡ Some drawn
  drawn_then : ℕ × Gen
  draws_then : good_draw drawn.1 moment ≡ Some drawn_then

are_drawn : (g : Gen) (moment : ℕ) (t : TwinsDrawn) → twins_drawn g moment ≡ Some t → AreDrawn g moment
unfolding twins_drawn
are_drawn g moment t h = by_first (good_draw g moment) refl h
  where
    by_second : (d : ℕ × Gen) (o : Option (ℕ × Gen)) → good_draw g moment ≡ Some d → good_draw d.1 moment ≡ o → second_drawn d.0 o ≡ Some t → AreDrawn g moment
    by_second d None f i h = absurd (cc)
    by_second d (Some e) f i h = record { drawn = d; draws = f; drawn_then = e; draws_then = i }

    by_first : (o : Option (ℕ × Gen)) → good_draw g moment ≡ o → first_drawn moment o ≡ Some t → AreDrawn g moment
    by_first None f h = absurd (cc)
    by_first (Some d) f h = by_second d (good_draw d.1 moment) f refl h

drawn_from : (g : Gen) (moment : ℕ) (d e : ℕ × Gen) → good_draw g moment ≡ Some d → good_draw d.1 moment ≡ Some e → twins_drawn g moment ≡ Some (record { first = d.0; second = e.0; v = e.1.v })
unfolding twins_drawn
drawn_from g moment d e f i = ap (λ (o : Option (ℕ × Gen)). first_drawn moment o) f ∙ ap (λ (o : Option (ℕ × Gen)). second_drawn d.0 o) i

module _ (held : HeldAtAccept) (accepted : AcceptedIfHeld) where
  -- the tests of a request under a link, with what is drawn
  abbrev all_tests : Party → Arrival → Rsi → LinkRec → Option (ℕ × Gen) → List Test
  all_tests p a m l o = rsi_tests p a m (Some l) ++ sending_tests p l o

  serves : (p : Party) (a : Arrival) (m : Rsi) (moment : ℕ) (l : LinkRec) (d : ℕ × Gen) → first_link m.originator Sends p ≡ Some l → is_two_keys m.service ≡ false → good_draw p.generator moment ≡ Some d → TestsHold (all_tests p a m l (Some d)) → CanServe p a m moment
  serves p a m moment l d f one g h =
      let both : ((is_data_key m.service || is_two_keys m.service) ≡ true) × (is_none m.ultimate ≡ true) = and_parts (is_data_key m.service || is_two_keys m.service) (is_none m.ultimate) h.1.1.0 in
      let key : RecordKey = key_at p l l.next in
      record {
        to = is_to p m.receiver m.originator h.0;
        known = h.1.0;
        service = only_one m.service one both.0;
        alone = nothing m.ultimate both.1;
        free = nothing (exchange_with m.originator p) h.1.1.1.0;
        link = l;
        first = f;
        code = h.1.1.1.1.1.0;
        left = leb-true l.next 99999999999999 h.1.1.1.1.1.1.0;
        room = rw (sym (counted (record_with key p) p.keys)) (leb-true (count_after (record_with key p) p.keys) most_keys h.1.1.1.1.1.1.1.0);
        drawn = d;
        draws = g;
      }

  one_asked : (p : Party) (a : Arrival) (m : Rsi) (moment : ℕ) (l : LinkRec) (o : Option (ℕ × Gen)) → first_link m.originator Sends p ≡ Some l → is_two_keys m.service ≡ false → good_draw p.generator moment ≡ o → (sending_drawn p (rsi_tests p a m (Some l)) l o).verdict ≡ Accept → CanServe p a m moment
  one_asked p a m moment l None f one g e = let h : TestsHold (all_tests p a m l None) = held (all_tests p a m l None) refl e in absurd (both_ways false refl h.1.1.1.1.1.1.1.1.0)
  one_asked p a m moment l (Some d) f one g e = serves p a m moment l d f one g (held (all_tests p a m l (Some d)) refl e)

  -- the same for two data keys

  abbrev two_tests : Party → Arrival → Rsi → LinkRec → Option TwinsDrawn → List Test
  two_tests p a m l o = rsi_tests p a m (Some l) ++ twins_tests p l o

  serves_two : (p : Party) (a : Arrival) (m : Rsi) (moment : ℕ) (l : LinkRec) (t : TwinsDrawn) → first_link m.originator Sends p ≡ Some l → is_two_keys m.service ≡ true → twins_drawn p.generator moment ≡ Some t → TestsHold (two_tests p a m l (Some t)) → CanServeTwo p a m moment
  serves_two p a m moment l t f two g h =
      let both : ((is_data_key m.service || is_two_keys m.service) ≡ true) × (is_none m.ultimate ≡ true) = and_parts (is_data_key m.service || is_two_keys m.service) (is_none m.ultimate) h.1.1.0 in
      let one : RecordKey = key_at p l l.next in
      let other : RecordKey = key_at p l (l.next + 1) in
      let keys : AreDrawn p.generator moment = are_drawn p.generator moment t g in
      record {
        to = is_to p m.receiver m.originator h.0;
        known = h.1.0;
        service = both_keys m.service two;
        alone = nothing m.ultimate both.1;
        free = nothing (exchange_with m.originator p) h.1.1.1.0;
        link = l;
        first = f;
        code = h.1.1.1.1.1.0;
        left = ltb-true l.next 99999999999999 h.1.1.1.1.1.1.0;
        room = rw (sym (more_is (record_with one p)), sym (more_is (record_with other p))) (leb-true (length p.keys + (one_more (record_with one p) + one_more (record_with other p))) most_keys h.1.1.1.1.1.1.1.0);
        drawn = keys.drawn;
        draws = keys.draws;
        drawn_then = keys.drawn_then;
        draws_then = keys.draws_then;
      }

  two_asked : (p : Party) (a : Arrival) (m : Rsi) (moment : ℕ) (l : LinkRec) (o : Option TwinsDrawn) → first_link m.originator Sends p ≡ Some l → is_two_keys m.service ≡ true → twins_drawn p.generator moment ≡ o → (twins_sending_drawn p (rsi_tests p a m (Some l)) l o).verdict ≡ Accept → CanServeTwo p a m moment
  two_asked p a m moment l None f two g e = let h : TestsHold (two_tests p a m l None) = held (two_tests p a m l None) refl e in absurd (both_ways false refl h.1.1.1.1.1.1.1.1.0)
  two_asked p a m moment l (Some t) f two g e = serves_two p a m moment l t f two g (held (two_tests p a m l (Some t)) refl e)

  -- by what is asked for

  by_keys : (p : Party) (a : Arrival) (m : Rsi) (moment : ℕ) (l : LinkRec) (two : Bool) → first_link m.originator Sends p ≡ Some l → is_two_keys m.service ≡ two → (rsi_row p a m l moment two).verdict ≡ Accept → CanServe p a m moment ⊎ CanServeTwo p a m moment
  by_keys p a m moment l true f two e = inr (two_asked p a m moment l (twins_drawn p.generator moment) f two refl e)
  by_keys p a m moment l false f one e = inl (one_asked p a m moment l (good_draw p.generator moment) f one refl e)

  can_serve : (p : Party) (a : Arrival) (m : Rsi) (moment : ℕ) (o : Option LinkRec) → first_link m.originator Sends p ≡ o → (rsi_under p a m o moment).verdict ≡ Accept → CanServe p a m moment ⊎ CanServeTwo p a m moment
  can_serve p a m moment None f e = let h : TestsHold (rsi_tests p a m None) = held (rsi_tests p a m None) refl e in absurd (both_ways false refl h.1.1.1.1.0)
  can_serve p a m moment (Some l) f e = by_keys p a m moment l (is_two_keys m.service) f refl e

  -- the row of a request by its link and by what it asks for
  row_of : (p : Party) (a : Arrival) (m : Rsi) (moment : ℕ) (l : LinkRec) (s : Service) → first_link m.originator Sends p ≡ Some l → m.service ≡ s → rsi p a m moment ≡ rsi_row p a m l moment (is_two_keys s)
  row_of p a m moment l s f i = ap (λ (o : Option LinkRec). rsi_under p a m o moment) f ∙ ap (λ (x : Service). rsi_row p a m l moment (is_two_keys x)) i

  served : (p : Party) (a : Arrival) (m : Rsi) (moment : ℕ) → CanServe p a m moment → (rsi p a m moment).verdict ≡ Accept
  served p a m moment c =
      let key : RecordKey = key_at p c.link c.link.next in
      let room : nat_le (count_after (record_with key p) p.keys) most_keys ≡ true = le-leb (count_after (record_with key p) p.keys) most_keys (rw (counted (record_with key p) p.keys) c.room) in
      let asked : (is_data_key m.service || is_two_keys m.service) ≡ true = ap (λ (s : Service). is_data_key s || is_two_keys s) c.service in
      ap (λ (r : Row). r.verdict) (row_of p a m moment c.link service.Kd c.first c.service)
      ∙ (ap (λ (y : Option (ℕ × Gen)). (sending_drawn p (rsi_tests p a m (Some c.link)) c.link y).verdict) c.draws
      ∙ accepted (all_tests p a m c.link (Some c.drawn)) (
        mine p m.receiver m.originator c.to.receiver c.to.originator,
        (
          c.known,
          (
            and_from (is_data_key m.service || is_two_keys m.service) (is_none m.ultimate) asked (none_so m.ultimate c.alone),
            (none_so (exchange_with m.originator p) c.free, (refl, (c.code, (le-leb c.link.next 99999999999999 c.left, (room, (refl, tt)))))),
          ),
        ),
      ))

  served_two : (p : Party) (a : Arrival) (m : Rsi) (moment : ℕ) → CanServeTwo p a m moment → (rsi p a m moment).verdict ≡ Accept
  served_two p a m moment c =
      let one : RecordKey = key_at p c.link c.link.next in
      let other : RecordKey = key_at p c.link (c.link.next + 1) in
      let room : has_room_for_two p one other ≡ true = le-leb (length p.keys + (one_more (record_with one p) + one_more (record_with other p))) most_keys (rw (more_is (record_with one p), more_is (record_with other p)) c.room) in
      let asked : (is_data_key m.service || is_two_keys m.service) ≡ true = ap (λ (s : Service). is_data_key s || is_two_keys s) c.service in
      let t : TwinsDrawn = record { first = c.drawn.0; second = c.drawn_then.0; v = c.drawn_then.1.v } in
      ap (λ (r : Row). r.verdict) (row_of p a m moment c.link service.KdKd c.first c.service)
      ∙ (ap (λ (y : Option TwinsDrawn). (twins_sending_drawn p (rsi_tests p a m (Some c.link)) c.link y).verdict) (drawn_from p.generator moment c.drawn c.drawn_then c.draws c.draws_then)
      ∙ accepted (two_tests p a m c.link (Some t)) (
        mine p m.receiver m.originator c.to.receiver c.to.originator,
        (
          c.known,
          (
            and_from (is_data_key m.service || is_two_keys m.service) (is_none m.ultimate) asked (none_so m.ultimate c.alone),
            (none_so (exchange_with m.originator p) c.free, (refl, (c.code, (lt-ltb c.link.next 99999999999999 c.left, (room, (refl, tt)))))),
          ),
        ),
      ))

  pub serves_exactly : (p : Party) (a : Arrival) (m : Rsi) (moment : ℕ) → ((rsi p a m moment).verdict ≡ Accept) ↔ (CanServe p a m moment ⊎ CanServeTwo p a m moment)
  serves_exactly p a m moment = (can_serve p a m moment (first_link m.originator Sends p) refl, so)
    where
      so : CanServe p a m moment ⊎ CanServeTwo p a m moment → (rsi p a m moment).verdict ≡ Accept
      so (inl c) = served p a m moment c
      so (inr c) = served_two p a m moment c

  abbrev AllSend : Type 0
  AllSend = (p : Party) (front : List Test) (l : LinkRec) (moment : ℕ) (d : ℕ × Gen) → good_draw p.generator moment ≡ Some d → SendsKey p (apply (sending p front l moment).edits p) (sending p front l moment) l moment

  pub sends_asked : AllSend → (p : Party) (a : Arrival) (m : Rsi) (moment : ℕ) (l : LinkRec) → m.service ≡ service.Kd → first_link m.originator Sends p ≡ Some l → (rsi p a m moment).verdict ≡ Accept → SendsKey p (apply (rsi p a m moment).edits p) (rsi p a m moment) l moment
  sends_asked sends p a m moment l s f e = go (can_serve p a m moment (first_link m.originator Sends p) refl e)
    where
      go : CanServe p a m moment ⊎ CanServeTwo p a m moment → SendsKey p (apply (rsi p a m moment).edits p) (rsi p a m moment) l moment
      go (inl c) = subst (λ (r : Row). SendsKey p (apply r.edits p) r l moment) (sym (row_of p a m moment l service.Kd f s)) (sends p (rsi_tests p a m (Some l)) l moment c.drawn c.draws)
      go (inr c) = let i : service.KdKd ≡ service.Kd = sym c.service ∙ s in absurd (cc)
