-- What a bank sends with two new data keys under a link, and what it keeps.
use Rattle.std.proofs.Common.{◌≡◌, ℕ, ◌+◌, false, Option, Some, None, List, ◌++◌, refl, sym, ap, subst, ◌∙◌}
use Rattle.std.proofs.lemmas.Bool.{both_ways}
use Rattle.x_base.specs.declared.party.Side.TheVariants.{Sends}
use Rattle.x_base.specs.declared.verdict.Verdict.TheVariants.{Accept}
use Rattle.x_gen.specs.declared.generator.Gen.{Gen}
use Rattle.x_gen.specs.Gen.{good_draw}
use Rattle.x_gen.specs.Laws.{DrawsOdd}
use Rattle.x_seal.specs.Wrapped.{wrap_of}
use Rattle.csm_grammar.specs.declared.message.Service.{Service}
use Rattle.csm_grammar.specs.declared.message.Service.TheVariants as service
use Rattle.csm_grammar.specs.declared.message.KsmBody.TheVariants as body
use Rattle.csm_grammar.specs.declared.message.Ksm.{Ksm}
use Rattle.csm_grammar.specs.declared.message.Rsi.{Rsi}
use Rattle.csm_grammar.specs.declared.arrival.Arrival.{Arrival}
use Rattle.party_tables.specs.declared.link.LinkRec.{LinkRec}
use Rattle.party_tables.specs.declared.exchange.Exchange.{Exchange}
use Rattle.party_tables.specs.declared.exchange.Kind.TheVariants as kind
use Rattle.party_state.specs.declared.edit.Edit.TheVariants.{PutKey}
use Rattle.party_tables.specs.Keys.{record_key}
use Rattle.party_tables.specs.Names.{name_behind}
use Rattle.party_state.specs.State.{Party, first_link, apply, apply_edit}
use Rattle.party_state.specs.Rows.{Row}
use Rattle.party_state.specs.Verdicts.{Test, TestsHold}
use Rattle.role_base.specs.Conditions.{is_two_keys}
use Rattle.role_base.specs.Sending.{next_name}
use Rattle.role_base.specs.Texts.{text_of, no_extras}
use Rattle.role_base.proofs.PartyLaws.{HeldAtAccept, LinkLaws, KeyLaws, ExchangeLaws, put_same, key_put_same, exchange_put}
use Rattle.role_base.proofs.Sends.{Unwraps}
use Rattle.role_base.proofs.TwinKeys.{behind_other, key_put_then}
use Rattle.bank_arrivals.specs.declared.draws.TwinsDrawn.{TwinsDrawn}
use Rattle.bank_arrivals.specs.SendingTwins.{second_drawn, first_drawn, twins_drawn, first_pending, second_pending, twins_reply, twins_tests, twins_edits, twins_sending_drawn, twins_sending}
use Rattle.bank_arrivals.specs.Rsi.{rsi_tests, rsi_row, rsi_under, rsi}
use Rattle.bank_arrivals.specs.SendsTwins.{SendsTwins}

-- what is drawn

record TwoDrawn (g : Gen) (moment : ℕ) (d : TwinsDrawn) : Type 0 where
  between : Gen
  last : Gen
  first : good_draw g moment ≡ Some (d.first, between)
  second : good_draw between moment ≡ Some (d.second, last)
  seed : last.v ≡ d.v

two_drawn : (g : Gen) (moment : ℕ) (d : TwinsDrawn) → twins_drawn g moment ≡ Some d → TwoDrawn g moment d
unfolding twins_drawn
two_drawn g moment d h = by_first (good_draw g moment) refl h
  where
    by_second : (x : ℕ × Gen) → good_draw g moment ≡ Some x → (o : Option (ℕ × Gen)) → good_draw x.1 moment ≡ o → second_drawn x.0 o ≡ Some d → TwoDrawn g moment d
    by_second x e None f h = absurd (cc)
    by_second x e (Some y) f h =
        let made : TwinsDrawn = record { first = x.0; second = y.0; v = y.1.v } in
        let is : made ≡ d = cc in
        subst (TwoDrawn g moment) is (record { between = x.1; last = y.1; first = e; second = f; seed = refl })

    by_first : (o : Option (ℕ × Gen)) → good_draw g moment ≡ o → first_drawn moment o ≡ Some d → TwoDrawn g moment d
    by_first None e h = absurd (cc)
    by_first (Some x) e h = by_second x e (good_draw x.1 moment) refl h

module _ (unwraps : Unwraps) (odd : DrawsOdd) (links : LinkLaws) (keys : KeyLaws) (exchanges : ExchangeLaws) where
  sends_both : (p : Party) (front : List Test) (l : LinkRec) (moment : ℕ) (d : TwinsDrawn) → TwoDrawn p.generator moment d → SendsTwins p (apply (twins_edits p l d) p) (twins_sending_drawn p front l (Some d)) l moment
  unfolding text_of
  sends_both p front l moment d drawn = record {
    first = d.first;
    second = d.second;
    between = drawn.between;
    last = drawn.last;
    drawn_first = drawn.first;
    drawn_second = drawn.second;
    goes_on = sym drawn.seed;
    name = next_name p l;
    named = refl;
    behind = name_behind (next_name p l);
    named_behind = refl;
    ksm = ksm;
    kd_first = wrap_of l.pair l.next d.first;
    kd_second = wrap_of l.pair (l.next + 1) d.second;
    written = refl;
    receiver = refl;
    sender = refl;
    carries = refl;
    bare = refl;
    opened_first = unwraps l.pair l.next d.first (odd p.generator moment (d.first, drawn.between) drawn.first).below;
    opened_second = unwraps l.pair (l.next + 1) d.second (odd drawn.between moment (d.second, drawn.last) drawn.second).below;
    used = put_same links behind p;
    pending_first = key_put_then keys p (first_pending p l d) (second_pending p l d) (behind_other (record_key (first_pending p l d)) (record_key (second_pending p l d)) refl);
    pending_second = key_put_same keys (second_pending p l d) (apply_edit (PutKey (first_pending p l d)) p);
    waits = exchange_put exchanges waits p;
  }
    where
      ksm : Ksm
      ksm = record { receiver = l.peer; originator = p.own; body = body.Twin (Some l.label) (wrap_of l.pair l.next d.first) (wrap_of l.pair (l.next + 1) d.second) l.next; extras = no_extras }

      behind : LinkRec
      behind = record l { next = l.next + 2 }

      waits : Exchange
      waits = record { peer = l.peer; kind = kind.PairSent (next_name p l); text = text_of (twins_reply p l d) }

  pub sends_twins : (p : Party) (front : List Test) (l : LinkRec) (moment : ℕ) (d : TwinsDrawn) → twins_drawn p.generator moment ≡ Some d → SendsTwins p (apply (twins_sending p front l moment).edits p) (twins_sending p front l moment) l moment
  sends_twins p front l moment d drawn = rw drawn (sends_both p front l moment d (two_drawn p.generator moment d drawn))

  -- where two keys are asked for

  sends_by : HeldAtAccept → (p : Party) (a : Arrival) (m : Rsi) (moment : ℕ) (l : LinkRec) (o : Option TwinsDrawn) → twins_drawn p.generator moment ≡ o → (twins_sending_drawn p (rsi_tests p a m (Some l)) l o).verdict ≡ Accept
      → SendsTwins p (apply (twins_sending_drawn p (rsi_tests p a m (Some l)) l o).edits p) (twins_sending_drawn p (rsi_tests p a m (Some l)) l o) l moment
  sends_by held p a m moment l None drawn e =
      let h : TestsHold (rsi_tests p a m (Some l) ++ twins_tests p l None) = held (rsi_tests p a m (Some l) ++ twins_tests p l None) refl e in
      absurd (both_ways false refl h.1.1.1.1.1.1.1.1.0)
  sends_by held p a m moment l (Some d) drawn e = sends_both p (rsi_tests p a m (Some l)) l moment d (two_drawn p.generator moment d drawn)

  pub sends_twins_asked : HeldAtAccept → (p : Party) (a : Arrival) (m : Rsi) (moment : ℕ) (l : LinkRec) → m.service ≡ service.KdKd → first_link m.originator Sends p ≡ Some l → (rsi p a m moment).verdict ≡ Accept → SendsTwins p (apply (rsi p a m moment).edits p) (rsi p a m moment) l moment
  sends_twins_asked held p a m moment l two found e =
      let row : twins_sending p (rsi_tests p a m (Some l)) l moment ≡ rsi p a m moment =
      ap (λ (s : Service). rsi_row p a m l moment (is_two_keys s)) (sym two) ∙ ap (λ (o : Option LinkRec). rsi_under p a m o moment) (sym found)
      in
      let accepted : (twins_sending p (rsi_tests p a m (Some l)) l moment).verdict ≡ Accept = ap (λ (r : Row). r.verdict) row ∙ e in
      subst (λ (r : Row). SendsTwins p (apply r.edits p) r l moment) row (sends_by held p a m moment l (twins_drawn p.generator moment) refl accepted)
