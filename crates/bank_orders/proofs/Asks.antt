-- A bank asks a peer, or a centre for an ultimate recipient, exactly where it can, and what goes out.
use Rattle.std.proofs.Common.{◌≡◌, ◌≢◌, ℕ, ◌+◌, ◌↔◌, true, false, not, is_some, Option, Some, None, List, [], ◌∷◌, ◌++◌, bytes_eq, refl, sym, ap, subst, ◌∙◌}
use Rattle.std.specs.Prelude.{is_none}
use Rattle.std.proofs.lemmas.Bool.{both_ways, and_parts, and_from, leb-true, le-leb, false_from_ne_true}
use Rattle.std.proofs.lemmas.Slice.Eq.{bytes_eq-Decides}
use Rattle.x_base.specs.declared.verdict.Verdict.TheVariants.{Accept, UnknownPeer, UnknownKk}
use Rattle.x_gen.specs.declared.generator.Gen.{Gen}
use Rattle.x_gen.specs.Gen.{good_draw}
use Rattle.x_gen.specs.Laws.{DrawsOdd}
use Rattle.x_seal.specs.Wrapped.{wrap_of}
use Rattle.csm_grammar.specs.declared.message.Rsi.{Rsi}
use Rattle.csm_grammar.specs.declared.message.Rfs.{Rfs}
use Rattle.csm_grammar.specs.declared.message.Service.TheVariants as service
use Rattle.party_tables.specs.declared.link.LinkKey.{LinkKey}
use Rattle.party_tables.specs.declared.link.LinkRec.{LinkRec}
use Rattle.party_tables.specs.declared.exchange.Exchange.{Exchange}
use Rattle.party_tables.specs.declared.exchange.Kind.TheVariants as kind
use Rattle.party_tables.specs.Keys.{same_link, link_key, sends, takes}
use Rattle.party_state.specs.State.{Party, apply, centre_label, link_with, exchange_with, knows}
use Rattle.party_state.specs.Rows.{Row, Plain}
use Rattle.party_state.specs.Verdicts.{Test, TestsHold}
use Rattle.role_base.specs.Texts.{text_of}
use Rattle.role_base.proofs.Addressed.{others, apart}
use Rattle.role_base.proofs.PartyLaws.{HeldAtAccept, AcceptedIfHeld, LinkLaws, ExchangeLaws, put_over, put_other, exchange_put, exchange_put_other}
use Rattle.role_base.proofs.Sends.{Unwraps}
use Rattle.role_base.proofs.Beginning.{none_stands}
use Rattle.role_base.proofs.Tested.{none_so, present}
use Rattle.bank_orders.specs.Ask.{ask_peer, centre_request, centre_front, ask_tests, ask_centre}
use Rattle.bank_orders.specs.Translate.{translate_tests, translate_reply, translate_edits, translate_drawn, translate_under, translate}
use Rattle.bank_orders.specs.Asks.{AsksPeer, CanTurnTo, CanAskCentre, AsksCentre, CanAskToTranslate, SendsToTranslate}

pub asks_peer : (p : Party) (peer : List ℕ) → AsksPeer p (apply (ask_peer p peer).edits p) (ask_peer p peer) peer
asks_peer p peer = record {
  rsi = record { receiver = peer; originator = p.own; service = service.Kd; ultimate = None };
  written = refl;
  receiver = refl;
  sender = refl;
  service = refl;
  alone = refl;
  unchanged = refl;
}

-- the tests of a centre and of an ultimate recipient, and those behind them

turns : (p : Party) (centre u : List ℕ) (ts : List Test) → TestsHold (centre_front p centre u ++ ts) → CanTurnTo p centre u
turns p centre u ts h =
    let apart : (not (bytes_eq u p.own) ≡ true) × (not (bytes_eq u centre) ≡ true) = and_parts (not (bytes_eq u p.own)) (not (bytes_eq u centre)) h.1.0 in
    let free : (is_none (exchange_with centre p) ≡ true) × (is_none (exchange_with u p) ≡ true) = and_parts (is_none (exchange_with centre p)) (is_none (exchange_with u p)) h.1.1.0 in
    record {
      known = h.0;
      apart = others u p.own apart.0;
      other = others u centre apart.1;
      free = none_stands (exchange_with centre p) free.0;
      unbound = none_stands (exchange_with u p) free.1;
    }

turned : (p : Party) (centre u : List ℕ) (ts : List Test) → CanTurnTo p centre u → TestsHold ts → TestsHold (centre_front p centre u ++ ts)
turned p centre u ts c h = (
  c.known,
  (
    and_from (not (bytes_eq u p.own)) (not (bytes_eq u centre)) (apart u p.own c.apart) (apart u centre c.other),
    (and_from (is_none (exchange_with centre p)) (is_none (exchange_with u p)) (none_so (exchange_with centre p) c.free) (none_so (exchange_with u p) c.unbound), h),
  ),
)

module _ (held : HeldAtAccept) (accepted : AcceptedIfHeld) where
  pub asks_exactly : (p : Party) (peer : List ℕ) → ((ask_peer p peer).verdict ≡ Accept) ↔ (knows peer p ≡ true)
  asks_exactly p peer = ((λ e. (held ((knows peer p, UnknownPeer) ∷ []) refl e).0), (λ k. accepted ((knows peer p, UnknownPeer) ∷ []) (k, tt)))

  can_ask : (p : Party) (centre u : List ℕ) → (ask_centre p centre u).verdict ≡ Accept → CanAskCentre p centre u
  can_ask p centre u e =
      let h : TestsHold (ask_tests p centre u) = held (ask_tests p centre u) refl e in
      let link : (l : LinkRec) × (link_with (takes centre centre_label) p ≡ Some l) = present (link_with (takes centre centre_label) p) h.1.1.1.0 in
      record { turns = turns p centre u ((is_some (link_with (takes centre centre_label) p), UnknownKk) ∷ []) h; link = link.0; in_use = link.1 }

  asked : (p : Party) (centre u : List ℕ) → CanAskCentre p centre u → (ask_centre p centre u).verdict ≡ Accept
  asked p centre u c = accepted (ask_tests p centre u) (turned p centre u ((is_some (link_with (takes centre centre_label) p), UnknownKk) ∷ []) c.turns (ap (λ (o : Option LinkRec). is_some o) c.in_use, tt))

  pub asks_centre_exactly : (p : Party) (centre u : List ℕ) → ((ask_centre p centre u).verdict ≡ Accept) ↔ CanAskCentre p centre u
  asks_centre_exactly p centre u = (can_ask p centre u, asked p centre u)

  can_translate : (p : Party) (centre u : List ℕ) (moment : ℕ) (o : Option LinkRec) (x : Option (ℕ × Gen)) → link_with (sends centre centre_label) p ≡ o → good_draw p.generator moment ≡ x → (translate_under p centre u o moment).verdict ≡ Accept → CanAskToTranslate p centre u moment
  can_translate p centre u moment None x f g e =
      let h : TestsHold (centre_front p centre u ++ (false, UnknownKk) ∷ []) = held (centre_front p centre u ++ (false, UnknownKk) ∷ []) refl e in
      absurd (both_ways false refl h.1.1.1.0)
  can_translate p centre u moment (Some l) None f g e =
      let r : (translate_drawn p centre u l None).verdict ≡ Accept = ap (λ (y : Option (ℕ × Gen)). (translate_drawn p centre u l y).verdict) (sym g) ∙ e in
      let h : TestsHold (centre_front p centre u ++ translate_tests l None) = held (centre_front p centre u ++ translate_tests l None) refl r in
      absurd (both_ways false refl h.1.1.1.1.1.0)
  can_translate p centre u moment (Some l) (Some d) f g e =
      let r : (translate_drawn p centre u l (Some d)).verdict ≡ Accept = ap (λ (y : Option (ℕ × Gen)). (translate_drawn p centre u l y).verdict) (sym g) ∙ e in
      let h : TestsHold (centre_front p centre u ++ translate_tests l (Some d)) = held (centre_front p centre u ++ translate_tests l (Some d)) refl r in
      record { turns = turns p centre u (translate_tests l (Some d)) h; link = l; in_use = f; left = leb-true l.next 99999999999999 h.1.1.1.1.0; drawn = d; draws = g }

  translated : (p : Party) (centre u : List ℕ) (moment : ℕ) → CanAskToTranslate p centre u moment → (translate p centre u moment).verdict ≡ Accept
  translated p centre u moment c =
      ap (λ (o : Option LinkRec). (translate_under p centre u o moment).verdict) c.in_use
      ∙ (ap (λ (y : Option (ℕ × Gen)). (translate_drawn p centre u c.link y).verdict) c.draws
      ∙ accepted (centre_front p centre u ++ translate_tests c.link (Some c.drawn)) (turned p centre u (translate_tests c.link (Some c.drawn)) c.turns (refl, (le-leb c.link.next 99999999999999 c.left, (refl, tt)))))

  pub translates_exactly : (p : Party) (centre u : List ℕ) (moment : ℕ) → ((translate p centre u moment).verdict ≡ Accept) ↔ CanAskToTranslate p centre u moment
  translates_exactly p centre u moment = (can_translate p centre u moment (link_with (sends centre centre_label) p) (good_draw p.generator moment) refl refl, translated p centre u moment)

-- what goes out

module _ (exchanges : ExchangeLaws) where
  stays : (p : Party) (peer : List ℕ) (e : Exchange) → peer ≢ e.peer → bytes_eq peer e.peer ≡ false
  stays p peer e n = false_from_ne_true (bytes_eq peer e.peer) (λ t. n ((bytes_eq-Decides peer e.peer).0 t))

  pub asks_centre : (p : Party) (centre u : List ℕ) → AsksCentre p (apply (ask_centre p centre u).edits p) (ask_centre p centre u) centre u
  unfolding text_of
  asks_centre p centre u = record {
    rsi = request;
    written = refl;
    receiver = refl;
    sender = refl;
    service = refl;
    ultimate = refl;
    waits = exchange_put exchanges waits p;
    others = λ peer n. exchange_put_other exchanges peer waits p (stays p peer waits n);
    rest = refl;
  }
    where
      request : Rsi
      request = record { receiver = centre; originator = p.own; service = service.Kd; ultimate = Some u }

      waits : Exchange
      waits = record { peer = centre; kind = kind.Asked u; text = text_of (Plain (centre_request p centre u)) }

  module _ (unwraps : Unwraps) (odd : DrawsOdd) (links : LinkLaws) where
    translates_under : (p : Party) (centre u : List ℕ) (l : LinkRec) (moment : ℕ) (d : ℕ × Gen) → link_with (sends centre centre_label) p ≡ Some l → good_draw p.generator moment ≡ Some d → SendsToTranslate p (apply (translate_edits p centre u l d.0 d.1.v) p) (translate_drawn p centre u l (Some d)) centre u moment
    unfolding text_of
    translates_under p centre u l moment d f g = record {
      link = l;
      in_use = f;
      key = d.0;
      generator = d.1;
      drawn = g;
      goes_on = refl;
      rfs = request;
      written = refl;
      receiver = refl;
      sender = refl;
      ultimate = refl;
      counted = refl;
      opened = unwraps l.pair l.next d.0 (odd p.generator moment d g).below;
      used = put_over links (sends centre centre_label) l behind p f refl;
      links = λ k n. put_other links k behind p (unlike k n);
      waits = exchange_put exchanges waits p;
      others = λ peer n. exchange_put_other exchanges peer waits p (stays p peer waits n);
      keys = refl;
    }
      where
        request : Rfs
        request = record { receiver = centre; originator = p.own; ultimate = u; kd = wrap_of l.pair l.next d.0; cta = l.next }

        behind : LinkRec
        behind = record l { next = l.next + 1 }

        waits : Exchange
        waits = record { peer = centre; kind = kind.Translating u d.0 l.next; text = text_of (translate_reply p centre u l d.0) }

        unlike : (k : LinkKey) → k ≢ sends centre centre_label → same_link k (link_key behind) ≡ false
        unlike k n = false_from_ne_true (same_link k (link_key behind)) (λ e. n ((links.same k (link_key behind)).0 e ∙ sym (links.found (sends centre centre_label) l p f)))

    pub translates : HeldAtAccept → AcceptedIfHeld → (p : Party) (centre u : List ℕ) (moment : ℕ) → (translate p centre u moment).verdict ≡ Accept → SendsToTranslate p (apply (translate p centre u moment).edits p) (translate p centre u moment) centre u moment
    translates held accepted p centre u moment e =
        let c : CanAskToTranslate p centre u moment = can_translate held accepted p centre u moment (link_with (sends centre centre_label) p) (good_draw p.generator moment) refl refl e in
        let row : translate_drawn p centre u c.link (Some c.drawn) ≡ translate p centre u moment =
        ap (λ (y : Option (ℕ × Gen)). translate_drawn p centre u c.link y) (sym c.draws) ∙ ap (λ (o : Option LinkRec). translate_under p centre u o moment) (sym c.in_use)
        in
        subst (λ (r : Row). SendsToTranslate p (apply r.edits p) r centre u moment) row (translates_under p centre u c.link moment c.drawn c.in_use c.draws)
