-- Agreement: a centre is asked.
use Rattle.std.proofs.Common.{arith, ◌≡◌, inl, inr, ℕ, ◌≤◌, ◌+◌, false, Option, Some, None, List, [], ◌∷◌, ◌++◌, refl, sym, ◌∙◌, ap, subst, bytes_eq}
use Rattle.party_tables.specs.declared.link.LinkKey.{LinkKey}
use Rattle.party_tables.specs.declared.link.LinkRec.{LinkRec}
use Rattle.party_tables.specs.declared.exchange.Exchange.{Exchange}
use Rattle.party_tables.specs.declared.exchange.Kind.TheVariants as kind
use Rattle.party_tables.specs.Keys.{exchange_key, sends}
use Rattle.party_state.specs.State.{Party, centre_label, link_with, apply}
use Rattle.party_state.specs.Rows.{Plain}
use Rattle.party_tables.proofs.Keys.{test_idents}
use Rattle.x_base.specs.declared.verdict.Verdict.TheVariants.{UnknownKk}
use Rattle.bank_keys.specs.declared.waits.KeyAtCentre.{KeyAtCentre}
use Rattle.member.specs.Member.{Member}
use Rattle.world_laws.specs.World.{member_at}
use Rattle.world_laws.proofs.Links.Growth.{PartyGrows}
use Rattle.party_tables.proofs.Tables.{find_put_same}
use Rattle.bank_keys.specs.Waiting.{waiting_by, waiting_in}
use Rattle.world_laws.proofs.Agreeing.Waiting.{AllSent}
use Rattle.world_laws.proofs.Links.Growth.{PartyGrows}
use Rattle.world_laws.proofs.Agreeing.Moves.{Agreeing}
use Rattle.world_laws.proofs.Agreeing.Lists.{Lists, after}
use Rattle.world_laws.proofs.Agreeing.KeyRecords.{unmoved}
use Rattle.world_laws.proofs.Agreeing.Waiting.{AllSent}
use Rattle.world_laws.proofs.Agreeing.Agreed.{Agreed}
use Rattle.x_gen.specs.declared.generator.Gen.{Gen}
use Rattle.x_gen.specs.Gen.{good_draw}
use Rattle.party_tables.specs.Keys.{link_key}
use Rattle.party_state.specs.Verdicts.{verdict_of}
use Rattle.role_base.specs.Texts.{text_of}
use Rattle.world_laws.proofs.Links.Growth.{change_grows}
use Rattle.world_laws.proofs.Links.Found.{LinkAt, link_at}
use Rattle.world_laws.proofs.Links.Putting.{put_at}
use Rattle.world_laws.proofs.Counting.Sound.{IsSound}
use Rattle.x_seal.proofs.Undoing.{unwraps}
use Rattle.world_laws.proofs.Texts.Drawn.{drawn_below}
use Rattle.world_laws.proofs.Agreeing.KeyRecords.{unmoved}
use Rattle.world_laws.proofs.Agreeing.Exchanges.{ex_put, waits_from, waits_put, news_put, sent_other}
use Rattle.world_laws.proofs.Agreeing.Backs.{backed}
use Rattle.world_laws.proofs.Agreeing.Steps.{some_is, after_is, still_agreeing, refused_agreeing}
use Rattle.bank_orders.specs.Ask.{ask_peer}
use Rattle.x_base.specs.declared.verdict.Verdict.TheVariants.{UnknownKk}
use Rattle.bank_keys.specs.declared.waits.KeyAtCentre.{KeyAtCentre}
use Rattle.bank_keys.specs.Waiting.{waiting_by, waiting_in}
use Rattle.bank_orders.specs.Ask.{centre_front, centre_request, ask_centre, ask_of}
use Rattle.bank_orders.specs.Translate.{translate_tests, translate_reply, translate_drawn, translate_under}
use Rattle.change_code.specs.declared.space.Space.{Space}

abbrev translate_exchange : Party → List ℕ → List ℕ → LinkRec → ℕ → Exchange
translate_exchange p centre u l key = record { peer = centre; kind = kind.Translating u key l.next; text = text_of (translate_reply p centre u l key) }

module _ (v : Lists) (p : List ℕ) (x : Member) (space : Space) (at : member_at p v.members ≡ Some x) (i : Agreed v) where
  sent : AllSent x.party
  sent = i.sent p x at

  pub ask_agreeing : (text : List ℕ) (peer : List ℕ) (o : Option (List ℕ)) → Agreeing v x space text (ask_of x.party peer o)
  ask_agreeing text peer None = still_agreeing v p x space at i text (ask_peer x.party peer) refl tt tt tt
  ask_agreeing text peer (Some u) = record {
    back = backed v.members x.party (ask_centre x.party peer u).edits (tt, tt);
    news = news_put x.party (apply (ask_centre x.party peer u).edits x.party) (record { peer = peer; kind = kind.Asked u; text = text_of (Plain (centre_request x.party peer u)) }) refl refl;
    keys = unmoved refl;
    exchanges = sent_other x.party (apply (ask_centre x.party peer u).edits x.party) (record { peer = peer; kind = kind.Asked u; text = text_of (Plain (centre_request x.party peer u)) }) refl refl refl refl refl sent;
    waits = waits_put x.party (apply (ask_centre x.party peer u).edits x.party) (record { peer = peer; kind = kind.Asked u; text = text_of (Plain (centre_request x.party peer u)) }) refl refl;
    replies = tt;
    new = tt;
    accepts = tt;
  }

  pub translate_agreeing : (o : Option LinkKey) (text : List ℕ) (centre u : List ℕ) (l : LinkRec) (moment : ℕ) (drawn : Option (ℕ × Gen)) → good_draw x.party.generator moment ≡ drawn → link_with (sends centre centre_label) x.party ≡ Some l → IsSound o x.party text (translate_drawn x.party centre u l drawn) → Agreeing v x space text (translate_drawn x.party centre u l drawn)
  translate_agreeing o text centre u l moment None drew e sound = refused_agreeing v p x space at i text (verdict_of (centre_front x.party centre u ++ translate_tests l None))
  translate_agreeing o text centre u l moment (Some d) drew e sound = record {
    back = backed v.members x.party (translate_drawn x.party centre u l (Some d)).edits (tt, (inr (inr (l, at_key, refl, refl)), (tt, tt)));
    news = news_put x.party (apply (translate_drawn x.party centre u l (Some d)).edits x.party) (translate_exchange x.party centre u l d.0) refl refl;
    keys = unmoved refl;
    exchanges = sent_other x.party (apply (translate_drawn x.party centre u l (Some d)).edits x.party) (translate_exchange x.party centre u l d.0) refl refl refl refl refl sent;
    waits = waits_from x.party (apply (translate_drawn x.party centre u l (Some d)).edits x.party) (λ q g n j s. elim (ex_put x.party.exchanges (translate_exchange x.party centre u l d.0) q g j) [
      | inl a ↦ inr (l, subst (λ (z : List ℕ). link_with (sends z centre_label) x.party ≡ Some l) (sym a.0) e, at_count n (ap (λ (z : Exchange). waiting_by z.kind) a.1 ∙ s))
      | inr a ↦ inl a.0
    ]);
    replies = record {
      value = d.0;
      waits = record {
        party = after x space (translate_drawn x.party centre u l (Some d));
        at = after_is v p x space at i o (translate_drawn x.party centre u l (Some d)) grown;
        link = record l { next = l.next + 1 };
        found = put_at (sends centre centre_label) (record l { next = l.next + 1 }) x.party.links la.key;
        ready = i.centres p x centre l at e;
        below = omega arith;
        value_is = λ t j k. with_value t (sym (ap waiting_in (find_put_same exchange_key bytes_eq test_idents (translate_exchange x.party centre u l d.0) x.party.exchanges)) ∙ j);
      };
      opened = unwraps l.pair l.next d.0 (drawn_below x.party.generator moment d drew);
    };
    new = tt;
    accepts = tt;
  }
    where
      la : LinkAt x.party (sends centre centre_label) l
      la = link_at x.party (sends centre centre_label) l e

      at_key : link_with (link_key l) x.party ≡ Some l
      at_key = rw la.key e

      grown : PartyGrows o x.party (apply (translate_drawn x.party centre u l (Some d)).edits x.party)
      grown = change_grows o (translate_drawn x.party centre u l (Some d)).edits x.party sound.edits

      at_count : (n : KeyAtCentre) → Some (record { ultimate = u; value = d.0; cta = l.next }) ≡ Some n → l.next ≤ n.cta
      at_count n h = let k : l.next ≡ n.cta = ap (λ (z : KeyAtCentre). z.cta) (some_is (record { ultimate = u; value = d.0; cta = l.next }) n h) in omega (arith, k)

      with_value : (n : KeyAtCentre) → Some (record { ultimate = u; value = d.0; cta = l.next }) ≡ Some n → n.value ≡ d.0
      with_value n h = sym (ap (λ (z : KeyAtCentre). z.value) (some_is (record { ultimate = u; value = d.0; cta = l.next }) n h))

  pub translate_row_agreeing : (o : Option LinkKey) (text : List ℕ) (centre u : List ℕ) (found : Option LinkRec) (moment : ℕ) → link_with (sends centre centre_label) x.party ≡ found → IsSound o x.party text (translate_under x.party centre u found moment) → Agreeing v x space text (translate_under x.party centre u found moment)
  translate_row_agreeing o text centre u None moment e sound = refused_agreeing v p x space at i text (verdict_of (centre_front x.party centre u ++ (false, UnknownKk) ∷ []))
  translate_row_agreeing o text centre u (Some l) moment e sound = translate_agreeing o text centre u l moment (good_draw x.party.generator moment) refl e sound
