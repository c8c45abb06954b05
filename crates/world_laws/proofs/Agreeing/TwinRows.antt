-- Agreement: two keys are sent under a link.
use Rattle.std.proofs.Common.{arith, ◌≡◌, ◌≢◌, inl, inr, ℕ, ◌+◌, ◌<◌, ◌^◌, Option, Some, None, List, ◌++◌, refl, sym, ◌∙◌, ap, subst, bytes_eq}
use Rattle.x_base.specs.declared.key_name.KeyName.{KeyName}
use Rattle.x_base.specs.declared.key_name.FullName.{FullName}
use Rattle.x_gen.specs.declared.generator.Gen.{Gen}
use Rattle.x_gen.specs.Gen.{good_draw}
use Rattle.x_seal.specs.Wrapped.{wrap_of, unwrap_of}
use Rattle.x_seal.proofs.Undoing.{unwraps}
use Rattle.csm_grammar.specs.declared.message.Message.TheVariants as message
use Rattle.csm_grammar.specs.declared.message.KsmBody.TheVariants as body
use Rattle.csm_grammar.specs.declared.message.Ksm.{Ksm}
use Rattle.csm_write.specs.Canon.{auth_of}
use Rattle.party_tables.specs.declared.link.LinkKey.{LinkKey}
use Rattle.party_tables.specs.declared.link.LinkRec.{LinkRec}
use Rattle.party_tables.specs.declared.key.KeyRec.{KeyRec}
use Rattle.party_tables.specs.declared.key.RecordKey.{RecordKey}
use Rattle.party_tables.specs.declared.exchange.Exchange.{Exchange}
use Rattle.party_tables.specs.declared.exchange.Kind.TheVariants as kind
use Rattle.party_tables.specs.Tables.{find_row, put_row}
use Rattle.party_tables.specs.Keys.{same_link, same_record, link_key, record_key, exchange_key, sends}
use Rattle.party_tables.specs.Names.{name_behind}
use Rattle.party_state.specs.State.{Party, link_with, record_with, apply}
use Rattle.party_state.specs.Verdicts.{Test, verdict_of}
use Rattle.party_tables.proofs.Keys.{test_idents, test_records}
use Rattle.party_tables.proofs.Tables.{one_found, find_put_same}
use Rattle.role_base.specs.Texts.{text_of, no_extras}
use Rattle.role_base.specs.Sending.{next_name}
use Rattle.role_base.proofs.TwinKeys.{behind_other}
use Rattle.bank_arrivals.specs.declared.draws.TwinsDrawn.{TwinsDrawn}
use Rattle.bank_arrivals.specs.SendingTwins.{second_drawn, first_drawn, twins_drawn, twins_reply, first_pending, second_pending, twins_tests, twins_sending_drawn}
use Rattle.member.specs.Member.{Member}
use Rattle.world_laws.specs.World.{member_at}
use Rattle.world_laws.proofs.Texts.Drawn.{drawn_below}
use Rattle.world_laws.proofs.Links.Growth.{PartyGrows, change_grows}
use Rattle.world_laws.proofs.Links.Found.{SendingAt}
use Rattle.world_laws.proofs.Links.Putting.{put_at}
use Rattle.world_laws.proofs.Links.Waiting.{new_of}
use Rattle.world_laws.proofs.Counting.Sound.{IsSound}
use Rattle.world_laws.proofs.Agreeing.Lists.{Lists, after, facts_after, lists_after}
use Rattle.world_laws.proofs.Agreeing.Known.{Mine, counted, issued, Known, mine, theirs}
use Rattle.world_laws.proofs.Agreeing.Waiting.{sent_name_by, SendsName, SentOk, NewSent}
use Rattle.world_laws.proofs.Agreeing.KeyRecords.{put_beside, fresh, two}
use Rattle.world_laws.proofs.Agreeing.Facts.{at_peer, Carries, as_first, as_second, KsmFact}
use Rattle.world_laws.proofs.Agreeing.Exchanges.{ex_put, waits_put, sent_put_two}
use Rattle.world_laws.proofs.Agreeing.Backs.{backed}
use Rattle.world_laws.proofs.Agreeing.Moves.{Agreeing}
use Rattle.world_laws.proofs.Agreeing.Agreed.{Agreed}
use Rattle.world_laws.proofs.Agreeing.Steps.{some_is, after_is, refused_agreeing}
use Rattle.change_code.specs.declared.space.Space.{Space}

abbrev pub twins_exchange : Party → LinkRec → TwinsDrawn → Exchange
twins_exchange p l d = record { peer = l.peer; kind = kind.PairSent (next_name p l); text = text_of (twins_reply p l d) }

abbrev twins_ksm : Party → LinkRec → TwinsDrawn → Ksm
twins_ksm p l d = record { receiver = l.peer; originator = p.own; body = body.Twin (Some l.label) (wrap_of l.pair l.next d.first) (wrap_of l.pair (l.next + 1) d.second) l.next; extras = no_extras }

-- the name of the first key, with its recipient
abbrev first_full : Party → LinkRec → FullName
first_full p l = record { name = next_name p l; recipient = l.peer }

-- both keys have 64 bits
pub record TwinsBelow (d : TwinsDrawn) : Type 0 where
  pub first : d.first < 2 ^ 64
  pub second : d.second < 2 ^ 64

pub twins_below : (g : Gen) (moment : ℕ) (d : TwinsDrawn) → twins_drawn g moment ≡ Some d → TwinsBelow d
unfolding twins_drawn
twins_below g moment d h = by_first (good_draw g moment) refl h
  where
    by_second : (a : ℕ × Gen) → good_draw g moment ≡ Some a → (o : Option (ℕ × Gen)) → good_draw a.1 moment ≡ o → second_drawn a.0 o ≡ Some d → TwinsBelow d
    by_second a f None e h = absurd (cc)
    by_second a f (Some b) e h =
        let made : TwinsDrawn = record { first = a.0; second = b.0; v = b.1.v } in
        let is : made ≡ d = cc in
        subst TwinsBelow is (record { first = drawn_below g moment a f; second = drawn_below a.1 moment b e })

    by_first : (o : Option (ℕ × Gen)) → good_draw g moment ≡ o → first_drawn moment o ≡ Some d → TwinsBelow d
    by_first None e h = absurd (cc)
    by_first (Some a) e h = by_second a e (good_draw a.1 moment) refl h

module _ (v : Lists) (p : List ℕ) (x : Member) (space : Space) (at : member_at p v.members ≡ Some x) (i : Agreed v) where
  -- a name from the next count on is no one's yet
  later_absent : (l : LinkRec) (k : RecordKey) → link_with (sends l.peer l.label) x.party ≡ Some l → k.peer ≡ l.peer → k.name.label ≡ l.label → k.name.issuer ≡ x.party.own → k.name.originator ≡ x.party.own → (u : KeyRec) → record_with k x.party ≡ Some u → k.name.count < l.next
  later_absent l k at_l peer label issuer originator u j = known_low (i.known p x at k u j)
    where
      mine_low : Mine v.facts x.party k → k.name.count < l.next
      mine_low (counted o m f rd below) =
          let f_l : link_with (sends l.peer l.label) x.party ≡ Some m = subst (λ (z : LinkKey). link_with z x.party ≡ Some m) (λ h. sends (peer h) (label h)) f in
          let n : m.next ≡ l.next = ap (λ (y : LinkRec). y.next) (one_found m l f_l at_l) in
          omega (arith, below, n)
      mine_low (issued o a) = absurd (o issuer)

      known_low : Known v x.party k → k.name.count < l.next
      known_low (mine o m) = mine_low m
      known_low (theirs o f a) = absurd (o originator)

  pub twins_agreeing : (text : List ℕ) (front : List Test) (peer : List ℕ) (l : LinkRec) (drawn : Option TwinsDrawn) → ((d : TwinsDrawn) → drawn ≡ Some d → TwinsBelow d) → SendingAt x.party peer l → IsSound None x.party text (twins_sending_drawn x.party front l drawn) → Agreeing v x space text (twins_sending_drawn x.party front l drawn)
  twins_agreeing text front peer l None low s sound = refused_agreeing v p x space at i text (verdict_of (front ++ twins_tests x.party l None))
  twins_agreeing text front peer l (Some d) low s sound = record {
    back = backed v.members x.party (twins_sending_drawn x.party front l (Some d)).edits (tt, (inr (inr (l, at_key, refl, refl)), (tt, (tt, (tt, tt)))));
    news = λ q e name new j nm w. elim (ex_put x.party.exchanges (twins_exchange x.party l d) q e j) [
      | inl a ↦ inr (new_sent q e name a.0 a.1 nm)
      | inr a ↦ inl a.0
    ];
    keys = two (first_pending x.party l d) (second_pending x.party l d) differ refl
        (record { put = fresh l at_l (omega arith) refl refl; live = λ no own. absurd no; known = mine refl (counted refl up at_up s.ready (omega arith)); gone = λ u j held. absurd (let low = later_absent l (record_key (first_pending x.party l d)) at_l refl refl refl refl u j in omega (arith, low)) })
        (record { put = fresh l at_l (omega arith) refl refl; live = λ no own. absurd no; known = mine refl (counted refl up at_up s.ready (omega arith)); gone = λ u j held. absurd (let low = later_absent l (record_key (second_pending x.party l d)) at_l refl refl refl refl u j in omega (arith, low)) });
    exchanges = sent_put_two x.party (apply (twins_sending_drawn x.party front l (Some d)).edits x.party) (twins_exchange x.party l d) (first_pending x.party l d) (second_pending x.party l d) refl refl refl refl refl sends_ok (i.sent p x at);
    waits = waits_put x.party (apply (twins_sending_drawn x.party front l (Some d)).edits x.party) (twins_exchange x.party l d) refl refl;
    replies = the_fact;
    new = (refl, inl (record { link = l; found = at_l; low = omega arith; issuer = refl }));
    accepts = tt;
  }
    where
      up : LinkRec
      up = record l { next = l.next + 2 }

      key : link_key l ≡ sends l.peer l.label
      key j = record { peer = l.peer; label = l.label; side = (ap (λ (k : LinkKey). k.side) s.at.key) j }

      at_key : link_with (link_key l) x.party ≡ Some l
      at_key = rw s.at.key s.at.found

      at_l : link_with (sends l.peer l.label) x.party ≡ Some l
      at_l = subst (λ (k : LinkKey). link_with k x.party ≡ Some l) key at_key

      at_up : find_row link_key same_link (sends l.peer l.label) (put_row link_key same_link (record l { next = l.next + 2 }) x.party.links) ≡ Some (record l { next = l.next + 2 })
      at_up = put_at (sends l.peer l.label) (record l { next = l.next + 2 }) x.party.links key

      grown : PartyGrows None x.party (apply (twins_sending_drawn x.party front l (Some d)).edits x.party)
      grown = change_grows None (twins_sending_drawn x.party front l (Some d)).edits x.party sound.edits

      differ : record_key (second_pending x.party l d) ≢ record_key (first_pending x.party l d)
      differ = behind_other (record_key (first_pending x.party l d)) (record_key (second_pending x.party l d)) refl

      below : TwinsBelow d
      below = low d refl

      new_sent : (q : List ℕ) (e : Exchange) (name : KeyName) → q ≡ l.peer → twins_exchange x.party l d ≡ e → sent_name_by e.kind ≡ Some name → NewSent x.party q name
      new_sent q e name q_is same nm =
          let n_is : next_name x.party l ≡ name = some_is (next_name x.party l) name (ap (λ (z : Exchange). sent_name_by z.kind) same ∙ nm) in
          let base : NewSent x.party l.peer (next_name x.party l) = record { link = l; found = at_l; low = omega arith; issuer = refl } in
          subst (λ (z : List ℕ). NewSent x.party z name) (sym q_is) (subst (λ (z : KeyName). NewSent x.party l.peer z) n_is base)

      -- the two records stand afterwards
      first_now : find_row record_key same_record (record_key (first_pending x.party l d)) (put_row record_key same_record (second_pending x.party l d) (put_row record_key same_record (first_pending x.party l d) x.party.keys)) ≡ Some (first_pending x.party l d)
      first_now = put_beside (put_row record_key same_record (first_pending x.party l d) x.party.keys) (record_key (first_pending x.party l d)) (second_pending x.party l d) (λ e. differ (sym e)) ∙ find_put_same record_key same_record test_records (first_pending x.party l d) x.party.keys

      second_now : find_row record_key same_record (record_key (second_pending x.party l d)) (put_row record_key same_record (second_pending x.party l d) (put_row record_key same_record (first_pending x.party l d) x.party.keys)) ≡ Some (second_pending x.party l d)
      second_now = find_put_same record_key same_record test_records (second_pending x.party l d) (put_row record_key same_record (first_pending x.party l d) x.party.keys)

      sends_ok : (name : KeyName) → SendsName (kind.PairSent (next_name x.party l)) name → SentOk (apply (twins_sending_drawn x.party front l (Some d)).edits x.party) l.peer name
      sends_ok name (inl h) =
          let is : next_name x.party l ≡ name = some_is (next_name x.party l) name h in
          subst (SentOk (apply (twins_sending_drawn x.party front l (Some d)).edits x.party) l.peer) is (record { own = refl; pending = λ r f. ap (λ (z : KeyRec). z.status) (one_found r (first_pending x.party l d) f first_now) })
      sends_ok name (inr h) =
          let is : name_behind (next_name x.party l) ≡ name = some_is (name_behind (next_name x.party l)) name h in
          subst (SentOk (apply (twins_sending_drawn x.party front l (Some d)).edits x.party) l.peer) is (record { own = refl; pending = λ r f. ap (λ (z : KeyRec). z.status) (one_found r (second_pending x.party l d) f second_now) })

      past : (u : FullName) (value : ℕ) → Carries l.pair x.party.own l.peer (twins_ksm x.party l d).body (first_full x.party l) u value → Mine (facts_after v.facts x (twins_sending_drawn x.party front l (Some d)).reply) (apply (twins_sending_drawn x.party front l (Some d)).edits x.party) (at_peer u)
      past u value (as_first e w) = subst (λ (z : FullName). Mine (facts_after v.facts x (twins_sending_drawn x.party front l (Some d)).reply) (apply (twins_sending_drawn x.party front l (Some d)).edits x.party) (at_peer z)) (sym e) (counted refl up at_up s.ready (omega arith))
      past u value (as_second kd k e w) = subst (λ (z : FullName). Mine (facts_after v.facts x (twins_sending_drawn x.party front l (Some d)).reply) (apply (twins_sending_drawn x.party front l (Some d)).edits x.party) (at_peer z)) (sym e) (counted refl up at_up s.ready (omega arith))

      values : (u : FullName) (value : ℕ) → Carries l.pair x.party.own l.peer (twins_ksm x.party l d).body (first_full x.party l) u value → (r : KeyRec) → record_with (at_peer u) (apply (twins_sending_drawn x.party front l (Some d)).edits x.party) ≡ Some r → r.value ≡ value
      values u value (as_first e w) r g =
          let f : record_with (record_key (first_pending x.party l d)) (apply (twins_sending_drawn x.party front l (Some d)).edits x.party) ≡ Some r = subst (λ (z : FullName). record_with (at_peer z) (apply (twins_sending_drawn x.party front l (Some d)).edits x.party) ≡ Some r) e g in
          ap (λ (z : KeyRec). z.value) (one_found r (first_pending x.party l d) f first_now) ∙ (sym (unwraps l.pair l.next d.first below.first) ∙ sym w)
      values u value (as_second kd k e w) r g =
          let f : record_with (record_key (second_pending x.party l d)) (apply (twins_sending_drawn x.party front l (Some d)).edits x.party) ≡ Some r = subst (λ (z : FullName). record_with (at_peer z) (apply (twins_sending_drawn x.party front l (Some d)).edits x.party) ≡ Some r) e g in
          let kd_is : wrap_of l.pair (l.next + 1) d.second ≡ kd = some_is (wrap_of l.pair (l.next + 1) d.second) kd k in
          ap (λ (z : KeyRec). z.value) (one_found r (second_pending x.party l d) f second_now) ∙ (sym (unwraps l.pair (l.next + 1) d.second below.second) ∙ (ap (λ (n : ℕ). unwrap_of l.pair (l.next + 1) n) kd_is ∙ sym w))

      the_fact : KsmFact (lists_after v x space text (twins_sending_drawn x.party front l (Some d))) (record { under = record { name = next_name x.party l; recipient = l.peer }; text = auth_of (message.Ksm (twins_ksm x.party l d)); maker = x.party.own }) (twins_ksm x.party l d)
      the_fact = record {
        label = l.label;
        under = refl;
        issuer = after x space (twins_sending_drawn x.party front l (Some d));
        at_issuer = after_is v p x space at i None (twins_sending_drawn x.party front l (Some d)) grown;
        link = up;
        found = at_up;
        ready = s.ready;
        party = after x space (twins_sending_drawn x.party front l (Some d));
        at = after_is v p x space at i None (twins_sending_drawn x.party front l (Some d)) grown;
        past = past;
        value = values;
        waits = λ e new j nm w. absurd (let same : twins_exchange x.party l d ≡ e = one_found (twins_exchange x.party l d) e (find_put_same exchange_key bytes_eq test_idents (twins_exchange x.party l d) x.party.exchanges) j in let g : None ≡ Some new = ap (λ (z : Exchange). new_of z.kind) same ∙ w in cc);
        twins = λ e j is. (wrap_of l.pair (l.next + 1) d.second, refl);
      }
