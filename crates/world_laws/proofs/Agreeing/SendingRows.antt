-- Agreement: a key is sent under a link, also with a new key-encrypting key.
use Rattle.std.proofs.Common.{◌^◌}
use Rattle.std.proofs.Common.{arith, ◌≡◌, inl, inr, ℕ, ◌<◌, ◌+◌, Bool, true, false, Option, Some, None, List, ◌++◌, refl, sym, ◌∙◌, ap, subst, bytes_eq}
use Rattle.x_base.specs.declared.key_name.KeyName.{KeyName}
use Rattle.x_mac.specs.declared.pair.Pair.{Pair}
use Rattle.x_seal.specs.Wrapped.{unwrap_of}
use Rattle.csm_grammar.specs.declared.message.Message.TheVariants as message
use Rattle.csm_grammar.specs.declared.message.Ksm.{Ksm}
use Rattle.csm_write.specs.Canon.{auth_of}
use Rattle.party_tables.specs.declared.link.LinkKey.{LinkKey}
use Rattle.party_tables.specs.declared.link.LinkRec.{LinkRec}
use Rattle.party_tables.specs.declared.key.KeyRec.{KeyRec}
use Rattle.party_tables.specs.declared.key.KeyStatus.TheVariants.{Pending}
use Rattle.party_tables.specs.declared.exchange.Exchange.{Exchange}
use Rattle.party_tables.specs.declared.exchange.Kind.TheVariants as kind
use Rattle.party_tables.specs.Tables.{find_row, put_row}
use Rattle.party_tables.specs.Keys.{same_record, record_key, exchange_key, sends}
use Rattle.party_state.specs.State.{Party, link_with, record_with, apply}
use Rattle.party_tables.proofs.Keys.{test_idents, test_records}
use Rattle.party_tables.proofs.Tables.{one_found}
use Rattle.bank_keys.specs.Ksm.{opened_kk}
use Rattle.member.specs.Member.{Member}
use Rattle.world_laws.specs.World.{member_at}
use Rattle.world_laws.proofs.Links.Growth.{PartyGrows}
use Rattle.world_laws.proofs.Links.Waiting.{new_of}
use Rattle.party_tables.proofs.Tables.{find_put_same}
use Rattle.world_laws.proofs.Agreeing.Waiting.{sent_name_by, second_name_by}
use Rattle.world_laws.proofs.Links.Growth.{PartyGrows}
use Rattle.world_laws.proofs.Agreeing.Lists.{Lists, after, facts_after, lists_after}
use Rattle.world_laws.proofs.Agreeing.Known.{Known}
use Rattle.world_laws.proofs.Agreeing.Moves.{Agreeing}
use Rattle.world_laws.proofs.Agreeing.Agreed.{Agreed}
use Rattle.x_gen.specs.declared.generator.Gen.{Gen}
use Rattle.x_gen.specs.Gen.{good_draw}
use Rattle.x_gen.specs.Parity.{odd_parity_of}
use Rattle.x_seal.specs.Wrapped.{wrap_of, unwrap_of}
use Rattle.csm_grammar.specs.declared.message.KsmBody.TheVariants as body
use Rattle.party_tables.specs.declared.exchange.Via.TheVariants as vias
use Rattle.party_tables.specs.Keys.{link_key, same_link}
use Rattle.party_state.specs.Verdicts.{Test, verdict_of, is_accept}
use Rattle.role_base.specs.Texts.{text_of, no_extras}
use Rattle.role_base.specs.Sending.{next_name, data_key_reply, sending_tests, sending_drawn}
use Rattle.bank_orders.specs.Start.{start_tests}
use Rattle.world_laws.proofs.Links.Growth.{change_grows}
use Rattle.world_laws.proofs.Links.Found.{SendingAt}
use Rattle.world_laws.proofs.Links.Putting.{put_at}
use Rattle.world_laws.proofs.Counting.Sound.{IsSound}
use Rattle.x_seal.proofs.Undoing.{unwraps}
use Rattle.world_laws.proofs.Texts.Drawn.{drawn_below}
use Rattle.world_laws.proofs.Texts.Drawn.{drawn_odd}
use Rattle.world_laws.proofs.Agreeing.Known.{Mine, counted, issued, mine, theirs}
use Rattle.world_laws.proofs.Agreeing.KeyRecords.{fresh, one}
use Rattle.x_base.specs.declared.key_name.FullName.{FullName}
use Rattle.party_tables.specs.Names.{name_behind}
use Rattle.world_laws.proofs.Agreeing.Facts.{at_peer, Carries, carries_one, KsmFact}
use Rattle.world_laws.proofs.Agreeing.Waiting.{NewFits, NewSent}
use Rattle.world_laws.proofs.Agreeing.Exchanges.{ex_put, waits_put, news_put, sent_put}
use Rattle.world_laws.proofs.Agreeing.Backs.{backed}
use Rattle.world_laws.proofs.Agreeing.Steps.{some_is, after_is, refused_agreeing}
use Rattle.bank_orders.specs.declared.draws.KkDrawn.{KkDrawn}
use Rattle.bank_orders.specs.Draws.{key_drawn, right_drawn, left_drawn, kk_drawn}
use Rattle.bank_orders.specs.StartKk.{sealed_kk, kk_tests, kk_reply, kk_edits, fresh_link, kk_sending}
use Rattle.world_laws.proofs.Sound.NewKks.{kk_up, kk_fresh, kk_at, kk_at_key}
use Rattle.change_code.specs.declared.space.Space.{Space}

abbrev pub sent_record : Party → LinkRec → ℕ → KeyRec
sent_record p l key = record { peer = l.peer; name = next_name p l; value = key; status = Pending }

abbrev sent_exchange : Party → LinkRec → ℕ → Exchange
sent_exchange p l key = record { peer = l.peer; kind = kind.KeySent (next_name p l) (vias.Direct l.label None); text = text_of (data_key_reply p l key) }

abbrev sent_ksm : Party → LinkRec → ℕ → Ksm
sent_ksm p l key = record { receiver = l.peer; originator = p.own; body = body.Direct (Some l.label) None (wrap_of l.pair l.next key) l.next; extras = no_extras }

abbrev pub kk_exchange : Party → LinkRec → List ℕ → Bool → KkDrawn → Exchange
kk_exchange p l new single d = record { peer = l.peer; kind = kind.KeySent (next_name p l) (vias.Direct l.label (Some new)); text = text_of (kk_reply p l new single d) }

abbrev kk_ksm : Party → LinkRec → List ℕ → Bool → KkDrawn → Ksm
kk_ksm p l new single d = record { receiver = l.peer; originator = p.own; body = body.Direct (Some l.label) (Some (new, sealed_kk l.pair l.next single d.pair)) (wrap_of d.pair 1 d.key) l.next; extras = no_extras }

-- a drawn new key-encrypting key

pub record IsDrawn (key : ℕ) : Type 0 where
  pub odd : odd_parity_of key ≡ key
  pub below : key < 2 ^ 64

pub record KkSound (single : Bool) (d : KkDrawn) : Type 0 where
  pub left : IsDrawn d.pair.left
  pub right : IsDrawn d.pair.right
  pub key : d.key < 2 ^ 64
  pub halves : single ≡ true → d.pair.left ≡ d.pair.right

half_is : (pair : Pair) (count key : ℕ) → IsDrawn key → odd_parity_of (unwrap_of pair count (wrap_of pair count key)) ≡ key
half_is pair count key d = ap odd_parity_of (unwraps pair count key d.below) ∙ d.odd

-- what is sealed is opened
pub opened_is : (pair : Pair) (count : ℕ) (single : Bool) (d : KkDrawn) → KkSound single d → opened_kk pair count (sealed_kk pair count single d.pair) ≡ d.pair
opened_is pair count true d k =
    let a : odd_parity_of (unwrap_of pair count (wrap_of pair count d.pair.left)) ≡ d.pair.left = half_is pair count d.pair.left k.left in
    λ i. record { left = a i; right = (a ∙ k.halves refl) i }
opened_is pair count false d k =
    let a : odd_parity_of (unwrap_of pair count (wrap_of pair count d.pair.left)) ≡ d.pair.left = half_is pair count d.pair.left k.left in
    let b : odd_parity_of (unwrap_of pair count (wrap_of pair count d.pair.right)) ≡ d.pair.right = half_is pair count d.pair.right k.right in
    λ i. record { left = a i; right = b i }

is_drawn : (g : Gen) (moment : ℕ) (d : ℕ × Gen) → good_draw g moment ≡ Some d → IsDrawn d.0
is_drawn g moment d h = record { odd = drawn_odd g moment d h; below = drawn_below g moment d h }

key_pair : (new : Pair) (g : Gen) (moment : ℕ) (o : Option (ℕ × Gen)) (d : KkDrawn) → good_draw g moment ≡ o → key_drawn new o ≡ Some d → (d.pair ≡ new) × (d.key < 2 ^ 64)
key_pair new g moment None d i h = absurd (cc)
key_pair new g moment (Some e) d i h =
    let made : KkDrawn = record { pair = new; key = e.0; v = e.1.v } in
    let is : made ≡ d = cc in
    (ap (λ (z : KkDrawn). z.pair) (sym is), subst (λ (z : KkDrawn). z.key < 2 ^ 64) is (drawn_below g moment e i))

pub kk_draw_sound : (g : Gen) (moment : ℕ) (single : Bool) (d : KkDrawn) → kk_drawn g moment single ≡ Some d → KkSound single d
unfolding kk_drawn
kk_draw_sound g moment single d h = go single (good_draw g moment) refl h
  where
    right_in : (left : ℕ × Gen) (o : Option (ℕ × Gen)) → IsDrawn left.0 → good_draw left.1 moment ≡ o → right_drawn moment left.0 o ≡ Some d → KkSound false d
    right_in left None a j e = absurd (cc)
    right_in left (Some right) a j e =
        let b : IsDrawn right.0 = is_drawn left.1 moment right j in
        let s = key_pair (record { left = left.0; right = right.0 }) right.1 moment (good_draw right.1 moment) d refl e in
        record { left = subst (λ (z : Pair). IsDrawn z.left) (sym s.0) a; right = subst (λ (z : Pair). IsDrawn z.right) (sym s.0) b; key = s.1; halves = λ f. absurd (cc) }

    go : (b : Bool) (o : Option (ℕ × Gen)) → good_draw g moment ≡ o → left_drawn moment b o ≡ Some d → KkSound b d
    go b None i e = absurd (cc)
    go true (Some left) i e =
        let a : IsDrawn left.0 = is_drawn g moment left i in
        let s = key_pair (record { left = left.0; right = left.0 }) left.1 moment (good_draw left.1 moment) d refl e in
        record { left = subst (λ (z : Pair). IsDrawn z.left) (sym s.0) a; right = subst (λ (z : Pair). IsDrawn z.right) (sym s.0) a; key = s.1; halves = λ f. subst (λ (z : Pair). z.left ≡ z.right) (sym s.0) refl }
    go false (Some left) i e = right_in left (good_draw left.1 moment) (is_drawn g moment left i) refl e

module _ (v : Lists) (p : List ℕ) (x : Member) (space : Space) (at : member_at p v.members ≡ Some x) (i : Agreed v) where
  -- the name that goes next is no one's yet
  pub next_absent : (l : LinkRec) (key : ℕ) → link_with (sends l.peer l.label) x.party ≡ Some l → (u : KeyRec) → record_with (record_key (sent_record x.party l key)) x.party ≡ Some u → ⊥
  next_absent l key at_l u j = known_not (i.known p x at (record_key (sent_record x.party l key)) u j)
    where
      mine_not : Mine v.facts x.party (record_key (sent_record x.party l key)) → ⊥
      mine_not (counted o m f rd below) = let n : m.next ≡ l.next = ap (λ (y : LinkRec). y.next) (one_found m l f at_l) in omega (arith, below, n)
      mine_not (issued o a) = o refl

      known_not : Known v x.party (record_key (sent_record x.party l key)) → ⊥
      known_not (mine o m) = mine_not m
      known_not (theirs o f a) = o refl

  pub sending_agreeing : (text : List ℕ) (front : List Test) (peer : List ℕ) (l : LinkRec) (moment : ℕ) (drawn : Option (ℕ × Gen)) → good_draw x.party.generator moment ≡ drawn → SendingAt x.party peer l → IsSound None x.party text (sending_drawn x.party front l drawn) → Agreeing v x space text (sending_drawn x.party front l drawn)
  sending_agreeing text front peer l moment None drew s sound = refused_agreeing v p x space at i text (verdict_of (front ++ sending_tests x.party l None))
  sending_agreeing text front peer l moment (Some d) drew s sound = record {
    back = backed v.members x.party (sending_drawn x.party front l (Some d)).edits (tt, (inr (inr (l, at_key, refl, refl)), (tt, (tt, tt))));
    news = news_put x.party (apply (sending_drawn x.party front l (Some d)).edits x.party) (sent_exchange x.party l d.0) refl refl;
    keys = one (sent_record x.party l d.0) refl (record { put = fresh l at_l (omega arith) refl refl; live = λ no own. absurd no; known = mine refl (counted refl up at_up s.ready (omega arith)); gone = λ u j held. absurd (next_absent l d.0 at_l u j) });
    exchanges = sent_put x.party (apply (sending_drawn x.party front l (Some d)).edits x.party) (sent_exchange x.party l d.0) (sent_record x.party l d.0) refl refl refl refl (λ name q. (let n : next_name x.party l ≡ name = some_is (next_name x.party l) name q in (sym n, ap (λ (m : KeyName). m.originator) (sym n), refl))) refl (i.sent p x at);
    waits = waits_put x.party (apply (sending_drawn x.party front l (Some d)).edits x.party) (sent_exchange x.party l d.0) refl refl;
    replies = the_fact;
    new = (refl, inl (record { link = l; found = at_l; low = omega arith; issuer = refl }));
    accepts = tt;
  }
    where
      up : LinkRec
      up = record l { next = l.next + 1 }

      key : link_key l ≡ sends l.peer l.label
      key j = record { peer = l.peer; label = l.label; side = (ap (λ (k : LinkKey). k.side) s.at.key) j }

      at_key : link_with (link_key l) x.party ≡ Some l
      at_key = rw s.at.key s.at.found

      at_l : link_with (sends l.peer l.label) x.party ≡ Some l
      at_l = subst (λ (k : LinkKey). link_with k x.party ≡ Some l) key at_key

      at_up : find_row link_key same_link (sends l.peer l.label) (put_row link_key same_link (record l { next = l.next + 1 }) x.party.links) ≡ Some (record l { next = l.next + 1 })
      at_up = put_at (sends l.peer l.label) (record l { next = l.next + 1 }) x.party.links key

      grown : PartyGrows None x.party (apply (sending_drawn x.party front l (Some d)).edits x.party)
      grown = change_grows None (sending_drawn x.party front l (Some d)).edits x.party sound.edits

      alone : (u : FullName) (value : ℕ) → Carries l.pair x.party.own l.peer (sent_ksm x.party l d.0).body (record { name = next_name x.party l; recipient = l.peer }) u value → (u ≡ record { name = next_name x.party l; recipient = l.peer }) × (value ≡ unwrap_of l.pair l.next (wrap_of l.pair l.next d.0))
      alone u value c = carries_one l.pair x.party.own l.peer (sent_ksm x.party l d.0).body (record { name = next_name x.party l; recipient = l.peer }) u value refl c

      the_fact : KsmFact (lists_after v x space text (sending_drawn x.party front l (Some d))) (record { under = record { name = next_name x.party l; recipient = l.peer }; text = auth_of (message.Ksm (sent_ksm x.party l d.0)); maker = x.party.own }) (sent_ksm x.party l d.0)
      the_fact = record {
        label = l.label;
        under = refl;
        issuer = after x space (sending_drawn x.party front l (Some d));
        at_issuer = after_is v p x space at i None (sending_drawn x.party front l (Some d)) grown;
        link = up;
        found = at_up;
        ready = s.ready;
        party = after x space (sending_drawn x.party front l (Some d));
        at = after_is v p x space at i None (sending_drawn x.party front l (Some d)) grown;
        past = λ u value c. subst (λ (z : FullName). Mine (facts_after v.facts x (sending_drawn x.party front l (Some d)).reply) (apply (sending_drawn x.party front l (Some d)).edits x.party) (at_peer z)) (sym (alone u value c).0) (counted refl up at_up s.ready (omega arith));
        value = λ u value c n g. (let f : record_with (record_key (sent_record x.party l d.0)) (apply (sending_drawn x.party front l (Some d)).edits x.party) ≡ Some n = subst (λ (z : FullName). record_with (at_peer z) (apply (sending_drawn x.party front l (Some d)).edits x.party) ≡ Some n) (alone u value c).0 g in let k : sent_record x.party l d.0 ≡ n = one_found (sent_record x.party l d.0) n (find_put_same record_key same_record test_records (sent_record x.party l d.0) x.party.keys) f in ap (λ (z : KeyRec). z.value) (sym k) ∙ (sym (unwraps l.pair l.next d.0 (drawn_below x.party.generator moment d drew)) ∙ sym (alone u value c).1));
        twins = λ e j is. absurd (let same : sent_exchange x.party l d.0 ≡ e = one_found (sent_exchange x.party l d.0) e (find_put_same exchange_key bytes_eq test_idents (sent_exchange x.party l d.0) x.party.exchanges) j in let g : None ≡ Some (name_behind (next_name x.party l)) = ap (λ (z : Exchange). second_name_by z.kind) same ∙ ap second_name_by is in cc);
        waits = λ e new j nm w. absurd (let same : sent_exchange x.party l d.0 ≡ e = one_found (sent_exchange x.party l d.0) e (find_put_same exchange_key bytes_eq test_idents (sent_exchange x.party l d.0) x.party.exchanges) j in let g : None ≡ Some new = ap (λ (z : Exchange). new_of z.kind) same ∙ w in cc);
      }

  -- with a new key-encrypting key
  pub kk_agreeing : (text : List ℕ) (peer new : List ℕ) (single : Bool) (l : LinkRec) (drawn : Option KkDrawn) → ((d : KkDrawn) → drawn ≡ Some d → KkSound single d) → SendingAt x.party peer l → is_accept (kk_sending x.party (start_tests x.party peer (Some l)) l new single drawn).verdict ≡ true → (o : Option LinkKey) → IsSound o x.party text (kk_sending x.party (start_tests x.party peer (Some l)) l new single drawn) → Agreeing v x space text (kk_sending x.party (start_tests x.party peer (Some l)) l new single drawn)
  kk_agreeing text peer new single l None made s h o sound = refused_agreeing v p x space at i text (verdict_of (start_tests x.party peer (Some l) ++ kk_tests x.party l new None))
  kk_agreeing text peer new single l (Some d) made s h o sound = record {
    back = backed v.members x.party (kk_edits x.party l new single d) (tt, (inr (inr (l, kk_at_key x.party text peer new single l d s h, refl, refl)), (inr (inl refl), (tt, (tt, tt)))));
    news = λ q e name new' j nm w. elim (ex_put x.party.exchanges (kk_exchange x.party l new single d) q e j) [
      | inl a ↦ inr (new_sent q e name a.0 a.1 nm)
      | inr a ↦ inl a.0
    ];
    keys = one (sent_record x.party l d.key) refl (record { put = fresh l at_l (omega arith) refl refl; live = λ no own. absurd no; known = mine refl (counted refl up at_up s.ready (omega arith)); gone = λ u j held. absurd (next_absent l d.key at_l u j) });
    exchanges = sent_put x.party (apply (kk_edits x.party l new single d) x.party) (kk_exchange x.party l new single d) (sent_record x.party l d.key) refl refl refl refl (λ name q. (let m : next_name x.party l ≡ name = some_is (next_name x.party l) name q in (sym m, ap (λ (z : KeyName). z.originator) (sym m), refl))) refl (i.sent p x at);
    waits = waits_put x.party (apply (kk_edits x.party l new single d) x.party) (kk_exchange x.party l new single d) refl refl;
    replies = the_fact;
    new = (refl, inl (record { link = l; found = at_l; low = omega arith; issuer = refl }));
    accepts = tt;
  }
    where
      up : LinkRec
      up = record l { next = l.next + 1 }

      at_l : link_with (sends l.peer l.label) x.party ≡ Some l
      at_l = kk_at x.party text peer new single l d s h

      at_up : link_with (sends l.peer l.label) (apply (kk_edits x.party l new single d) x.party) ≡ Some (record l { next = l.next + 1 })
      at_up = kk_up x.party text peer new single l d s h

      ks : KkSound single d
      ks = made d refl

      grown : PartyGrows o x.party (apply (kk_edits x.party l new single d) x.party)
      grown = change_grows o (kk_edits x.party l new single d) x.party sound.edits

      new_sent : (q : List ℕ) (e : Exchange) (name : KeyName) → q ≡ l.peer → kk_exchange x.party l new single d ≡ e → sent_name_by e.kind ≡ Some name → NewSent x.party q name
      new_sent q e name q_is same nm =
          let n_is : next_name x.party l ≡ name = some_is (next_name x.party l) name (ap (λ (z : Exchange). sent_name_by z.kind) same ∙ nm) in
          let base : NewSent x.party l.peer (next_name x.party l) = record { link = l; found = at_l; low = omega arith; issuer = refl } in
          subst (λ (z : List ℕ). NewSent x.party z name) (sym q_is) (subst (λ (z : KeyName). NewSent x.party l.peer z) n_is base)

      key_is : d.key ≡ unwrap_of (opened_kk l.pair l.next (sealed_kk l.pair l.next single d.pair)) 1 (wrap_of d.pair 1 d.key)
      key_is = sym (unwraps d.pair 1 d.key ks.key) ∙ ap (λ (z : Pair). unwrap_of z 1 (wrap_of d.pair 1 d.key)) (sym (opened_is l.pair l.next single d ks))

      fits : (m : LinkRec) → link_with (sends l.peer new) (apply (kk_edits x.party l new single d) x.party) ≡ Some m → m.pair ≡ opened_kk l.pair l.next (sealed_kk l.pair l.next single d.pair)
      fits m f = ap (λ (z : LinkRec). z.pair) (one_found m (fresh_link l new d.pair) f (kk_fresh x.party text peer new single l d s h)) ∙ sym (opened_is l.pair l.next single d ks)

      alone : (u : FullName) (value : ℕ) → Carries l.pair x.party.own l.peer (kk_ksm x.party l new single d).body (record { name = next_name x.party l; recipient = l.peer }) u value → (u ≡ record { name = next_name x.party l; recipient = l.peer }) × (value ≡ unwrap_of (opened_kk l.pair l.next (sealed_kk l.pair l.next single d.pair)) 1 (wrap_of d.pair 1 d.key))
      alone u value c = carries_one l.pair x.party.own l.peer (kk_ksm x.party l new single d).body (record { name = next_name x.party l; recipient = l.peer }) u value refl c

      the_fact : KsmFact (lists_after v x space text (kk_sending x.party (start_tests x.party peer (Some l)) l new single (Some d))) (record { under = record { name = next_name x.party l; recipient = l.peer }; text = auth_of (message.Ksm (kk_ksm x.party l new single d)); maker = x.party.own }) (kk_ksm x.party l new single d)
      the_fact = record {
        label = l.label;
        under = refl;
        issuer = after x space (kk_sending x.party (start_tests x.party peer (Some l)) l new single (Some d));
        at_issuer = after_is v p x space at i o (kk_sending x.party (start_tests x.party peer (Some l)) l new single (Some d)) grown;
        link = up;
        found = at_up;
        ready = s.ready;
        party = after x space (kk_sending x.party (start_tests x.party peer (Some l)) l new single (Some d));
        at = after_is v p x space at i o (kk_sending x.party (start_tests x.party peer (Some l)) l new single (Some d)) grown;
        past = λ u value c. subst (λ (z : FullName). Mine (facts_after v.facts x (kk_sending x.party (start_tests x.party peer (Some l)) l new single (Some d)).reply) (apply (kk_edits x.party l new single d) x.party) (at_peer z)) (sym (alone u value c).0) (counted refl up at_up s.ready (omega arith));
        value = λ u value c m g. (let f : record_with (record_key (sent_record x.party l d.key)) (apply (kk_edits x.party l new single d) x.party) ≡ Some m = subst (λ (z : FullName). record_with (at_peer z) (apply (kk_edits x.party l new single d) x.party) ≡ Some m) (alone u value c).0 g in let k : sent_record x.party l d.key ≡ m = one_found (sent_record x.party l d.key) m (find_put_same record_key same_record test_records (sent_record x.party l d.key) x.party.keys) f in ap (λ (z : KeyRec). z.value) (sym k) ∙ (key_is ∙ sym (alone u value c).1));
        twins = λ e j is. absurd (let same : kk_exchange x.party l new single d ≡ e = one_found (kk_exchange x.party l new single d) e (find_put_same exchange_key bytes_eq test_idents (kk_exchange x.party l new single d) x.party.exchanges) j in let g : None ≡ Some (name_behind (next_name x.party l)) = ap (λ (z : Exchange). second_name_by z.kind) same ∙ ap second_name_by is in cc);
        waits = λ e label j nm w. (let same : kk_exchange x.party l new single d ≡ e = one_found (kk_exchange x.party l new single d) e (find_put_same exchange_key bytes_eq test_idents (kk_exchange x.party l new single d) x.party.exchanges) j in
            let l_is : new ≡ label = some_is new label (ap (λ (z : Exchange). new_of z.kind) same ∙ w) in
            subst (NewFits (apply (kk_edits x.party l new single d) x.party) l.peer l.pair (body.Direct (Some l.label) (Some (new, sealed_kk l.pair l.next single d.pair)) (wrap_of d.pair 1 d.key) l.next)) l_is
            (record { kk = (new, sealed_kk l.pair l.next single d.pair); carried = refl; label = refl; pair_is = fits }));
      }
