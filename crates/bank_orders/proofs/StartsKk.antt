-- A bank starts with a new key-encrypting key exactly where it can, and what goes out with it.
use Rattle.std.proofs.Common.{◌≡◌, ◌≢◌, ℕ, ◌+◌, ◌<◌, ◌^◌, ◌↔◌, Bool, true, false, not, ◌&&◌, nat_le, Option, Some, None, List, ◌++◌, length, bytes_eq, refl, sym, ap, subst, ◌∙◌}
use Rattle.std.specs.Prelude.{is_none}
use Rattle.std.proofs.lemmas.Bool.{both_ways, and_parts, and_from, leb-true, le-leb, false_from_ne_true}
use Rattle.x_base.specs.declared.verdict.Verdict.TheVariants.{Accept}
use Rattle.x_mac.specs.declared.pair.Pair.{Pair}
use Rattle.x_gen.specs.declared.generator.Gen.{Gen}
use Rattle.x_gen.specs.Gen.{good_draw}
use Rattle.x_gen.specs.Parity.{odd_parity_of}
use Rattle.x_gen.specs.Laws.{IsOdd, DrawsOdd}
use Rattle.x_seal.specs.Wrapped.{wrap_of, unwrap_of}
use Rattle.csm_grammar.specs.declared.message.KsmBody.TheVariants as body
use Rattle.csm_grammar.specs.declared.message.Ksm.{Ksm}
use Rattle.party_tables.specs.declared.link.LinkKey.{LinkKey}
use Rattle.party_tables.specs.declared.link.LinkRec.{LinkRec}
use Rattle.party_tables.specs.declared.key.KeyRec.{KeyRec}
use Rattle.party_tables.specs.declared.key.KeyStatus.TheVariants.{Pending}
use Rattle.party_tables.specs.declared.exchange.Exchange.{Exchange}
use Rattle.party_tables.specs.declared.exchange.Via.TheVariants as vias
use Rattle.party_tables.specs.declared.exchange.Kind.TheVariants as kind
use Rattle.party_state.specs.declared.edit.Edit.TheVariants.{PutLink}
use Rattle.party_state.specs.Limits.{most_links, most_keys}
use Rattle.party_tables.specs.Keys.{same_link, link_key, sends}
use Rattle.party_state.specs.State.{Party, apply, apply_edit, centre_label, link_with, record_with, exchange_with}
use Rattle.party_state.specs.Rows.{Row}
use Rattle.party_state.specs.Verdicts.{Test, TestsHold}
use Rattle.role_base.specs.Conditions.{count_after, has_link_room}
use Rattle.role_base.specs.Sending.{next_name}
use Rattle.role_base.specs.Texts.{text_of, no_extras}
use Rattle.role_base.proofs.Addressed.{others, apart}
use Rattle.role_base.proofs.PartyLaws.{HeldAtAccept, AcceptedIfHeld, LinkLaws, KeyLaws, ExchangeLaws, put_same, put_other, key_put_same, exchange_put}
use Rattle.role_base.proofs.Sends.{Unwraps}
use Rattle.role_base.proofs.Beginning.{none_stands}
use Rattle.role_base.proofs.Tested.{none_so, counted}
use Rattle.bank_orders.specs.declared.draws.KkDrawn.{KkDrawn}
use Rattle.bank_orders.specs.Draws.{key_drawn, right_drawn, left_drawn, kk_drawn}
use Rattle.bank_orders.specs.Start.{sending_link, start_tests}
use Rattle.bank_orders.specs.StartKk.{sealed_kk, kk_tests, kk_reply, kk_edits, fresh_link, kk_sending, start_kk_under, start_kk}
use Rattle.bank_orders.specs.Starts.{SendsUnder, next_record, Draws, CanStartKk}
use Rattle.bank_orders.specs.SendsKk.{Opens, SendsKk}
use Rattle.bank_orders.proofs.OrdersApart.{sending_there}
use Rattle.bank_orders.proofs.Starts.{under, under_so, to_peer}

-- what is drawn

record DrawnAs (g : Gen) (moment : ℕ) (single : Bool) (d : KkDrawn) : Type 0 where
  last : Gen
  seed : last.v ≡ d.v
  draws : Draws g moment single d.pair d.key last

last_drawn : (g : Gen) (moment : ℕ) (single : Bool) (pair : Pair) (o : Option (ℕ × Gen)) (d : KkDrawn) → ((y : ℕ × Gen) → o ≡ Some y → Draws g moment single pair y.0 y.1) → key_drawn pair o ≡ Some d → DrawnAs g moment single d
last_drawn g moment single pair None d f h = absurd (cc)
last_drawn g moment single pair (Some y) d f h =
    let made : KkDrawn = record { pair = pair; key = y.0; v = y.1.v } in
    let is : made ≡ d = cc in
    subst (DrawnAs g moment single) is (record { last = y.1; seed = refl; draws = f y refl })

drawn_as : (g : Gen) (moment : ℕ) (single : Bool) (d : KkDrawn) → kk_drawn g moment single ≡ Some d → DrawnAs g moment single d
unfolding kk_drawn
drawn_as g moment true d h = go (good_draw g moment) refl h
  where
    go : (o : Option (ℕ × Gen)) → good_draw g moment ≡ o → left_drawn moment true o ≡ Some d → DrawnAs g moment true d
    go None e h = absurd (cc)
    go (Some x) e h = last_drawn g moment true (record { left = x.0; right = x.0 }) (good_draw x.1 moment) d (λ y f. (x.1, (e, (refl, f)))) h
drawn_as g moment false d h = go (good_draw g moment) refl h
  where
    by_right : (x : ℕ × Gen) → good_draw g moment ≡ Some x → (o : Option (ℕ × Gen)) → good_draw x.1 moment ≡ o → right_drawn moment x.0 o ≡ Some d → DrawnAs g moment false d
    by_right x e None f h = absurd (cc)
    by_right x e (Some z) f h = last_drawn g moment false (record { left = x.0; right = z.0 }) (good_draw z.1 moment) d (λ y i. (x.1, (z.1, (e, (f, i))))) h

    go : (o : Option (ℕ × Gen)) → good_draw g moment ≡ o → left_drawn moment false o ≡ Some d → DrawnAs g moment false d
    go None e h = absurd (cc)
    go (Some x) e h = by_right x e (good_draw x.1 moment) refl h

drawn_so : (g : Gen) (moment : ℕ) (single : Bool) (pair : Pair) (key : ℕ) (last : Gen) → Draws g moment single pair key last → kk_drawn g moment single ≡ Some (record { pair = pair; key = key; v = last.v })
unfolding kk_drawn
drawn_so g moment true pair key last d =
    ap (λ (o : Option (ℕ × Gen)). left_drawn moment true o) d.1.0
    ∙ (ap (λ (o : Option (ℕ × Gen)). key_drawn (record { left = pair.left; right = pair.left }) o) d.1.1.1
    ∙ ap (λ (r : ℕ). let made : KkDrawn = record { pair = record { left = pair.left; right = r }; key = key; v = last.v } in Some made) (sym d.1.1.0))
drawn_so g moment false pair key last d =
    ap (λ (o : Option (ℕ × Gen)). left_drawn moment false o) d.1.1.0
    ∙ (ap (λ (o : Option (ℕ × Gen)). right_drawn moment pair.left o) d.1.1.1.0
    ∙ ap (λ (o : Option (ℕ × Gen)). key_drawn pair o) d.1.1.1.1)

-- when

module _ (held : HeldAtAccept) (accepted : AcceptedIfHeld) (links : LinkLaws) where
  abbrev kk_all : Party → List ℕ → LinkRec → List ℕ → Option KkDrawn → List Test
  kk_all p peer l new o = start_tests p peer (Some l) ++ kk_tests p l new o

  -- the tests held, and this was drawn
  record KkHeld (p : Party) (peer : List ℕ) (label : Option (List ℕ)) (new : List ℕ) (single : Bool) (moment : ℕ) : Type 0 where
    link : LinkRec
    found : sending_link p peer label ≡ Some link
    drawn : KkDrawn
    draws : kk_drawn p.generator moment single ≡ Some drawn
    tests : TestsHold (kk_all p peer link new (Some drawn))

  kk_held : (p : Party) (peer : List ℕ) (label : Option (List ℕ)) (new : List ℕ) (single : Bool) (moment : ℕ) (o : Option LinkRec) (x : Option KkDrawn) → sending_link p peer label ≡ o → kk_drawn p.generator moment single ≡ x → (start_kk_under p peer new single o moment).verdict ≡ Accept → KkHeld p peer label new single moment
  kk_held p peer label new single moment None x f g e = let h : TestsHold (start_tests p peer None) = held (start_tests p peer None) refl e in absurd (both_ways false refl h.1.1.0)
  kk_held p peer label new single moment (Some l) None f g e =
      let r : (kk_sending p (start_tests p peer (Some l)) l new single None).verdict ≡ Accept = ap (λ (y : Option KkDrawn). (kk_sending p (start_tests p peer (Some l)) l new single y).verdict) (sym g) ∙ e in
      let h : TestsHold (kk_all p peer l new None) = held (kk_all p peer l new None) refl r in
      absurd (both_ways false refl h.1.1.1.1.1.1.1.0)
  kk_held p peer label new single moment (Some l) (Some d) f g e =
      let r : (kk_sending p (start_tests p peer (Some l)) l new single (Some d)).verdict ≡ Accept = ap (λ (y : Option KkDrawn). (kk_sending p (start_tests p peer (Some l)) l new single y).verdict) (sym g) ∙ e in
      record { link = l; found = f; drawn = d; draws = g; tests = held (kk_all p peer l new (Some d)) refl r }

  new_absent : (p : Party) (peer new : List ℕ) (l : LinkRec) (d : KkDrawn) → TestsHold (kk_all p peer l new (Some d)) → link_with (sends l.peer new) p ≡ None
  new_absent p peer new l d h = none_stands (link_with (sends l.peer new) p) (and_parts (not (bytes_eq new centre_label)) (is_none (link_with (sends l.peer new) p)) h.1.1.1.1.0).1

  can_start_kk : (p : Party) (peer : List ℕ) (label : Option (List ℕ)) (new : List ℕ) (single : Bool) (moment : ℕ) → KkHeld p peer label new single moment → CanStartKk p peer label new single moment
  can_start_kk p peer label new single moment k =
      let l : LinkRec = k.link in
      let h : TestsHold (kk_all p peer k.link new (Some k.drawn)) = k.tests in
      let held_under : SendsUnder p peer label k.link = under p peer label k.link k.found in
      let none : link_with (sends k.link.peer new) p ≡ None = new_absent p peer new k.link k.drawn h in
      let place : nat_le (length p.links + 1) most_links ≡ true = rw none at h.1.1.1.1.1.0 in
      let seen : DrawnAs p.generator moment single k.drawn = drawn_as p.generator moment single k.drawn k.draws in
      record {
        known = h.0;
        free = none_stands (exchange_with peer p) h.1.0;
        link = k.link;
        in_use = held_under;
        left = leb-true k.link.next 99999999999999 h.1.1.1.0;
        proper = others new centre_label (and_parts (not (bytes_eq new centre_label)) (is_none (link_with (sends k.link.peer new) p)) h.1.1.1.1.0).0;
        absent = subst (λ (x : List ℕ). link_with (sends x new) p ≡ None) (to_peer links.found p peer label k.link held_under) none;
        place = leb-true (length p.links + 1) most_links place;
        room = rw (sym (counted (record_with (next_record p k.link) p) p.keys)) (leb-true (count_after (record_with (next_record p k.link) p) p.keys) most_keys h.1.1.1.1.1.1.0);
        pair = k.drawn.pair;
        key = k.drawn.key;
        last = seen.last;
        draws = seen.draws;
      }

  started_kk : (p : Party) (peer : List ℕ) (label : Option (List ℕ)) (new : List ℕ) (single : Bool) (moment : ℕ) → CanStartKk p peer label new single moment → (start_kk p peer label new single moment).verdict ≡ Accept
  started_kk p peer label new single moment c =
      let d : KkDrawn = record { pair = c.pair; key = c.key; v = c.last.v } in
      let none : link_with (sends c.link.peer new) p ≡ None = subst (λ (x : List ℕ). link_with (sends x new) p ≡ None) (sym (to_peer links.found p peer label c.link c.in_use)) c.absent in
      let free : (not (bytes_eq new centre_label) && is_none (link_with (sends c.link.peer new) p)) ≡ true = and_from (not (bytes_eq new centre_label)) (is_none (link_with (sends c.link.peer new) p)) (apart new centre_label c.proper) (none_so (link_with (sends c.link.peer new) p) none) in
      let fits : nat_le (length p.links + 1) most_links ≡ true = le-leb (length p.links + 1) most_links c.place in
      let place : has_link_room p (sends c.link.peer new) ≡ true = rw none fits in
      let room : nat_le (count_after (record_with (next_record p c.link) p) p.keys) most_keys ≡ true = le-leb (count_after (record_with (next_record p c.link) p) p.keys) most_keys (rw (counted (record_with (next_record p c.link) p) p.keys) c.room) in
      ap (λ (o : Option LinkRec). (start_kk_under p peer new single o moment).verdict) (under_so p peer label c.link c.in_use)
      ∙ (ap (λ (y : Option KkDrawn). (kk_sending p (start_tests p peer (Some c.link)) c.link new single y).verdict) (drawn_so p.generator moment single c.pair c.key c.last c.draws)
      ∙ accepted (kk_all p peer c.link new (Some d)) (c.known, (none_so (exchange_with peer p) c.free, (refl, (le-leb c.link.next 99999999999999 c.left, (free, (place, (room, (refl, tt)))))))))

  pub starts_kk_exactly : (p : Party) (peer : List ℕ) (label : Option (List ℕ)) (new : List ℕ) (single : Bool) (moment : ℕ) → ((start_kk p peer label new single moment).verdict ≡ Accept) ↔ CanStartKk p peer label new single moment
  starts_kk_exactly p peer label new single moment = ((λ e. can_start_kk p peer label new single moment (kk_held p peer label new single moment (sending_link p peer label) (kk_drawn p.generator moment single) refl refl e)), started_kk p peer label new single moment)

  -- what goes out

  module _ (unwraps : Unwraps) (odd : DrawsOdd) (keys : KeyLaws) (exchanges : ExchangeLaws) where
    half : (under : Pair) (ctp key : ℕ) → IsOdd key → odd_parity_of (unwrap_of under ctp (wrap_of under ctp key)) ≡ key
    half under ctp key o = ap (λ (x : ℕ). odd_parity_of x) (unwraps under ctp key o.below) ∙ o.same

    opens : (under : Pair) (ctp : ℕ) (g : Gen) (moment : ℕ) (single : Bool) (pair : Pair) (key : ℕ) (last : Gen) → Draws g moment single pair key last → Opens under ctp single (sealed_kk under ctp single pair) pair
    opens under ctp g moment true pair key last d = let left : odd_parity_of (unwrap_of under ctp (wrap_of under ctp pair.left)) ≡ pair.left = half under ctp pair.left (odd g moment (pair.left, d.0) d.1.0) in (left, left ∙ sym d.1.1.0)
    opens under ctp g moment false pair key last d = (half under ctp pair.left (odd g moment (pair.left, d.0) d.1.1.0), half under ctp pair.right (odd d.0 moment (pair.right, d.1.0) d.1.1.1.0))

    key_below : (g : Gen) (moment : ℕ) (single : Bool) (pair : Pair) (key : ℕ) (last : Gen) → Draws g moment single pair key last → key < 2 ^ 64
    key_below g moment true pair key last d = (odd d.0 moment (key, last) d.1.1.1).below
    key_below g moment false pair key last d = (odd d.1.0 moment (key, last) d.1.1.1.1).below

    sends_kk_under : (p : Party) (front : List Test) (l : LinkRec) (label : Option (List ℕ)) (new : List ℕ) (single : Bool) (moment : ℕ) (d : KkDrawn) → SendsUnder p l.peer label l → DrawnAs p.generator moment single d → link_key l ≢ sends l.peer new → SendsKk p (apply (kk_edits p l new single d) p) (kk_sending p front l new single (Some d)) l.peer label new single moment
    unfolding text_of
    sends_kk_under p front l label new single moment d held_under seen apart = record {
      link = l;
      in_use = held_under;
      to = refl;
      pair = d.pair;
      key = d.key;
      last = seen.last;
      drawn = seen.draws;
      goes_on = sym seen.seed;
      name = next_name p l;
      named = refl;
      ksm = ksm;
      kk = sealed_kk l.pair l.next single d.pair;
      kd = wrap_of d.pair 1 d.key;
      written = refl;
      receiver = refl;
      sender = refl;
      carries = refl;
      bare = refl;
      opened_pair = opens l.pair l.next p.generator moment single d.pair d.key seen.last seen.draws;
      opened = unwraps d.pair 1 d.key (key_below p.generator moment single d.pair d.key seen.last seen.draws);
      used = put_other links (link_key l) fresh (apply_edit (PutLink behind) p) (unlike (link_key l) fresh apart) ∙ put_same links behind p;
      added = put_same links fresh (apply_edit (PutLink behind) p);
      others = λ k n m. put_other links k fresh (apply_edit (PutLink behind) p) (unlike k fresh m) ∙ put_other links k behind p (unlike k behind n);
      pending = key_put_same keys pending p;
      waits = exchange_put exchanges waits p;
    }
      where
        ksm : Ksm
        ksm = record { receiver = l.peer; originator = p.own; body = body.Direct (Some l.label) (Some (new, sealed_kk l.pair l.next single d.pair)) (wrap_of d.pair 1 d.key) l.next; extras = no_extras }

        behind : LinkRec
        behind = record l { next = l.next + 1 }

        fresh : LinkRec
        fresh = fresh_link l new d.pair

        pending : KeyRec
        pending = record { peer = l.peer; name = next_name p l; value = d.key; status = Pending }

        waits : Exchange
        waits = record { peer = l.peer; kind = kind.KeySent (next_name p l) (vias.Direct l.label (Some new)); text = text_of (kk_reply p l new single d) }

        unlike : (k : LinkKey) (x : LinkRec) → k ≢ link_key x → same_link k (link_key x) ≡ false
        unlike k x n = false_from_ne_true (same_link k (link_key x)) (λ e. n ((links.same k (link_key x)).0 e))

    pub sends_kk : (p : Party) (peer : List ℕ) (label : Option (List ℕ)) (new : List ℕ) (single : Bool) (moment : ℕ) → (start_kk p peer label new single moment).verdict ≡ Accept → SendsKk p (apply (start_kk p peer label new single moment).edits p) (start_kk p peer label new single moment) peer label new single moment
    sends_kk p peer label new single moment e =
        let k : KkHeld p peer label new single moment = kk_held p peer label new single moment (sending_link p peer label) (kk_drawn p.generator moment single) refl refl e in
        let held_under : SendsUnder p peer label k.link = under p peer label k.link k.found in
        let to : k.link.peer ≡ peer = to_peer links.found p peer label k.link held_under in
        let none : link_with (sends k.link.peer new) p ≡ None = new_absent p peer new k.link k.drawn k.tests in
        let apart : link_key k.link ≢ sends k.link.peer new = λ i. sending_there links p peer label k.link k.found (subst (λ (x : LinkKey). link_with x p ≡ None) (sym i) none) in
        let seen : DrawnAs p.generator moment single k.drawn = drawn_as p.generator moment single k.drawn k.draws in
        let row : kk_sending p (start_tests p peer (Some k.link)) k.link new single (Some k.drawn) ≡ start_kk p peer label new single moment =
        ap (λ (y : Option KkDrawn). kk_sending p (start_tests p peer (Some k.link)) k.link new single y) (sym k.draws) ∙ ap (λ (o : Option LinkRec). start_kk_under p peer new single o moment) (sym k.found)
        in
        let there : SendsUnder p k.link.peer label k.link = subst (λ (x : List ℕ). SendsUnder p x label k.link) (sym to) held_under in
        subst (λ (r : Row). SendsKk p (apply r.edits p) r peer label new single moment) row
        (subst (λ (x : List ℕ). SendsKk p (apply (kk_edits p k.link new single k.drawn) p) (kk_sending p (start_tests p peer (Some k.link)) k.link new single (Some k.drawn)) x label new single moment) to
        (sends_kk_under p (start_tests p peer (Some k.link)) k.link label new single moment k.drawn there seen apart))
