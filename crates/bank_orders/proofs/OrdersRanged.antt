-- What the rows of commands put is in range, and what they write is short.
use Rattle.std.proofs.Common.{◌≡◌, ℕ, ◌+◌, ◌≤◌, Bool, true, false, cond, Option, Some, None, IfSome, List, [], ◌∷◌, ◌++◌, length, bytes_eq, refl, subst, lit≤, arith}
use Rattle.std.specs.List.{AllByRecursion}
use Rattle.x_base.specs.Names.{IsIdent, IsLabel}
use Rattle.x_base.specs.Count.{IsCount}
use Rattle.x_base.specs.declared.key_name.KeyName.{KeyName}
use Rattle.x_base.specs.declared.party.Side.TheVariants.{Sends}
use Rattle.x_base.specs.declared.verdict.Verdict.TheVariants.{NoExchange}
use Rattle.x_mac.specs.declared.pair.Pair.{Pair}
use Rattle.x_gen.specs.declared.generator.Gen.{Gen}
use Rattle.x_gen.specs.Gen.{good_draw}
use Rattle.x_gen.specs.Laws.{DrawsOdd, OddStays}
use Rattle.csm_write.specs.Shortness.{CanonShort}
use Rattle.csm_write.specs.Writable.{IsTypedField}
use Rattle.csm_grammar.specs.Messages.{fields_of}
use Rattle.party_tables.specs.Keys.{link_key, sends}
use Rattle.party_tables.specs.Names.{name_behind, full_name}
use Rattle.party_tables.specs.Ranges.{IsWord, IsPair, IsLink, IsRecord, longest_text}
use Rattle.party_tables.specs.declared.exchange.Exchange.{Exchange}
use Rattle.party_tables.specs.declared.exchange.Kind.{Kind}
use Rattle.party_tables.specs.declared.exchange.Kind.TheVariants as kind
use Rattle.party_tables.specs.declared.key.KeyRec.{KeyRec}
use Rattle.party_tables.specs.declared.key.KeyStatus.TheVariants.{Closing}
use Rattle.party_tables.specs.declared.link.LinkRec.{LinkRec}
use Rattle.party_state.specs.declared.command.Command.{Command}
use Rattle.party_state.specs.declared.command.Command.TheVariants as command
use Rattle.party_state.specs.declared.edit.Edit.TheVariants.{DropExchange}
use Rattle.party_state.specs.Ranges.{IsParty}
use Rattle.party_state.specs.State.{Party, centre_label, link_with, exchange_with}
use Rattle.party_state.specs.Verdicts.{TestsHold, is_accept}
use Rattle.party_state.specs.Rows.{Plain}
use Rattle.role_base.specs.Conditions.{has_key_room}
use Rattle.role_base.specs.Deciding.{decision_of}
use Rattle.role_base.specs.Exchanges.{record_of, new_link, dropped, ended}
use Rattle.role_base.specs.Ranged.{IsCommand, IsRanged}
use Rattle.role_base.specs.Sending.{next_name, sending_tests, sending_drawn}
use Rattle.role_base.specs.Standing.{LinkStands, KeyStands}
use Rattle.role_base.specs.Storable.{AreKeepable}
use Rattle.role_base.specs.Texts.{text_of}
use Rattle.role_base.proofs.Counted.{left_is_count, next_on}
use Rattle.role_base.proofs.Found.{found_stands, key_stands}
use Rattle.role_base.proofs.Kept.{row_kept}
use Rattle.role_base.proofs.PartyLaws.{HeldIfAccepted, LinksFound, KeysFound, FirstLinksFound, LinksInRange, KeysInRange, ExchangesInRange}
use Rattle.role_base.proofs.Ranged.{AllInRange, WrapsBelow, row_ranged, nothing_ranged, refused_kept, coded_short, plain_short, again_short, key_in_range, with_status, with_next, seed_below, named_next, sending_ranged, sending_kept, dropped_in_range, ended_in_range, append_in_range, load_ranged}
use Rattle.bank_orders.specs.declared.draws.KkDrawn.{KkDrawn}
use Rattle.bank_orders.specs.Start.{if_ready, sending_link, start_tests, start_under}
use Rattle.bank_orders.specs.StartKk.{kk_tests, kk_message, kk_reply, fresh_link, kk_sending, start_kk_under}
use Rattle.bank_orders.specs.Draws.{key_drawn, right_drawn, left_drawn, kk_drawn}
use Rattle.bank_orders.specs.Ask.{request, ask_peer, centre_request, centre_front, ask_centre, ask_of}
use Rattle.bank_orders.specs.Translate.{translate_tests, translate_message, translate_reply, translate_drawn, translate_under}
use Rattle.bank_orders.specs.Resend.{resend_of, resend}
use Rattle.bank_orders.specs.GivingUp.{given_up, given_up_in, drop}
use Rattle.bank_orders.specs.Ending.{end_message, end_reply, end_record, purge}
use Rattle.bank_orders.specs.Orders.{command_row}
use Rattle.bank_orders.proofs.CentresAsked.{asked_keepable, translated_keepable}
use Rattle.bank_orders.proofs.KkSent.{kk_bounded, kk_keepable}
use Rattle.bank_orders.proofs.OrdersKept.{ended_keepable, given_up_keepable, given_up_few}

-- the link to send under stands
sending_stands : FirstLinksFound → LinksFound → LinksInRange → (p : Party) (peer : List ℕ) (label : Option (List ℕ)) (l : LinkRec) → IsParty p → sending_link p peer label ≡ Some l → LinkStands p l
sending_stands first links in_range p peer None l w h =
    let found = first peer Sends l p w h in
    record { found = found; range = in_range (link_key l) l p w found }
sending_stands first links in_range p peer (Some label) l w h = go (bytes_eq label centre_label) h
  where
    by_ready : (m : LinkRec) (b : Bool) → cond b (Some m) None ≡ Some l → Some m ≡ Some l
    by_ready m true h = h
    by_ready m false h = cc

    found : (o : Option LinkRec) → if_ready o ≡ Some l → o ≡ Some l
    found None h = cc
    found (Some m) h = by_ready m m.ready h

    go : (b : Bool) → cond b None (if_ready (link_with (sends peer label) p)) ≡ Some l → LinkStands p l
    go true h = absurd (cc)
    go false h = found_stands links in_range p (sends peer label) l w (found (link_with (sends peer label) p) h)

-- what is drawn for a new key-encrypting key
record KkBelow (d : KkDrawn) : Type 0 where
  pair : IsPair d.pair
  key : IsWord d.key
  seed : IsWord d.v

kk_below : DrawsOdd → (g : Gen) (moment : ℕ) (single : Bool) (d : KkDrawn) → kk_drawn g moment single ≡ Some d → KkBelow d
unfolding kk_drawn
kk_below odd g moment single d h = by_left single (good_draw g moment) refl h
  where
    by_key : (pair : Pair) (before : Gen) → IsPair pair → (o : Option (ℕ × Gen)) → good_draw before moment ≡ o → key_drawn pair o ≡ Some d → KkBelow d
    by_key pair before r None e h = absurd (cc)
    by_key pair before r (Some x) e h =
        let made : KkDrawn = record { pair = pair; key = x.0; v = x.1.v } in
        let is : made ≡ d = cc in
        subst KkBelow is (record { pair = r; key = (odd before moment x e).below; seed = seed_below before moment x e })

    by_right : (x : ℕ × Gen) → good_draw g moment ≡ Some x → (o : Option (ℕ × Gen)) → good_draw x.1 moment ≡ o → right_drawn moment x.0 o ≡ Some d → KkBelow d
    by_right x f None e h = absurd (cc)
    by_right x f (Some y) e h = by_key (record { left = x.0; right = y.0 }) y.1 (record { left = (odd g moment x f).below; right = (odd x.1 moment y e).below }) (good_draw y.1 moment) refl h

    by_left : (b : Bool) (o : Option (ℕ × Gen)) → good_draw g moment ≡ o → left_drawn moment b o ≡ Some d → KkBelow d
    by_left true None f h = absurd (cc)
    by_left false None f h = absurd (cc)
    by_left true (Some x) f h = by_key (record { left = x.0; right = x.0 }) x.1 (record { left = (odd g moment x f).below; right = (odd g moment x f).below }) (good_draw x.1 moment) refl h
    by_left false (Some x) f h = by_right x f (good_draw x.1 moment) refl h

kk_short : CanonShort → WrapsBelow → (p : Party) (l : LinkRec) (new : List ℕ) (single : Bool) (d : KkDrawn) → IsIdent p.own → IsLink l → IsLabel new → IsCount l.next → length (text_of (kk_reply p l new single d)) ≤ longest_text
kk_short short below p l new single d own r label count = coded_short short (kk_message p l new single d) (record { name = next_name p l; recipient = l.peer }) d.key (typed single) (kk_bounded p l new single d)
  where
    typed : (b : Bool) → AllByRecursion IsTypedField (fields_of (kk_message p l new b d))
    typed true = (r.peer, (own, (label, (r.label, (below l.pair l.next d.pair.left, (below d.pair 1 d.key, (count, tt)))))))
    typed false = (r.peer, (own, (label, (r.label, ((below l.pair l.next d.pair.left, below l.pair l.next d.pair.right), (below d.pair 1 d.key, (count, tt)))))))

module _ (short : CanonShort) (below : WrapsBelow) (odd : DrawsOdd) (held : HeldIfAccepted) (p : Party) (w : IsParty p) (moment : ℕ) where
  start_ranged : (peer : List ℕ) (o : Option LinkRec) → IfSome o (LinkStands p) → IsRanged p (decision_of p (start_under p peer o moment))
  start_ranged peer None st = row_ranged p (start_under p peer None moment) (refused_kept p _) (nothing_ranged _)
  start_ranged peer (Some l) st = row_ranged p (sending_drawn p (start_tests p peer (Some l)) l (good_draw p.generator moment))
      (sending_kept short below p (start_tests p peer (Some l)) l (good_draw p.generator moment) w st (λ d e h. facts d h))
      (sending_ranged short below odd held p (start_tests p peer (Some l)) l moment w st (λ d e h. (facts d h).0))
    where
      facts : (d : ℕ × Gen) → is_accept (sending_drawn p (start_tests p peer (Some l)) l (Some d)).verdict ≡ true → IsCount l.next × (has_key_room p (record { peer = l.peer; name = next_name p l }) ≡ true)
      facts d h =
          let t : TestsHold (start_tests p peer (Some l) ++ sending_tests p l (Some d)) = held (start_tests p peer (Some l) ++ sending_tests p l (Some d)) refl h in
          (left_is_count l st.range.next t.1.1.1.0, t.1.1.1.1.0)

  kk_ranged : (peer new : List ℕ) (single : Bool) (o : Option LinkRec) → IsLabel new → IfSome o (LinkStands p) → IsRanged p (decision_of p (start_kk_under p peer new single o moment))
  kk_ranged peer new single None label st = row_ranged p (start_kk_under p peer new single None moment) (refused_kept p _) (nothing_ranged _)
  kk_ranged peer new single (Some l) label st = by_draw (kk_drawn p.generator moment single) refl
    where
      by_draw : (o : Option KkDrawn) → kk_drawn p.generator moment single ≡ o → IsRanged p (decision_of p (kk_sending p (start_tests p peer (Some l)) l new single o))
      by_draw None e = row_ranged p (kk_sending p (start_tests p peer (Some l)) l new single None) (refused_kept p _) (nothing_ranged _)
      by_draw (Some d) e =
          let b : KkBelow d = kk_below odd p.generator moment single d e in
          let row = kk_sending p (start_tests p peer (Some l)) l new single (Some d) in
          row_ranged p row
          (row_kept p row (λ h. (
          let t = tests h in
          kk_keepable p l (fresh_link l new d.pair) _ _ d.v l.next st (count h) refl refl t.1.1.1.1.1.0 t.1.1.1.1.1.1.0 (record { kind = tt; text = kk_short short below p l new single d w.own st.range label (count h) }))) (lit≤ tt))
          (record {
            edits = λ h. (
                let name = named_next p l w.own st.range.label (count h) in (
                  b.seed,
                  (
                    with_next l (l.next + 1) st.range (next_on l.next (l.next + 1) (count h) refl),
                    (
                      record { peer = st.range.peer; label = label; pair = b.pair; next = record { low = omega arith; high = omega arith } },
                      (
                        record { peer = st.range.peer; name = name; value = b.key },
                        (record { peer = st.range.peer; kind = (name, (st.range.label, label)); text = kk_short short below p l new single d w.own st.range label (count h) }, tt),
                      ),
                    ),
                  ),
                ));
            reply = λ h. kk_short short below p l new single d w.own st.range label (count h);
            answer = tt;
          })
        where
          tests : is_accept (kk_sending p (start_tests p peer (Some l)) l new single (Some d)).verdict ≡ true → TestsHold (start_tests p peer (Some l) ++ kk_tests p l new (Some d))
          tests h = held (start_tests p peer (Some l) ++ kk_tests p l new (Some d)) refl h

          count : is_accept (kk_sending p (start_tests p peer (Some l)) l new single (Some d)).verdict ≡ true → IsCount l.next
          count h = left_is_count l st.range.next (tests h).1.1.1.0

  asked_short : (centre u : List ℕ) → IsIdent centre → IsIdent u → length (text_of (Plain (centre_request p centre u))) ≤ longest_text
  asked_short centre u i j = plain_short short (centre_request p centre u) (i, (w.own, (tt, (j, tt)))) (lit≤ tt)

  ask_ranged : (peer : List ℕ) (o : Option (List ℕ)) → IsIdent peer → IfSome o IsIdent → IsRanged p (decision_of p (ask_of p peer o))
  ask_ranged peer None i j = row_ranged p (ask_peer p peer) (row_kept p (ask_peer p peer) (λ _. record { each = tt; order = refl }) (lit≤ tt))
      (record { edits = λ _. tt; reply = λ _. plain_short short (request p peer) (i, (w.own, (tt, tt))) (lit≤ tt); answer = tt })
  ask_ranged peer (Some u) i j = row_ranged p (ask_centre p peer u)
      (row_kept p (ask_centre p peer u) (λ _. asked_keepable p _ (record { kind = tt; text = asked_short peer u i j })) (lit≤ tt))
      (record { edits = λ _. (record { peer = i; kind = j; text = asked_short peer u i j }, tt); reply = λ _. asked_short peer u i j; answer = tt })

  translate_ranged : (centre u : List ℕ) (o : Option LinkRec) → IsIdent centre → IsIdent u → IfSome o (LinkStands p) → IsRanged p (decision_of p (translate_under p centre u o moment))
  translate_ranged centre u None i j st = row_ranged p (translate_under p centre u None moment) (refused_kept p _) (nothing_ranged _)
  translate_ranged centre u (Some l) i j st = by_draw (good_draw p.generator moment) refl
    where
      writes : (key : ℕ) → IsCount l.next → length (text_of (translate_reply p centre u l key)) ≤ longest_text
      writes key count = coded_short short (translate_message p centre u l key) _ key (i, (w.own, (j, (below l.pair l.next key, (count, tt))))) (lit≤ tt)

      by_draw : (o : Option (ℕ × Gen)) → good_draw p.generator moment ≡ o → IsRanged p (decision_of p (translate_drawn p centre u l o))
      by_draw None e = row_ranged p (translate_drawn p centre u l None) (refused_kept p _) (nothing_ranged _)
      by_draw (Some d) e =
          let row = translate_drawn p centre u l (Some d) in
          row_ranged p row
          (row_kept p row (λ h. translated_keepable p l _ d.1.v l.next st (count h) refl (record { kind = tt; text = writes d.0 (count h) })) (lit≤ tt))
          (record {
            edits = λ h. (
              seed_below p.generator moment d e,
              (
                with_next l (l.next + 1) st.range (next_on l.next (l.next + 1) (count h) refl),
                (record { peer = i; kind = (j, (odd p.generator moment d e).below, count h); text = writes d.0 (count h) }, tt),
              ),
            );
            reply = λ h. writes d.0 (count h);
            answer = tt;
          })
        where
          count : is_accept (translate_drawn p centre u l (Some d)).verdict ≡ true → IsCount l.next
          count h = let t : TestsHold (centre_front p centre u ++ translate_tests l (Some d)) = held (centre_front p centre u ++ translate_tests l (Some d)) refl h in left_is_count l st.range.next t.1.1.1.1.0

resend_ranged : ExchangesInRange → (p : Party) (peer : List ℕ) → IsParty p → IsRanged p (decision_of p (resend p peer))
resend_ranged in_range p peer w = go (exchange_with peer p) refl
  where
    go : (o : Option Exchange) → exchange_with peer p ≡ o → IsRanged p (decision_of p (resend_of o))
    go None e = row_ranged p (resend_of None) (refused_kept p NoExchange) (nothing_ranged NoExchange)
    go (Some x) e = row_ranged p (resend_of (Some x)) (row_kept p (resend_of (Some x)) (λ _. record { each = tt; order = refl }) (lit≤ tt))
        (record { edits = λ _. tt; reply = λ _. again_short x.text (in_range peer x p w e).text; answer = tt })

end_ranged : CanonShort → KeysFound → KeysInRange → (p : Party) (peer : List ℕ) (name : KeyName) → IsParty p → IsRanged p (decision_of p (end_record p peer (record_of p peer name)))
end_ranged short keys in_range p peer name w = go (record_of p peer name) refl
  where
    go : (o : Option KeyRec) → record_of p peer name ≡ o → IsRanged p (decision_of p (end_record p peer o))
    go None e = row_ranged p (end_record p peer None) (refused_kept p _) (nothing_ranged _)
    go (Some k) e =
        let st : KeyStands p k = key_stands keys p (record { peer = peer; name = name }) k e in
        let r : IsRecord k = key_in_range in_range p k w st in
        let text : length (text_of (end_reply p k)) ≤ longest_text = coded_short short (end_message p k) (full_name p.own k) k.value (r.peer, (w.own, (r.name, tt))) (lit≤ tt) in
        row_ranged p (end_record p peer (Some k)) (row_kept p (end_record p peer (Some k)) (λ _. ended_keepable p k _ st (record { kind = tt; text = text })) (lit≤ tt))
        (record { edits = λ _. (with_status k Closing r, (record { peer = r.peer; kind = r.name; text = text }, tt)); reply = λ _. text; answer = tt })

drop_ranged : LinksFound → KeysFound → LinksInRange → KeysInRange → (p : Party) (peer : List ℕ) → IsParty p → IsIdent peer → IsRanged p (decision_of p (drop p peer))
drop_ranged links keys links_in_range keys_in_range p peer w i = row_ranged p (drop p peer) (row_kept p (drop p peer) (λ _. keepable (exchange_with peer p)) (few (exchange_with peer p)))
    (record { edits = λ _. in_range (exchange_with peer p); reply = λ _. tt; answer = tt })
  where
    keepable : (o : Option Exchange) → AreKeepable p (given_up_in p peer o)
    keepable None = record { each = tt; order = refl }
    keepable (Some e) = given_up_keepable keys p peer e

    few : (o : Option Exchange) → length (given_up_in p peer o) ≤ 9
    few None = lit≤ tt
    few (Some e) = given_up_few p peer e

    parts : (x : Kind) → AllInRange (given_up p peer x)
    parts (kind.KeySent name via) = append_in_range (dropped (new_link p peer via)) (ended (record_of p peer name)) (dropped_in_range links links_in_range p peer via w) (ended_in_range keys_in_range p peer name w)
    parts (kind.Asked ultimate) = tt
    parts (kind.Translating ultimate value cta) = tt
    parts (kind.Ending name) = tt
    parts (kind.PairSent name) = append_in_range (ended (record_of p peer name)) (ended (record_of p peer (name_behind name))) (ended_in_range keys_in_range p peer name w) (ended_in_range keys_in_range p peer (name_behind name) w)

    in_range : (o : Option Exchange) → AllInRange (given_up_in p peer o)
    in_range None = tt
    in_range (Some e) = append_in_range (given_up p peer e.kind) (DropExchange peer ∷ []) (parts e.kind) (i, tt)

-- the laws that the rows of commands rest on
pub record OrderLaws : Type 0 where
  pub short : CanonShort
  pub wraps : WrapsBelow
  pub draws : DrawsOdd
  pub odd : OddStays
  pub held : HeldIfAccepted
  pub links : LinksFound
  pub keys : KeysFound
  pub first : FirstLinksFound
  pub links_in_range : LinksInRange
  pub keys_in_range : KeysInRange
  pub exchanges_in_range : ExchangesInRange

pub command_ranged : OrderLaws → (p : Party) (c : Command) (moment : ℕ) → IsParty p → IsCommand c → IsRanged p (decision_of p (command_row p c moment))
command_ranged laws p c moment w k = by_command c k
  where
    link : (peer : List ℕ) (label : Option (List ℕ)) → IfSome (sending_link p peer label) (LinkStands p)
    link peer label = go (sending_link p peer label) refl
      where
        go : (o : Option LinkRec) → sending_link p peer label ≡ o → IfSome o (LinkStands p)
        go None e = tt
        go (Some l) e = sending_stands laws.first laws.links laws.links_in_range p peer label l w e

    centre_link : (centre : List ℕ) → IfSome (link_with (sends centre centre_label) p) (LinkStands p)
    centre_link centre = go (link_with (sends centre centre_label) p) refl
      where
        go : (o : Option LinkRec) → link_with (sends centre centre_label) p ≡ o → IfSome o (LinkStands p)
        go None e = tt
        go (Some l) e = found_stands laws.links laws.links_in_range p (sends centre centre_label) l w e

    by_command : (c : Command) → IsCommand c → IsRanged p (decision_of p (command_row p c moment))
    by_command (command.Load peer label side pair) k = load_ranged laws.odd laws.held p peer label side pair k.0 k.1
    by_command (command.Start peer label) k = start_ranged laws.short laws.wraps laws.draws laws.held p w moment peer (sending_link p peer label) (link peer label)
    by_command (command.StartKk peer label new single) k = kk_ranged laws.short laws.wraps laws.draws laws.held p w moment peer new single (sending_link p peer label) k.2 (link peer label)
    by_command (command.Ask peer ultimate) k = ask_ranged laws.short laws.wraps laws.draws laws.held p w moment peer ultimate k.0 k.1
    by_command (command.Translate centre ultimate) k = translate_ranged laws.short laws.wraps laws.draws laws.held p w moment centre ultimate (link_with (sends centre centre_label) p) k.0 k.1 (centre_link centre)
    by_command (command.Resend peer) k = resend_ranged laws.exchanges_in_range p peer w
    by_command (command.End peer name) k = end_ranged laws.short laws.keys laws.keys_in_range p peer name w
    by_command (command.Drop peer) k = drop_ranged laws.links laws.keys laws.links_in_range laws.keys_in_range p peer w k
    by_command command.Purge k = row_ranged p purge (row_kept p purge (λ _. record { each = (tt, tt); order = refl }) (lit≤ tt)) (record { edits = λ _. (tt, tt); reply = λ _. tt; answer = tt })
