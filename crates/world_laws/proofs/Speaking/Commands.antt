-- What the rows of commands, and of a request for a key, write and put is well formed.
use Rattle.std.proofs.Common.{Bool, true, false, ◌<◌, ◌≤◌, ltb-true}
use Rattle.party_tables.specs.Names.{name_behind}
use Rattle.role_base.specs.Exchanges.{ended}
use Rattle.role_base.specs.Conditions.{is_two_keys}
use Rattle.bank_arrivals.specs.declared.draws.TwinsDrawn.{TwinsDrawn}
use Rattle.bank_arrivals.specs.SendingTwins.{twins_drawn, twins_tests, twins_sending_drawn}
use Rattle.world_laws.proofs.Texts.OwnMessages.{twins_own}
use Rattle.party_state.specs.Verdicts.{TestsHold as TestsHold}
use Rattle.party_tables.specs.declared.exchange.Kind.TheVariants as kind
use Rattle.bank_orders.specs.Ask.{centre_front, ask_of}
use Rattle.bank_orders.specs.Translate.{translate_tests, translate_drawn, translate_under}
use Rattle.bank_orders.specs.declared.draws.KkDrawn.{KkDrawn}
use Rattle.bank_orders.specs.Draws.{kk_drawn}
use Rattle.bank_orders.specs.StartKk.{kk_tests, kk_sending, start_kk_under}
use Rattle.bank_orders.specs.Ending.{end_record}
use Rattle.role_base.specs.Exchanges.{record_of, new_link, dropped}
use Rattle.bank_orders.specs.GivingUp.{given_up, given_up_in, drop}
use Rattle.role_base.specs.Sending.{sending_tests, sending_drawn}
use Rattle.bank_orders.specs.Start.{start_tests, start_under}
use Rattle.csm_grammar.specs.declared.arrival.Arrival.{Arrival}
use Rattle.csm_grammar.specs.declared.message.Rsi.{Rsi}
use Rattle.party_state.proofs.Verdicts.{held, held_after}
use Rattle.party_tables.specs.Keys.{sends}
use Rattle.party_state.specs.State.{Party, centre_label, link_with, exchange_with}
use Rattle.party_state.specs.Verdicts.{Test, is_accept, all_refuse}
use Rattle.party_state.specs.declared.edit.Edit.TheVariants.{DropExchange}
use Rattle.party_tables.specs.declared.exchange.Exchange.{Exchange}
use Rattle.party_tables.specs.declared.exchange.Kind.{Kind}
use Rattle.party_tables.specs.declared.key.KeyRec.{KeyRec}
use Rattle.party_tables.specs.declared.key.KeyStatus.{KeyStatus}
use Rattle.party_tables.specs.declared.key.KeyStatus.TheVariants.{Closing, Ended}
use Rattle.party_tables.specs.declared.link.LinkKey.{LinkKey}
use Rattle.party_tables.specs.declared.link.LinkRec.{LinkRec}
use Rattle.std.proofs.Common.{arith, ◌≡◌, ℕ, ◌+◌, Bool, true, Option, Some, None, List, [], ◌∷◌, ◌++◌, refl, ap, subst}
use Rattle.world_laws.proofs.Links.Found.{HasLinks, SendingAt, link_at}
use Rattle.x_base.specs.declared.key_name.KeyName.{KeyName}
use Rattle.x_base.specs.declared.party.Side.TheVariants.{Sends}
use Rattle.x_gen.specs.Gen.{good_draw}
use Rattle.x_gen.specs.declared.generator.Gen.{Gen}
use Rattle.std.specs.List.{AllByRecursion}
use Rattle.x_base.specs.Names.{IsIdent, IsLabel}
use Rattle.x_base.specs.Count.{IsCount}
use Rattle.party_state.specs.declared.edit.Edit.TheVariants.{DropExchange}
use Rattle.party_state.specs.declared.command.Command.{Command}
use Rattle.party_state.specs.declared.command.Command.TheVariants as command
use Rattle.party_state.specs.State.{first_link}
use Rattle.bank_arrivals.specs.Rsi.{rsi_tests as bank_rsi_tests, rsi_row as bank_rsi_row, rsi_under}
use Rattle.bank_orders.specs.Start.{sending_link}
use Rattle.bank_orders.specs.Resend.{resend_of}
use Rattle.bank_orders.specs.Orders.{command_row}
use Rattle.world_laws.specs.Events.{IsCommand}
use Rattle.world_laws.proofs.Links.Found.{first_at, FirstAt, sending_at}
use Rattle.world_laws.proofs.Texts.Names.{LinkNamed, RecordNamed, IsNamed, NamesFine, record_named}
use Rattle.world_laws.proofs.Texts.OwnMessages.{data_key_own, end_own, kk_own, translate_own}
use Rattle.world_laws.proofs.Speaking.Wellformed.{Speaks, next_after, count_of, linked, up_named}

module _ (p : Party) (i : IsNamed p) where
  pub sending_speaks : (front : List Test) (peer : List ℕ) (l : LinkRec) (drawn : Option (ℕ × Gen)) → ((d : ℕ × Gen) → all_refuse (front ++ sending_tests p l (Some d)) ≡ true) → SendingAt p peer l → is_accept (sending_drawn p front l drawn).verdict ≡ true → Speaks (sending_drawn p front l drawn)
  sending_speaks front peer l None r s h = record { names = tt; reply = tt }
  sending_speaks front peer l (Some d) r s h =
      let named : LinkNamed l = linked p i (sends peer l.label) l s.at.found in
      let t : TestsHold front × TestsHold (sending_tests p l (Some d)) = held_after front (sending_tests p l (Some d)) (held (front ++ sending_tests p l (Some d)) (r d) h) in
      let count : IsCount l.next = count_of l named.next t.1.0 in
      record {
        names = (tt, (up_named p i l (l.next + 1) named (next_after l.next count), (record { peer = named.peer; name = record { issuer = i.own; originator = i.own; label = named.label; count = count } }, (tt, tt))));
        reply = data_key_own p l d.0 i.own named count;
      }

  pub twins_speaks : (front : List Test) (peer : List ℕ) (l : LinkRec) (drawn : Option TwinsDrawn) → ((d : TwinsDrawn) → all_refuse (front ++ twins_tests p l (Some d)) ≡ true) → SendingAt p peer l → is_accept (twins_sending_drawn p front l drawn).verdict ≡ true → Speaks (twins_sending_drawn p front l drawn)
  twins_speaks front peer l None r s h = record { names = tt; reply = tt }
  twins_speaks front peer l (Some d) r s h =
      let named : LinkNamed l = linked p i (sends peer l.label) l s.at.found in
      let t : TestsHold front × TestsHold (twins_tests p l (Some d)) = held_after front (twins_tests p l (Some d)) (held (front ++ twins_tests p l (Some d)) (r d) h) in
      let low = named.next.low in
      let below : l.next < 99999999999999 = ltb-true l.next 99999999999999 t.1.0 in
      let room : l.next + 1 ≤ 99999999999999 = omega (arith, below) in
      let count : IsCount l.next = record { low = low; high = omega (arith, room) } in
      let count_behind : IsCount (l.next + 1) = record { low = omega arith; high = room } in
      record {
        names = (tt, (up_named p i l (l.next + 2) named (record { low = omega arith; high = omega (arith, room) }), (record { peer = named.peer; name = record { issuer = i.own; originator = i.own; label = named.label; count = count } }, (record { peer = named.peer; name = record { issuer = i.own; originator = i.own; label = named.label; count = count_behind } }, (tt, tt)))));
        reply = twins_own p l d i.own named count;
      }

  pub kk_speaks : (peer new : List ℕ) (single : Bool) (o : Option LinkRec) (moment : ℕ) → IsLabel new → ((l : LinkRec) → o ≡ Some l → SendingAt p peer l) → is_accept (start_kk_under p peer new single o moment).verdict ≡ true → Speaks (start_kk_under p peer new single o moment)
  kk_speaks peer new single None moment label f h = record { names = tt; reply = tt }
  kk_speaks peer new single (Some l) moment label f h = go (kk_drawn p.generator moment single) h
    where
      named : LinkNamed l
      named = linked p i (sends peer l.label) l (f l refl).at.found

      go : (d : Option KkDrawn) → is_accept (kk_sending p (start_tests p peer (Some l)) l new single d).verdict ≡ true → Speaks (kk_sending p (start_tests p peer (Some l)) l new single d)
      go None h = record { names = tt; reply = tt }
      go (Some d) h =
          let t : TestsHold (start_tests p peer (Some l) ++ kk_tests p l new (Some d)) = held (start_tests p peer (Some l) ++ kk_tests p l new (Some d)) refl h in
          let count : IsCount l.next = count_of l named.next t.1.1.1.0 in
          record {
            names = (tt, (up_named p i l (l.next + 1) named (next_after l.next count), (record { peer = named.peer; label = label; next = record { low = omega arith; high = omega arith } }, (record { peer = named.peer; name = record { issuer = i.own; originator = i.own; label = named.label; count = count } }, (tt, tt)))));
            reply = kk_own p l new single d i.own named label count;
          }

  pub start_speaks : (peer : List ℕ) (o : Option LinkRec) (moment : ℕ) → ((l : LinkRec) → o ≡ Some l → SendingAt p peer l) → is_accept (start_under p peer o moment).verdict ≡ true → Speaks (start_under p peer o moment)
  start_speaks peer None moment f h = record { names = tt; reply = tt }
  start_speaks peer (Some l) moment f h = sending_speaks (start_tests p peer (Some l)) peer l (good_draw p.generator moment) (λ d. refl) (f l refl) h

  pub ask_speaks : (peer : List ℕ) (o : Option (List ℕ)) → Speaks (ask_of p peer o)
  ask_speaks peer None = record { names = tt; reply = tt }
  ask_speaks peer (Some u) = record { names = (tt, tt); reply = tt }

  pub translate_speaks : (centre u : List ℕ) (o : Option LinkRec) (moment : ℕ) → IsIdent u → link_with (sends centre centre_label) p ≡ o → is_accept (translate_under p centre u o moment).verdict ≡ true → Speaks (translate_under p centre u o moment)
  translate_speaks centre u None moment for e h = record { names = tt; reply = tt }
  translate_speaks centre u (Some l) moment for e h = go (good_draw p.generator moment) h
    where
      named : LinkNamed l
      named = linked p i (sends centre centre_label) l e

      to : IsIdent centre
      to = subst IsIdent (ap (λ (k : LinkKey). k.peer) (link_at p (sends centre centre_label) l e).key) named.peer

      go : (d : Option (ℕ × Gen)) → is_accept (translate_drawn p centre u l d).verdict ≡ true → Speaks (translate_drawn p centre u l d)
      go None h = record { names = tt; reply = tt }
      go (Some d) h =
          let t : TestsHold (centre_front p centre u ++ translate_tests l (Some d)) = held (centre_front p centre u ++ translate_tests l (Some d)) refl h in
          let count : IsCount l.next = count_of l named.next t.1.1.1.1.0 in
          record { names = (tt, (up_named p i l (l.next + 1) named (next_after l.next count), (tt, tt))); reply = translate_own p centre u l d.0 i.own to for count }

  pub resend_speaks : (o : Option Exchange) → Speaks (resend_of o)
  resend_speaks None = record { names = tt; reply = tt }
  resend_speaks (Some e) = record { names = tt; reply = tt }

  pub at_record : (peer : List ℕ) (name : KeyName) (k : KeyRec) → record_of p peer name ≡ Some k → RecordNamed k
  at_record peer name k h = record_named p (record { peer = peer; name = name }) k i h

  pub again_named : (k : KeyRec) (st : KeyStatus) → RecordNamed k → RecordNamed (record k { status = st })
  again_named k st n = record { peer = n.peer; name = n.name }

  pub end_speaks : (peer : List ℕ) (name : KeyName) (o : Option KeyRec) → record_of p peer name ≡ o → Speaks (end_record p peer o)
  end_speaks peer name None e = record { names = tt; reply = tt }
  end_speaks peer name (Some k) e = let n : RecordNamed k = at_record peer name k e in record { names = (again_named k Closing n, (tt, tt)); reply = end_own p k i.own n }

  pub drop_speaks : (peer : List ℕ) → Speaks (drop p peer)
  drop_speaks peer = record { names = by_exchange (exchange_with peer p); reply = tt }
    where
      by_record : (l : Option LinkRec) (name : KeyName) (k : Option KeyRec) → record_of p peer name ≡ k → AllByRecursion NamesFine ((dropped l ++ ended k) ++ DropExchange peer ∷ [])
      by_record None name None e = (tt, tt)
      by_record None name (Some k) e = (again_named k Ended (at_record peer name k e), (tt, tt))
      by_record (Some l) name None e = (tt, (tt, tt))
      by_record (Some l) name (Some k) e = (tt, (again_named k Ended (at_record peer name k e), (tt, tt)))

      by_records : (name : KeyName) (j k : Option KeyRec) → record_of p peer name ≡ j → record_of p peer (name_behind name) ≡ k → AllByRecursion NamesFine ((ended j ++ ended k) ++ DropExchange peer ∷ [])
      by_records name None None e f = (tt, tt)
      by_records name None (Some k) e f = (again_named k Ended (at_record peer (name_behind name) k f), (tt, tt))
      by_records name (Some j) None e f = (again_named j Ended (at_record peer name j e), (tt, tt))
      by_records name (Some j) (Some k) e f = (again_named j Ended (at_record peer name j e), (again_named k Ended (at_record peer (name_behind name) k f), (tt, tt)))

      by_kind : (k : Kind) → AllByRecursion NamesFine (given_up p peer k ++ DropExchange peer ∷ [])
      by_kind (kind.KeySent name via) = by_record (new_link p peer via) name (record_of p peer name) refl
      by_kind (kind.Asked ultimate) = (tt, tt)
      by_kind (kind.Translating ultimate value cta) = (tt, tt)
      by_kind (kind.Ending name) = (tt, tt)
      by_kind (kind.PairSent name) = by_records name (record_of p peer name) (record_of p peer (name_behind name)) refl refl

      by_exchange : (o : Option Exchange) → AllByRecursion NamesFine (given_up_in p peer o)
      by_exchange None = tt
      by_exchange (Some e) = by_kind e.kind

  pub command_speaks : (c : Command) (moment : ℕ) → IsCommand c → HasLinks p → is_accept (command_row p c moment).verdict ≡ true → Speaks (command_row p c moment)
  command_speaks (command.Load peer label side pair) moment e d h = absurd e
  command_speaks (command.Start peer label) moment e d h = start_speaks peer (sending_link p peer label) moment (λ l f. sending_at p peer label l d f) h
  command_speaks (command.StartKk peer label new single) moment e d h = kk_speaks peer new single (sending_link p peer label) moment e (λ l f. sending_at p peer label l d f) h
  command_speaks (command.Ask peer ultimate) moment e d h = ask_speaks peer ultimate
  command_speaks (command.Translate centre ultimate) moment e d h = translate_speaks centre ultimate (link_with (sends centre centre_label) p) moment e refl h
  command_speaks (command.Resend peer) moment e d h = resend_speaks (exchange_with peer p)
  command_speaks (command.End peer name) moment e d h = end_speaks peer name (record_of p peer name) refl
  command_speaks (command.Drop peer) moment e d h = drop_speaks peer
  command_speaks command.Purge moment e d h = record { names = (tt, tt); reply = tt }

  -- the arrivals

  pub rsi_speaks : (a : Arrival) (m : Rsi) (o : Option LinkRec) (moment : ℕ) → HasLinks p → first_link m.originator Sends p ≡ o → is_accept (rsi_under p a m o moment).verdict ≡ true → Speaks (rsi_under p a m o moment)
  rsi_speaks a m None moment d e h = record { names = tt; reply = tt }
  rsi_speaks a m (Some l) moment d e h = by_service (is_two_keys m.service) h
    where
      f : FirstAt p m.originator Sends l
      f = first_at p m.originator Sends l d e

      by_service : (b : Bool) → is_accept (bank_rsi_row p a m l moment b).verdict ≡ true → Speaks (bank_rsi_row p a m l moment b)
      by_service true h = twins_speaks (bank_rsi_tests p a m (Some l)) m.originator l (twins_drawn p.generator moment) (λ d. refl) (record { at = f.at; ready = f.ready }) h
      by_service false h = sending_speaks (bank_rsi_tests p a m (Some l)) m.originator l (good_draw p.generator moment) (λ d. refl) (record { at = f.at; ready = f.ready }) h
