-- A command begins an exchange only with a peer with whom none stands.
use Rattle.std.proofs.Common.{◌≡◌, ℕ, Bool, true, Option, Some, None, List, [], ◌∷◌, ◌++◌, refl, sym, ap}
use Rattle.std.specs.Prelude.{is_none}
use Rattle.std.proofs.lemmas.Bool.{and_parts}
use Rattle.x_base.specs.declared.key_name.KeyName.{KeyName}
use Rattle.x_gen.specs.declared.generator.Gen.{Gen}
use Rattle.x_gen.specs.Gen.{good_draw}
use Rattle.party_state.specs.declared.command.Command.{Command}
use Rattle.party_state.specs.declared.command.Command.TheVariants as command
use Rattle.party_tables.specs.declared.link.LinkRec.{LinkRec}
use Rattle.party_tables.specs.declared.key.RecordKey.{RecordKey}
use Rattle.party_tables.specs.declared.key.KeyRec.{KeyRec}
use Rattle.party_tables.specs.declared.exchange.Kind.{Kind}
use Rattle.party_tables.specs.declared.exchange.Kind.TheVariants as kind
use Rattle.party_tables.specs.declared.exchange.Exchange.{Exchange}
use Rattle.party_state.specs.declared.edit.Edit.TheVariants.{DropExchange}
use Rattle.party_tables.specs.Keys.{sends}
use Rattle.party_tables.specs.Names.{name_behind}
use Rattle.party_state.specs.State.{Party, centre_label, link_with, exchange_with}
use Rattle.party_state.specs.Verdicts.{TestsHold, is_accept}
use Rattle.role_base.specs.Beginning.{AllBeginFree}
use Rattle.role_base.specs.Exchanges.{record_of, new_link, dropped, ended}
use Rattle.role_base.specs.Sending.{sending_tests, sending_drawn}
use Rattle.role_base.proofs.PartyLaws.{HeldIfAccepted, LinksFound, KeysFound}
use Rattle.role_base.proofs.Beginning.{free_with, none_stands, begin_append, dropped_begin, sending_begins}
use Rattle.bank_orders.specs.declared.draws.KkDrawn.{KkDrawn}
use Rattle.bank_orders.specs.Start.{sending_link, start_tests, start_under}
use Rattle.bank_orders.specs.Draws.{kk_drawn}
use Rattle.bank_orders.specs.StartKk.{kk_tests, kk_sending, start_kk_under}
use Rattle.bank_orders.specs.Ask.{centre_front, ask_tests, ask_of}
use Rattle.bank_orders.specs.Translate.{translate_tests, translate_drawn, translate_under}
use Rattle.bank_orders.specs.Resend.{resend_of}
use Rattle.bank_orders.specs.GivingUp.{given_up, given_up_in}
use Rattle.bank_orders.specs.Ending.{can_end, end_tests, end_record}
use Rattle.bank_orders.specs.Orders.{command_row}
use Rattle.bank_orders.proofs.Starts.{under, to_peer}

-- the link to send under is with the peer
peer_of : LinksFound → (p : Party) (peer : List ℕ) (label : Option (List ℕ)) (l : LinkRec) → sending_link p peer label ≡ Some l → l.peer ≡ peer
peer_of found p peer label l h = to_peer found p peer label l (under p peer label l h)

module _ (held : HeldIfAccepted) (links : LinksFound) (keys : KeysFound) where
  starts : (p : Party) (peer : List ℕ) (label : Option (List ℕ)) (moment : ℕ) (o : Option LinkRec) → sending_link p peer label ≡ o → is_accept (start_under p peer o moment).verdict ≡ true → AllBeginFree p (start_under p peer o moment).edits
  starts p peer label moment None f e = tt
  starts p peer label moment (Some l) f e = go (good_draw p.generator moment) e
    where
      go : (d : Option (ℕ × Gen)) → is_accept (sending_drawn p (start_tests p peer (Some l)) l d).verdict ≡ true → AllBeginFree p (sending_drawn p (start_tests p peer (Some l)) l d).edits
      go None e = tt
      go (Some d) e =
          let h : TestsHold (start_tests p peer (Some l) ++ sending_tests p l (Some d)) = held (start_tests p peer (Some l) ++ sending_tests p l (Some d)) refl e in
          sending_begins p (start_tests p peer (Some l)) l (Some d) (free_with p peer l.peer (peer_of links p peer label l f) h.1.0)

  starts_kk : (p : Party) (peer : List ℕ) (label : Option (List ℕ)) (new : List ℕ) (single : Bool) (moment : ℕ) (o : Option LinkRec) → sending_link p peer label ≡ o → is_accept (start_kk_under p peer new single o moment).verdict ≡ true → AllBeginFree p (start_kk_under p peer new single o moment).edits
  starts_kk p peer label new single moment None f e = tt
  starts_kk p peer label new single moment (Some l) f e = go (kk_drawn p.generator moment single) e
    where
      go : (d : Option KkDrawn) → is_accept (kk_sending p (start_tests p peer (Some l)) l new single d).verdict ≡ true → AllBeginFree p (kk_sending p (start_tests p peer (Some l)) l new single d).edits
      go None e = tt
      go (Some d) e =
          let h : TestsHold (start_tests p peer (Some l) ++ kk_tests p l new (Some d)) = held (start_tests p peer (Some l) ++ kk_tests p l new (Some d)) refl e in
          (tt, (tt, (tt, (tt, (free_with p peer l.peer (peer_of links p peer label l f) h.1.0, tt)))))

  asks : (p : Party) (peer : List ℕ) (u : Option (List ℕ)) → is_accept (ask_of p peer u).verdict ≡ true → AllBeginFree p (ask_of p peer u).edits
  asks p peer None e = tt
  asks p peer (Some u) e =
      let h : TestsHold (ask_tests p peer u) = held (ask_tests p peer u) refl e in
      (none_stands (exchange_with peer p) (and_parts (is_none (exchange_with peer p)) (is_none (exchange_with u p)) h.1.1.0).0, tt)

  translates : (p : Party) (centre u : List ℕ) (moment : ℕ) (o : Option LinkRec) → is_accept (translate_under p centre u o moment).verdict ≡ true → AllBeginFree p (translate_under p centre u o moment).edits
  translates p centre u moment None e = tt
  translates p centre u moment (Some l) e = go (good_draw p.generator moment) e
    where
      go : (d : Option (ℕ × Gen)) → is_accept (translate_drawn p centre u l d).verdict ≡ true → AllBeginFree p (translate_drawn p centre u l d).edits
      go None e = tt
      go (Some d) e =
          let h : TestsHold (centre_front p centre u ++ translate_tests l (Some d)) = held (centre_front p centre u ++ translate_tests l (Some d)) refl e in
          (tt, (tt, (none_stands (exchange_with centre p) (and_parts (is_none (exchange_with centre p)) (is_none (exchange_with u p)) h.1.1.0).0, tt)))

  resends : (p : Party) (o : Option Exchange) → AllBeginFree p (resend_of o).edits
  resends p None = tt
  resends p (Some e) = tt

  ends : (p : Party) (peer : List ℕ) (name : KeyName) (o : Option KeyRec) → record_of p peer name ≡ o → is_accept (end_record p peer o).verdict ≡ true → AllBeginFree p (end_record p peer o).edits
  ends p peer name None f e = tt
  ends p peer name (Some k) f e =
      let h : TestsHold (end_tests p peer (can_end k.status)) = held (end_tests p peer (can_end k.status)) refl e in
      let key : RecordKey = record { peer = peer; name = name } in
      (tt, (free_with p peer k.peer (sym (ap (λ (x : RecordKey). x.peer) (keys key k p f))) h.0, tt))

  drops : (p : Party) (peer : List ℕ) (o : Option Exchange) → AllBeginFree p (given_up_in p peer o)
  drops p peer None = tt
  drops p peer (Some e) = by_kind e.kind
    where
      by_key : (o : Option KeyRec) → AllBeginFree p (ended o)
      by_key None = tt
      by_key (Some k) = (tt, tt)

      by_kind : (k : Kind) → AllBeginFree p (given_up p peer k ++ DropExchange peer ∷ [])
      by_kind (kind.KeySent name via) = begin_append p (dropped (new_link p peer via) ++ ended (record_of p peer name)) (DropExchange peer ∷ []) (begin_append p (dropped (new_link p peer via)) (ended (record_of p peer name)) (dropped_begin p (new_link p peer via)) (by_key (record_of p peer name))) (tt, tt)
      by_kind (kind.Asked ultimate) = (tt, tt)
      by_kind (kind.Translating ultimate value cta) = (tt, tt)
      by_kind (kind.Ending name) = (tt, tt)
      by_kind (kind.PairSent name) =
          begin_append p (ended (record_of p peer name) ++ ended (record_of p peer (name_behind name))) (DropExchange peer ∷ [])
          (begin_append p (ended (record_of p peer name)) (ended (record_of p peer (name_behind name))) (by_key (record_of p peer name)) (by_key (record_of p peer (name_behind name)))) (tt, tt)

  pub command_begins : (p : Party) (c : Command) (moment : ℕ) → is_accept (command_row p c moment).verdict ≡ true → AllBeginFree p (command_row p c moment).edits
  command_begins p (command.Load peer label side pair) moment e = (tt, tt)
  command_begins p (command.Start peer label) moment e = starts p peer label moment (sending_link p peer label) refl e
  command_begins p (command.StartKk peer label new single) moment e = starts_kk p peer label new single moment (sending_link p peer label) refl e
  command_begins p (command.Ask peer ultimate) moment e = asks p peer ultimate e
  command_begins p (command.Translate centre ultimate) moment e = translates p centre ultimate moment (link_with (sends centre centre_label) p) e
  command_begins p (command.Resend peer) moment e = resends p (exchange_with peer p)
  command_begins p (command.End peer name) moment e = ends p peer name (record_of p peer name) refl e
  command_begins p (command.Drop peer) moment e = drops p peer (exchange_with peer p)
  command_begins p command.Purge moment e = (tt, tt)
