-- The rows of a bank's commands.
use Rattle.party_state.specs.Rows.{Row}
use Rattle.party_state.specs.State.{centre_label}
use Rattle.party_state.specs.Verdicts.{is_accept}
use Rattle.bank_orders.specs.Ask.{ask_centre, ask_of}
use Rattle.bank_orders.specs.Translate.{translate_drawn, translate_under}
use Rattle.bank_orders.specs.Orders.{command_row}
use Rattle.std.proofs.Common.{true}
use Rattle.world_laws.proofs.Links.Found.{LinkAt, link_at}
use Rattle.world_laws.proofs.Links.Putting.{put_at}
use Rattle.world_laws.proofs.Counting.Sound.{SoundRow}
use Rattle.world_laws.proofs.Counting.Quiet.{no_free}
use Rattle.world_laws.proofs.Sound.NewKks.{start_kk_sound}
use Rattle.std.proofs.Common.{arith, ◌≡◌, ℕ, ◌+◌, Option, Some, None, List, [], ◌∷◌, ◌++◌, refl, ap, subst, inl}
use Rattle.x_gen.specs.declared.generator.Gen.{Gen}
use Rattle.x_gen.specs.Gen.{good_draw}
use Rattle.party_tables.specs.declared.link.LinkKey.{LinkKey}
use Rattle.party_tables.specs.declared.link.LinkRec.{LinkRec}
use Rattle.party_tables.specs.declared.key.KeyRec.{KeyRec}
use Rattle.party_tables.specs.declared.exchange.Kind.{Kind}
use Rattle.party_tables.specs.declared.exchange.Kind.TheVariants as kind
use Rattle.party_tables.specs.declared.exchange.Exchange.{Exchange}
use Rattle.party_state.specs.declared.edit.Edit.TheVariants.{DropExchange}
use Rattle.party_state.specs.declared.command.Command.{Command}
use Rattle.party_state.specs.declared.command.Command.TheVariants as command
use Rattle.party_tables.specs.Keys.{same_link, link_key, sends}
use Rattle.party_state.specs.State.{Party, link_with, exchange_with}
use Rattle.party_state.specs.Verdicts.{Test, verdict_of}
use Rattle.party_tables.proofs.Keys.{test_links}
use Rattle.party_tables.proofs.Tables.{find_put_same}
use Rattle.party_tables.specs.Names.{name_behind}
use Rattle.role_base.specs.Exchanges.{record_of, new_link, dropped, ended}
use Rattle.role_base.specs.Sending.{sending_tests, sending_drawn}
use Rattle.bank_orders.specs.Start.{sending_link, start_tests, start_under}
use Rattle.bank_orders.specs.Ask.{ask_peer}
use Rattle.bank_orders.specs.Resend.{resend_of}
use Rattle.bank_orders.specs.GivingUp.{given_up, given_up_in, drop}
use Rattle.bank_orders.specs.Ending.{end_record, purge}
use Rattle.world_laws.specs.Events.{IsCommand}
use Rattle.world_laws.proofs.Links.Growth.{next_up}
use Rattle.world_laws.proofs.Links.Found.{HasLinks, SendingAt, sending_at}
use Rattle.world_laws.proofs.Links.Waiting.{Waits, MayGo, change_waits, new_may_go}
use Rattle.world_laws.proofs.Counting.Sound.{IsSound}
use Rattle.world_laws.proofs.Counting.Quiet.{pairs_one, no_new, Passes, passes_sound, quiet_sound, refused_sound}

-- a key is sent under a link
pub sending_sound : (p : Party) (text : List ℕ) (front : List Test) (peer : List ℕ) (l : LinkRec) (drawn : Option (ℕ × Gen)) → SendingAt p peer l → IsSound None p text (sending_drawn p front l drawn)
sending_sound p text front peer l None s = refused_sound p text (verdict_of (front ++ sending_tests p l None))
sending_sound p text front peer l (Some drawn) s =
    let up : LinkRec = record l { next = l.next + 1 } in
    let key : link_key l ≡ sends l.peer l.label = (λ j. record { peer = l.peer; label = l.label; side = (ap (λ (k : LinkKey). k.side) s.at.key) j }) in
    let at_key : link_with (link_key l) p ≡ Some l = rw s.at.key s.at.found in
    let at_l : link_with (sends l.peer l.label) p ≡ Some l = subst (λ (k : LinkKey). link_with k p ≡ Some l) key at_key in
    record {
      made = no_new None;
      free = no_free p;
      edits = (tt, (inl (l, at_key, next_up l (l.next + 1) (omega arith)), (tt, (tt, tt))));
      waits = change_waits (sending_drawn p front l (Some drawn)).edits p (tt, ((l, at_key, refl), (tt, (refl, tt))));
      uses = (record { before = inl (l, at_l, omega arith); after = (up, rw (← key) (find_put_same link_key same_link test_links up p.links), omega arith) }, tt);
      apart = pairs_one _;
      accepts = tt;
    }

pub start_sound : (p : Party) (text : List ℕ) (peer : List ℕ) (o : Option LinkRec) (moment : ℕ) → ((l : LinkRec) → o ≡ Some l → SendingAt p peer l) → IsSound None p text (start_under p peer o moment)
start_sound p text peer None moment f = refused_sound p text (verdict_of (start_tests p peer None))
start_sound p text peer (Some l) moment f = sending_sound p text (start_tests p peer (Some l)) peer l (good_draw p.generator moment) (f l refl)

pub resend_sound : (p : Party) (text : List ℕ) (o : Option Exchange) → IsSound None p text (resend_of o)
resend_sound p text None = quiet_sound p text (resend_of None) tt refl (λ a e. absurd (cc))
resend_sound p text (Some x) = quiet_sound p text (resend_of (Some x)) tt refl (λ a e. absurd (cc))

pub end_sound : (p : Party) (text : List ℕ) (peer : List ℕ) (o : Option KeyRec) → IsSound None p text (end_record p peer o)
end_sound p text peer None = quiet_sound p text (end_record p peer None) tt refl (λ a e. absurd (cc))
end_sound p text peer (Some k) = quiet_sound p text (end_record p peer (Some k)) (tt, (refl, tt)) refl (λ a e. absurd (cc))

pub purge_sound : (p : Party) (text : List ℕ) → IsSound None p text purge
purge_sound p text = quiet_sound p text purge (tt, tt) refl (λ a e. absurd (cc))

-- a link that may go, and a record and an exchange with it
pub gone_passes : (p : Party) (peer : List ℕ) (o : Option LinkRec) (r : Option KeyRec) → ((l : LinkRec) → o ≡ Some l → MayGo p l) → Passes p ((dropped o ++ ended r) ++ DropExchange peer ∷ [])
gone_passes p peer None None f = ((tt, tt), (tt, tt))
gone_passes p peer None (Some k) f = ((tt, (tt, tt)), (tt, (tt, tt)))
gone_passes p peer (Some l) None f = let g = f l refl in (((g.side, (g.link, g.found, g.unready)), (tt, tt)), (tt, (tt, tt)))
gone_passes p peer (Some l) (Some k) f = let g = f l refl in (((g.side, (g.link, g.found, g.unready)), (tt, (tt, tt))), (tt, (tt, (tt, tt))))

-- two records
pub ended_passes : (p : Party) (peer : List ℕ) (r s : Option KeyRec) → Passes p ((ended r ++ ended s) ++ DropExchange peer ∷ [])
ended_passes p peer None None = ((tt, tt), (tt, tt))
ended_passes p peer None (Some k) = ((tt, (tt, tt)), (tt, (tt, tt)))
ended_passes p peer (Some k) None = ((tt, (tt, tt)), (tt, (tt, tt)))
ended_passes p peer (Some j) (Some k) = ((tt, (tt, (tt, tt))), (tt, (tt, (tt, tt))))

pub given_up_passes : (p : Party) (peer : List ℕ) (o : Option Exchange) → exchange_with peer p ≡ o → Waits p → Passes p (given_up_in p peer o)
given_up_passes p peer None at w = (tt, tt)
given_up_passes p peer (Some e) at w = by_kind e.kind refl
  where
    by_kind : (k : Kind) → e.kind ≡ k → Passes p (given_up p peer k ++ DropExchange peer ∷ [])
    by_kind (kind.KeySent name via) is = gone_passes p peer (new_link p peer via) (record_of p peer name) (λ l h. (new_may_go p peer e name via w at is l h).1)
    by_kind (kind.Asked ultimate) is = ((tt, tt), (tt, tt))
    by_kind (kind.Translating ultimate value cta) is = ((tt, tt), (tt, tt))
    by_kind (kind.Ending name) is = ((tt, tt), (tt, tt))
    by_kind (kind.PairSent name) is = ended_passes p peer (record_of p peer name) (record_of p peer (name_behind name))

abbrev plain_sound : {p : Party} {text : List ℕ} {r : Row} → IsSound None p text r → SoundRow p text r
plain_sound {p} {text} {r} g = record { new = None; sound = g }

pub ask_of_sound : (p : Party) (text : List ℕ) (peer : List ℕ) (o : Option (List ℕ)) → IsSound None p text (ask_of p peer o)
ask_of_sound p text peer None = quiet_sound p text (ask_peer p peer) tt refl (λ a e. absurd (cc))
ask_of_sound p text peer (Some u) = quiet_sound p text (ask_centre p peer u) (refl, tt) refl (λ a e. absurd (cc))

pub translate_sound : (p : Party) (text : List ℕ) (centre u : List ℕ) (o : Option LinkRec) (moment : ℕ) → link_with (sends centre centre_label) p ≡ o → IsSound None p text (translate_under p centre u o moment)
translate_sound p text centre u None moment e = refused_sound p text _
translate_sound p text centre u (Some l) moment e = by_draw (good_draw p.generator moment)
  where
    at : LinkAt p (sends centre centre_label) l
    at = link_at p (sends centre centre_label) l e

    at_key : link_with (link_key l) p ≡ Some l
    at_key = rw at.key e

    by_draw : (d : Option (ℕ × Gen)) → IsSound None p text (translate_drawn p centre u l d)
    by_draw None = refused_sound p text _
    by_draw (Some d) = record {
      made = no_new None;
      free = no_free p;
      edits = (tt, (inl (l, at_key, next_up l (l.next + 1) (omega arith)), (tt, tt)));
      waits = change_waits (translate_drawn p centre u l (Some d)).edits p (tt, ((l, at_key, refl), (refl, tt)));
      uses = (record { before = inl (l, e, omega arith); after = (record l { next = l.next + 1 }, put_at (sends centre centre_label) (record l { next = l.next + 1 }) p.links at.key, omega arith) }, tt);
      apart = pairs_one _;
      accepts = tt;
    }

pub command_sound : (p : Party) (c : Command) (moment : ℕ) → IsCommand c → HasLinks p → Waits p → is_accept (command_row p c moment).verdict ≡ true → SoundRow p [] (command_row p c moment)
command_sound p (command.Load peer label side pair) moment i d n h = absurd i
command_sound p (command.Start peer label) moment i d n h = plain_sound (start_sound p [] peer (sending_link p peer label) moment (λ l h. sending_at p peer label l d h))
command_sound p (command.StartKk peer label new single) moment i d n h = start_kk_sound p [] peer new single (sending_link p peer label) moment (λ l h. sending_at p peer label l d h) h
command_sound p (command.Ask peer ultimate) moment i d n h = plain_sound (ask_of_sound p [] peer ultimate)
command_sound p (command.Translate centre ultimate) moment i d n h = plain_sound (translate_sound p [] centre ultimate (link_with (sends centre centre_label) p) moment refl)
command_sound p (command.Resend peer) moment i d n h = plain_sound (resend_sound p [] (exchange_with peer p))
command_sound p (command.End peer name) moment i d n h = plain_sound (end_sound p [] peer (record_of p peer name))
command_sound p (command.Drop peer) moment i d n h = plain_sound (passes_sound p [] (drop p peer) (given_up_passes p peer (exchange_with peer p) refl n) refl (λ a e. absurd (cc)))
command_sound p command.Purge moment i d n h = plain_sound (purge_sound p [])
