-- The last two laws, of every honest run.
use Rattle.std.proofs.Common.{◌&&◌}
use Rattle.std.proofs.lemmas.List.Elements.{All-nil}
use Rattle.std.proofs.lemmas.List.Elements.{All-same}
use Rattle.std.proofs.Common.{append-nil}
use Rattle.x_base.specs.declared.verdict.Verdict.TheVariants as verdict
use Rattle.csm_write.specs.Canon.{auth_of}
use Rattle.party_tables.proofs.Keys.{test_idents, test_records}
use Rattle.party_tables.proofs.Tables.{find_key, put_stands}
use Rattle.party_tables.specs.Keys.{same_record, record_key, exchange_key, sends, takes}
use Rattle.party_tables.specs.Names.{full_name}
use Rattle.party_state.specs.Rows.{Row, Reply, Coded, Plain, Again, OfKsm, OfDsm, refused}
use Rattle.party_state.specs.State.{Party, centre_label, record_with, apply}
use Rattle.party_tables.specs.Tables.{find_row, put_row}
use Rattle.party_state.specs.Verdicts.{is_accept}
use Rattle.party_tables.specs.declared.exchange.Exchange.{Exchange}
use Rattle.party_tables.specs.declared.key.KeyRec.{KeyRec}
use Rattle.party_tables.specs.declared.key.KeyStatus.{KeyStatus}
use Rattle.party_tables.specs.declared.key.KeyStatus.TheVariants.{Pending, Live, Held, Closing, Ended}
use Rattle.party_tables.specs.declared.key.RecordKey.{RecordKey}
use Rattle.std.proofs.Common.{arith, ◌≡◌, ◌⊎◌, inl, inr, ℕ, Bool, true, false, cond, Option, Some, None, List, [], ◌∷◌, refl, sym, ◌∙◌, ap, subst, bytes_eq, get_or}
use Rattle.std.proofs.lemmas.List.Elements.{All-contains}
use Rattle.world_laws.proofs.Roles.Inputs.{HonestInput, IsInput}
use Rattle.world_laws.proofs.Counting.Counts.{CountedAt}
use Rattle.world_laws.proofs.Counting.Sound.{IsSound}
use Rattle.world_laws.proofs.Links.Growth.{PartyGrows, change_grows}
use Rattle.world_laws.specs.Laws.{HasAccepted, partner_of, IsEndedAt}
use Rattle.member.specs.Member.{Member}
use Rattle.world_laws.specs.World.{Fact, Acceptance, World, own_of, member_at}
use Rattle.x_base.specs.declared.key_name.KeyName.{KeyName}
use Rattle.party_state.specs.declared.command.Input.{Input}
use Rattle.party_state.specs.declared.command.Input.TheVariants as input
use Rattle.world_laws.proofs.Texts.Names.{IsNamed}
use Rattle.world_laws.proofs.Agreeing.Moves.{OwnReply, OwnText}
use Rattle.world_laws.proofs.Speaking.Makers.{SentBy, row_self}
use Rattle.world_laws.proofs.Agreeing.Standing.{AllNewStand, AllTwinsStand, row_stand, row_twins}
use Rattle.world_laws.proofs.Agreeing.StandingRows.{row_news}
use Rattle.world_laws.proofs.Agreeing.MeetingCounts.{AllMet, AllBegun, CountsMove, sending_counts, met_on, begun_on}
use Rattle.world_laws.proofs.Agreeing.CountRows.{row_counts}
use Rattle.world_laws.specs.Facts.{IsMadeBySender}
use Rattle.std.proofs.Common.{suc}
use Rattle.world_laws.specs.World.{World}
use Rattle.change_code.specs.Cost.{fits, is_change, can_compact, space_of_whole}
use Rattle.change_code.specs.declared.format.Format.{Format}
use Rattle.member.specs.Acts.{compacted_in, migrated_in}
use Rattle.member.specs.Rows.{row_at}
use Rattle.world_laws.specs.Events.{Action, Orders, Hears, Compacts, Migrates, Completion, Whole, CutOld, CutNew, Event, IsAction, AreEvents}
use Rattle.world_laws.specs.Steps.{received_text, member_after, world_after_row, world_with_answer, world_with_text, world_by_row, world_with_space, world_rewritten, world_after_action, step_at, step, run}
use Rattle.world_laws.specs.Honest.{HonestAction, HonestAt, HonestRun}
use Rattle.world_laws.specs.Starts.{Each, IsStart}
use Rattle.world_laws.specs.Laws.{IsLive, HoldsKey, Agreement, EndedBoth}
use Rattle.role_base.specs.Differing.{differing}
use Rattle.world_laws.proofs.Lists.Members.{each_on}
use Rattle.world_laws.proofs.Counting.Counts.{CountedAt}
use Rattle.world_laws.proofs.Counting.Sound.{IsSound, SoundRow}
use Rattle.world_laws.proofs.Counting.Roles.{row_left_out, row_is_sound}
use Rattle.world_laws.proofs.Counting.Runs.{step_counted, bare_counted, start_bare}
use Rattle.world_laws.proofs.Texts.Names.{change_named, party_named}
use Rattle.world_laws.proofs.Agreeing.Lists.{Lists, lists_of, after, facts_after, acceptances_after, lists_after, Counts, to_peer, full_at}
use Rattle.world_laws.proofs.Agreeing.Moves.{Agreeing, RepliesOk, FreshReply, FreshMessage}
use Rattle.world_laws.proofs.Agreeing.KeyRecords.{Gone}
use Rattle.world_laws.proofs.Agreeing.Facts.{TakenKsm, Keeps, DsmOk, AcceptedOk, FactOk, MessageOk}
use Rattle.world_laws.proofs.Agreeing.Known.{full_mine}
use Rattle.world_laws.proofs.Agreeing.Agreed.{Agreed}
use Rattle.world_laws.proofs.Agreeing.Kept.{kept_agreed}
use Rattle.world_laws.proofs.Agreeing.Steps.{still_agreeing}
use Rattle.world_laws.proofs.Agreeing.Matched.{Matched, matched}
use Rattle.world_laws.proofs.Speaking.Wellformed.{Speaks, TellsEsm}
use Rattle.world_laws.proofs.Agreeing.Roles.{row_agrees, row_speaks, row_tells}
use Rattle.change_code.specs.declared.space.Space.{Space}

-- what each moment of an honest run keeps
pub record AgreedAt (w : World) : Type 0 where
  pub agreed : Agreed (lists_of w)
  pub named : Each (λ x. IsNamed x.party) w.members
  pub stand : Each (λ x. AllNewStand x.party) w.members
  pub twins : Each (λ x. AllTwinsStand x.party) w.members
  pub met : AllMet w.members
  pub begun : AllBegun w.members

-- a row that changes nothing, with this reply
abbrev answer_row : Row → Row
answer_row r = record { verdict = r.verdict; edits = []; reply = r.answer; uses = []; makes = None; accepts = None; answer = None }

quiet_row : (p : Party) (text : List ℕ) (r : Row) → IsSound None p text (answer_row r)
quiet_row p text r = record { made = λ k e s. absurd (cc); free = λ k e s. absurd (cc); edits = tt; waits = λ w. w; uses = tt; apart = λ k j d less m. absurd (omega arith); accepts = tt }

answer_replies : (v : Lists) (own : List ℕ) (o : Option Reply) → TellsEsm o → RepliesOk v own o
answer_replies v own None e = tt
answer_replies v own (Some (Coded m under value)) e = subst (MessageOk v (record { under = under; text = auth_of m; maker = own })) (sym e.1) tt
answer_replies v own (Some (Plain m)) e = absurd e
answer_replies v own (Some (Again text)) e = absurd e

answer_new : (fs : List Fact) (s : Party) (o : Option Reply) → TellsEsm o → FreshReply fs s o
answer_new fs s None e = tt
answer_new fs s (Some (Coded m under value)) e = subst (FreshMessage fs s under) (sym e.1) tt
answer_new fs s (Some (Plain m)) e = tt
answer_new fs s (Some (Again text)) e = tt

answer_own : (own : List ℕ) (o : Option Reply) → TellsEsm o → SentBy own o → OwnText own o
answer_own own None e by = tt
answer_own own (Some (Coded m under value)) e by = (e.2, by)
answer_own own (Some (Plain m)) e by = tt
answer_own own (Some (Again text)) e by = tt

own_text : (own : List ℕ) (o : Option Reply) → OwnReply o → SentBy own o → OwnText own o
own_text own None e by = tt
own_text own (Some (Coded m under value)) e by = (e, by)
own_text own (Some (Plain m)) e by = tt
own_text own (Some (Again text)) e by = tt

-- with another space and the answer to a refused text, all goes on
space_agreed : (w : World) (p : List ℕ) (x : Member) (space : Space) (r : Row) → member_at p w.members ≡ Some x → TellsEsm r.answer → SentBy x.party.own r.answer → Agreed (lists_of w) → Agreed (record { members = put_row own_of bytes_eq (record { party = x.party; space = space }) w.members; facts = facts_after w.facts x r.answer; acceptances = w.acceptances })
space_agreed w p x space r found tells by i =
    let v : Lists = lists_of w in
    let row : Agreeing (lists_of w) x space [] (answer_row r) = still_agreeing (lists_of w) p x space found i [] (answer_row r) refl (answer_replies (lists_after (lists_of w) x space [] (answer_row r)) x.party.own r.answer tells) (answer_new w.facts x.party r.answer tells) tt in
    let k : Agreed (lists_after (lists_of w) x space [] (answer_row r)) = kept_agreed None (lists_of w) p x space [] (answer_row r) found (quiet_row x.party [] r) (answer_own x.party.own r.answer tells by) row i in
    subst (λ (accs : List Acceptance). Agreed (record { members = put_row own_of bytes_eq (record { party = x.party; space = space }) w.members; facts = facts_after w.facts x r.answer; acceptances = accs })) (append-nil w.acceptances) k

answer_agreed : (w : World) (p : List ℕ) (x : Member) (r : Row) → member_at p w.members ≡ Some x → TellsEsm r.answer → SentBy x.party.own r.answer → Agreed (lists_of w) → Agreed (record { members = w.members; facts = facts_after w.facts x r.answer; acceptances = w.acceptances })
answer_agreed w p x r found tells by i =
    let own : p ≡ x.party.own = find_key own_of bytes_eq test_idents p x w.members found in
    let stands : put_row own_of bytes_eq x w.members ≡ w.members = put_stands own_of bytes_eq x w.members (subst (λ (q : List ℕ). member_at q w.members ≡ Some x) own found) in
    subst (λ (ms : List Member). Agreed (record { members = ms; facts = facts_after w.facts x r.answer; acceptances = w.acceptances })) stands (space_agreed w p x x.space r found tells by i)

-- the member after a row is the one that its edits that differ make
moved_is : (x : Member) (r : Row) → apply (differing x.party r.edits) x.party ≡ apply r.edits x.party → after x (member_after x r).space r ≡ member_after x r
moved_is x r e j = record { party = (sym e) j; space = (member_after x r).space }

module _ (n : ℕ) (w : World) (p : List ℕ) (x : Member) (moment : ℕ) (j : Input) (e : IsInput j) (honest : HonestInput w.facts x.party j) (found : member_at p w.members ≡ Some x) (c : CountedAt n w) (i : AgreedAt w) where
  abbrev row : Row
  row = row_at x.party j moment

  named : IsNamed x.party
  named = i.named p x found

  tells : TellsEsm (row_at x.party j moment).answer
  tells = row_tells x.party named j moment e (c.links p x found)

  counts : is_accept (row_at x.party j moment).verdict ≡ true → CountsMove w.members x.party (row_at x.party j moment)
  counts h = row_counts (lists_of w) p x x.space found i.agreed (c.links p x found) j moment e honest h

  kept_at : is_accept (row_at x.party j moment).verdict ≡ true → AgreedAt (world_after_row n w x.party.own (received_text j) (row_at x.party j moment) (member_after x (row_at x.party j moment)))
  kept_at h =
      let g : SoundRow x.party (received_text j) (row_at x.party j moment) = row_is_sound x.party j moment e (c.links p x found) (c.waits p x found) h in
      let s : Speaks (row_at x.party j moment) = row_speaks x.party named j moment e (c.links p x found) h in
      let left : apply (differing x.party (row_at x.party j moment).edits) x.party ≡ apply (row_at x.party j moment).edits x.party = row_left_out x.party j moment (c.links p x found) h in
      let y : after x (member_after x (row_at x.party j moment)).space (row_at x.party j moment) ≡ member_after x (row_at x.party j moment) = moved_is x (row_at x.party j moment) left in
      let a : Agreeing (lists_of w) x (member_after x (row_at x.party j moment)).space (received_text j) (row_at x.party j moment) = row_agrees n w p x (member_after x (row_at x.party j moment)).space found c i.agreed g.new j moment e honest h g.sound in
      let k : Agreed (lists_after (lists_of w) x (member_after x (row_at x.party j moment)).space (received_text j) (row_at x.party j moment)) = kept_agreed g.new (lists_of w) p x (member_after x (row_at x.party j moment)).space (received_text j) (row_at x.party j moment) found g.sound (own_text x.party.own (row_at x.party j moment).reply s.reply (row_self x.party j moment).reply) a i.agreed in
      let grown : PartyGrows g.new x.party (apply (row_at x.party j moment).edits x.party) = change_grows g.new (row_at x.party j moment).edits x.party g.sound.edits in
      let own : (member_after x (row_at x.party j moment)).party.own ≡ x.party.own = ap (λ (q : Party). q.own) left ∙ grown.own in
      record {
        agreed = subst (λ (m : Member). Agreed (record { members = put_row own_of bytes_eq m w.members; facts = facts_after w.facts x (row_at x.party j moment).reply; acceptances = acceptances_after w.acceptances x (received_text j) (row_at x.party j moment) })) y k;
        named = each_on w.members p x (member_after x (row_at x.party j moment)) found own (λ m. IsNamed m.party) i.named (λ q. subst IsNamed (sym left) (change_named (row_at x.party j moment).edits x.party s.names q));
        stand = each_on w.members p x (member_after x (row_at x.party j moment)) found own (λ m. AllNewStand m.party) i.stand
            (λ q. subst AllNewStand (sym left) (row_stand (lists_of w) (lists_after (lists_of w) x (member_after x (row_at x.party j moment)).space (received_text j) (row_at x.party j moment)) x.party (row_at x.party j moment).edits (row_news x.party j moment) a.keys (i.agreed.sent p x found) q));
        twins = each_on w.members p x (member_after x (row_at x.party j moment)) found own (λ m. AllTwinsStand m.party) i.twins
            (λ q. subst AllTwinsStand (sym left) (row_twins (lists_of w) (lists_after (lists_of w) x (member_after x (row_at x.party j moment)).space (received_text j) (row_at x.party j moment)) x.party (row_at x.party j moment).edits (row_news x.party j moment) a.keys (i.agreed.sent p x found) q));
        met = subst (λ (m : Member). AllMet (put_row own_of bytes_eq m w.members)) y (met_on g.new (lists_of w) p x (member_after x (row_at x.party j moment)).space (received_text j) (row_at x.party j moment) found g.sound (own_text x.party.own (row_at x.party j moment).reply s.reply (row_self x.party j moment).reply) a i.agreed (counts h) i.met i.begun);
        begun = subst (λ (m : Member). AllBegun (put_row own_of bytes_eq m w.members)) y (begun_on g.new (lists_of w) p x (member_after x (row_at x.party j moment)).space (received_text j) (row_at x.party j moment) found g.sound (own_text x.party.own (row_at x.party j moment).reply s.reply (row_self x.party j moment).reply) a i.agreed (counts h) i.met i.begun);
      }

  answered_at : AgreedAt (world_with_text (world_with_answer w x.party.own (row_at x.party j moment)) (row_at x.party j moment).answer)
  answered_at = record { agreed = answer_agreed w p x (row_at x.party j moment) found tells (row_self x.party j moment).answer i.agreed; named = i.named; stand = i.stand; twins = i.twins; met = i.met; begun = i.begun }

  told_at : (v : World) → AgreedAt v → (o : Option Reply) → AgreedAt (world_with_text v o)
  told_at v a o = record { agreed = a.agreed; named = a.named; stand = a.stand; twins = a.twins; met = a.met; begun = a.begun }

  pub turned_agreed : (how : Completion) → AgreedAt (world_by_row n w x (received_text j) (row_at x.party j moment) how)
  turned_agreed Whole = go (is_accept (row_at x.party j moment).verdict) refl (fits x.space (differing x.party (row_at x.party j moment).edits))
    where
      go : (b : Bool) → is_accept (row_at x.party j moment).verdict ≡ b → (d : Bool) → AgreedAt (cond b (cond d (world_with_text (world_after_row n w x.party.own (received_text j) (row_at x.party j moment) (member_after x (row_at x.party j moment))) (row_at x.party j moment).reply) w) (world_with_text (world_with_answer w x.party.own (row_at x.party j moment)) (row_at x.party j moment).answer))
      go true h true = told_at _ (kept_at h) (row_at x.party j moment).reply
      go true h false = i
      go false h d = answered_at
  turned_agreed CutOld = i
  turned_agreed CutNew = go (is_accept (row_at x.party j moment).verdict) refl (is_change (differing x.party (row_at x.party j moment).edits) && fits x.space (differing x.party (row_at x.party j moment).edits))
    where
      go : (b : Bool) → is_accept (row_at x.party j moment).verdict ≡ b → (d : Bool) → AgreedAt (cond (b && d) (world_after_row n w x.party.own (received_text j) (row_at x.party j moment) (member_after x (row_at x.party j moment))) w)
      go true h true = kept_at h
      go true h false = i
      go false h d = i

-- a compaction, or a migration
space_at : (w : World) (p : List ℕ) (x : Member) (space : Space) → member_at p w.members ≡ Some x → AgreedAt w → AgreedAt (world_with_space w x space)
space_at w p x space found i = record {
  agreed = subst (λ (fs : List Fact). Agreed (record { members = put_row own_of bytes_eq (record { party = x.party; space = space }) w.members; facts = fs; acceptances = w.acceptances })) (append-nil w.facts) (space_agreed w p x space (refused verdict.WrongClass) found tt tt i.agreed);
  named = each_on w.members p x (record { party = x.party; space = space }) found refl (λ m. IsNamed m.party) i.named (λ q. q);
  stand = each_on w.members p x (record { party = x.party; space = space }) found refl (λ m. AllNewStand m.party) i.stand (λ q. q);
  twins = each_on w.members p x (record { party = x.party; space = space }) found refl (λ m. AllTwinsStand m.party) i.twins (λ q. q);
  met = met_on None (lists_of w) p x space [] (answer_row (refused verdict.WrongClass)) found (quiet_row x.party [] (refused verdict.WrongClass)) tt row i.agreed counts i.met i.begun;
  begun = begun_on None (lists_of w) p x space [] (answer_row (refused verdict.WrongClass)) found (quiet_row x.party [] (refused verdict.WrongClass)) tt row i.agreed counts i.met i.begun;
}
  where
    row : Agreeing (lists_of w) x space [] (answer_row (refused verdict.WrongClass))
    row = still_agreeing (lists_of w) p x space found i.agreed [] (answer_row (refused verdict.WrongClass)) refl tt tt tt

    counts : CountsMove w.members x.party (answer_row (refused verdict.WrongClass))
    counts = sending_counts w.members x.party (answer_row (refused verdict.WrongClass)) tt refl

whole_agreed : (w : World) (p : List ℕ) (x : Member) (f : Format) → member_at p w.members ≡ Some x → AgreedAt w → AgreedAt (cond (can_compact f x.party) (world_with_space w x (space_of_whole f x.party)) w)
whole_agreed w p x f found i = go (can_compact f x.party)
  where
    go : (b : Bool) → AgreedAt (cond b (world_with_space w x (space_of_whole f x.party)) w)
    go true = space_at w p x (space_of_whole f x.party) found i
    go false = i

rewritten_agreed : (o : Option Format) (w : World) (p : List ℕ) (x : Member) (how : Completion) → member_at p w.members ≡ Some x → AgreedAt w → AgreedAt (world_rewritten o w x how)
rewritten_agreed None w p x how found i = i
rewritten_agreed (Some f) w p x Whole found i = whole_agreed w p x f found i
rewritten_agreed (Some f) w p x CutOld found i = i
rewritten_agreed (Some f) w p x CutNew found i = whole_agreed w p x f found i

done_agreed : (n : ℕ) (w : World) (p : List ℕ) (x : Member) (moment : ℕ) (how : Completion) (d : Action) → IsAction d → HonestAction w.facts x.party d → member_at p w.members ≡ Some x → CountedAt n w → AgreedAt w → AgreedAt (world_after_action n w x moment how d)
done_agreed n w p x moment how (Orders k) e honest found c i = turned_agreed n w p x moment (input.Ordered k) e honest found c i how
done_agreed n w p x moment how (Hears bytes (Some a)) e honest found c i = turned_agreed n w p x moment (input.Arrived a) tt honest found c i how
done_agreed n w p x moment how (Hears bytes None) e honest found c i = i
done_agreed n w p x moment how Compacts e honest found c i = rewritten_agreed (compacted_in x.space.format) w p x how found i
done_agreed n w p x moment how Migrates e honest found c i = rewritten_agreed (migrated_in x.space.format) w p x how found i

step_agreed : (n : ℕ) (w : World) (e : Event) → IsAction e.action → HonestAt w.facts (member_at e.party w.members) e.action → CountedAt n w → AgreedAt w → AgreedAt (step n w e)
step_agreed n w e d honest c i = go (member_at e.party w.members) refl honest
  where
    go : (o : Option Member) → member_at e.party w.members ≡ o → HonestAt w.facts o e.action → AgreedAt (step_at n w e o)
    go None h honest = i
    go (Some x) h honest = done_agreed n w e.party x e.moment e.completion e.action d honest h c i

run_agreed : (es : List Event) (n : ℕ) (w : World) → AreEvents es → HonestRun n w es → CountedAt n w → AgreedAt w → AgreedAt (run n w es)
run_agreed [] n w d honest c i = i
run_agreed (e ∷ es) n w d honest c i = run_agreed es (suc n) (step n w e) d.1 honest.1 (step_counted n w e d.0 c) (step_agreed n w e d.0 honest.0 c i)

-- the start

start_agreed : (w : World) → IsStart w → AgreedAt w
start_agreed w s = record {
  agreed = record {
    centres = λ p x peer l h f. (s.unused p x h (sends peer centre_label) l f).ready;
    ends = λ p x peer label l h f r. s.sends_ends p x peer label l h f;
    tables = λ p x h. (s.parties p x h).keys_once;
    known = λ p x h k r f. (let none = subst (λ (ks : List KeyRec). find_row record_key same_record k ks ≡ Some r) (s.only_links p x h).keys f in absurd (cc));
    sent = λ p x h peer e name f k. (let none = subst (λ (es : List Exchange). find_row exchange_key bytes_eq peer es ≡ Some e) (s.only_links p x h).exchanges f in absurd (cc));
    facts = All-same (FactOk (lists_of w)) w.facts [] s.no_history.facts (All-nil (FactOk (lists_of w)));
    apart = rw s.no_history.facts (λ i j d l m. absurd (omega arith));
    names = rw s.no_history.facts (λ i j d l m. absurd (omega arith));
    made = All-same IsMadeBySender w.facts [] s.no_history.facts (All-nil IsMadeBySender);
    accepted = All-same (AcceptedOk (lists_of w)) w.acceptances [] s.no_history.acceptances (All-nil (AcceptedOk (lists_of w)));
    live = λ p x k r h f own is. (let none = subst (λ (ks : List KeyRec). find_row record_key same_record k ks ≡ Some r) (s.only_links p x h).keys f in absurd (cc));
  };
  named = λ p x h. party_named x.party (s.parties p x h) (s.only_links p x h).keys (s.only_links p x h).exchanges;
  stand = λ p x h peer e name new f k l. (let none = subst (λ (es : List Exchange). find_row exchange_key bytes_eq peer es ≡ Some e) (s.only_links p x h).exchanges f in absurd (cc));
  twins = λ p x h peer e first name f k l. (let none = subst (λ (es : List Exchange). find_row exchange_key bytes_eq peer es ≡ Some e) (s.only_links p x h).exchanges f in absurd (cc));
  met = λ q y peer label m h f. (let e = s.takes_ends q y peer label m h f in
      let one = (s.unused q y h (takes peer label) m f).next in
      let other = s.unused peer e.member e.at (sends q label) e.link e.found in
      let same = other.next in
      inl (record { member = e.member; at = e.at; link = e.link; found = e.found; ready = other.ready; next = omega (arith, one, same) }));
  begun = λ q y peer label l h f r. absurd (let ready = (s.unused q y h (sends peer label) l f).ready in cc);
}

pub end_agreed : (start : World) (events : List Event) → IsStart start → AreEvents events → HonestRun 1 start events → AgreedAt (run 1 start events)
end_agreed start events s d honest = run_agreed events 1 start d honest (bare_counted start (start_bare start s)) (start_agreed start s)

-- the laws

ended_both : (w : World) → Agreed (lists_of w) → EndedBoth w
ended_both w i k d l class u among =
    let a : Acceptance = get_or w.acceptances k d in
    let b : HasAccepted w.acceptances OfDsm (partner_of a.party u) u = (i.accepted k d l).answer class u among in
    let g : DsmOk (lists_of w) b.acceptance.party u = (All-contains (AcceptedOk (lists_of w)) w.acceptances b.acceptance i.accepted b.stands).dsm b.class_is u b.among in
    subst (λ (p : List ℕ). IsEndedAt w.members p u) b.party_is g.ended

live_counts : (s : KeyStatus) → IsLive s → Counts s
live_counts Pending h = h
live_counts Live h = tt
live_counts Held h = absurd h
live_counts Closing h = tt
live_counts Ended h = h

module _ (w : World) (i : Agreed (lists_of w)) (p : List ℕ) (x : Member) (peer : List ℕ) (name : KeyName) (r : KeyRec) (h : member_at p w.members ≡ Some x) (found : record_with (record { peer = peer; name = name }) x.party ≡ Some r) (own : name.originator ≡ p) where
  key : RecordKey
  key = record { peer = peer; name = name }

  -- the partner holds what the text carried
  value_agrees : (a : HasAccepted w.acceptances OfKsm peer (record { name = name; recipient = peer })) → (tk : TakenKsm (lists_of w) a.acceptance) → (m : Matched (lists_of w) p x (record { peer = peer; name = name }) a.acceptance tk) → Keeps tk.party.party (record { name = name; recipient = peer }) m.value → HoldsKey w.members peer (record { peer = p; name = name }) r.value
  value_agrees a tk m kp =
      let found_f : record_with (record { peer = peer; name = name }) m.fact.party.party ≡ Some r = rw m.party_is found in
      let value : r.value ≡ m.value = m.fact.value (record { name = name; recipient = peer }) m.value m.made r found_f in
      let record_b : record_with (record { peer = p; name = name }) tk.party.party ≡ Some kp.0 = subst (λ (z : List ℕ). record_with (record { peer = z; name = name }) tk.party.party ≡ Some kp.0) own kp.1 in
      record { member = tk.party; at = m.at; entry = kp.0; found = record_b; held = kp.2; value_is = kp.3 ∙ sym value }

  -- where the partner gave the key up, it accepted its end
  gone_agrees : Counts r.status → Gone w.acceptances peer (record { name = name; recipient = peer }) → HasAccepted w.acceptances OfDsm peer (record { name = name; recipient = peer })
  gone_agrees is (inl a) = a
  gone_agrees is (inr a) =
      let b : HasAccepted w.acceptances OfDsm (partner_of a.acceptance.party (record { name = name; recipient = peer })) (record { name = name; recipient = peer }) = (All-contains (AcceptedOk (lists_of w)) w.acceptances a.acceptance i.accepted a.stands).answer a.class_is (record { name = name; recipient = peer }) a.among in
      let at : partner_of a.acceptance.party (record { name = name; recipient = peer }) ≡ p = (λ j. partner_of (a.party_is j) (record { name = name; recipient = peer })) ∙ partner_p in
      let d : DsmOk (lists_of w) b.acceptance.party (record { name = name; recipient = peer }) = (All-contains (AcceptedOk (lists_of w)) w.acceptances b.acceptance i.accepted b.stands).dsm b.class_is (record { name = name; recipient = peer }) b.among in
      let ended : IsEndedAt w.members p (to_peer (record { peer = peer; name = name })) = subst (λ (q : List ℕ). IsEndedAt w.members q (record { name = name; recipient = peer })) (b.party_is ∙ at) d.ended in
      let key : record { peer = peer; name = name } ≡ record_key r = find_key record_key same_record test_records (record { peer = peer; name = name }) r x.party.keys found in
      let full_r : full_name p r ≡ to_peer (record { peer = peer; name = name }) = ap (full_at p) (sym key) ∙ full_mine p (record { peer = peer; name = name }) own in
      absurd (subst Counts (ended x (record { peer = peer; name = name }) r h found full_r) is)
    where
      partner_p : partner_of peer (to_peer (record { peer = peer; name = name })) ≡ p
      partner_p = go (bytes_eq name.originator peer) refl
        where
          go : (t : Bool) → bytes_eq name.originator peer ≡ t → cond t peer name.originator ≡ p
          go true t = sym ((test_idents.decides name.originator peer).0 t) ∙ own
          go false t = own

  holds : IsLive r.status → HoldsKey w.members peer (record { peer = p; name = name }) r.value ⊎ HasAccepted w.acceptances OfDsm peer (record { name = name; recipient = peer })
  holds is =
      let p_is : p ≡ x.party.own = find_key own_of bytes_eq test_idents p x w.members h in
      let counts : Counts r.status = live_counts r.status is in
      let a : HasAccepted w.acceptances OfKsm peer (record { name = name; recipient = peer }) = i.live p x (record { peer = peer; name = name }) r h found (own ∙ p_is) counts in
      let tk : TakenKsm (lists_of w) a.acceptance = (All-contains (AcceptedOk (lists_of w)) w.acceptances a.acceptance i.accepted a.stands).ksm a.class_is in
      let m : Matched (lists_of w) p x (record { peer = peer; name = name }) a.acceptance tk = matched (lists_of w) i p x (record { peer = peer; name = name }) h own a.acceptance a.party_is a.among tk in
      elim (tk.keeps (record { name = name; recipient = peer }) m.value m.taken) [
        | inl k ↦ inl (value_agrees a tk m k)
        | inr g ↦ inr (gone_agrees counts (subst (λ (z : List ℕ). Gone w.acceptances z (record { name = name; recipient = peer })) a.party_is g))
      ]

agrees : (w : World) → Agreed (lists_of w) → Agreement w
agrees w i p x peer name r h found own is = holds w i p x peer name r h found own is

pub agreement : (start : World) (events : List Event) → IsStart start → AreEvents events → HonestRun 1 start events → Agreement (run 1 start events)
agreement start events s d honest = agrees (run 1 start events) (end_agreed start events s d honest).agreed

pub both_ended : (start : World) (events : List Event) → IsStart start → AreEvents events → HonestRun 1 start events → EndedBoth (run 1 start events)
both_ended start events s d honest = ended_both (run 1 start events) (end_agreed start events s d honest).agreed
