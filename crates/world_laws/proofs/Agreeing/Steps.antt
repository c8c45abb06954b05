-- What the lemmas of rows have in common.
use Rattle.std.proofs.Common.{◌≡◌, ◌≢◌, ◌⊎◌, inl, inr, ℕ, ◌<◌, true, not, Option, Some, List, [], refl, sym, ◌∙◌, ap, subst, Contains, bytes_eq}
use Rattle.std.proofs.lemmas.Bool.{false_from_ne_true}
use Rattle.x_base.specs.declared.key_name.FullName.{FullName}
use Rattle.csm_grammar.specs.declared.message.Message.{Message}
use Rattle.csm_grammar.specs.Spelling.{Says}
use Rattle.party_tables.specs.declared.link.LinkKey.{LinkKey}
use Rattle.party_tables.specs.declared.key.RecordKey.{RecordKey}
use Rattle.party_tables.specs.declared.key.KeyRec.{KeyRec}
use Rattle.party_tables.specs.declared.key.KeyStatus.{KeyStatus}
use Rattle.party_tables.specs.declared.key.KeyStatus.TheVariants.{Pending, Ended}
use Rattle.party_tables.specs.Keys.{record_key, sends}
use Rattle.party_tables.specs.Names.{full_name}
use Rattle.party_state.specs.State.{Party, link_with, record_with, apply}
use Rattle.party_state.specs.Rows.{Row, Class, OfKsm, OfDsm, OfAnswer}
use Rattle.party_tables.proofs.Keys.{test_idents}
use Rattle.party_tables.proofs.Tables.{one_found}
use Rattle.member.specs.Member.{Member}
use Rattle.world_laws.specs.World.{own_of, member_at}
use Rattle.world_laws.specs.Steps.{facts_of, acceptances_of}
use Rattle.world_laws.specs.Honest.{HasFact}
use Rattle.world_laws.specs.Laws.{IsHeld, HasAccepted}
use Rattle.world_laws.proofs.Links.Growth.{PartyGrows}
use Rattle.party_tables.proofs.Tables.{find_key}
use Rattle.role_base.specs.declared.exchanges.Sent.{Sent}
use Rattle.world_laws.proofs.Agreeing.Lists.{WaitsMove}
use Rattle.world_laws.proofs.Agreeing.Waiting.{NewsMove, AllSent}
use Rattle.std.proofs.Common.{AllPairs, get_or}
use Rattle.std.proofs.lemmas.Bool.{and_parts, cases_order}
use Rattle.std.proofs.lemmas.List.{get_or_default}
use Rattle.std.proofs.lemmas.List.Elements.{All-contains}
use Rattle.x_base.specs.declared.verdict.Verdict.{Verdict}
use Rattle.party_state.specs.Rows.{refused}
use Rattle.role_base.specs.Conditions.{is_for}
use Rattle.party_tables.proofs.Tables.{find_put_other}
use Rattle.world_laws.proofs.Lists.Members.{after_at}
use Rattle.world_laws.proofs.Links.Growth.{PartyGrows}
use Rattle.world_laws.proofs.Links.Putting.{not_eq}
use Rattle.party_state.specs.declared.edit.Edit.{Edit}
use Rattle.world_laws.proofs.Agreeing.KeyRecords.{KeysMove, Gone, changed, KeyFine, unmoved}
use Rattle.world_laws.proofs.Agreeing.Moves.{RepliesOk, FreshReply, AcceptsOk, Agreeing}
use Rattle.world_laws.proofs.Agreeing.Lists.{Counts, Lists, after, members_after, acceptances_after, lists_after, goes_of, to_peer, waits_stay}
use Rattle.world_laws.proofs.Agreeing.Waiting.{NewsMove, news_stay, AllSent}
use Rattle.world_laws.proofs.Agreeing.Known.{Known, known_on, class_more}
use Rattle.world_laws.proofs.Agreeing.Facts.{MessageOk, FactOk, AcceptedOk}
use Rattle.role_base.specs.declared.exchanges.Twins.{Twins}
use Rattle.world_laws.proofs.Agreeing.Exchanges.{SentIs, sent_own, TwinsIs, twins_own}
use Rattle.world_laws.proofs.Agreeing.Agreed.{Agreed}
use Rattle.change_code.specs.declared.space.Space.{Space}

-- a text for this party comes from another
pub other_of : (s : Party) (receiver originator : List ℕ) → is_for s receiver originator ≡ true → (receiver ≡ s.own) × (originator ≢ s.own)
other_of s receiver originator h =
    let t = and_parts (bytes_eq receiver s.own) (not (bytes_eq originator s.own)) h in
    ((test_idents.decides receiver s.own).0 t.0, not_eq originator s.own t.1)

pub pending_not_held : (x : KeyStatus) → x ≡ Pending → IsHeld x → ⊥
pending_not_held x e h = subst IsHeld e h

pub pending_not_ended : (x y : KeyStatus) → x ≡ Pending → x ≡ Ended → y ≡ Ended
pending_not_ended x y e f = absurd (let g = sym e ∙ f in cc)

-- an accepted row whose class is none of the three
pub plain : (v : Lists) (p text : List ℕ) (class : Class) (us : List FullName) → class ≢ OfKsm → class ≢ OfDsm → class ≢ OfAnswer → AcceptedOk v (record { party = p; text = text; class = class; names = us })
plain v p text class us a b d = record { ksm = λ e. absurd (a e); dsm = λ e. absurd (b e); answer = λ e. absurd (d e) }

-- of two elements, either they are one or one stands before the other
pub pairs_or_same : {X : Type 0} (R : X → X → Type 0) (xs : List X) (a b : X) → AllPairs R xs → Contains xs a → Contains xs b → (a ≡ b) ⊎ (R a b ⊎ R b a)
pairs_or_same {X} R xs a b pairs i j = go (cases_order i.0 j.0)
  where
    b_is : get_or xs j.0 a ≡ b
    b_is = get_or_default xs j.0 a b j.1 ∙ j.2

    a_is : get_or xs i.0 b ≡ a
    a_is = get_or_default xs i.0 b a i.1 ∙ i.2

    go : (i.0 ≡ j.0) ⊎ ((i.0 < j.0) ⊎ (j.0 < i.0)) → (a ≡ b) ⊎ (R a b ⊎ R b a)
    go (inl e) = inl (sym i.2 ∙ (ap (λ (n : ℕ). get_or xs n a) e ∙ b_is))
    go (inr (inl l)) = inr (inl (subst (λ (z : X). R z b) i.2 (subst (λ (z : X). R (get_or xs i.0 a) z) b_is (pairs i.0 j.0 a l j.1))))
    go (inr (inr l)) = inr (inr (subst (λ (z : X). R z a) j.2 (subst (λ (z : X). R (get_or xs j.0 b) z) a_is (pairs j.0 i.0 b l i.1))))

pub some_is : {A : Type 0} (a b : A) → Some a ≡ Some b → a ≡ b
some_is a b h = cc

abbrev pub with_status : KeyRec → KeyStatus → KeyRec
with_status k status = record { peer = k.peer; name = k.name; value = k.value; status = status }

module _ (v : Lists) (p : List ℕ) (x : Member) (space : Space) (at : member_at p v.members ≡ Some x) (i : Agreed v) where
  at_p : p ≡ x.party.own
  at_p = find_key own_of bytes_eq test_idents p x v.members at

  -- what the text of a fact says
  pub fact_says : (u : FullName) (t : List ℕ) (f : HasFact v.facts u t) (m : Message) → Says t m → MessageOk v f.fact m
  fact_says u t f m said = All-contains (FactOk v) v.facts f.fact i.facts f.stands m (subst (λ (z : List ℕ). Says z m) (sym f.text_is) said)

  pub here : (q : List ℕ) (y : Member) → q ≡ x.party.own → member_at q v.members ≡ Some y → y ≡ x
  here q y e h = one_found y x (subst (λ (a : List ℕ). member_at a v.members ≡ Some y) (e ∙ sym at_p) h) at

  pub own_at : member_at x.party.own v.members ≡ Some x
  own_at = subst (λ (q : List ℕ). member_at q v.members ≡ Some x) at_p at

  -- another party stays
  pub there : (o : Option LinkKey) (r : Row) (q : List ℕ) (y : Member) → PartyGrows o x.party (apply r.edits x.party) → q ≢ x.party.own → member_at q v.members ≡ Some y → member_at q (members_after v.members x space r) ≡ Some y
  there o r q y g ne h = find_put_other own_of bytes_eq test_idents q (after x space r) v.members (false_from_ne_true (bytes_eq q (after x space r).party.own) (λ e. ne ((test_idents.decides q (after x space r).party.own).0 e ∙ g.own))) ∙ h

  pub after_is : (o : Option LinkKey) (r : Row) → PartyGrows o x.party (apply r.edits x.party) → member_at x.party.own (members_after v.members x space r) ≡ Some (after x space r)
  after_is o r g = after_at v.members p x (after x space r) at g.own

  pub known_later : (o : Option LinkKey) (text : List ℕ) (r : Row) (k : RecordKey) → PartyGrows o x.party (apply r.edits x.party) → WaitsMove x.party (apply r.edits x.party) → Known v x.party k → Known (lists_after v x space text r) (apply r.edits x.party) k
  known_later o text r k g w h = known_on v (facts_of x.party.own r.reply) (acceptances_of x.party.own text r.accepts) (members_after v.members x space r) x.party (apply r.edits x.party) k (goes_of o x.party (apply r.edits x.party) g) w h

  pub class_later : (text : List ℕ) (r : Row) (class : Class) (q : List ℕ) (u : FullName) → HasAccepted v.acceptances class q u → HasAccepted (acceptances_after v.acceptances x text r) class q u
  class_later text r class q u h = class_more v.acceptances (acceptances_of x.party.own text r.accepts) class q u h

  -- the record of a key goes on with another status
  pub status_fine : (o : Option LinkKey) (text : List ℕ) (r : Row) (k : KeyRec) (st : KeyStatus) → PartyGrows o x.party (apply r.edits x.party) → WaitsMove x.party (apply r.edits x.party) → record_with (record_key k) x.party ≡ Some k → (k.status ≡ Ended → st ≡ Ended) → (Counts st → k.name.originator ≡ x.party.own → HasAccepted (acceptances_after v.acceptances x text r) OfKsm k.peer (to_peer (record_key k))) → (IsHeld k.status → IsHeld st ⊎ Gone (acceptances_after v.acceptances x text r) x.party.own (full_name x.party.own k)) → KeyFine v (lists_after v x space text r) x.party (apply r.edits x.party) (with_status k st)
  status_fine o text r k st g w at_k ended live gone = record {
    put = changed k at_k refl ended;
    live = live;
    known = known_later o text r (record_key k) g w (i.known p x at (record_key k) k at_k);
    gone = λ u j held. gone (subst (λ (z : KeyRec). IsHeld z.status) (one_found u k j at_k) held);
  }

  -- the record of an exchange that is given up
  pub ended_fine : (o : Option LinkKey) (text : List ℕ) (r : Row) (peer : List ℕ) (y : Sent) → PartyGrows o x.party (apply r.edits x.party) → WaitsMove x.party (apply r.edits x.party) → SentIs x.party peer y → KeyFine v (lists_after v x space text r) x.party (apply r.edits x.party) (with_status y.key Ended)
  ended_fine o text r peer y g w h = status_fine o text r y.key Ended g w h.at (λ e. refl) (λ no own. absurd no) (λ held. absurd (pending_not_held y.key.status (sent_own x.party peer y (i.sent p x at) h).1 held))

  -- nothing changes, and nothing of which agreement speaks is told
  pub still_agreeing : (text : List ℕ) (r : Row) → r.edits ≡ [] → RepliesOk (lists_after v x space text r) x.party.own r.reply → FreshReply v.facts x.party r.reply → AcceptsOk (lists_after v x space text r) x.party.own text r.accepts → Agreeing v x space text r
  still_agreeing text r e a b c = record {
    back = λ peer label m h is. inl (m, subst (λ (es : List Edit). link_with (sends peer label) (apply es x.party) ≡ Some m) e h, is, refl);
    news = subst (λ (es : List Edit). NewsMove x.party (apply es x.party)) (sym e) (news_stay x.party x.party refl);
    keys = subst (λ (es : List Edit). KeysMove v (lists_after v x space text r) x.party (apply es x.party)) (sym e) (unmoved refl);
    exchanges = subst (λ (es : List Edit). AllSent (apply es x.party)) (sym e) (i.sent p x at);
    waits = subst (λ (es : List Edit). WaitsMove x.party (apply es x.party)) (sym e) (waits_stay x.party x.party refl);
    replies = a;
    new = b;
    accepts = c;
  }

  -- a row that is refused does nothing
  pub refused_agreeing : (text : List ℕ) (verdict : Verdict) → Agreeing v x space text (refused verdict)
  refused_agreeing text verdict = still_agreeing text (refused verdict) refl tt tt tt

  -- the records of two keys that are given up
  pub twins_ended : (o : Option LinkKey) (text : List ℕ) (r : Row) (peer : List ℕ) (y : Twins) → PartyGrows o x.party (apply r.edits x.party) → WaitsMove x.party (apply r.edits x.party) → TwinsIs x.party peer y → KeyFine v (lists_after v x space text r) x.party (apply r.edits x.party) (with_status y.first Ended) × KeyFine v (lists_after v x space text r) x.party (apply r.edits x.party) (with_status y.second Ended)
  twins_ended o text r peer y g w h =
      let own = twins_own x.party peer y (i.sent p x at) h in (
        status_fine o text r y.first Ended g w h.first (λ e. refl) (λ no own. absurd no) (λ held. absurd (pending_not_held y.first.status own.1 held)),
        status_fine o text r y.second Ended g w h.second (λ e. refl) (λ no own. absurd no) (λ held. absurd (pending_not_held y.second.status own.3 held)),
      )
