-- A row that stands keeps what is known of the members.
use Rattle.std.proofs.Common.{◌≡◌, ◌⊎◌, inl, inr, ℕ, Option, Some, None, List, refl, sym, ◌∙◌, ap, subst}
use Rattle.x_base.specs.declared.key_name.FullName.{FullName}
use Rattle.party_tables.specs.declared.link.LinkKey.{LinkKey}
use Rattle.party_tables.specs.declared.link.LinkRec.{LinkRec}
use Rattle.party_tables.specs.declared.key.RecordKey.{RecordKey}
use Rattle.party_tables.specs.declared.key.KeyRec.{KeyRec}
use Rattle.party_tables.specs.Tables.{Distinct}
use Rattle.party_tables.specs.Keys.{same_record, record_key, sends, takes}
use Rattle.party_state.specs.State.{Party, centre_label, link_with, record_with, exchange_with, apply}
use Rattle.party_state.specs.Rows.{Row, Class, OfKsm}
use Rattle.member.specs.Member.{Member}
use Rattle.world_laws.specs.World.{Acceptance, member_at}
use Rattle.world_laws.specs.Steps.{facts_of, acceptances_of}
use Rattle.world_laws.specs.Starts.{HasOtherEnd}
use Rattle.world_laws.specs.Laws.{HasAccepted}
use Rattle.world_laws.proofs.Links.Growth.{PartyGrows}
use Rattle.world_laws.proofs.Lists.Members.{own_is, member_cases, member_back}
use Rattle.world_laws.proofs.Links.Growth.{change_grows}
use Rattle.world_laws.proofs.Counting.Sound.{IsSound}
use Rattle.world_laws.proofs.Agreeing.Lists.{Lists, after, members_after, acceptances_after, lists_after, Goes, goes_of, goes_stays, waits_stay, to_peer}
use Rattle.world_laws.proofs.Agreeing.Waiting.{news_stay, AllSent}
use Rattle.world_laws.proofs.Agreeing.Known.{Known, KeysKnown, known_on, class_more}
use Rattle.world_laws.proofs.Agreeing.KeyRecords.{Gone, IsPut, key_cases}
use Rattle.world_laws.proofs.Agreeing.Facts.{LiveAccepted}
use Rattle.world_laws.proofs.Agreeing.Moves.{OwnText, Agreeing}
use Rattle.world_laws.proofs.Agreeing.Agreed.{keys_on, Forward, CentresReady, ReadyEnds, Agreed}
use Rattle.change_code.specs.declared.space.Space.{Space}

pub gone_at : (accs : List Acceptance) (p q : List ℕ) (u v : FullName) → p ≡ q → u ≡ v → Gone accs p u → Gone accs q v
gone_at accs p q u v e f g = subst (λ (z : FullName). Gone accs q z) f (subst (λ (z : List ℕ). Gone accs z u) e g)

module _ (o : Option LinkKey) (v : Lists) (p : List ℕ) (x : Member) (space : Space) (text : List ℕ) (r : Row) (found : member_at p v.members ≡ Some x) (sound : IsSound o x.party text r) (own_reply : OwnText x.party.own r.reply) (row : Agreeing v x space text r) (i : Agreed v) where
  pub grown : PartyGrows o x.party (apply r.edits x.party)
  grown = change_grows o r.edits x.party sound.edits

  pub goes : Goes x.party (apply r.edits x.party)
  goes = goes_of o x.party (apply r.edits x.party) grown

  pub at_p : p ≡ x.party.own
  at_p = own_is v.members p x (after x space r) found grown.own

  pub cases : (q : List ℕ) (z : Member) → member_at q v.members ≡ Some z → ((q ≡ x.party.own) × (z ≡ x) × (member_at q (members_after v.members x space r) ≡ Some (after x space r))) ⊎ (member_at q (members_after v.members x space r) ≡ Some z)
  cases = member_cases v.members p x (after x space r) found grown.own

  pub back : (q : List ℕ) (y : Member) → member_at q (members_after v.members x space r) ≡ Some y → ((q ≡ x.party.own) × (y ≡ after x space r)) ⊎ (member_at q v.members ≡ Some y)
  back = member_back v.members p x (after x space r) found grown.own

  -- a record of the party afterwards
  pub at_after : (k : RecordKey) (m : KeyRec) → record_with k (apply r.edits x.party) ≡ Some m → (record_with k x.party ≡ Some m) ⊎ IsPut v (lists_after v x space text r) x.party (apply r.edits x.party) k m
  at_after k m h = key_cases v (lists_after v x space text r) x.party (apply r.edits x.party) (i.tables p x found) row.keys k m h

  pub forward : (q : List ℕ) (z : Member) → member_at q v.members ≡ Some z → (y : Member) × (member_at q (members_after v.members x space r) ≡ Some y) × Forward v (lists_after v x space text r) x (apply r.edits x.party) z y
  forward q z h = elim (cases q z h) [
    | inl t ↦ (after x space r, t.2, subst (λ (a : Member). Forward v (lists_after v x space text r) x (apply r.edits x.party) a (after x space r)) (sym t.1) (record { goes = goes; waits = row.waits; news = row.news; sending = sending; keys = own_keys }))
    | inr t ↦ (z, t, record { goes = goes_stays z.party; waits = waits_stay z.party z.party refl; news = news_stay z.party z.party refl; sending = λ peer label m h. inl (m, h, refl); keys = λ k m j. inl j })
  ]
    where
      sending : (peer label : List ℕ) (m : LinkRec) → link_with (sends peer label) (apply r.edits x.party) ≡ Some m → ((l : LinkRec) × (link_with (sends peer label) x.party ≡ Some l) × (m.pair ≡ l.pair)) ⊎ (exchange_with peer x.party ≡ None)
      sending peer label m h = elim (grown.back (sends peer label) m h) [ inl b ↦ inl (b.0, b.1, b.2.pair) | inr n ↦ inr (sound.free (sends peer label) n refl).1 ]

      own_keys : (k : RecordKey) (m : KeyRec) → record_with k (apply r.edits x.party) ≡ Some m → (record_with k x.party ≡ Some m) ⊎ ((x ≡ x) × IsPut v (lists_after v x space text r) x.party (apply r.edits x.party) k m)
      own_keys k m j = elim (at_after k m j) [ inl a ↦ inl a | inr a ↦ inr (refl, a) ]

  pub at_own : (q : List ℕ) → q ≡ x.party.own → member_at q v.members ≡ Some x
  at_own q e = subst (λ (a : List ℕ). member_at a v.members ≡ Some x) (at_p ∙ sym e) found

  -- the other end of a link
  pub end_on : (q peer label : List ℕ) (l m : LinkRec) → m.pair ≡ l.pair → HasOtherEnd v.members peer (takes q label) l → HasOtherEnd (members_after v.members x space r) peer (takes q label) m
  end_on q peer label l m same e =
      let f = forward peer e.member e.at in
      let n = f.2.goes.taking (takes q label) e.link refl e.found in
      record { member = f.0; at = f.1; link = n.0; found = n.1; pair = n.2.pair ∙ (e.pair ∙ sym same) }

  pub ends_on : ReadyEnds (members_after v.members x space r)
  ends_on q y peer label l h at_l is_ready = elim (back q y h) [
    | inl t ↦ own_end t.0 (subst (λ (a : Member). link_with (sends peer label) a.party ≡ Some l) t.1 at_l)
    | inr t ↦ end_on q peer label l l refl (i.ends q y peer label l t at_l is_ready)
  ]
    where
      own_end : q ≡ x.party.own → link_with (sends peer label) (apply r.edits x.party) ≡ Some l → HasOtherEnd (members_after v.members x space r) peer (takes q label) l
      own_end q_is j = elim (row.back peer label l j is_ready) [
        | inl b ↦ end_on q peer label b.0 l b.3 (i.ends q x peer label b.0 (at_own q q_is) b.1 b.2)
        | inr e ↦ end_on q peer label l l refl (subst (λ (z : List ℕ). HasOtherEnd v.members peer (takes z label) l) (sym q_is) e)
      ]

  pub centres_on : CentresReady (members_after v.members x space r)
  centres_on q y peer l h at_l = elim (back q y h) [
    | inl t ↦ (let j : link_with (sends peer centre_label) (apply r.edits x.party) ≡ Some l = subst (λ (a : Member). link_with (sends peer centre_label) a.party ≡ Some l) t.1 at_l in
        elim (grown.back (sends peer centre_label) l j) [
          | inl b ↦ b.2.ready (i.centres p x peer b.0 found b.1)
          | inr n ↦ absurd ((sound.free (sends peer centre_label) n refl).0 refl)
        ])
    | inr t ↦ i.centres q y peer l t at_l
  ]

  pub more : (class : Class) (q : List ℕ) (u : FullName) → HasAccepted v.acceptances class q u → HasAccepted (acceptances_after v.acceptances x text r) class q u
  more class q u h = class_more v.acceptances (acceptances_of x.party.own text r.accepts) class q u h

  pub tables_on : (q : List ℕ) (y : Member) → member_at q (members_after v.members x space r) ≡ Some y → Distinct record_key same_record y.party.keys
  tables_on q y h = elim (back q y h) [
    | inl t ↦ subst (λ (a : Member). Distinct record_key same_record a.party.keys) (sym t.1) (keys_on v (lists_after v x space text r) x.party (apply r.edits x.party) row.keys (i.tables p x found))
    | inr t ↦ i.tables q y t
  ]

  pub sent_on : (q : List ℕ) (y : Member) → member_at q (members_after v.members x space r) ≡ Some y → AllSent y.party
  sent_on q y h = elim (back q y h) [
    | inl t ↦ subst (λ (a : Member). AllSent a.party) (sym t.1) row.exchanges
    | inr t ↦ i.sent q y t
  ]

  -- a name that is past stays so
  pub known_own : (k : RecordKey) → Known v x.party k → Known (lists_after v x space text r) (apply r.edits x.party) k
  known_own k h = known_on v (facts_of x.party.own r.reply) (acceptances_of x.party.own text r.accepts) (members_after v.members x space r) x.party (apply r.edits x.party) k goes row.waits h

  pub known_same : (s : Party) (k : RecordKey) → Known v s k → Known (lists_after v x space text r) s k
  known_same s k h = known_on v (facts_of x.party.own r.reply) (acceptances_of x.party.own text r.accepts) (members_after v.members x space r) s s k (goes_stays s) (waits_stay s s refl) h

  pub known_after : KeysKnown (lists_after v x space text r) (apply r.edits x.party)
  known_after k m h = elim (at_after k m h) [
    | inl old ↦ known_own k (i.known p x found k m old)
    | inr put ↦ subst (Known (lists_after v x space text r) (apply r.edits x.party)) (sym put.key) put.fine.known
  ]

  pub known_here : (q : List ℕ) (y : Member) → member_at q (members_after v.members x space r) ≡ Some y → KeysKnown (lists_after v x space text r) y.party
  known_here q y h = elim (back q y h) [
    | inl t ↦ subst (λ (a : Member). KeysKnown (lists_after v x space text r) a.party) (sym t.1) known_after
    | inr t ↦ (λ k m at. known_same y.party k (i.known q y t k m at))
  ]

  pub live_on : LiveAccepted (lists_after v x space text r)
  live_on q y k m h at own is = elim (back q y h) [
    | inl t ↦ (let j : record_with k (apply r.edits x.party) ≡ Some m = subst (λ (z : Member). record_with k z.party ≡ Some m) t.1 at in
        let o : k.name.originator ≡ x.party.own = own ∙ (ap (λ (z : Member). z.party.own) t.1 ∙ goes.own) in
        elim (at_after k m j) [
          | inl old ↦ more OfKsm k.peer (to_peer k) (i.live p x k m found old o is)
          | inr put ↦ (let a = put.fine.live is (sym (ap (λ (n : RecordKey). n.name.originator) put.key) ∙ o) in
              subst (λ (n : RecordKey). HasAccepted (acceptances_after v.acceptances x text r) OfKsm n.peer (to_peer n)) (sym put.key) a)
        ])
    | inr t ↦ more OfKsm k.peer (to_peer k) (i.live q y k m t at own is)
  ]
  -- Facts
