-- A row that stands keeps what is known of the acceptances, and so all of it.
use Rattle.std.proofs.Common.{append-nil}
use Rattle.std.proofs.Common.{◌≡◌, ◌⊎◌, inl, inr, ℕ, Option, Some, None, List, ◌++◌, refl, sym, ◌∙◌, ap, subst, Contains}
use Rattle.x_base.specs.declared.key_name.FullName.{FullName}
use Rattle.x_mac.specs.declared.pair.Pair.{Pair}
use Rattle.party_tables.specs.declared.link.LinkKey.{LinkKey}
use Rattle.party_tables.specs.declared.key.RecordKey.{RecordKey}
use Rattle.party_tables.specs.declared.key.KeyRec.{KeyRec}
use Rattle.party_tables.specs.declared.key.KeyStatus.TheVariants.{Ended}
use Rattle.party_tables.specs.Keys.{same_record, record_key, takes}
use Rattle.party_tables.specs.Names.{full_name}
use Rattle.party_state.specs.State.{link_with, record_with, apply}
use Rattle.party_state.specs.Rows.{Row, OfKsm, OfDsm, OfAnswer, Accepted}
use Rattle.party_tables.proofs.Keys.{test_records}
use Rattle.bank_keys.specs.Ksm.{body_count, opened_kk}
use Rattle.member.specs.Member.{Member}
use Rattle.world_laws.specs.World.{Acceptance, member_at}
use Rattle.world_laws.specs.Steps.{facts_of, acceptances_of}
use Rattle.world_laws.specs.Laws.{HasAccepted, partner_of, IsEndedAt}
use Rattle.std.proofs.Common.{All}
use Rattle.std.proofs.lemmas.List.Elements.{All-push, Contains-get_or}
use Rattle.party_tables.proofs.Tables.{find_key}
use Rattle.world_laws.proofs.Counting.Sound.{IsSound}
use Rattle.world_laws.proofs.Agreeing.Lists.{Lists, after, members_after, acceptances_after, lists_after, to_own, full_at}
use Rattle.world_laws.proofs.Agreeing.Known.{Known, fact_more, one_key}
use Rattle.world_laws.proofs.Agreeing.KeyRecords.{Gone, StandsBefore, before, known_stands, IsPut, held_forward}
use Rattle.world_laws.proofs.Agreeing.Facts.{Carries, carries_same, carries_among, Keeps, TakenKsm, DsmOk, AcceptedOk}
use Rattle.world_laws.proofs.Agreeing.Moves.{AcceptsOk, OwnText, Agreeing}
use Rattle.world_laws.proofs.Agreeing.Agreed.{Agreed}
use Rattle.world_laws.proofs.Agreeing.Members.{gone_at, goes, cases, back, at_after, at_own, ends_on, centres_on, more, tables_on, sent_on, known_own, known_same, known_here, live_on}
use Rattle.world_laws.proofs.Agreeing.FactsKept.{facts_on, apart_on, names_on, made_on}
use Rattle.change_code.specs.declared.space.Space.{Space}

module _ (o : Option LinkKey) (v : Lists) (p : List ℕ) (x : Member) (space : Space) (text : List ℕ) (r : Row) (found : member_at p v.members ≡ Some x) (sound : IsSound o x.party text r) (own_reply : OwnText x.party.own r.reply) (row : Agreeing v x space text r) (i : Agreed v) where
  gone_more : (q : List ℕ) (u : FullName) → Gone v.acceptances q u → Gone (acceptances_after v.acceptances x text r) q u
  gone_more q u (inl a) = inl (more o v p x space text r found sound own_reply row i OfDsm q u a)
  gone_more q u (inr a) = inr (more o v p x space text r found sound own_reply row i OfAnswer q u a)

  module _ (a : Acceptance) (stands : Contains v.acceptances a) (class : a.class ≡ OfKsm) (b : TakenKsm v a) (own : a.party ≡ x.party.own) (same : b.party ≡ x) where
    module _ (u : FullName) (value : ℕ) (c : Carries b.link.pair b.ksm.originator a.party b.ksm.body b.under u value) where
      names : (u.recipient ≡ b.under.recipient) × (u.name.originator ≡ b.under.name.originator)
      names = carries_same b.link.pair b.ksm.originator a.party b.ksm.body b.under u value c

      under : u ≡ to_own (record { peer = u.name.originator; name = u.name }) x.party.own
      under j = record { name = u.name; recipient = (names.0 ∙ (b.recipient ∙ own)) j }

      among : Contains a.names u
      among = subst (λ (us : List FullName). Contains us u) (sym b.names) (carries_among b.link.pair b.ksm.originator a.party b.ksm.body b.under u value c)

      keeps_after : Keeps b.party.party u value ⊎ Gone v.acceptances a.party u → Keeps (apply r.edits x.party) u value ⊎ Gone (acceptances_after v.acceptances x text r) a.party u
      keeps_after (inr g) = inr (gone_more a.party u g)
      keeps_after (inl k) =
          let at_k : record_with (record { peer = u.name.originator; name = u.name }) x.party ≡ Some k.0 = subst (λ (z : Member). record_with (record { peer = u.name.originator; name = u.name }) z.party ≡ Some k.0) same k.1 in
          let has : HasAccepted v.acceptances OfKsm x.party.own (to_own (record { peer = u.name.originator; name = u.name }) x.party.own) = record { acceptance = a; stands = stands; class_is = class; party_is = own; among = subst (Contains a.names) under among } in
          elim (held_forward v (lists_after v x space text r) x.party (apply r.edits x.party) row.keys (record { peer = u.name.originator; name = u.name }) k.0 at_k k.2 (λ o. b.other (sym names.1 ∙ (o ∙ sym own))) refl has) [
            | inl q ↦ inl (q.0, q.1, q.2, q.3 ∙ k.3)
            | inr g ↦ inr (gone_at (acceptances_after v.acceptances x text r) x.party.own a.party (to_own (record { peer = u.name.originator; name = u.name }) x.party.own) u (sym own) (sym under) g)
          ]

    taken_own : member_at a.party (members_after v.members x space r) ≡ Some (after x space r) → TakenKsm (lists_after v x space text r) a
    taken_own at =
        let m = (goes o v p x space text r found sound own_reply row i).taking (takes b.under.name.issuer b.under.name.label) b.link refl (subst (λ (z : Member). link_with (takes b.under.name.issuer b.under.name.label) z.party ≡ Some b.link) same b.found) in
        let before : (u : FullName) (value : ℕ) → Carries m.0.pair b.ksm.originator a.party b.ksm.body b.under u value → Carries b.link.pair b.ksm.originator a.party b.ksm.body b.under u value = (λ u value c. subst (λ (q : Pair). Carries q b.ksm.originator a.party b.ksm.body b.under u value) m.2.pair c) in
        record {
          party = after x space r;
          at = at;
          ksm = b.ksm;
          said = b.said;
          under = b.under;
          names = b.names;
          other = b.other;
          recipient = b.recipient;
          fact = fact_more v.facts (facts_of x.party.own r.reply) b.under a.text b.fact;
          link = m.0;
          found = m.1;
          label = b.label;
          new = λ kk e. (let t = b.new kk e in
              let u = (goes o v p x space text r found sound own_reply row i).taking (takes b.under.name.originator kk.0) t.0 refl (subst (λ (z : Member). link_with (takes b.under.name.originator kk.0) z.party ≡ Some t.0) same t.1) in
              (u.0, u.1, u.2.pair ∙ (t.2 ∙ ap (λ (q : Pair). opened_kk q (body_count b.ksm.body) kk.1) (sym m.2.pair))));
          keeps = λ u value c. keeps_after u value (before u value c) (b.keeps u value (before u value c));
        }

  taken_on : (a : Acceptance) → Contains v.acceptances a → a.class ≡ OfKsm → TakenKsm v a → TakenKsm (lists_after v x space text r) a
  taken_on a stands class b = elim (cases o v p x space text r found sound own_reply row i a.party b.party b.at) [
    | inl t ↦ taken_own a stands class b t.0 t.1 t.2
    | inr t ↦ record {
      party = b.party;
      at = t;
      ksm = b.ksm;
      said = b.said;
      under = b.under;
      names = b.names;
      other = b.other;
      recipient = b.recipient;
      fact = fact_more v.facts (facts_of x.party.own r.reply) b.under a.text b.fact;
      link = b.link;
      found = b.found;
      label = b.label;
      new = b.new;
      keeps = λ u value c. elim (b.keeps u value c) [ inl k ↦ inl k | inr g ↦ inr (gone_more a.party u g) ];
    }
  ]

  dsm_on : (party : List ℕ) (u : FullName) → DsmOk v party u → DsmOk (lists_after v x space text r) party u
  dsm_on party u b = record { ended = ended; key = b.key; full_is = b.full_is; known = known }
    where
      known : (y : Member) → member_at party (members_after v.members x space r) ≡ Some y → Known (lists_after v x space text r) y.party b.key
      known y h = elim (back o v p x space text r found sound own_reply row i party y h) [
        | inl t ↦ subst (λ (z : Member). Known (lists_after v x space text r) z.party b.key) (sym t.1) (known_own o v p x space text r found sound own_reply row i b.key (b.known x (at_own o v p x space text r found sound own_reply row i party t.0)))
        | inr t ↦ known_same o v p x space text r found sound own_reply row i y.party b.key (b.known y t)
      ]

      put_ended : party ≡ x.party.own → (k : RecordKey) (m : KeyRec) → full_name party m ≡ u → IsPut v (lists_after v x space text r) x.party (apply r.edits x.party) k m → m.status ≡ Ended
      put_ended own k m full_m put = stands (known_stands v x.party b.key m key (b.known x (at_own o v p x space text r found sound own_reply row i party own)) put.fine.put)
        where
          known_key : Known (lists_after v x space text r) (apply r.edits x.party) b.key
          known_key = known_own o v p x space text r found sound own_reply row i b.key (b.known x (at_own o v p x space text r found sound own_reply row i party own))

          key : b.key ≡ record_key m
          key = one_key (lists_after v x space text r) (apply r.edits x.party) b.key (record_key m) known_key put.fine.known (subst (λ (z : List ℕ). full_at z b.key ≡ full_at z (record_key m)) (own ∙ sym (goes o v p x space text r found sound own_reply row i).own) (b.full_is ∙ sym full_m))

          stands : StandsBefore x.party m → m.status ≡ Ended
          stands (before u at value ended) =
              let same_u : record_key m ≡ record_key u = find_key record_key same_record test_records (record_key m) u x.party.keys at in
              ended (b.ended x (record_key m) u (at_own o v p x space text r found sound own_reply row i party own) at (ap (full_at party) (sym same_u) ∙ full_m))

      ended : IsEndedAt (members_after v.members x space r) party u
      ended y k m h at full_m = elim (back o v p x space text r found sound own_reply row i party y h) [
        | inl t ↦ (let j : record_with k (apply r.edits x.party) ≡ Some m = subst (λ (z : Member). record_with k z.party ≡ Some m) t.1 at in
            elim (at_after o v p x space text r found sound own_reply row i k m j) [
              | inl old ↦ b.ended x k m (at_own o v p x space text r found sound own_reply row i party t.0) old full_m
              | inr put ↦ put_ended t.0 k m full_m put
            ])
        | inr t ↦ b.ended y k m t at full_m
      ]

  accept_on : (a : Acceptance) → Contains v.acceptances a → AcceptedOk v a → AcceptedOk (lists_after v x space text r) a
  accept_on a stands ok = record {
    ksm = λ class. taken_on a stands class (ok.ksm class);
    dsm = λ class u among. dsm_on a.party u (ok.dsm class u among);
    answer = λ class u among. more o v p x space text r found sound own_reply row i OfDsm (partner_of a.party u) u (ok.answer class u among);
  }

  accepted_on : All (AcceptedOk (lists_after v x space text r)) (acceptances_after v.acceptances x text r)
  accepted_on = go r.accepts row.accepts
    where
      old : All (AcceptedOk (lists_after v x space text r)) v.acceptances
      old k d l = accept_on _ (Contains-get_or v.acceptances k d l) (i.accepted k d l)

      go : (o : Option Accepted) → AcceptsOk (lists_after v x space text r) x.party.own text o → All (AcceptedOk (lists_after v x space text r)) (v.acceptances ++ acceptances_of x.party.own text o)
      go None new = rw append-nil old
      go (Some k) new = All-push (AcceptedOk (lists_after v x space text r)) v.acceptances (record { party = x.party.own; text = text; class = k.class; names = k.names }) old new

  pub kept_agreed : Agreed (lists_after v x space text r)
  kept_agreed = record {
    centres = centres_on o v p x space text r found sound own_reply row i;
    ends = ends_on o v p x space text r found sound own_reply row i;
    tables = tables_on o v p x space text r found sound own_reply row i;
    known = known_here o v p x space text r found sound own_reply row i;
    sent = sent_on o v p x space text r found sound own_reply row i;
    facts = facts_on o v p x space text r found sound own_reply row i;
    apart = apart_on o v p x space text r found sound own_reply row i;
    names = names_on o v p x space text r found sound own_reply row i;
    made = made_on o v p x space text r found sound own_reply row i;
    accepted = accepted_on;
    live = live_on o v p x space text r found sound own_reply row i;
  }
