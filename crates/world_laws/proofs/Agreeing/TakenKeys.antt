-- What was accepted, and what was answered.
use Rattle.std.proofs.Common.{◌≡◌, ◌⊎◌, ◌+◌, inl, inr, ℕ, Option, Some, None, IfSome, List, ◌∷◌, [], All, refl, sym, ◌∙◌, ap, subst}
use Rattle.std.proofs.lemmas.List.Elements.{All-contains, All-weaker, All-cons, All-nil}
use Rattle.x_base.specs.declared.key_name.KeyName.{KeyName}
use Rattle.x_base.specs.declared.key_name.FullName.{FullName}
use Rattle.x_mac.specs.declared.pair.Pair.{Pair}
use Rattle.x_seal.specs.Wrapped.{unwrap_of, unseal_of}
use Rattle.csm_grammar.specs.declared.message.Message.TheVariants as message
use Rattle.csm_grammar.specs.declared.message.KsmBody.{KsmBody}
use Rattle.csm_grammar.specs.declared.message.KsmBody.TheVariants as body
use Rattle.csm_grammar.specs.declared.message.NewKk.{NewKk}
use Rattle.csm_grammar.specs.declared.message.NewKk.TheVariants as new_kk
use Rattle.csm_grammar.specs.declared.message.Ksm.{Ksm}
use Rattle.party_tables.specs.declared.link.LinkKey.{LinkKey}
use Rattle.party_tables.specs.declared.key.KeyRec.{KeyRec}
use Rattle.party_tables.specs.Keys.{same_link, link_key, takes}
use Rattle.party_state.specs.State.{link_with, record_with}
use Rattle.party_state.specs.Rows.{OfKsm, OfDsm}
use Rattle.party_tables.proofs.Keys.{test_links}
use Rattle.party_tables.proofs.Tables.{find_key, one_found}
use Rattle.bank_keys.specs.Ksm.{body_count, body_new, body_twin, key_names, opened_kk}
use Rattle.member.specs.Member.{Member}
use Rattle.world_laws.specs.World.{Acceptance, World, member_at}
use Rattle.world_laws.specs.Carried.{CarriedKey, carried_kk, body_keys, carried_keys, carried_name, label_given}
use Rattle.world_laws.specs.Facts.{IsMadeBySender, AnswersTaken, IsAnswerTaken, HasOneValue, TakesUnder, IsTaken, KeysTaken}
use Rattle.world_laws.specs.Honest.{HasFact}
use Rattle.world_laws.specs.Laws.{HasAccepted, HoldsKey}
use Rattle.world_laws.proofs.Agreeing.Lists.{lists_of}
use Rattle.world_laws.proofs.Agreeing.Facts.{Keeps, Carries, as_first, as_second, RsmOk, FactOk, AcceptedOk, TakenKsm, TakesNew}
use Rattle.world_laws.proofs.Agreeing.KeyRecords.{Gone}
use Rattle.world_laws.proofs.Agreeing.Matched.{fact_of, name_of, receiver_of, made_of}
use Rattle.world_laws.proofs.Agreeing.Agreed.{Agreed}
use Rattle.world_laws.proofs.Ended.Names.{names_listed}

-- the values of a text's keys, as a list and as its row has them

kk_same : (pair : Pair) (count : ℕ) (kk : NewKk) → opened_kk pair count kk ≡ carried_kk pair count kk
kk_same pair count (new_kk.Double left right) = refl
kk_same pair count (new_kk.Single key) = refl

keys_listed : (label : List ℕ) (pair : Pair) (m : Ksm) (P : CarriedKey → Type 0) → ((k : CarriedKey) → Carries pair m.originator m.receiver m.body (carried_name label m (body_count m.body)) (carried_name label m k.count) k.value → P k) → All P (carried_keys pair m)
keys_listed label pair m P each = go m.body each
  where
    one : (k : CarriedKey) → P k → All P (k ∷ [])
    one k h = All-cons P k [] h (All-nil P)

    go : (b : KsmBody) → ((k : CarriedKey) → Carries pair m.originator m.receiver b (carried_name label (record m { body = b }) (body_count b)) (carried_name label (record m { body = b }) k.count) k.value → P k) → All P (body_keys pair m.originator m.receiver b)
    go (body.Direct idk2 None kd ctp) each = one (record { count = ctp; value = unwrap_of pair ctp kd }) (each (record { count = ctp; value = unwrap_of pair ctp kd }) (as_first refl refl))
    go (body.Direct idk2 (Some new) kd ctp) each = one (record { count = ctp; value = unwrap_of (carried_kk pair ctp new.1) 1 kd }) (each (record { count = ctp; value = unwrap_of (carried_kk pair ctp new.1) 1 kd }) (as_first refl (ap (λ (q : Pair). unwrap_of q 1 kd) (sym (kk_same pair ctp new.1)))))
    go (body.Centre centre kdu ctb) each = one (record { count = ctb; value = unseal_of pair m.originator m.receiver ctb kdu }) (each (record { count = ctb; value = unseal_of pair m.originator m.receiver ctb kdu }) (as_first refl refl))
    go (body.Twin idk2 first second ctp) each =
        let j : CarriedKey = record { count = ctp; value = unwrap_of pair ctp first } in
        let k : CarriedKey = record { count = ctp + 1; value = unwrap_of pair (ctp + 1) second } in
        All-cons P j (k ∷ []) (each j (as_first refl refl)) (one k (each k (as_second second refl refl refl)))

module _ (w : World) (i : Agreed (lists_of w)) where
  pub answers_taken : AnswersTaken w
  answers_taken f m stands said = go m.idd (All-contains (FactOk (lists_of w)) w.facts f i.facts stands (message.Rsm m) said)
    where
      maker : f.maker ≡ m.originator
      maker = All-contains IsMadeBySender w.facts f i.made stands (message.Rsm m) said

      go : (o : Option KeyName) → RsmOk w.acceptances f m o → IsAnswerTaken w.acceptances f o
      go None d = record { acceptance = d.acceptance; stands = d.stands; class_is = d.class_is; party_is = d.party_is ∙ sym maker; more = d.more; names_are = d.names_are }
      go (Some name) d = subst (λ (p : List ℕ). HasAccepted w.acceptances OfDsm p f.under) (sym maker) d

  module _ (a : Acceptance) (tk : TakenKsm (lists_of w) a) where
    link_is : takes tk.under.name.issuer tk.under.name.label ≡ link_key tk.link
    link_is = find_key link_key same_link test_links (takes tk.under.name.issuer tk.under.name.label) tk.link tk.party.party.links tk.found

    first_is : tk.under ≡ carried_name tk.link.label tk.ksm (body_count tk.ksm.body)
    first_is =
        let name = sym (name_of (lists_of w) i a tk) in
        let label : (fact_of (lists_of w) i a tk).label ≡ tk.link.label = ap (λ (u : FullName). u.name.label) (sym name) ∙ ap (λ (k : LinkKey). k.label) link_is in
        name ∙ λ j. carried_name (label j) tk.ksm (body_count tk.ksm.body)

    value_at : (k : CarriedKey) → Carries tk.link.pair tk.ksm.originator tk.ksm.receiver tk.ksm.body (carried_name tk.link.label tk.ksm (body_count tk.ksm.body)) (carried_name tk.link.label tk.ksm k.count) k.value → HasOneValue w a.party (carried_name tk.link.label tk.ksm k.count) k.value
    value_at k c = record { held = by (tk.keeps u k.value brings); sent = sent }
      where
        u : FullName
        u = carried_name tk.link.label tk.ksm k.count

        brings : Carries tk.link.pair tk.ksm.originator a.party tk.ksm.body tk.under u k.value
        brings =
            let here : Carries tk.link.pair tk.ksm.originator a.party tk.ksm.body (carried_name tk.link.label tk.ksm (body_count tk.ksm.body)) u k.value = subst (λ (q : List ℕ). Carries tk.link.pair tk.ksm.originator q tk.ksm.body (carried_name tk.link.label tk.ksm (body_count tk.ksm.body)) u k.value) (sym (receiver_of (lists_of w) i a tk)) c in
            subst (λ (z : FullName). Carries tk.link.pair tk.ksm.originator a.party tk.ksm.body z u k.value) (sym first_is) here

        by : Keeps tk.party.party u k.value ⊎ Gone w.acceptances a.party u → HoldsKey w.members a.party (record { peer = u.name.originator; name = u.name }) k.value ⊎ Gone w.acceptances a.party u
        by (inl h) = inl (record { member = tk.party; at = tk.at; entry = h.0; found = h.1; held = h.2; value_is = h.3 })
        by (inr g) = inr g

        sent : (x : Member) (r : KeyRec) → member_at tk.ksm.originator w.members ≡ Some x → record_with (record { peer = tk.ksm.receiver; name = u.name }) x.party ≡ Some r → r.value ≡ k.value
        sent x r at found =
            let f = fact_of (lists_of w) i a tk in
            let same : x ≡ f.party = one_found x f.party at f.at in
            f.value u k.value (made_of (lists_of w) i a tk u k.value brings) r (subst (λ (y : Member). record_with (record { peer = tk.ksm.receiver; name = u.name }) y.party ≡ Some r) same found)

    new_at : (o : Option (List ℕ × NewKk)) → body_new tk.ksm.body ≡ o → IfSome o (λ kk. TakesUnder tk.party.party tk.ksm.originator kk.0 (carried_kk tk.link.pair (body_count tk.ksm.body) kk.1))
    new_at None e = tt
    new_at (Some kk) e =
        let t : TakesNew tk.party.party tk.under.name.originator tk.link.pair tk.ksm.body kk = tk.new kk e in
        let from : tk.under.name.originator ≡ tk.ksm.originator = ap (λ (u : FullName). u.name.originator) first_is in
        record { link = t.0; found = subst (λ (p : List ℕ). link_with (takes p kk.0) tk.party.party ≡ Some t.0) from t.1; pair_is = t.2 ∙ kk_same tk.link.pair (body_count tk.ksm.body) kk.1 }

    taken : IsTaken w a
    taken = record {
      ksm = tk.ksm;
      said = tk.said;
      receiver = sym (receiver_of (lists_of w) i a tk);
      member = tk.party;
      at = tk.at;
      link = tk.link;
      found = (let issuer = ap (λ (u : FullName). u.name.issuer) first_is in let label = ap (λ (u : FullName). u.name.label) first_is in subst (λ (k : LinkKey). link_with k tk.party.party ≡ Some tk.link) (λ j. takes (issuer j) (label j)) tk.found);
      label = subst (λ (z : List ℕ). IfSome (label_given tk.ksm.body) (λ given. z ≡ given)) (ap (λ (u : FullName). u.name.label) first_is) tk.label;
      made = subst (λ (u : FullName). HasFact w.facts u a.text) first_is tk.fact;
      names = tk.names ∙ (ap (λ (u : FullName). key_names u (body_twin tk.ksm.body)) first_is ∙ names_listed tk.link.label tk.link.pair tk.ksm);
      keys = keys_listed tk.link.label tk.link.pair tk.ksm (λ k. HasOneValue w a.party (carried_name tk.link.label tk.ksm k.count) k.value) value_at;
      new = new_at (body_new tk.ksm.body) refl;
    }

  pub keys_taken : KeysTaken w
  keys_taken = All-weaker (AcceptedOk (lists_of w)) (λ (a : Acceptance). a.class ≡ OfKsm → IsTaken w a) (λ a ok class. taken a (ok.ksm class)) w.acceptances i.accepted
