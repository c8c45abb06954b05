-- The two ends of a key that was taken have one value.
use Rattle.std.proofs.Common.{Contains}
use Rattle.std.proofs.Common.{◌≡◌, ℕ, Some, List, sym, ◌∙◌, ap, subst}
use Rattle.x_base.specs.declared.key_name.FullName.{FullName}
use Rattle.x_base.specs.declared.party.Side.TheVariants.{Takes}
use Rattle.csm_grammar.specs.declared.message.Message.TheVariants as message
use Rattle.csm_grammar.specs.Spelling.{Says}
use Rattle.party_tables.specs.declared.link.LinkKey.{LinkKey}
use Rattle.party_tables.specs.declared.link.LinkRec.{LinkRec}
use Rattle.party_tables.specs.declared.key.RecordKey.{RecordKey}
use Rattle.party_tables.specs.Keys.{takes}
use Rattle.party_state.specs.State.{link_with}
use Rattle.party_tables.proofs.Tables.{one_found}
use Rattle.role_base.specs.Conditions.{body_issuer}
use Rattle.member.specs.Member.{Member}
use Rattle.world_laws.specs.World.{Acceptance, member_at}
use Rattle.world_laws.specs.Starts.{HasOtherEnd}
use Rattle.std.proofs.lemmas.List.Elements.{All-contains}
use Rattle.world_laws.proofs.Agreeing.Lists.{Lists, to_peer}
use Rattle.world_laws.proofs.Agreeing.Facts.{ksm_key, Carries, carries_same, among_carries, KsmFact, FactOk, TakenKsm}
use Rattle.x_mac.specs.declared.pair.Pair.{Pair}
use Rattle.world_laws.proofs.Agreeing.Agreed.{Agreed}

-- what an accepted KSM and its fact tell of one another
module _ (v : Lists) (i : Agreed v) (a : Acceptance) (tk : TakenKsm v a) where
  pub fact_of : KsmFact v tk.fact.fact tk.ksm
  fact_of = All-contains (FactOk v) v.facts tk.fact.fact i.facts tk.fact.stands (message.Ksm tk.ksm) (subst (λ (z : List ℕ). Says z (message.Ksm tk.ksm)) (sym tk.fact.text_is) tk.said)

  pub name_of : to_peer (ksm_key tk.ksm fact_of.label) ≡ tk.under
  name_of = sym fact_of.under ∙ tk.fact.under_is

  pub receiver_of : a.party ≡ tk.ksm.receiver
  receiver_of = sym tk.recipient ∙ ap (λ (z : FullName). z.recipient) (sym name_of)

  pub pair_of : tk.link.pair ≡ fact_of.link.pair
  pair_of =
      let f : KsmFact v tk.fact.fact tk.ksm = fact_of in
      let ends : HasOtherEnd v.members tk.ksm.receiver (takes (body_issuer tk.ksm.originator tk.ksm.body) f.label) f.link = i.ends (body_issuer tk.ksm.originator tk.ksm.body) f.issuer tk.ksm.receiver f.label f.link f.at_issuer f.found f.ready in
      let same : ends.member ≡ tk.party = one_found ends.member tk.party ends.at (subst (λ (q : List ℕ). member_at q v.members ≡ Some tk.party) receiver_of tk.at) in
      let both : tk.under.name ≡ (ksm_key tk.ksm f.label).name = ap (λ (z : FullName). z.name) (sym name_of) in
      let take_is : takes tk.under.name.issuer tk.under.name.label ≡ takes (body_issuer tk.ksm.originator tk.ksm.body) f.label = (λ j. record { peer = (both j).issuer; label = (both j).label; side = Takes }) in
      let link_b : link_with (takes (body_issuer tk.ksm.originator tk.ksm.body) f.label) tk.party.party ≡ Some tk.link = subst (λ (z : LinkKey). link_with z tk.party.party ≡ Some tk.link) take_is tk.found in
      let link_e : link_with (takes (body_issuer tk.ksm.originator tk.ksm.body) f.label) tk.party.party ≡ Some ends.link = subst (λ (z : Member). link_with (takes (body_issuer tk.ksm.originator tk.ksm.body) f.label) z.party ≡ Some ends.link) same ends.found in
      ap (λ (l : LinkRec). l.pair) (sym (one_found ends.link tk.link link_e link_b)) ∙ ends.pair

  -- what the text brings under the link that took it, it brings under the one that sent it
  pub made_of : (u : FullName) (value : ℕ) → Carries tk.link.pair tk.ksm.originator a.party tk.ksm.body tk.under u value → Carries fact_of.link.pair tk.ksm.originator tk.ksm.receiver tk.ksm.body tk.fact.fact.under u value
  made_of u value c =
      let one : Carries fact_of.link.pair tk.ksm.originator a.party tk.ksm.body tk.under u value = subst (λ (q : Pair). Carries q tk.ksm.originator a.party tk.ksm.body tk.under u value) pair_of c in
      let two : Carries fact_of.link.pair tk.ksm.originator tk.ksm.receiver tk.ksm.body tk.under u value = subst (λ (q : List ℕ). Carries fact_of.link.pair tk.ksm.originator q tk.ksm.body tk.under u value) receiver_of one in
      subst (λ (z : FullName). Carries fact_of.link.pair tk.ksm.originator tk.ksm.receiver tk.ksm.body z u value) (sym tk.fact.under_is) two

-- and of the two ends of a key among those that it brings
pub record Matched (v : Lists) (p : List ℕ) (x : Member) (k : RecordKey) (a : Acceptance) (tk : TakenKsm v a) : Type 0 where
  pub fact : KsmFact v tk.fact.fact tk.ksm
  pub party_is : fact.party ≡ x
  pub pair : tk.link.pair ≡ fact.link.pair
  pub at : member_at k.peer v.members ≡ Some tk.party
  pub receiver : a.party ≡ tk.ksm.receiver
  pub org : tk.under.name.originator ≡ p
  pub value : ℕ
  pub taken : Carries tk.link.pair tk.ksm.originator a.party tk.ksm.body tk.under (to_peer k) value
  pub made : Carries fact.link.pair tk.ksm.originator tk.ksm.receiver tk.ksm.body tk.fact.fact.under (to_peer k) value

pub matched : (v : Lists) → Agreed v → (p : List ℕ) (x : Member) (k : RecordKey) → member_at p v.members ≡ Some x → k.name.originator ≡ p → (a : Acceptance) → a.party ≡ k.peer → Contains a.names (to_peer k) → (tk : TakenKsm v a) → Matched v p x k a tk
matched v i p x k at_p own a party_is among tk = record { fact = fact_of v i a tk; party_is = x_is; pair = pair_of v i a tk; at = at_tk; receiver = receiver_of v i a tk; org = org_is; value = brings.0; taken = brings.1; made = made_of v i a tk (to_peer k) brings.0 brings.1 }
  where
    brings : (value : ℕ) × Carries tk.link.pair tk.ksm.originator a.party tk.ksm.body tk.under (to_peer k) value
    brings = among_carries tk.link.pair tk.ksm.originator a.party tk.ksm.body tk.under (to_peer k) (subst (λ (us : List FullName). Contains us (to_peer k)) tk.names among)

    org_is : tk.under.name.originator ≡ p
    org_is = sym (carries_same tk.link.pair tk.ksm.originator a.party tk.ksm.body tk.under (to_peer k) brings.0 brings.1).1 ∙ own

    x_is : (fact_of v i a tk).party ≡ x
    x_is = one_found (fact_of v i a tk).party x (subst (λ (q : List ℕ). member_at q v.members ≡ Some (fact_of v i a tk).party) (ap (λ (z : FullName). z.name.originator) (name_of v i a tk) ∙ org_is) (fact_of v i a tk).at) at_p

    at_tk : member_at k.peer v.members ≡ Some tk.party
    at_tk = subst (λ (q : List ℕ). member_at q v.members ≡ Some tk.party) party_is tk.at

-- where the key is the first of them, the fact has its name
pub first_key : (v : Lists) (a : Acceptance) (tk : TakenKsm v a) (f : KsmFact v tk.fact.fact tk.ksm) (k : RecordKey) → tk.under ≡ to_peer k → ksm_key tk.ksm f.label ≡ k
first_key v a tk f k e =
    let full : to_peer (ksm_key tk.ksm f.label) ≡ to_peer k = sym f.under ∙ (tk.fact.under_is ∙ e) in
    λ j. record { peer = (full j).recipient; name = (full j).name }
