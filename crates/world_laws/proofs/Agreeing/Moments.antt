-- What holds at the end of every honest run beside the laws.
use Rattle.std.proofs.Common.{arith, ◌≡◌, inl, inr, ℕ, ◌≤◌, Some, List, ap, subst, refl, sym, ◌∙◌, bytes_eq}
use Rattle.std.proofs.lemmas.List.Elements.{All-contains}
use Rattle.x_base.specs.declared.key_name.FullName.{FullName}
use Rattle.csm_grammar.specs.declared.message.Message.TheVariants as message
use Rattle.csm_grammar.specs.declared.message.KsmBody.{KsmBody}
use Rattle.csm_grammar.specs.declared.message.KsmBody.TheVariants as body
use Rattle.x_base.specs.declared.key_name.KeyName.{KeyName}
use Rattle.party_tables.specs.declared.exchange.Kind.{Kind}
use Rattle.party_tables.specs.declared.exchange.Kind.TheVariants as kind
use Rattle.party_tables.specs.Names.{name_behind}
use Rattle.party_tables.specs.declared.link.LinkRec.{LinkRec}
use Rattle.party_tables.specs.Keys.{sends}
use Rattle.party_state.specs.State.{link_with, exchange_with}
use Rattle.party_tables.proofs.Tables.{one_found}
use Rattle.party_tables.proofs.Keys.{test_idents}
use Rattle.party_tables.proofs.Tables.{find_key}
use Rattle.bank_keys.specs.Ksm.{body_twin}
use Rattle.member.specs.Member.{Member}
use Rattle.world_laws.specs.World.{World, own_of, member_at}
use Rattle.world_laws.specs.Carried.{IsOfTwo}
use Rattle.world_laws.proofs.Agreeing.Lists.{lists_of, to_peer}
use Rattle.world_laws.proofs.Agreeing.Facts.{ksm_key, KsmFact, FactOk}
use Rattle.world_laws.specs.Events.{Event, AreEvents}
use Rattle.world_laws.specs.Facts.{ReadyAtBothEnds, CountsMeet, WaitingStands, TwinsStand, TwinsCarried, MadeBySenders, OneKsmPerName, AnswersTaken, KeysTaken}
use Rattle.world_laws.specs.Honest.{HonestRun}
use Rattle.world_laws.specs.Starts.{IsStart}
use Rattle.world_laws.specs.Steps.{run}
use Rattle.world_laws.proofs.Links.Waiting.{new_of, WaitsFor}
use Rattle.world_laws.proofs.Counting.Runs.{run_counted, bare_counted, start_bare}
use Rattle.world_laws.proofs.Agreeing.HonestRuns.{AgreedAt, end_agreed}
use Rattle.world_laws.proofs.Agreeing.TakenKeys.{answers_taken, keys_taken}
use Rattle.world_laws.proofs.Agreeing.Waiting.{SendsName, sent_name_by}

of_two : (b : KsmBody) (second : ℕ) → body_twin b ≡ Some second → IsOfTwo b
of_two (body.Direct idk2 new kd ctp) second e = absurd (cc)
of_two (body.Centre centre kdu ctb) second e = absurd (cc)
of_two (body.Twin idk2 kd other ctp) second e = tt

module _ (start : World) (events : List Event) (s : IsStart start) (d : AreEvents events) (honest : HonestRun 1 start events) where
  agreed : AgreedAt (run 1 start events)
  agreed = end_agreed start events s d honest

  pub ready_at_both_ends : ReadyAtBothEnds (run 1 start events)
  ready_at_both_ends = agreed.agreed.ends

  pub counts_meet : CountsMeet (run 1 start events)
  counts_meet p x peer label l y m at_x f at_y g = elim (agreed.met peer y p label m at_y g) [
    | inl e ↦ (let same : e.member ≡ x = one_found e.member x e.at at_x in
        let link : e.link ≡ l = one_found e.link l (subst (λ (z : Member). link_with (sends peer label) z.party ≡ Some e.link) same e.found) f in
        subst (λ (z : LinkRec). m.next ≤ z.next) link e.next)
    | inr e ↦ (let low = e.0 in
        let two : 2 ≤ l.next = agreed.begun p x peer label l at_x f (e.1 x l at_x f) in
        omega (arith, low, two))
  ]

  pub waiting_stands : WaitingStands (run 1 start events)
  waiting_stands p x peer e name label new at stands is =
      let sent : sent_name_by e.kind ≡ Some name = ap sent_name_by is in
      let carried : new_of e.kind ≡ Some new = ap new_of is in
      let b = agreed.stand p x at peer e name new stands sent carried in
      let c = run_counted events 1 start d (bare_counted start (start_bare start s)) in
      let waits : WaitsFor x.party peer (Some new) = subst (WaitsFor x.party peer) carried (c.counted.waits p x at peer e stands) in
      record {
        link = b.link;
        found = b.found;
        unready = waits b.link b.found;
        entry = b.entry;
        stands = b.stands;
        pending = (agreed.agreed.sent p x at peer e name stands (inl sent)).pending b.entry b.stands;
      }

  pub twins_stand : TwinsStand (run 1 start events)
  twins_stand p x peer e name at stands is =
      let first = agreed.twins p x at peer e name name stands is (inl refl) in
      let second = agreed.twins p x at peer e name (name_behind name) stands is (inr refl) in
      let all = agreed.agreed.sent p x at peer e in
      let sends : (n : KeyName) → SendsName (kind.PairSent name) n → SendsName e.kind n = λ n h. subst (λ (k : Kind). SendsName k n) (sym is) h in
      (record { entry = first.0; found = first.1; pending = (all name stands (sends name (inl refl))).pending first.0 first.1 }, record { entry = second.0; found = second.1; pending = (all (name_behind name) stands (sends (name_behind name) (inr refl))).pending second.0 second.1 })

  pub twins_carried : TwinsCarried (run 1 start events)
  twins_carried p x peer e name at stands is f m known said under =
      let w = run 1 start events in
      let b : KsmFact (lists_of w) f m = All-contains (FactOk (lists_of w)) w.facts f agreed.agreed.facts known (message.Ksm m) said in
      let full : to_peer (ksm_key m b.label) ≡ record { name = name; recipient = peer } = sym b.under ∙ under in
      let own : name.originator ≡ p = (agreed.agreed.sent p x at peer e name stands (inl (ap sent_name_by is))).own ∙ sym (find_key own_of bytes_eq test_idents p x w.members at) in
      let from : m.originator ≡ p = ap (λ (u : FullName). u.name.originator) full ∙ own in
      let party : x ≡ b.party = one_found x b.party at (subst (λ (q : List ℕ). member_at q w.members ≡ Some b.party) from b.at) in
      let waits : exchange_with m.receiver b.party.party ≡ Some e = subst (λ (q : List ℕ). exchange_with q b.party.party ≡ Some e) (ap (λ (u : FullName). u.recipient) (sym full)) (subst (λ (y : Member). exchange_with peer y.party ≡ Some e) party stands) in
      let two = b.twins e waits (is ∙ ap (λ (u : FullName). kind.PairSent u.name) (sym full)) in
      of_two m.body two.0 two.1

  pub made_by_senders : MadeBySenders (run 1 start events)
  made_by_senders = agreed.agreed.made

  pub one_ksm_per_name : OneKsmPerName (run 1 start events)
  one_ksm_per_name = agreed.agreed.names

  pub answers_were_taken : AnswersTaken (run 1 start events)
  answers_were_taken = answers_taken (run 1 start events) agreed.agreed

  pub keys_were_taken : KeysTaken (run 1 start events)
  keys_were_taken = keys_taken (run 1 start events) agreed.agreed
