-- The edits of an accepted row are apart: the two links that an answer puts are not one link. No row begins anything.
use Rattle.std.proofs.Common.{◌≡◌, ◌≢◌, ℕ, true, false, not, Option, Some, None, List, [], ◌∷◌, ◌++◌, refl, sym, ap, ◌∙◌, bytes_eq}
use Rattle.std.proofs.lemmas.Bool.{and_parts, false_from_ne_true}
use Rattle.x_base.specs.declared.verdict.Verdict.TheVariants.{WeakDraws}
use Rattle.x_gen.specs.declared.generator.Gen.{Gen}
use Rattle.x_gen.specs.Gen.{good_draw}
use Rattle.csm_grammar.specs.declared.arrival.Arrival.{Arrival}
use Rattle.csm_grammar.specs.declared.message.Message.{Message}
use Rattle.csm_grammar.specs.declared.message.Message.TheVariants as message
use Rattle.csm_grammar.specs.declared.message.Rsi.{Rsi}
use Rattle.csm_grammar.specs.declared.message.Ers.{Ers}
use Rattle.party_tables.specs.declared.answer.Answer.{Answer}
use Rattle.party_state.specs.declared.command.Command.{Command}
use Rattle.party_state.specs.declared.command.Input.{Input}
use Rattle.party_state.specs.declared.command.Input.TheVariants as input
use Rattle.party_tables.specs.declared.link.LinkKey.{LinkKey}
use Rattle.party_tables.specs.declared.link.LinkRec.{LinkRec}
use Rattle.party_tables.specs.Keys.{same_link, link_key, sends}
use Rattle.party_state.specs.State.{Party, centre_label, link_with, answer_with}
use Rattle.party_state.specs.Verdicts.{Test, is_accept, all_refuse, TestsHold}
use Rattle.role_base.specs.Conditions.{is_data_key}
use Rattle.role_base.specs.Beginning.{AllBeginFree}
use Rattle.role_base.specs.Apart.{AreApart}
use Rattle.role_base.proofs.Addressed.{others}
use Rattle.role_base.proofs.PartyLaws.{HeldIfAccepted, LinkLaws}
use Rattle.role_base.specs.Centres.{centre_command}
use Rattle.distribution_role.specs.Answering.{answering}
use Rattle.distribution_role.specs.Requests.{rsi_tests, rsi_between, rsi_for}
use Rattle.distribution_role.specs.Recovery.{at_least, ers_tests, ers_between}
use Rattle.distribution_role.specs.Rows.{distribution_message, distribution_row}

-- links of two banks aren't one link
pub other_bank : LinkLaws → (r u : List ℕ) → u ≢ r → same_link (sends u centre_label) (sends r centre_label) ≡ false
other_bank links r u n = false_from_ne_true (same_link (sends u centre_label) (sends r centre_label)) (λ t. n (ap (λ (k : LinkKey). k.peer) ((links.same (sends u centre_label) (sends r centre_label)).0 t)))

links_apart : LinkLaws → (p : Party) (r u : List ℕ) (a b : LinkRec) → link_with (sends r centre_label) p ≡ Some a → link_with (sends u centre_label) p ≡ Some b → not (bytes_eq u r) ≡ true → same_link (link_key b) (link_key a) ≡ false
links_apart links p r u a b f g n =
    let i : sends r centre_label ≡ link_key a = links.found (sends r centre_label) a p f in
    let j : sends u centre_label ≡ link_key b = links.found (sends u centre_label) b p g in
    ap (λ (k : LinkKey). same_link k (link_key a)) (sym j) ∙ (ap (λ (k : LinkKey). same_link (sends u centre_label) k) (sym i) ∙ other_bank links r u (others u r n))

answering_apart : HeldIfAccepted → LinkLaws → (p : Party) (r u : List ℕ) (ts : List Test) (a b : LinkRec) (o : Option (ℕ × Gen)) → all_refuse (ts ++ (true, WeakDraws) ∷ []) ≡ true → (TestsHold (ts ++ (true, WeakDraws) ∷ []) → same_link (link_key b) (link_key a) ≡ false)
    → is_accept (answering p r u ts a b o).verdict ≡ true → AreApart (answering p r u ts a b o).edits
answering_apart held links p r u ts a b None f n e = tt
answering_apart held links p r u ts a b (Some d) f n e =
    let other : same_link (link_key b) (link_key a) ≡ false = n (held (ts ++ (true, WeakDraws) ∷ []) f e) in
    ((refl, (refl, (refl, tt))), ((other, (refl, tt)), ((refl, tt), (tt, tt))))

rsi_apart : HeldIfAccepted → LinkLaws → (p : Party) (a : Arrival) (m : Rsi) (u : Option (List ℕ)) (moment : ℕ) → is_accept (rsi_for p a m u moment).verdict ≡ true → AreApart (rsi_for p a m u moment).edits
rsi_apart held links p a m None moment e = tt
rsi_apart held links p a m (Some u) moment e = by_links (link_with (sends m.originator centre_label) p) (link_with (sends u centre_label) p) refl refl e
  where
    by_links : (o q : Option LinkRec) → link_with (sends m.originator centre_label) p ≡ o → link_with (sends u centre_label) p ≡ q → is_accept (rsi_between p a m u o q (good_draw p.generator moment)).verdict ≡ true → AreApart (rsi_between p a m u o q (good_draw p.generator moment)).edits
    by_links None q f g e = tt
    by_links (Some l) None f g e = tt
    by_links (Some l) (Some b) f g e = answering_apart held links p m.originator u (rsi_tests p a m u l b) l b (good_draw p.generator moment) refl
        (λ h. links_apart links p m.originator u l b f g (and_parts (is_data_key m.service) (not (bytes_eq u m.originator)) h.1.1.0).1) e

ers_apart : HeldIfAccepted → LinkLaws → (p : Party) (a : Arrival) (m : Ers) (t : Option Answer) (moment : ℕ) (o q : Option LinkRec) → link_with (sends m.originator centre_label) p ≡ o → link_with (sends m.ultimate centre_label) p ≡ q
    → is_accept (ers_between p a m t o q (good_draw p.generator moment)).verdict ≡ true → AreApart (ers_between p a m t o q (good_draw p.generator moment)).edits
ers_apart held links p a m None moment o q f g e = tt
ers_apart held links p a m (Some t) moment None q f g e = tt
ers_apart held links p a m (Some t) moment (Some l) None f g e = tt
ers_apart held links p a m (Some t) moment (Some l) (Some b) f g e = answering_apart held links p m.originator m.ultimate (ers_tests p a m t l b) l (at_least b m.ctr) (good_draw p.generator moment) refl
    (λ h. links_apart links p m.originator m.ultimate l b f g h.1.1.0) e

pub row_apart : HeldIfAccepted → LinkLaws → ((p : Party) (c : Command) → AreApart (centre_command p c).edits) → (p : Party) (i : Input) (moment : ℕ) → is_accept (distribution_row p i moment).verdict ≡ true → AreApart (distribution_row p i moment).edits
row_apart held links orders p (input.Ordered c) moment e = orders p c
row_apart held links orders p (input.Arrived a) moment e = by_message a.parsed.message e
  where
    by_message : (m : Message) → is_accept (distribution_message p a m moment).verdict ≡ true → AreApart (distribution_message p a m moment).edits
    by_message (message.Rsi m) e = rsi_apart held links p a m m.ultimate moment e
    by_message (message.Rfs m) e = tt
    by_message (message.Rtr m) e = tt
    by_message (message.Ksm m) e = tt
    by_message (message.Rsm m) e = tt
    by_message (message.Ers m) e = ers_apart held links p a m (answer_with (record { requester = m.originator; ultimate = m.ultimate }) p) moment (link_with (sends m.originator centre_label) p) (link_with (sends m.ultimate centre_label) p) refl refl e
    by_message (message.Esm m) e = tt
    by_message (message.Dsm m) e = tt

-- no row puts an exchange

answering_begins : (p : Party) (r u : List ℕ) (ts : List Test) (a b : LinkRec) (o : Option (ℕ × Gen)) → AllBeginFree p (answering p r u ts a b o).edits
answering_begins p r u ts a b None = tt
answering_begins p r u ts a b (Some d) = (tt, (tt, (tt, (tt, tt))))

rsi_begins : (p : Party) (a : Arrival) (m : Rsi) (u : List ℕ) (moment : ℕ) (o q : Option LinkRec) → AllBeginFree p (rsi_between p a m u o q (good_draw p.generator moment)).edits
rsi_begins p a m u moment None q = tt
rsi_begins p a m u moment (Some l) None = tt
rsi_begins p a m u moment (Some l) (Some b) = answering_begins p m.originator u (rsi_tests p a m u l b) l b (good_draw p.generator moment)

ers_begins : (p : Party) (a : Arrival) (m : Ers) (t : Option Answer) (moment : ℕ) (o q : Option LinkRec) → AllBeginFree p (ers_between p a m t o q (good_draw p.generator moment)).edits
ers_begins p a m None moment o q = tt
ers_begins p a m (Some t) moment None q = tt
ers_begins p a m (Some t) moment (Some l) None = tt
ers_begins p a m (Some t) moment (Some l) (Some b) = answering_begins p m.originator m.ultimate (ers_tests p a m t l b) l (at_least b m.ctr) (good_draw p.generator moment)

pub row_begins : ((p : Party) (c : Command) → AllBeginFree p (centre_command p c).edits) → (p : Party) (i : Input) (moment : ℕ) → AllBeginFree p (distribution_row p i moment).edits
row_begins orders p (input.Ordered c) moment = orders p c
row_begins orders p (input.Arrived a) moment = by_message a.parsed.message
  where
    by_ultimate : (m : Rsi) (u : Option (List ℕ)) → AllBeginFree p (rsi_for p a m u moment).edits
    by_ultimate m None = tt
    by_ultimate m (Some u) = rsi_begins p a m u moment (link_with (sends m.originator centre_label) p) (link_with (sends u centre_label) p)

    by_message : (m : Message) → AllBeginFree p (distribution_message p a m moment).edits
    by_message (message.Rsi m) = by_ultimate m m.ultimate
    by_message (message.Rfs m) = tt
    by_message (message.Rtr m) = tt
    by_message (message.Ksm m) = tt
    by_message (message.Rsm m) = tt
    by_message (message.Ers m) = ers_begins p a m (answer_with (record { requester = m.originator; ultimate = m.ultimate }) p) moment (link_with (sends m.originator centre_label) p) (link_with (sends m.ultimate centre_label) p)
    by_message (message.Esm m) = tt
    by_message (message.Dsm m) = tt
