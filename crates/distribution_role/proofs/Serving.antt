-- The requests that a distribution centre accepts are those that can be answered.
use Rattle.std.proofs.Common.{◌≡◌, ◌≢◌, ℕ, ◌↔◌, true, false, not, ◌&&◌, is_some, Option, Some, None, List, [], ◌∷◌, ◌++◌, refl, sym, ap, ◌∙◌, bytes_eq}
use Rattle.std.proofs.lemmas.Bool.{leb-true, le-leb, both_ways, and_parts, and_from}
use Rattle.x_base.specs.declared.verdict.Verdict.TheVariants.{Accept, WeakDraws}
use Rattle.x_gen.specs.declared.generator.Gen.{Gen}
use Rattle.x_gen.specs.Gen.{good_draw}
use Rattle.csm_grammar.specs.declared.arrival.Arrival.{Arrival}
use Rattle.csm_grammar.specs.declared.message.Message.{Message}
use Rattle.csm_grammar.specs.declared.message.Message.TheVariants as message
use Rattle.csm_grammar.specs.declared.message.Service.{Service}
use Rattle.csm_grammar.specs.declared.message.Service.TheVariants as service
use Rattle.csm_grammar.specs.declared.message.Rsi.{Rsi}
use Rattle.csm_grammar.specs.declared.message.Ers.{Ers}
use Rattle.party_tables.specs.declared.answer.Answer.{Answer}
use Rattle.party_tables.specs.declared.link.LinkRec.{LinkRec}
use Rattle.party_tables.specs.Keys.{sends}
use Rattle.party_state.specs.State.{Party, centre_label, link_with, answer_with}
use Rattle.party_state.specs.Verdicts.{Test, TestsHold}
use Rattle.role_base.specs.Conditions.{has_count, is_data_key}
use Rattle.role_base.proofs.Addressed.{others, apart, for_me, mine}
use Rattle.role_base.proofs.PartyLaws.{HeldAtAccept, AcceptedIfHeld}
use Rattle.role_base.specs.Centres.{request_front}
use Rattle.distribution_role.specs.Requests.{rsi_front, rsi_tests, rsi_between, rsi_for}
use Rattle.distribution_role.specs.Recovery.{ers_front, at_least, ers_tests, ers_between}
use Rattle.distribution_role.specs.Rows.{distribution_message}
use Rattle.distribution_role.proofs.Answered.{sent_tests}
use Rattle.distribution_role.specs.Serving.{CanSend, CanAnswer, CanRecover, AnswersRequests, AnswersAgain}

data_key : (s : Service) → is_data_key s ≡ true → s ≡ service.Kd
data_key service.Kd h = refl
data_key service.KdKd h = cc
data_key service.Kk h = cc
data_key service.DoubleKk h = cc
data_key service.KkKd h = cc
data_key service.DoubleKkKd h = cc

drawn_there : (o : Option (ℕ × Gen)) → is_some o ≡ true → (d : ℕ × Gen) × (o ≡ Some d)
drawn_there None h = absurd (cc)
drawn_there (Some d) h = (d, refl)

can_send : (p : Party) (r u : List ℕ) (moment : ℕ) (l b : LinkRec) → link_with (sends r centre_label) p ≡ Some l → link_with (sends u centre_label) p ≡ Some b → not (bytes_eq u r) ≡ true → (has_count l && has_count b) ≡ true → is_some (good_draw p.generator moment) ≡ true → CanSend p r u moment
can_send p r u moment l b f g n left s =
    let both : (has_count l ≡ true) × (has_count b ≡ true) = and_parts (has_count l) (has_count b) left in
    let d : (d : ℕ × Gen) × (good_draw p.generator moment ≡ Some d) = drawn_there (good_draw p.generator moment) s in
    record {
      other = others u r n;
      from = l;
      with_requester = f;
      from_left = leb-true l.next 99999999999999 both.0;
      to = b;
      with_ultimate = g;
      to_left = leb-true b.next 99999999999999 both.1;
      drawn = d.0;
      draws = d.1;
    }

counts_left : (p : Party) (r u : List ℕ) (moment : ℕ) (s : CanSend p r u moment) → (has_count s.from && has_count s.to) ≡ true
counts_left p r u moment s = and_from (has_count s.from) (has_count s.to) (le-leb s.from.next 99999999999999 s.from_left) (le-leb s.to.next 99999999999999 s.to_left)

-- a request

rsi_accepts : HeldAtAccept → (p : Party) (a : Arrival) (m : Rsi) (u : List ℕ) (moment : ℕ) (o q : Option LinkRec) → m.ultimate ≡ Some u → link_with (sends m.originator centre_label) p ≡ o → link_with (sends u centre_label) p ≡ q → (rsi_between p a m u o q (good_draw p.generator moment)).verdict ≡ Accept → CanAnswer p a m moment
rsi_accepts held p a m u moment None q k f g e = let h : TestsHold (rsi_front p m u false) = held (rsi_front p m u false) refl e in absurd (both_ways false refl h.1.1.1.0)
rsi_accepts held p a m u moment (Some l) None k f g e = let h : TestsHold (rsi_front p m u false) = held (rsi_front p m u false) refl e in absurd (both_ways false refl h.1.1.1.0)
rsi_accepts held p a m u moment (Some l) (Some b) k f g e =
    let ts : List Test = rsi_tests p a m u l b ++ (is_some (good_draw p.generator moment), WeakDraws) ∷ [] in
    let h : TestsHold ts = held ts refl (sym (sent_tests p m.originator u (rsi_tests p a m u l b) l b (good_draw p.generator moment)) ∙ e) in
    let who : (m.receiver ≡ p.own) × (m.originator ≢ p.own) = for_me p m.receiver m.originator h.0 in
    let served : (is_data_key m.service ≡ true) × (not (bytes_eq u m.originator) ≡ true) = and_parts (is_data_key m.service) (not (bytes_eq u m.originator)) h.1.1.0 in
    record {
      receiver = who.0;
      originator = who.1;
      known = h.1.0;
      service = data_key m.service served.0;
      ultimate = u;
      asks = k;
      code = h.1.1.1.1.0;
      sends = can_send p m.originator u moment l b f g served.1 h.1.1.1.1.1.0 h.1.1.1.1.1.1.0;
    }

-- without an ultimate recipient it is of no class that is served
asked : HeldAtAccept → (p : Party) (a : Arrival) (m : Rsi) (moment : ℕ) (o : Option (List ℕ)) → m.ultimate ≡ o → (rsi_for p a m o moment).verdict ≡ Accept → CanAnswer p a m moment
asked held p a m moment None k e =
    let h : TestsHold (request_front p m.receiver m.originator false) = held (request_front p m.receiver m.originator false) refl e in absurd (both_ways false refl h.1.1.0)
asked held p a m moment (Some u) k e = rsi_accepts held p a m u moment (link_with (sends m.originator centre_label) p) (link_with (sends u centre_label) p) k refl refl e

rsi_answers : AcceptedIfHeld → (p : Party) (a : Arrival) (m : Rsi) (moment : ℕ) (t : CanAnswer p a m moment) → (rsi_between p a m t.ultimate (Some t.sends.from) (Some t.sends.to) (Some t.sends.drawn)).verdict ≡ Accept
rsi_answers accepted p a m moment t =
    let u : List ℕ = t.ultimate in
    let s : CanSend p m.originator u moment = t.sends in
    let kd : is_data_key m.service ≡ true = ap is_data_key t.service in
    accepted (rsi_tests p a m u s.from s.to ++ (true, WeakDraws) ∷ []) (
      mine p m.receiver m.originator t.receiver t.originator,
      (t.known, (and_from (is_data_key m.service) (not (bytes_eq u m.originator)) kd (apart u m.originator s.other), (refl, (t.code, (counts_left p m.originator u moment s, (refl, tt)))))),
    )

answers : AcceptedIfHeld → (p : Party) (a : Arrival) (m : Rsi) (moment : ℕ) (t : CanAnswer p a m moment) (o : Option (List ℕ)) → o ≡ Some t.ultimate → (rsi_for p a m o moment).verdict ≡ Accept
answers accepted p a m moment t o k = rw k (rw (t.sends.with_requester, t.sends.with_ultimate, t.sends.draws) (rsi_answers accepted p a m moment t))

pub answers_requests : HeldAtAccept → AcceptedIfHeld → AnswersRequests
answers_requests held accepted p a m moment said =
    let row : (distribution_message p a a.parsed.message moment).verdict ≡ (rsi_for p a m m.ultimate moment).verdict = ap (λ (n : Message). (distribution_message p a n moment).verdict) said in
    rw row (asked held p a m moment m.ultimate refl, λ t. answers accepted p a m moment t m.ultimate t.asks)

-- one that comes again

ers_accepts : HeldAtAccept → (p : Party) (a : Arrival) (m : Ers) (moment : ℕ) (t : Option Answer) (o q : Option LinkRec) → answer_with (record { requester = m.originator; ultimate = m.ultimate }) p ≡ t → link_with (sends m.originator centre_label) p ≡ o → link_with (sends m.ultimate centre_label) p ≡ q
    → (ers_between p a m t o q (good_draw p.generator moment)).verdict ≡ Accept → CanRecover p a m moment
ers_accepts held p a m moment None o q k f g e = let h : TestsHold (ers_front p m false false) = held (ers_front p m false false) refl e in absurd (both_ways false refl h.1.1.1.0)
ers_accepts held p a m moment (Some t) None q k f g e = let h : TestsHold (ers_front p m true false) = held (ers_front p m true false) refl e in absurd (both_ways false refl h.1.1.1.1.0)
ers_accepts held p a m moment (Some t) (Some l) None k f g e = let h : TestsHold (ers_front p m true false) = held (ers_front p m true false) refl e in absurd (both_ways false refl h.1.1.1.1.0)
ers_accepts held p a m moment (Some t) (Some l) (Some b) k f g e =
    let ts : List Test = ers_tests p a m t l b ++ (is_some (good_draw p.generator moment), WeakDraws) ∷ [] in
    let h : TestsHold ts = held ts refl (sym (sent_tests p m.originator m.ultimate (ers_tests p a m t l b) l (at_least b m.ctr) (good_draw p.generator moment)) ∙ e) in
    let who : (m.receiver ≡ p.own) × (m.originator ≢ p.own) = for_me p m.receiver m.originator h.0 in
    record {
      receiver = who.0;
      originator = who.1;
      known = h.1.0;
      kept = t;
      last = k;
      code = h.1.1.1.1.1.0;
      sends = can_send p m.originator m.ultimate moment l b f g h.1.1.0 h.1.1.1.1.1.1.0 h.1.1.1.1.1.1.1.0;
    }

ers_answers : AcceptedIfHeld → (p : Party) (a : Arrival) (m : Ers) (moment : ℕ) (t : CanRecover p a m moment) → (ers_between p a m (Some t.kept) (Some t.sends.from) (Some t.sends.to) (Some t.sends.drawn)).verdict ≡ Accept
ers_answers accepted p a m moment t =
    let s : CanSend p m.originator m.ultimate moment = t.sends in
    accepted (ers_tests p a m t.kept s.from s.to ++ (true, WeakDraws) ∷ []) (
      mine p m.receiver m.originator t.receiver t.originator,
      (t.known, (apart m.ultimate m.originator s.other, (refl, (refl, (t.code, (counts_left p m.originator m.ultimate moment s, (refl, tt))))))),
    )

again_exactly : HeldAtAccept → AcceptedIfHeld → (p : Party) (a : Arrival) (m : Ers) (moment : ℕ) → ((distribution_message p a (message.Ers m) moment).verdict ≡ Accept) ↔ CanRecover p a m moment
again_exactly held accepted p a m moment = (
  ers_accepts held p a m moment (answer_with (record { requester = m.originator; ultimate = m.ultimate }) p) (link_with (sends m.originator centre_label) p) (link_with (sends m.ultimate centre_label) p) refl refl refl,
  λ t. rw (t.last, t.sends.with_requester, t.sends.with_ultimate, t.sends.draws) (ers_answers accepted p a m moment t),
)

pub answers_again : HeldAtAccept → AcceptedIfHeld → AnswersAgain
answers_again held accepted p a m moment said =
    let row : (distribution_message p a a.parsed.message moment).verdict ≡ (distribution_message p a (message.Ers m) moment).verdict = ap (λ (n : Message). (distribution_message p a n moment).verdict) said in
    rw row (again_exactly held accepted p a m moment)
