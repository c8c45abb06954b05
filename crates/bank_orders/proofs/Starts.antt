-- A bank starts with a new data key exactly where it can, and the key goes out under the link that was asked for.
use Rattle.std.proofs.Common.{◌≡◌, ℕ, ◌↔◌, Bool, true, false, cond, nat_le, Option, Some, None, List, ◌++◌, bytes_eq, refl, sym, ap, subst, ◌∙◌}
use Rattle.std.proofs.lemmas.Bool.{both_ways, leb-true, le-leb, false_from_ne_true}
use Rattle.std.proofs.lemmas.Slice.Eq.{bytes_eq-Decides}
use Rattle.x_base.specs.declared.party.Side.TheVariants.{Sends}
use Rattle.x_base.specs.declared.verdict.Verdict.TheVariants.{Accept}
use Rattle.x_gen.specs.declared.generator.Gen.{Gen}
use Rattle.x_gen.specs.Gen.{good_draw}
use Rattle.party_tables.specs.declared.link.LinkKey.{LinkKey}
use Rattle.party_tables.specs.declared.link.LinkRec.{LinkRec}
use Rattle.party_state.specs.Limits.{most_keys}
use Rattle.party_tables.specs.Keys.{sends}
use Rattle.party_state.specs.State.{Party, apply, centre_label, link_with, record_with, exchange_with}
use Rattle.party_state.specs.Rows.{Row}
use Rattle.party_state.specs.Verdicts.{Test, TestsHold}
use Rattle.role_base.specs.Conditions.{count_after}
use Rattle.role_base.specs.Sending.{sending_tests, sending_drawn, sending}
use Rattle.role_base.specs.Sends.{SendsKey}
use Rattle.role_base.proofs.PartyLaws.{HeldAtAccept, AcceptedIfHeld, LinkLaws, LinksFound}
use Rattle.role_base.proofs.Beginning.{first_peer, none_stands}
use Rattle.role_base.proofs.Tested.{none_so, counted}
use Rattle.bank_orders.specs.Start.{if_ready, sending_link, start_tests, start_under, start}
use Rattle.bank_orders.specs.Starts.{SendsUnder, next_record, CanStart, Starts}

-- the link to send under

under_ready : (l m : LinkRec) (b : Bool) → m.ready ≡ b → cond b (Some m) None ≡ Some l → (Some m ≡ Some l) × (l.ready ≡ true)
under_ready l m true i h = let e : m ≡ l = cc in (h, subst (λ (x : LinkRec). x.ready ≡ true) e i)
under_ready l m false i h = absurd (cc)

if_ready_so : (l : LinkRec) (o : Option LinkRec) → if_ready o ≡ Some l → (o ≡ Some l) × (l.ready ≡ true)
if_ready_so l None h = absurd (cc)
if_ready_so l (Some m) h = under_ready l m m.ready refl h

pub under : (p : Party) (peer : List ℕ) (label : Option (List ℕ)) (l : LinkRec) → sending_link p peer label ≡ Some l → SendsUnder p peer label l
under p peer None l h = h
under p peer (Some label) l h = go (bytes_eq label centre_label) refl h
  where
    go : (b : Bool) → bytes_eq label centre_label ≡ b → cond b None (if_ready (link_with (sends peer label) p)) ≡ Some l → SendsUnder p peer (Some label) l
    go true i h = absurd (cc)
    go false i h = ((λ e. both_ways (bytes_eq label centre_label) i ((bytes_eq-Decides label centre_label).1 e)), if_ready_so l (link_with (sends peer label) p) h)

pub under_so : (p : Party) (peer : List ℕ) (label : Option (List ℕ)) (l : LinkRec) → SendsUnder p peer label l → sending_link p peer label ≡ Some l
under_so p peer None l u = u
under_so p peer (Some label) l u =
    let other : bytes_eq label centre_label ≡ false = false_from_ne_true (bytes_eq label centre_label) (λ t. u.0 ((bytes_eq-Decides label centre_label).0 t)) in
    ap (λ (b : Bool). cond b None (if_ready (link_with (sends peer label) p))) other ∙ (ap (λ (o : Option LinkRec). if_ready o) u.1.0 ∙ ap (λ (b : Bool). cond b (Some l) None) u.1.1)

pub to_peer : LinksFound → (p : Party) (peer : List ℕ) (label : Option (List ℕ)) (l : LinkRec) → SendsUnder p peer label l → l.peer ≡ peer
to_peer found p peer None l u = first_peer p peer Sends l u
to_peer found p peer (Some label) l u = ap (λ (k : LinkKey). k.peer) (sym (found (sends peer label) l p u.1.0))

-- when

module _ (held : HeldAtAccept) (accepted : AcceptedIfHeld) where
  abbrev start_all : Party → List ℕ → LinkRec → Option (ℕ × Gen) → List Test
  start_all p peer l o = start_tests p peer (Some l) ++ sending_tests p l o

  can_start : (p : Party) (peer : List ℕ) (label : Option (List ℕ)) (moment : ℕ) (o : Option LinkRec) (x : Option (ℕ × Gen)) → sending_link p peer label ≡ o → good_draw p.generator moment ≡ x → (start_under p peer o moment).verdict ≡ Accept → CanStart p peer label moment
  can_start p peer label moment None x f g e = let h : TestsHold (start_tests p peer None) = held (start_tests p peer None) refl e in absurd (both_ways false refl h.1.1.0)
  can_start p peer label moment (Some l) None f g e =
      let r : (sending_drawn p (start_tests p peer (Some l)) l None).verdict ≡ Accept = ap (λ (y : Option (ℕ × Gen)). (sending_drawn p (start_tests p peer (Some l)) l y).verdict) (sym g) ∙ e in
      let h : TestsHold (start_all p peer l None) = held (start_all p peer l None) refl r in
      absurd (both_ways false refl h.1.1.1.1.1.0)
  can_start p peer label moment (Some l) (Some d) f g e =
      let r : (sending_drawn p (start_tests p peer (Some l)) l (Some d)).verdict ≡ Accept = ap (λ (y : Option (ℕ × Gen)). (sending_drawn p (start_tests p peer (Some l)) l y).verdict) (sym g) ∙ e in
      let h : TestsHold (start_all p peer l (Some d)) = held (start_all p peer l (Some d)) refl r in
      record {
        known = h.0;
        free = none_stands (exchange_with peer p) h.1.0;
        link = l;
        in_use = under p peer label l f;
        left = leb-true l.next 99999999999999 h.1.1.1.0;
        room = rw (sym (counted (record_with (next_record p l) p) p.keys)) (leb-true (count_after (record_with (next_record p l) p) p.keys) most_keys h.1.1.1.1.0);
        drawn = d;
        draws = g;
      }

  started : (p : Party) (peer : List ℕ) (label : Option (List ℕ)) (moment : ℕ) → CanStart p peer label moment → (start p peer label moment).verdict ≡ Accept
  started p peer label moment c =
      let room : nat_le (count_after (record_with (next_record p c.link) p) p.keys) most_keys ≡ true = le-leb (count_after (record_with (next_record p c.link) p) p.keys) most_keys (rw (counted (record_with (next_record p c.link) p) p.keys) c.room) in
      ap (λ (o : Option LinkRec). (start_under p peer o moment).verdict) (under_so p peer label c.link c.in_use)
      ∙ (ap (λ (y : Option (ℕ × Gen)). (sending_drawn p (start_tests p peer (Some c.link)) c.link y).verdict) c.draws
      ∙ accepted (start_all p peer c.link (Some c.drawn)) (c.known, (none_so (exchange_with peer p) c.free, (refl, (le-leb c.link.next 99999999999999 c.left, (room, (refl, tt)))))))

  pub starts_exactly : (p : Party) (peer : List ℕ) (label : Option (List ℕ)) (moment : ℕ) → ((start p peer label moment).verdict ≡ Accept) ↔ CanStart p peer label moment
  starts_exactly p peer label moment = (can_start p peer label moment (sending_link p peer label) (good_draw p.generator moment) refl refl, started p peer label moment)

  abbrev AllSend : Type 0
  AllSend = (p : Party) (front : List Test) (l : LinkRec) (moment : ℕ) (d : ℕ × Gen) → good_draw p.generator moment ≡ Some d → SendsKey p (apply (sending p front l moment).edits p) (sending p front l moment) l moment

  pub starts : AllSend → LinkLaws → (p : Party) (peer : List ℕ) (label : Option (List ℕ)) (moment : ℕ) → (start p peer label moment).verdict ≡ Accept → Starts p (apply (start p peer label moment).edits p) (start p peer label moment) peer label moment
  starts sent links p peer label moment e =
      let c : CanStart p peer label moment = can_start p peer label moment (sending_link p peer label) (good_draw p.generator moment) refl refl e in
      let row : start_under p peer (Some c.link) moment ≡ start p peer label moment = ap (λ (o : Option LinkRec). start_under p peer o moment) (sym (under_so p peer label c.link c.in_use)) in
      record {
        link = c.link;
        in_use = c.in_use;
        to = to_peer links.found p peer label c.link c.in_use;
        sends = subst (λ (r : Row). SendsKey p (apply r.edits p) r c.link moment) row (sent p (start_tests p peer (Some c.link)) c.link moment c.drawn c.draws);
      }
