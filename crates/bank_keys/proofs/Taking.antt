-- A key that a key service message brings is accepted exactly where it can be taken.
use Rattle.std.proofs.Common.{arith, ◌≡◌, ℕ, ◌+◌, ◌<◌, ◌↔◌, Bool, true, false, cond, not, nat_le, nat_lt, bytes_eq, Option, Some, None, IfSome, List, length, refl, sym, ap, ◌∙◌}
use Rattle.std.specs.Prelude.{is_none}
use Rattle.std.proofs.lemmas.Bool.{leb-true, ltb-true, le-leb, both_ways, not-true, not_from_false, and_parts, and_from, or_right}
use Rattle.x_base.specs.Count.{IsCount}
use Rattle.x_base.specs.declared.verdict.Verdict.TheVariants.{Accept}
use Rattle.csm_grammar.specs.declared.message.Message.{Message}
use Rattle.csm_grammar.specs.declared.message.Message.TheVariants as message
use Rattle.csm_grammar.specs.declared.message.Ksm.{Ksm}
use Rattle.csm_grammar.specs.declared.message.KsmBody.{KsmBody}
use Rattle.csm_grammar.specs.declared.message.KsmBody.TheVariants as body
use Rattle.csm_grammar.specs.declared.message.NewKk.{NewKk}
use Rattle.csm_grammar.specs.declared.arrival.Arrival.{Arrival}
use Rattle.party_state.specs.declared.command.Input.{Input}
use Rattle.party_state.specs.declared.command.Input.TheVariants as input
use Rattle.party_tables.specs.declared.link.LinkRec.{LinkRec}
use Rattle.party_tables.specs.Keys.{takes}
use Rattle.party_state.specs.State.{Party, centre_label, link_with, has_pair}
use Rattle.party_state.specs.Verdicts.{TestsHold, verdict_of}
use Rattle.party_state.specs.Limits.{most_links}
use Rattle.role_base.specs.Conditions.{has_count, has_link_room}
use Rattle.role_base.specs.Deciding.{decision_of}
use Rattle.role_base.proofs.Addressed.{others, apart, for_me, mine}
use Rattle.role_base.proofs.PartyLaws.{HeldAtAccept, AcceptedIfHeld, LinksCounted, KeysCounted, KeyLaws}
use Rattle.bank_keys.specs.Ksm.{link_in_use, IsCounted, body_link, body_count, body_new, body_record, body_second, body_front, body_tests, new_tests, opened_kk, taken_link, key_row, key_arrives}
use Rattle.bank_keys.specs.Taking.{CanAdd, CanTake, TakesKeys}
use Rattle.bank_keys.proofs.NewKeys.{has_room, all_refusing, both_held, new_held}
use Rattle.bank_keys.proofs.Rooms.{not_low, one_link_more, keys_room_after, keys_room_before}
use Rattle.bank_keys.proofs.TwoKeys.{others_apart}

-- under a link in use the count behind the first of two keys is one
link_counts : (p : Party) (originator : List ℕ) (b : KsmBody) (l : LinkRec) → body_link p originator b ≡ Some l → IsCounted b
link_counts p originator (body.Direct idk2 new kd ctp) l f = tt
link_counts p originator (body.Centre centre kdu ctb) l f = tt
link_counts p originator (body.Twin idk2 first second ctp) l f = go (nat_lt ctp 99999999999999) refl f
  where
    go : (b : Bool) → nat_lt ctp 99999999999999 ≡ b → cond b (link_in_use p originator idk2) None ≡ Some l → IsCount (ctp + 1)
    go true e f = let below : ctp < 99999999999999 = ltb-true ctp 99999999999999 e in record { low = omega arith; high = omega arith }
    go false e f = absurd (cc)

-- a new key-encrypting key

absent : (o : Option LinkRec) → is_none o ≡ true → o ≡ None
absent None h = refl
absent (Some l) h = absurd (cc)

module _ (held : HeldAtAccept) (accepted : AcceptedIfHeld) (links : LinksCounted) (keys : KeysCounted) (laws : KeyLaws) where
  adds : (p : Party) (originator : List ℕ) (l : LinkRec) (count : ℕ) (n : List ℕ × NewKk) → TestsHold (new_tests p originator l count (Some n)) → CanAdd p originator l count n
  adds p originator l count n h =
      let both : (not (bytes_eq n.0 centre_label) ≡ true) × (is_none (link_with (takes originator n.0) p) ≡ true) = and_parts (not (bytes_eq n.0 centre_label)) (is_none (link_with (takes originator n.0) p)) h.0 in
      let free : link_with (takes originator n.0) p ≡ None = absent (link_with (takes originator n.0) p) both.1 in
      let room : nat_le (length p.links + 1) most_links ≡ true = rw free at h.1.1.0 in
      record {
        label = others n.0 centre_label both.0;
        free = free;
        other = not-true (has_pair (opened_kk l.pair count n.1) p) h.1.0;
        room = rw (one_link_more links p (taken_link originator l count n) free) (leb-true (length p.links + 1) most_links room);
      }

  added : (p : Party) (originator : List ℕ) (l : LinkRec) (count : ℕ) (n : List ℕ × NewKk) → CanAdd p originator l count n → TestsHold (new_tests p originator l count (Some n))
  added p originator l count n c =
      let free : is_none (link_with (takes originator n.0) p) ≡ true = rw c.free refl in
      let room : nat_le (length p.links + 1) most_links ≡ true = le-leb (length p.links + 1) most_links (rw (one_link_more links p (taken_link originator l count n) c.free) at c.room) in
      let place : has_link_room p (takes originator n.0) ≡ true = rw c.free room in
      (and_from (not (bytes_eq n.0 centre_label)) (is_none (link_with (takes originator n.0) p)) (apart n.0 centre_label c.label) free, (not_from_false (has_pair (opened_kk l.pair count n.1) p) c.other, (place, tt)))

  adds_new : (p : Party) (originator : List ℕ) (l : LinkRec) (count : ℕ) (n : Option (List ℕ × NewKk)) → TestsHold (new_tests p originator l count n) → IfSome n (CanAdd p originator l count)
  adds_new p originator l count None h = tt
  adds_new p originator l count (Some n) h = adds p originator l count n h

  added_new : (p : Party) (originator : List ℕ) (l : LinkRec) (count : ℕ) (n : Option (List ℕ × NewKk)) → IfSome n (CanAdd p originator l count) → TestsHold (new_tests p originator l count n)
  added_new p originator l count None c = tt
  added_new p originator l count (Some n) c = added p originator l count n c

  -- under a link

  accepts_under : (p : Party) (a : Arrival) (m : Ksm) (l : LinkRec) → body_link p m.originator m.body ≡ Some l → verdict_of (body_tests p a m m.body l) ≡ Accept → CanTake p a m
  accepts_under p a m l f e =
      let h : TestsHold (body_tests p a m m.body l) = held (body_tests p a m m.body l) (all_refusing p a m m.body l) e in
      let who = for_me p m.receiver m.originator h.0 in
      let last : TestsHold (new_tests p m.originator l (body_count m.body) (body_new m.body)) × (has_room p m m.body l ≡ true) = new_held p a m m.body l h in
      record {
        receiver = who.0;
        originator = who.1;
        known = h.1.0;
        link = l;
        in_use = f;
        code = h.1.1.1.0;
        fresh = leb-true l.next (body_count m.body) (not_low (has_count l) (nat_le l.next (body_count m.body)) h.1.1.1.1.0 h.1.1.1.1.1.0);
        left = leb-true l.next 99999999999999 h.1.1.1.1.1.0;
        added = adds_new p m.originator l (body_count m.body) (body_new m.body) last.0;
        counted = link_counts p m.originator m.body l f;
        room = keys_room_after laws keys p (body_record p m m.body l) (body_second p m m.body l) (others_apart p m m.body l) last.1;
      }

  takes_under : (p : Party) (a : Arrival) (m : Ksm) (t : CanTake p a m) → verdict_of (body_tests p a m m.body t.link) ≡ Accept
  takes_under p a m t = accepted (body_tests p a m m.body t.link) (
    mine p m.receiver m.originator t.receiver t.originator,
    (
      t.known,
      (
        refl,
        (
          t.code,
          (
            or_right (not (has_count t.link)) (nat_le t.link.next (body_count m.body)) (le-leb t.link.next (body_count m.body) t.fresh),
            (
              le-leb t.link.next 99999999999999 t.left,
              both_held p m.originator t.link (body_count m.body) (body_new m.body) (has_room p m m.body t.link) (added_new p m.originator t.link (body_count m.body) (body_new m.body) t.added) (keys_room_before laws keys p (body_record p m m.body t.link) (body_second p m m.body t.link) (others_apart p m m.body t.link) t.room),
            ),
          ),
        ),
      ),
    ),
  )

  accepts_exactly : (p : Party) (a : Arrival) (m : Ksm) → ((key_arrives p a m).verdict ≡ Accept) ↔ CanTake p a m
  accepts_exactly p a m = (accepts (body_link p m.originator m.body) refl, takes_it)
    where
      accepts : (o : Option LinkRec) → body_link p m.originator m.body ≡ o → (key_row p a m m.body o).verdict ≡ Accept → CanTake p a m
      accepts None f e = let h : TestsHold (body_front p m m.body None) = held (body_front p m m.body None) refl e in absurd (both_ways false refl h.1.1.0)
      accepts (Some l) f e = accepts_under p a m l f e

      takes_it : CanTake p a m → (key_arrives p a m).verdict ≡ Accept
      takes_it t = rw t.in_use (takes_under p a m t)

  -- what is decided of a key that comes
  pub takes_keys : (p : Party) (a : Arrival) (m : Ksm) → a.parsed.message ≡ message.Ksm m → TakesKeys p (input.Arrived a) (decision_of p (key_arrives p a m))
  takes_keys p a m e = λ b n brought.
      let arrived : a ≡ b = ap (λ (i : Input). arrival_of a i) brought.arrived in
      let said : message.Ksm m ≡ message.Ksm n = sym e ∙ (ap (λ (x : Arrival). x.parsed.message) arrived ∙ brought.message) in
      let same : m ≡ n = ap (λ (x : Message). ksm_of m x) said in
      rw (arrived, same) (accepts_exactly p b n)
    where
      arrival_of : Arrival → Input → Arrival
      arrival_of d (input.Arrived x) = x
      arrival_of d (input.Ordered x) = d

      ksm_of : Ksm → Message → Ksm
      ksm_of d (message.Ksm x) = x
      ksm_of d _ = d
