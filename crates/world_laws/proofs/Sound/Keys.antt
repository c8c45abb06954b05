-- A key service message is taken, with or without a new key-encrypting key, or from a centre: what the laws that
-- need no honesty ask.
use Rattle.x_base.specs.declared.verdict.Verdict.TheVariants as verdict
use Rattle.x_base.specs.declared.key_name.FullName.{FullName}
use Rattle.std.proofs.Common.{leb-true}
use Rattle.std.proofs.lemmas.Bool.{or_cases}
use Rattle.std.proofs.Common.{◌||◌}
use Rattle.party_tables.specs.Keys.{same_record}
use Rattle.std.proofs.Common.{nat_le}
use Rattle.party_tables.specs.Keys.{record_key}
use Rattle.std.proofs.Common.{arith, ◌≡◌, ℕ, ◌≤◌, ◌<◌, inl, inr, not, Bool, true, Option, Some, None, List, [], ◌∷◌, ◌++◌, refl, sym, ◌∙◌, ap, subst}
use Rattle.x_base.specs.declared.party.Side.TheVariants.{Sends, Takes}
use Rattle.csm_grammar.specs.declared.message.Ksm.{Ksm}
use Rattle.csm_grammar.specs.declared.message.KsmBody.{KsmBody}
use Rattle.csm_grammar.specs.declared.message.NewKk.{NewKk}
use Rattle.csm_grammar.specs.declared.message.Message.TheVariants as message
use Rattle.csm_grammar.specs.declared.arrival.Arrival.{Arrival}
use Rattle.csm_grammar.specs.Spelling.{Says}
use Rattle.party_tables.specs.declared.link.LinkKey.{LinkKey}
use Rattle.party_tables.specs.declared.link.LinkRec.{LinkRec}
use Rattle.party_tables.specs.declared.key.KeyRec.{KeyRec}
use Rattle.party_state.specs.declared.edit.Edit.TheVariants.{PutLink, PutKey}
use Rattle.party_tables.specs.Tables.{put_row}
use Rattle.party_tables.specs.Keys.{same_link, link_key, takes}
use Rattle.party_state.specs.State.{Party, centre_label, link_with, apply}
use Rattle.party_state.specs.Verdicts.{TestsHold, is_accept}
use Rattle.party_state.specs.Rows.{OfKsm}
use Rattle.party_tables.proofs.Keys.{test_links}
use Rattle.party_tables.proofs.Tables.{one_found, find_put_same, absent_put, found_put}
use Rattle.party_state.proofs.Verdicts.{held}
use Rattle.csm_grammar.specs.Arrivals.{authenticated_text}
use Rattle.world_laws.proofs.Links.Growth.{LinkGrows, PartyGrows, AllFine, next_up, change_grows}
use Rattle.world_laws.proofs.Links.Taking.{grown_takes}
use Rattle.world_laws.proofs.Links.Found.{HasLinks, LinkAt}
use Rattle.world_laws.proofs.Links.Taken.{ksm_count, ksm_next, count_less}
use Rattle.world_laws.proofs.Links.Waiting.{Waits, change_waits}
use Rattle.world_laws.proofs.Counting.Sound.{KsmFine, IsSound, change_links}
use Rattle.world_laws.proofs.Counting.Quiet.{pairs_none}
use Rattle.party_state.specs.Verdicts.{verdict_of, all_refuse}
use Rattle.party_state.proofs.Verdicts.{held_after}
use Rattle.party_state.specs.declared.edit.Edit.{Edit}
use Rattle.bank_keys.specs.Ksm.{body_link, body_count, body_twin, body_next, body_new, body_name, body_front, body_record, body_second, second_edits, body_tests, body_edits, new_tests, taken_edits, taken_link, key_names, key_row}
use Rattle.world_laws.proofs.Links.Putting.{free_parts}
use Rattle.world_laws.proofs.Links.Found.{link_at}
use Rattle.world_laws.proofs.Links.Taken.{name_link, ksm_link_grows, ksm_name_stays}
use Rattle.world_laws.proofs.Counting.Sound.{SoundRow}
use Rattle.world_laws.proofs.Counting.Quiet.{refused_sound}
use Rattle.world_laws.proofs.Sound.NewKks.{takes_waits}

-- the count tests, read
pub count_low : (next count : ℕ) → (not (nat_le next 99999999999999) || nat_le next count) ≡ true → nat_le next 99999999999999 ≡ true → next ≤ count
count_low next count a b = elim (or_cases (not (nat_le next 99999999999999)) (nat_le next count) a) [ inl h ↦ absurd (cc) | inr h ↦ leb-true next count h ]

-- the new link, where there is one
abbrev pub new_key : List ℕ → Option (List ℕ × NewKk) → Option LinkKey
new_key originator None = None
new_key originator (Some n) = Some (takes originator n.0)

new_takes : (originator : List ℕ) (n : Option (List ℕ × NewKk)) (k : LinkKey) → new_key originator n ≡ Some k → k.side ≡ Sends → ⊥
new_takes originator None k e side = cc
new_takes originator (Some n) k e side = let is : takes originator n.0 ≡ k = cc in let other : Takes ≡ k.side = ap (λ (z : LinkKey). z.side) is in cc

refuses : (p : Party) (originator : List ℕ) (l : LinkRec) (count : ℕ) (n : Option (List ℕ × NewKk)) (t : Bool) → all_refuse (new_tests p originator l count n ++ (t, verdict.KeysFull) ∷ []) ≡ true
refuses p originator l count None t = refl
refuses p originator l count (Some n) t = refl

pub new_absent : (p : Party) (originator : List ℕ) (l : LinkRec) (count : ℕ) (n : Option (List ℕ × NewKk)) → TestsHold (new_tests p originator l count n) → (kk : List ℕ × NewKk) → n ≡ Some kk → link_with (takes originator kk.0) p ≡ None
new_absent p originator l count None t kk e = absurd (cc)
new_absent p originator l count (Some n) t kk e = let is : n ≡ kk = cc in subst (λ (z : List ℕ × NewKk). link_with (takes originator z.0) p ≡ None) is (free_parts n.0 centre_label (link_with (takes originator n.0) p) t.0).1

-- the edits of a row that takes keys: the link in use goes on to a count, a new one may come, and one or two keys are put
abbrev pub taking_edits : List ℕ → LinkRec → ℕ → ℕ → Option (List ℕ × NewKk) → KeyRec → Option KeyRec → List Edit
taking_edits originator l count up n k o = PutLink (record l { next = up }) ∷ (taken_edits originator l count n ++ PutKey k ∷ second_edits o)

-- the link in use goes on, and a new one comes
taken_fine : (p : Party) (originator : List ℕ) (l : LinkRec) (count up : ℕ) (n : Option (List ℕ × NewKk)) (k : KeyRec) (o : Option KeyRec) → link_with (link_key l) p ≡ Some l → l.next ≤ up → ((kk : List ℕ × NewKk) → n ≡ Some kk → link_with (takes originator kk.0) p ≡ None) → AllFine (new_key originator n) p (taking_edits originator l count up n k o)
taken_fine p originator l count up None k None at low f = (inl (l, at, next_up l up low), (tt, tt))
taken_fine p originator l count up None k (Some m) at low f = (inl (l, at, next_up l up low), (tt, (tt, tt)))
taken_fine p originator l count up (Some n) k None at low f = (inl (l, at, next_up l up low), (inr (refl, absent_put link_key same_link test_links (takes originator n.0) (record l { next = up }) l p.links (f n refl) at), (tt, tt)))
taken_fine p originator l count up (Some n) k (Some m) at low f = (inl (l, at, next_up l up low), (inr (refl, absent_put link_key same_link test_links (takes originator n.0) (record l { next = up }) l p.links (f n refl) at), (tt, (tt, tt))))

taken_waits : (p : Party) (originator : List ℕ) (l : LinkRec) (count up : ℕ) (n : Option (List ℕ × NewKk)) (k : KeyRec) (o : Option KeyRec) → link_with (link_key l) p ≡ Some l → Waits p → Waits (apply (taking_edits originator l count up n k o) p)
taken_waits p originator l count up None k None at w = change_waits (PutLink (record l { next = up }) ∷ PutKey k ∷ []) p ((l, at, refl), (tt, tt)) w
taken_waits p originator l count up None k (Some m) at w = change_waits (PutLink (record l { next = up }) ∷ PutKey k ∷ PutKey m ∷ []) p ((l, at, refl), (tt, (tt, tt))) w
taken_waits p originator l count up (Some n) k None at w = takes_waits (apply (PutLink (record l { next = up }) ∷ []) p) (taken_link originator l count n) refl (change_waits (PutLink (record l { next = up }) ∷ []) p ((l, at, refl), tt) w)
taken_waits p originator l count up (Some n) k (Some m) at w = takes_waits (apply (PutLink (record l { next = up }) ∷ []) p) (taken_link originator l count n) refl (change_waits (PutLink (record l { next = up }) ∷ []) p ((l, at, refl), tt) w)

taken_up : (p : Party) (originator : List ℕ) (l : LinkRec) (count up : ℕ) (n : Option (List ℕ × NewKk)) (k : KeyRec) (o : Option KeyRec) → link_with (link_key l) p ≡ Some l → ((kk : List ℕ × NewKk) → n ≡ Some kk → link_with (takes originator kk.0) p ≡ None) → link_with (link_key l) (apply (taking_edits originator l count up n k o) p) ≡ Some (record l { next = up })
taken_up p originator l count up None k None at f = find_put_same link_key same_link test_links (record l { next = up }) p.links
taken_up p originator l count up None k (Some m) at f = find_put_same link_key same_link test_links (record l { next = up }) p.links
taken_up p originator l count up (Some n) k None at f = found_put link_key same_link test_links (link_key l) (taken_link originator l count n) (record l { next = up }) (put_row link_key same_link (record l { next = up }) p.links) (find_put_same link_key same_link test_links (record l { next = up }) p.links) (absent_put link_key same_link test_links (takes originator n.0) (record l { next = up }) l p.links (f n refl) at)
taken_up p originator l count up (Some n) k (Some m) at f = found_put link_key same_link test_links (link_key l) (taken_link originator l count n) (record l { next = up }) (put_row link_key same_link (record l { next = up }) p.links) (find_put_same link_key same_link test_links (record l { next = up }) p.links) (absent_put link_key same_link test_links (takes originator n.0) (record l { next = up }) l p.links (f n refl) at)

pub taken_new : (p : Party) (originator : List ℕ) (l : LinkRec) (count up : ℕ) (n : Option (List ℕ × NewKk)) (k : KeyRec) (o : Option KeyRec) (kk : List ℕ × NewKk) → n ≡ Some kk → link_with (takes originator kk.0) (apply (taking_edits originator l count up n k o) p) ≡ Some (taken_link originator l count kk)
taken_new p originator l count up None k o kk e = absurd (cc)
taken_new p originator l count up (Some n) k None kk e = let is : n ≡ kk = cc in subst (λ (z : List ℕ × NewKk). link_with (takes originator z.0) (apply (PutLink (record l { next = up }) ∷ (PutLink (taken_link originator l count n) ∷ PutKey k ∷ [])) p) ≡ Some (taken_link originator l count z)) is (find_put_same link_key same_link test_links (taken_link originator l count n) (put_row link_key same_link (record l { next = up }) p.links))
taken_new p originator l count up (Some n) k (Some m) kk e = let is : n ≡ kk = cc in subst (λ (z : List ℕ × NewKk). link_with (takes originator z.0) (apply (PutLink (record l { next = up }) ∷ (PutLink (taken_link originator l count n) ∷ PutKey k ∷ PutKey m ∷ [])) p) ≡ Some (taken_link originator l count z)) is (find_put_same link_key same_link test_links (taken_link originator l count n) (put_row link_key same_link (record l { next = up }) p.links))

-- a second key is put, if there is one
abbrev pub with_second : Option KeyRec → List KeyRec → List KeyRec
with_second None ks = ks
with_second (Some k) ks = put_row record_key same_record k ks

pub taken_keys : (p : Party) (originator : List ℕ) (l : LinkRec) (count up : ℕ) (n : Option (List ℕ × NewKk)) (k : KeyRec) (o : Option KeyRec) → ((apply (taking_edits originator l count up n k o) p).keys ≡ with_second o (put_row record_key same_record k p.keys)) × ((apply (taking_edits originator l count up n k o) p).exchanges ≡ p.exchanges) × ((apply (taking_edits originator l count up n k o) p).own ≡ p.own)
taken_keys p originator l count up None k None = (refl, refl, refl)
taken_keys p originator l count up None k (Some m) = (refl, refl, refl)
taken_keys p originator l count up (Some n) k None = (refl, refl, refl)
taken_keys p originator l count up (Some n) k (Some m) = (refl, refl, refl)

module _ (p : Party) (a : Arrival) (m : Ksm) (b : KsmBody) (l : LinkRec) (d : HasLinks p) (is : m.body ≡ b) (found : body_link p m.originator b ≡ Some l) (h : is_accept (key_row p a m b (Some l)).verdict ≡ true) where
  pub key_held : TestsHold (body_tests p a m b l)
  key_held = held (body_tests p a m b l) (refuses p m.originator l (body_count b) (body_new b) _) h

  pub key_low : l.next ≤ body_count b
  key_low = count_low l.next (body_count b) key_held.1.1.1.1.0 key_held.1.1.1.1.1.0

  -- its counts are past the next that is expected
  pub key_past : l.next ≤ body_next b
  key_past = let less : body_count b < body_next b = count_less (body_count b) (body_twin b) in omega (arith, key_low, less)

  pub key_absent : (kk : List ℕ × NewKk) → body_new b ≡ Some kk → link_with (takes m.originator kk.0) p ≡ None
  key_absent = new_absent p m.originator l (body_count b) (body_new b) (held_after (new_tests p m.originator l (body_count b) (body_new b)) (_ ∷ []) key_held.1.1.1.1.1.1).0

  -- the link in use, by the name of the key
  pub key_link : link_with (takes (body_name p m.originator b l).name.issuer (body_name p m.originator b l).name.label) p ≡ Some l
  key_link = name_link p m.originator b l d found

  at : LinkAt p (takes (body_name p m.originator b l).name.issuer (body_name p m.originator b l).name.label) l
  at = link_at p (takes (body_name p m.originator b l).name.issuer (body_name p m.originator b l).name.label) l key_link

  pub key_at_key : link_with (link_key l) p ≡ Some l
  key_at_key = rw at.key key_link

  edits : AllFine (new_key m.originator (body_new b)) p (body_edits p m b l)
  edits = taken_fine p m.originator l (body_count b) (body_next b) (body_new b) (body_record p m b l) (body_second p m b l) key_at_key key_past key_absent

  grown : PartyGrows (new_key m.originator (body_new b)) p (apply (body_edits p m b l) p)
  grown = change_grows (new_key m.originator (body_new b)) (body_edits p m b l) p edits

  -- the link in use, afterwards
  pub key_up : link_with (takes (body_name p m.originator b l).name.issuer (body_name p m.originator b l).name.label) (apply (body_edits p m b l) p) ≡ Some (record l { next = body_next b })
  key_up = subst (λ (k : LinkKey). link_with k (apply (body_edits p m b l) p) ≡ Some (record l { next = body_next b })) at.key (taken_up p m.originator l (body_count b) (body_next b) (body_new b) (body_record p m b l) (body_second p m b l) key_at_key key_absent)

  module _ (said : Says (authenticated_text a) (message.Ksm m)) where
    goes_on : (k : LinkRec) × (body_link (apply (body_edits p m b l) p) m.originator b ≡ Some k) × LinkGrows l k
    goes_on = ksm_link_grows p (apply (body_edits p m b l) p) m.originator b l (grown_takes (new_key m.originator (body_new b)) p (apply (body_edits p m b l) p) grown) found

    next_is : body_next b ≡ goes_on.0.next
    next_is =
        let again : link_with (takes (body_name (apply (body_edits p m b l) p) m.originator b goes_on.0).name.issuer (body_name (apply (body_edits p m b l) p) m.originator b goes_on.0).name.label) (apply (body_edits p m b l) p) ≡ Some goes_on.0 = name_link (apply (body_edits p m b l) p) m.originator b goes_on.0 (change_links (body_edits p m b l) p d) goes_on.1 in
        let name : body_name p m.originator b l ≡ body_name (apply (body_edits p m b l) p) m.originator b goes_on.0 = ksm_name_stays p (apply (body_edits p m b l) p) m.originator b l goes_on.0 grown.own goes_on.2 in
        let same : link_with (takes (body_name p m.originator b l).name.issuer (body_name p m.originator b l).name.label) (apply (body_edits p m b l) p) ≡ Some goes_on.0 = subst (λ (z : FullName). link_with (takes z.name.issuer z.name.label) (apply (body_edits p m b l) p) ≡ Some goes_on.0) (sym name) again in
        ap (λ (k : LinkRec). k.next) (one_found (record l { next = body_next b }) goes_on.0 key_up same)

    fine : KsmFine p (apply (body_edits p m b l) p) (authenticated_text a) (record { class = OfKsm; names = key_names (body_name p m.originator b l) (body_twin b) })
    fine =
        let count : ksm_count m ≡ body_count b = ap body_count is in
        let next : ksm_next m ≡ body_next b = ap body_next is in
        record {
          ksm = m;
          said = said;
          link = l;
          before = ap (body_link p m.originator) is ∙ found;
          names = ap (λ (z : KsmBody). key_names (body_name p m.originator z l) (body_twin z)) (sym is);
          low = omega (arith, key_low, count);
          later = goes_on.0;
          after = ap (body_link (apply (body_edits p m b l) p) m.originator) is ∙ goes_on.1;
          past = omega (arith, next_is, next);
        }

    pub key_sound : IsSound (new_key m.originator (body_new b)) p (authenticated_text a) (key_row p a m b (Some l))
    key_sound = record {
      made = λ k e side. absurd (new_takes m.originator (body_new b) k e side);
      free = λ k e side. absurd (new_takes m.originator (body_new b) k e side);
      edits = edits;
      waits = taken_waits p m.originator l (body_count b) (body_next b) (body_new b) (body_record p m b l) (body_second p m b l) key_at_key;
      uses = tt;
      apart = pairs_none;
      accepts = λ class. fine;
    }

pub key_row_sound : (p : Party) (a : Arrival) (m : Ksm) (b : KsmBody) (o : Option LinkRec) → HasLinks p → Says (authenticated_text a) (message.Ksm m) → m.body ≡ b → body_link p m.originator b ≡ o → is_accept (key_row p a m b o).verdict ≡ true → SoundRow p (authenticated_text a) (key_row p a m b o)
key_row_sound p a m b None d said is found h = record { new = None; sound = refused_sound p (authenticated_text a) (verdict_of (body_front p m b None)) }
key_row_sound p a m b (Some l) d said is found h = record { new = new_key m.originator (body_new b); sound = key_sound p a m b l d is found h said }
