-- The requests that a translation centre accepts are those that can be answered, and what its answers give.
use Rattle.std.proofs.Common.{◌≡◌, ◌≢◌, ℕ, ◌+◌, ◌<◌, ◌^◌, ◌↔◌, Bool, true, false, cond, not, ◌||◌, nat_le, Option, Some, None, List, [], ◌∷◌, refl, sym, ap, subst, ◌∙◌, bytes_eq}
use Rattle.std.proofs.lemmas.Bool.{leb-true, le-leb, both_ways, or_right}
use Rattle.x_base.specs.declared.verdict.Verdict.{Verdict}
use Rattle.x_base.specs.declared.verdict.Verdict.TheVariants.{Accept, CountLow, CountSpent, NotForMe, UnknownPeer, WrongClass, UnknownKk, BadMac}
use Rattle.x_mac.specs.declared.pair.Pair.{Pair}
use Rattle.x_seal.specs.Wrapped.{unwrap_of, seal_of, unseal_of}
use Rattle.csm_grammar.specs.declared.arrival.Arrival.{Arrival}
use Rattle.csm_grammar.specs.declared.message.Message.{Message}
use Rattle.csm_grammar.specs.declared.message.Message.TheVariants as message
use Rattle.csm_grammar.specs.declared.message.Rfs.{Rfs}
use Rattle.party_state.specs.declared.edit.Edit.TheVariants.{PutLink}
use Rattle.party_tables.specs.declared.link.LinkKey.{LinkKey}
use Rattle.party_tables.specs.declared.link.LinkRec.{LinkRec}
use Rattle.party_tables.specs.Keys.{same_link, link_key, sends, takes}
use Rattle.party_state.specs.State.{Party, apply, apply_edit, centre_label, link_with, knows}
use Rattle.party_state.specs.Verdicts.{verdict_of, TestsHold}
use Rattle.party_state.specs.Rows.{Row, Coded}
use Rattle.role_base.specs.Conditions.{is_for, has_count}
use Rattle.role_base.specs.Texts.{is_verified}
use Rattle.role_base.specs.Errors.{coded_under}
use Rattle.role_base.proofs.Addressed.{others, apart, for_me, mine}
use Rattle.role_base.proofs.PartyLaws.{HeldAtAccept, AcceptedIfHeld, LinkLaws, put_other, put_over}
use Rattle.translation_role.specs.Service.{rfs_value, rfs_under, rfs_answer, rfs_front, rfs_tests, rfs_error, rfs_between, rfs}
use Rattle.translation_role.specs.Rows.{translation_message}
use Rattle.translation_role.proofs.TranslatedApart.{other_side, side_other}
use Rattle.translation_role.specs.Serving.{carried, CanTranslate, TranslatesExactly, ReturnsKey, ReturnsKeys, count_error, AnswersLow, AnswersSpent, AnswersNoOther}

not_low : (a b : Bool) → (not a || b) ≡ true → a ≡ true → b ≡ true
not_low true b h t = h
not_low false b h t = absurd (cc)

-- which are accepted

translates : HeldAtAccept → (p : Party) (a : Arrival) (m : Rfs) (o q : Option LinkRec) → link_with (takes m.originator centre_label) p ≡ o → link_with (sends m.ultimate centre_label) p ≡ q → (rfs_between p a m o q).verdict ≡ Accept → CanTranslate p a m
translates held p a m None q f g e = let h : TestsHold (rfs_front p m false) = held (rfs_front p m false) refl e in absurd (both_ways false refl h.1.1.1.0)
translates held p a m (Some l) None f g e = let h : TestsHold (rfs_front p m false) = held (rfs_front p m false) refl e in absurd (both_ways false refl h.1.1.1.0)
translates held p a m (Some l) (Some b) f g e =
    let h : TestsHold (rfs_tests p a m l b) = held (rfs_tests p a m l b) refl e in
    let who : (m.receiver ≡ p.own) × (m.originator ≢ p.own) = for_me p m.receiver m.originator h.0 in
    record {
      receiver = who.0;
      originator = who.1;
      known = h.1.0;
      other = others m.ultimate m.originator h.1.1.0;
      from = l;
      with_originator = f;
      to = b;
      with_ultimate = g;
      code = h.1.1.1.1.0;
      fresh = leb-true l.next m.cta (not_low (has_count l) (nat_le l.next m.cta) h.1.1.1.1.1.0 h.1.1.1.1.1.1.0);
      left = leb-true l.next 99999999999999 h.1.1.1.1.1.1.0;
      to_left = leb-true b.next 99999999999999 h.1.1.1.1.1.1.1.0;
    }

translated : AcceptedIfHeld → (p : Party) (a : Arrival) (m : Rfs) (t : CanTranslate p a m) → (rfs_between p a m (Some t.from) (Some t.to)).verdict ≡ Accept
translated accepted p a m t = accepted (rfs_tests p a m t.from t.to) (
  mine p m.receiver m.originator t.receiver t.originator,
  (
    t.known,
    (
      apart m.ultimate m.originator t.other,
      (
        refl,
        (
          t.code,
          (
            or_right (not (has_count t.from)) (nat_le t.from.next m.cta) (le-leb t.from.next m.cta t.fresh),
            (le-leb t.from.next 99999999999999 t.left, (le-leb t.to.next 99999999999999 t.to_left, tt)),
          ),
        ),
      ),
    ),
  ),
)

exactly : HeldAtAccept → AcceptedIfHeld → (p : Party) (a : Arrival) (m : Rfs) → ((rfs p a m).verdict ≡ Accept) ↔ CanTranslate p a m
exactly held accepted p a m = (
  translates held p a m (link_with (takes m.originator centre_label) p) (link_with (sends m.ultimate centre_label) p) refl refl,
  λ t. rw (t.with_originator, t.with_ultimate) (translated accepted p a m t),
)

pub translates_exactly : HeldAtAccept → AcceptedIfHeld → TranslatesExactly
translates_exactly held accepted p a m said =
    let row : (translation_message p a a.parsed.message).verdict ≡ (rfs p a m).verdict = ap (λ (n : Message). (translation_message p a n).verdict) said in
    rw row (exactly held accepted p a m)

-- what they give

-- decryption undoes encryption, and what is decrypted has 64 bits
pub record Undone : Type 0 where
  pub unsealed : (kk : Pair) (from to : List ℕ) (count key : ℕ) → key < 2 ^ 64 → unseal_of kk from to count (seal_of kk from to count key) ≡ key
  pub below : (kk : Pair) (count sealed : ℕ) → unwrap_of kk count sealed < 2 ^ 64

returns_key : Undone → LinkLaws → (p : Party) (a : Arrival) (m : Rfs) (l b : LinkRec) → link_with (takes m.originator centre_label) p ≡ Some l → link_with (sends m.ultimate centre_label) p ≡ Some b → ReturnsKey p (rfs_between p a m (Some l) (Some b)) m l b
returns_key laws links p a m l b f g =
    let used : LinkRec = record l { next = m.cta + 1 } in
    let sent : LinkRec = record b { next = b.next + 1 } in
    let apart : same_link (takes m.originator centre_label) (link_key sent) ≡ false = ap (λ (k : LinkKey). same_link (takes m.originator centre_label) k) (sym (links.found (sends m.ultimate centre_label) b p g)) ∙ side_other links m.originator m.ultimate in
    let other : same_link (sends m.ultimate centre_label) (link_key used) ≡ false = ap (λ (k : LinkKey). same_link (sends m.ultimate centre_label) k) (sym (links.found (takes m.originator centre_label) l p f)) ∙ other_side links m.originator m.ultimate in
    let from : link_with (takes m.originator centre_label) (apply (PutLink used ∷ PutLink sent ∷ []) p) ≡ Some used =
    put_other links (takes m.originator centre_label) sent (apply_edit (PutLink used) p) apart ∙ put_over links (takes m.originator centre_label) l used p f refl in
    let to : link_with (sends m.ultimate centre_label) (apply (PutLink used ∷ PutLink sent ∷ []) p) ≡ Some sent =
    put_over links (sends m.ultimate centre_label) b sent (apply_edit (PutLink used) p) (put_other links (sends m.ultimate centre_label) used p other ∙ g) refl in
    record {
      rtr = rfs_answer p m l b;
      reply = refl;
      receiver = refl;
      sender = refl;
      ultimate = refl;
      no_key = refl;
      count = refl;
      for_ultimate = laws.unsealed b.pair m.originator m.ultimate b.next (carried m l) (laws.below l.pair m.cta m.kd);
      from_used = from;
      to_used = to;
    }

-- the row under both links
row_is : (p : Party) (a : Arrival) (m : Rfs) (o q : Option LinkRec) → a.parsed.message ≡ message.Rfs m → link_with (takes m.originator centre_label) p ≡ o → link_with (sends m.ultimate centre_label) p ≡ q → translation_message p a a.parsed.message ≡ rfs_between p a m o q
row_is p a m o q said f g =
    ap (λ (n : Message). translation_message p a n) said
    ∙ (ap (λ (x : Option LinkRec). rfs_between p a m x (link_with (sends m.ultimate centre_label) p)) f ∙ ap (λ (x : Option LinkRec). rfs_between p a m o x) g)

pub returns_keys : Undone → LinkLaws → ReturnsKeys
returns_keys laws links p a m l b said f g e = subst (λ (r : Row). ReturnsKey p r m l b) (sym (row_is p a m (Some l) (Some b) said f g)) (returns_key laws links p a m l b f g)

-- a refused count

-- where no link with the ultimate recipient stands, no count is looked at
no_count : (p : Party) (m : Rfs) (v : Verdict) → (v ≡ NotForMe → ⊥) × (v ≡ UnknownPeer → ⊥) × (v ≡ WrongClass → ⊥) × (v ≡ UnknownKk → ⊥) → verdict_of (rfs_front p m false) ≡ v → ⊥
no_count p m v n = go (is_for p m.receiver m.originator) (knows m.originator p) (not (bytes_eq m.ultimate m.originator))
  where
    go : (x y z : Bool) → cond x (cond y (cond z UnknownKk WrongClass) UnknownPeer) NotForMe ≡ v → ⊥
    go false y z h = n.0 (sym h)
    go true false z h = n.1 (sym h)
    go true true false h = n.2 (sym h)
    go true true true h = n.3 (sym h)

answered : (p : Party) (a : Arrival) (m : Rfs) (l : LinkRec) (v : Verdict) (erf : List ℕ) (ctr : Option ℕ) → rfs_error p m v ≡ Some (count_error p m erf ctr) → (verdict_of (rfs_front p m false) ≡ v → ⊥) → (q : Option LinkRec)
    → (rfs_between p a m (Some l) q).verdict ≡ v → (rfs_between p a m (Some l) q).answer ≡ Some (Coded (count_error p m erf ctr) (rfs_under p m) (carried m l))
answered p a m l v erf ctr is none None e = absurd (none e)
answered p a m l v erf ctr is none (Some b) e =
    ap (λ (x : Verdict). coded_under (rfs_under p m) (rfs_value m l) (rfs_error p m x)) e ∙ ap (λ (x : Option Message). coded_under (rfs_under p m) (rfs_value m l) x) is

refused_so : (p : Party) (a : Arrival) (m : Rfs) (l : LinkRec) (v : Verdict) (erf : List ℕ) (ctr : Option ℕ) → rfs_error p m v ≡ Some (count_error p m erf ctr) → (verdict_of (rfs_front p m false) ≡ v → ⊥) → a.parsed.message ≡ message.Rfs m → link_with (takes m.originator centre_label) p ≡ Some l
    → (translation_message p a a.parsed.message).verdict ≡ v → (translation_message p a a.parsed.message).answer ≡ Some (Coded (count_error p m erf ctr) (rfs_under p m) (carried m l))
refused_so p a m l v erf ctr is none said f e =
    let row : translation_message p a a.parsed.message ≡ rfs_between p a m (Some l) (link_with (sends m.ultimate centre_label) p) = row_is p a m (Some l) (link_with (sends m.ultimate centre_label) p) said f refl in
    ap (λ (r : Row). r.answer) row ∙ answered p a m l v erf ctr is none (link_with (sends m.ultimate centre_label) p) (sym (ap (λ (r : Row). r.verdict) row) ∙ e)

pub answers_low : AnswersLow
answers_low p a m l n said f e = refused_so p a m l (CountLow n) _ (Some n) refl (no_count p m (CountLow n) (λ h. cc, λ h. cc, λ h. cc, λ h. cc)) said f e

pub answers_spent : AnswersSpent
answers_spent p a m l n said f e = refused_so p a m l CountSpent _ None refl (no_count p m CountSpent (λ h. cc, λ h. cc, λ h. cc, λ h. cc)) said f e

-- another refusal

unanswered : (p : Party) (a : Arrival) (m : Rfs) (l b : LinkRec) → ((n : ℕ) → verdict_of (rfs_tests p a m l b) ≡ CountLow n → ⊥) → (verdict_of (rfs_tests p a m l b) ≡ CountSpent → ⊥)
    → coded_under (rfs_under p m) (rfs_value m l) (rfs_error p m (verdict_of (rfs_tests p a m l b))) ≡ None
unanswered p a m l b low spent =
    go (is_for p m.receiver m.originator) (knows m.originator p) (not (bytes_eq m.ultimate m.originator)) (is_verified a (rfs_value m l)) (not (has_count l) || nat_le l.next m.cta) (has_count l) (has_count b) low spent
  where
    told : Bool → Bool → Bool → Bool → Bool → Bool → Bool → Verdict
    told x y z v w s t = cond x (cond y (cond z (cond v (cond w (cond s (cond t Accept CountSpent) CountSpent) (CountLow l.next)) BadMac) WrongClass) UnknownPeer) NotForMe

    go : (x y z v w s t : Bool) → ((n : ℕ) → told x y z v w s t ≡ CountLow n → ⊥) → (told x y z v w s t ≡ CountSpent → ⊥) → coded_under (rfs_under p m) (rfs_value m l) (rfs_error p m (told x y z v w s t)) ≡ None
    go true true true true true true true low spent = refl
    go true true true true true true false low spent = absurd (spent refl)
    go true true true true true false t low spent = absurd (spent refl)
    go true true true true false s t low spent = absurd (low l.next refl)
    go true true true false w s t low spent = refl
    go true true false v w s t low spent = refl
    go true false z v w s t low spent = refl
    go false y z v w s t low spent = refl

pub answers_no_other : AnswersNoOther
answers_no_other p a m said low spent =
    let row : translation_message p a a.parsed.message ≡ rfs p a m = ap (λ (x : Message). translation_message p a x) said in
    let verdict : (translation_message p a a.parsed.message).verdict ≡ (rfs p a m).verdict = ap (λ (r : Row). r.verdict) row in
    ap (λ (r : Row). r.answer) row ∙ by_links (link_with (takes m.originator centre_label) p) (link_with (sends m.ultimate centre_label) p) (λ n e. low n (verdict ∙ e)) (λ e. spent (verdict ∙ e))
  where
    by_links : (o q : Option LinkRec) → ((n : ℕ) → (rfs_between p a m o q).verdict ≡ CountLow n → ⊥) → ((rfs_between p a m o q).verdict ≡ CountSpent → ⊥) → (rfs_between p a m o q).answer ≡ None
    by_links None q low spent = refl
    by_links (Some l) None low spent = refl
    by_links (Some l) (Some b) low spent = unanswered p a m l b low spent
