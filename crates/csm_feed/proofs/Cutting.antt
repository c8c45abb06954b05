-- However a stream is cut, it holds the same.
use Rattle.std.proofs.Common.{◌≡◌, ◌≢◌, ℕ, zero, suc, List, [], ◌∷◌, ◌++◌, length, take, Option, Some, None, refl, sym, ◌∙◌, ap, subst, append_assoc, arith, inl, inr, length-append}
use Rattle.std.specs.Prelude.{codes}
use Rattle.std.proofs.lemmas.Bool.{and_from}
use Rattle.std.proofs.lemmas.List.Folds.{list_all-append}
use Rattle.csm_grammar.specs.declared.arrival.Arrival.{Arrival}
use Rattle.csm_grammar.specs.declared.refusal.ReadRefusal.{ReadRefusal}
use Rattle.csm_grammar.specs.declared.refusal.ReadRefusal.TheVariants as refusal
use Rattle.csm_grammar.specs.Spelling.{is_separator, AreSeparators}
use Rattle.csm_read.specs.Laws.{OneAnswer, FaultStays, ReadStays}
use Rattle.csm_grammar.specs.Places.{moved}
use Rattle.csm_feed.specs.Streams.{Leads, AreMessages, IsBegun, IsWaiting, IsRefusedAfter, EndsWith}
use Rattle.csm_feed.specs.Laws.{OneHolding, FirstHeld}
use Rattle.csm_feed.proofs.Fronts.{IsUnread, same_front, same_lead, leads_more, no_lead, unread}

-- nothing is read of nothing
nothing_read : IsUnread []
nothing_read p i = go p.len i.spelled.text where
  go : (n : ℕ) {m : List ℕ} → take n [] ≡ codes "CSM(" ++ m → ⊥
  go zero e = absurd cc
  go (suc n) e = absurd cc

waiting_unread : (b : List ℕ) → OneAnswer → IsWaiting b → IsUnread b
waiting_unread b one (inl e) = subst IsUnread (sym e) nothing_read
waiting_unread b one (inr h) = unread b one _ h

pub ends_unread : (n : ℕ) (b : List ℕ) (end : Option ReadRefusal) → OneAnswer → EndsWith n b end → IsUnread b
ends_unread n b None one h = waiting_unread b one h
ends_unread n b (Some r) one h = unread b one h.reason h.fault

pub one_list : (ms ns : List Arrival) (f g x y : List ℕ) → OneAnswer → ReadStays → AreMessages f ms → AreMessages g ns → f ++ x ≡ g ++ y → IsBegun x → IsBegun y → IsUnread x → IsUnread y → (ms ≡ ns) × (x ≡ y)
one_list [] [] f g x y one stays h k e b c n m = (refl, (same_front f g x y h k b c e).1)
one_list [] (a ∷ ns) f g x y one stays h k e b c n m =
    absurd (no_lead f x (k.0 ++ y) a stays h b n (subst (λ (t : List ℕ). Leads t a (k.0 ++ y)) (sym e) (leads_more g y a k.0 k.1)))
one_list (a ∷ ms) [] f g x y one stays h k e b c n m =
    absurd (no_lead g y (h.0 ++ x) a stays k c m (subst (λ (t : List ℕ). Leads t a (h.0 ++ x)) e (leads_more f x a h.0 h.1)))
one_list (a ∷ ms) (d ∷ ns) f g x y one stays h k e b c n m =
    let lead = leads_more f x a h.0 h.1 in
    let same = same_lead (f ++ x) a d (h.0 ++ x) (k.0 ++ y) one stays lead (subst (λ (t : List ℕ). Leads t d (k.0 ++ y)) (sym e) (leads_more g y d k.0 k.1)) in
    let more = one_list ms ns h.0 k.0 x y one stays h.2 k.2 same.1 b c n m in
    let i : a ≡ d = same.0 in
    let j : ms ≡ ns = more.0 in
    (cc, more.1)

no_wait : (n : ℕ) (x : List ℕ) (r : ReadRefusal) → IsWaiting x → IsRefusedAfter n x r → ⊥
no_wait n x r (inl e) h = h.something e
no_wait n x r (inr w) h = let f = h.fault in h.lasting (length x) (let k : Some h.reason ≡ Some (refusal.Unended (length x)) = sym f ∙ w in cc)

one_refusal : (n : ℕ) (x : List ℕ) (r s : ReadRefusal) → IsRefusedAfter n x r → IsRefusedAfter n x s → r ≡ s
one_refusal n x r s h k =
    let e : Some h.reason ≡ Some k.reason = sym h.fault ∙ k.fault in
    let i : h.reason ≡ k.reason = cc in
    h.place ∙ ap (moved n) i ∙ sym k.place

pub one_end : (n : ℕ) (x : List ℕ) (end last : Option ReadRefusal) → EndsWith n x end → EndsWith n x last → end ≡ last
one_end n x None None h k = refl
one_end n x None (Some r) h k = absurd (no_wait n x r h k)
one_end n x (Some r) None h k = absurd (no_wait n x r k h)
one_end n x (Some r) (Some s) h k = ap (λ (t : ReadRefusal). Some t) (one_refusal n x r s h k)

pub one_holding : OneAnswer → ReadStays → OneHolding
one_holding one stays stream ms ns end last h k =
    let e = sym h.text ∙ k.text in
    let same = one_list ms ns h.front k.front h.rest k.rest one stays h.messages k.messages e h.begun k.begun (ends_unread _ h.rest end one h.ends) (ends_unread _ k.rest last one k.ends) in
    let size : length h.front ≡ length k.front =
    let l = length-append h.front h.rest in
    let m = length-append k.front k.rest in
    let t = ap length e in
    let r = ap length same.1 in
    omega (arith, l, m, t, r) in
    let ends = subst (λ (n : ℕ). EndsWith n k.rest last) (sym size) k.ends in
    (same.0, one_end (length h.front) h.rest end last h.ends (subst (λ (x : List ℕ). EndsWith (length h.front) x last) (sym same.1) ends))

pub begun_more : (x more : List ℕ) → x ≢ [] → IsBegun x → IsBegun (x ++ more)
begun_more [] more n b = absurd (n refl)
begun_more (a ∷ x) more n b = b

pub refused_more : (n : ℕ) (x more : List ℕ) (r : ReadRefusal) → FaultStays → IsRefusedAfter n x r → IsRefusedAfter n (x ++ more) r
refused_more n x more r stays h = record {
  something = go x h.something;
  reason = h.reason;
  fault = stays x more h.reason h.something h.lasting h.fault;
  lasting = h.lasting;
  place = h.place;
} where
  go : (b : List ℕ) → b ≢ [] → b ++ more ≢ []
  go [] i = absurd (i refl)
  go (c ∷ b) i = λ e. cc

first_list : (ms all : List Arrival) (f g x y : List ℕ) → OneAnswer → ReadStays → AreMessages f ms → AreMessages g all → f ++ x ≡ g ++ y → IsBegun y → IsUnread y → (behind : List Arrival) × (all ≡ ms ++ behind)
first_list [] all f g x y one stays h k e c m = (all, refl)
first_list (a ∷ ms) [] f g x y one stays h k e c m =
    absurd (no_lead g y (h.0 ++ x) a stays k c m (subst (λ (t : List ℕ). Leads t a (h.0 ++ x)) e (leads_more f x a h.0 h.1)))
first_list (a ∷ ms) (d ∷ all) f g x y one stays h k e c m =
    let lead = leads_more f x a h.0 h.1 in
    let same = same_lead (f ++ x) a d (h.0 ++ x) (k.0 ++ y) one stays lead (subst (λ (t : List ℕ). Leads t d (k.0 ++ y)) (sym e) (leads_more g y d k.0 k.1)) in
    let more = first_list ms all h.0 k.0 x y one stays h.2 k.2 same.1 c m in
    let i : a ≡ d = same.0 in
    let j : all ≡ ms ++ more.0 = more.1 in
    (more.0, cc)

pub first_held : OneAnswer → ReadStays → FirstHeld
first_held one stays front rest ms all end h k = first_list ms all front k.front rest k.rest one stays h k.messages k.text k.begun (ends_unread _ k.rest end one k.ends)

-- separators behind messages
pub messages_gap : (ms : List Arrival) (b gap : List ℕ) → AreMessages b ms → AreSeparators gap → AreMessages (b ++ gap) ms
messages_gap [] b gap h k = list_all-append is_separator b gap ∙ and_from _ _ h k
messages_gap (a ∷ ms) b gap h k = (h.0 ++ gap, leads_more b gap a h.0 h.1, messages_gap ms h.0 gap h.2 k)

-- one message more, and separators behind it
pub messages_next : (ms : List Arrival) (a : Arrival) (b c rest : List ℕ) → AreMessages b ms → Leads c a rest → AreSeparators rest → AreMessages (b ++ c) (ms ++ a ∷ [])
messages_next [] a b c rest h l k = (
  rest,
  record {
    gap = b ++ l.gap;
    separators = list_all-append is_separator b l.gap ∙ and_from _ _ h l.separators;
    arrived = l.arrived;
    text = ap (λ (x : List ℕ). b ++ x) l.text ∙ sym (append_assoc b l.gap (a.text ++ rest));
  },
  k,
)
messages_next (d ∷ ms) a b c rest h l k = (h.0 ++ c, leads_more b c d h.0 h.1, messages_next ms a h.0 c rest h.2 l k)
