-- Two keys that are sent in one message: what is decided with what was drawn, and that it can be kept.
use Rattle.std.proofs.Common.{arith, ◌≡◌, ℕ, ◌+◌, ◌<◌, true, false, Result, Option, Some, None, List, [], ◌∷◌, ◌++◌, refl, ap, ◌∙◌}
use Rattle.std.proofs.lemmas.Bool.{ltb-true, false_from_ne_true}
use Rattle.x_base.specs.Count.{IsCount}
use Rattle.x_base.specs.declared.key_name.KeyName.{KeyName}
use Rattle.x_base.specs.declared.text.NoMemory.{NoMemory}
use Rattle.x_base.specs.declared.verdict.Verdict.{Verdict}
use Rattle.x_base.specs.declared.verdict.Verdict.TheVariants.{CountSpent}
use Rattle.party_state.specs.declared.decision.Decision.{Decision}
use Rattle.party_tables.specs.declared.link.LinkRec.{LinkRec}
use Rattle.party_tables.specs.declared.key.KeyRec.{KeyRec}
use Rattle.party_tables.specs.declared.key.KeyStatus.TheVariants.{Pending}
use Rattle.party_tables.specs.declared.exchange.Exchange.{Exchange}
use Rattle.party_tables.specs.declared.exchange.Kind.TheVariants as kind
use Rattle.party_state.specs.declared.edit.Edit.TheVariants.{SetGen, PutLink, PutKey, PutExchange}
use Rattle.party_tables.specs.Keys.{record_key}
use Rattle.party_tables.specs.Names.{name_behind}
use Rattle.party_tables.specs.Ranges.{IsNextCount, IsFittingExchange}
use Rattle.party_state.specs.State.{Party}
use Rattle.party_state.specs.Verdicts.{Test, verdict_of, is_accept, all_refuse}
use Rattle.role_base.specs.Conditions.{has_two_counts, has_room_for_two}
use Rattle.role_base.specs.Deciding.{decision_of, refusal_of, Decides, AcceptsWith}
use Rattle.role_base.specs.Sending.{next_name}
use Rattle.role_base.specs.Standing.{LinkStands}
use Rattle.role_base.specs.Storable.{AreKeepable}
use Rattle.role_base.specs.Texts.{text_of}
use Rattle.role_base.proofs.ByRow.{by_refused}
use Rattle.role_base.proofs.Counted.{next_on}
use Rattle.role_base.proofs.Decided.{refuses, decides_with}
use Rattle.role_base.proofs.Failing.{unspent}
use Rattle.role_base.proofs.Keeping.{link_room}
use Rattle.role_base.proofs.Spent.{spent_first}
use Rattle.role_base.proofs.Storable.{keys_fit}
use Rattle.bank_arrivals.specs.declared.draws.TwinsDrawn.{TwinsDrawn}
use Rattle.bank_arrivals.specs.SendingTwins.{twins_drawn, twins_reply, twins_tests, twins_edits, twins_sending_drawn, twins_sending}

-- the counts that are left

pub two_left : (l : LinkRec) → IsNextCount l.next → has_two_counts l ≡ true → IsCount l.next × IsCount (l.next + 1)
two_left l i h =
    let below : l.next < 99999999999999 = ltb-true l.next 99999999999999 h in
    let low = i.low in
    (record { low = low; high = omega (arith, below) }, record { low = omega arith; high = omega (arith, below) })

pub none_left : (l : LinkRec) → IsNextCount l.next → (IsCount l.next → ⊥) → has_two_counts l ≡ false
none_left l i none = false_from_ne_true (has_two_counts l) (λ t. none (two_left l i t).0)

-- under a link that hasn't two counts nothing is sent
twins_spent_drawn : (p : Party) (front : List Test) (l : LinkRec) (o : Option TwinsDrawn) (v : Verdict) → all_refuse front ≡ true → has_two_counts l ≡ false → v ≡ verdict_of (front ++ (false, CountSpent) ∷ []) → refusal_of v ≡ decision_of p (twins_sending_drawn p front l o)
twins_spent_drawn p front l None v r h e = ap refusal_of (spent_first front _ (has_two_counts l) v h e) ∙ by_refused p (verdict_of (front ++ twins_tests p l None))
twins_spent_drawn p front l (Some d) v r h e = refuses p (twins_sending_drawn p front l (Some d)) v (spent_first front _ (has_two_counts l) v h e) (rw e (unspent front r)) refl

pub twins_spent : (p : Party) (front : List Test) (l : LinkRec) (moment : ℕ) (v : Verdict) → all_refuse front ≡ true → has_two_counts l ≡ false → v ≡ verdict_of (front ++ (false, CountSpent) ∷ []) → refusal_of v ≡ decision_of p (twins_sending p front l moment)
twins_spent p front l moment v r h e = twins_spent_drawn p front l (twins_drawn p.generator moment) v r h e

-- what is decided with what was drawn

pub twins_refused : (p : Party) (front : List Test) (l : LinkRec) (o : Option TwinsDrawn) (v : Verdict) → v ≡ verdict_of (front ++ twins_tests p l o) → is_accept v ≡ false → refusal_of v ≡ decision_of p (twins_sending_drawn p front l o)
twins_refused p front l None v e f = ap refusal_of e ∙ by_refused p (verdict_of (front ++ twins_tests p l None))
twins_refused p front l (Some d) v e f = refuses p (twins_sending_drawn p front l (Some d)) v e f refl

pub twins_undrawn : (p : Party) (front : List Test) (l : LinkRec) (o : Option TwinsDrawn) (v : Verdict) → o ≡ None → v ≡ verdict_of (front ++ twins_tests p l o) → refusal_of v ≡ decision_of p (twins_sending_drawn p front l o)
twins_undrawn p front l None v i e = ap refusal_of e ∙ by_refused p (verdict_of (front ++ twins_tests p l None))
twins_undrawn p front l (Some d) v i e = cc

pub twins_sent : (result : Result Decision NoMemory) (p : Party) (front : List Test) (l : LinkRec) (o : Option TwinsDrawn) (keys : TwinsDrawn) (v : Verdict) → o ≡ Some keys
    → AcceptsWith p (twins_edits p l keys) (Some (twins_reply p l keys)) result → v ≡ verdict_of (front ++ twins_tests p l o) → is_accept v ≡ true
    → Decides p (twins_sending_drawn p front l o) result
twins_sent result p front l None keys v i h e t = cc
twins_sent result p front l (Some d) keys v i h e t =
    let j : d ≡ keys = cc in
    decides_with result p (twins_sending_drawn p front l (Some d)) v (rw j h) e t

-- the edits

pub twins_same : (p : Party) (l used : LinkRec) (keys : TwinsDrawn) (name behind : KeyName) (first second : KeyRec) (text : List ℕ) → used ≡ record l { next = l.next + 2 }
    → first ≡ record { peer = l.peer; name = name; value = keys.first; status = Pending } → second ≡ record { peer = l.peer; name = behind; value = keys.second; status = Pending } → name ≡ next_name p l → behind ≡ name_behind (next_name p l) → text ≡ text_of (twins_reply p l keys)
    → (SetGen keys.v ∷ PutLink used ∷ PutKey first ∷ PutKey second ∷ PutExchange (record { peer = l.peer; kind = kind.PairSent name; text = text }) ∷ []) ≡ twins_edits p l keys
twins_same p l used keys name behind first second text a b c n m t = rw (a, b, c, n, m, t) refl

-- the link is put in its place, and for both keys there is room
pub twins_keepable : (p : Party) (l : LinkRec) (j k : KeyRec) (e : Exchange) (v : ℕ) → LinkStands p l → IsCount (l.next + 1) → has_room_for_two p (record_key j) (record_key k) ≡ true → IsFittingExchange e
    → AreKeepable p (SetGen v ∷ PutLink (record l { next = l.next + 2 }) ∷ PutKey j ∷ PutKey k ∷ PutExchange e ∷ [])
twins_keepable p l j k e v s c room fits =
    let both = keys_fit p (record_key j) (record_key k) room in
    record {
      each = (tt, ((next_on (l.next + 1) (l.next + 2) c (omega arith), link_room p l s), (both.0, (both.1, (fits, tt)))));
      order = refl;
    }
