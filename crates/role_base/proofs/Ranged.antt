-- What is in range and short of a row is so of its decision.
use Rattle.std.proofs.Common.{◌≡◌, ℕ, ◌+◌, ◌<◌, ◌≤◌, ◌^◌, suc, zero, Bool, true, false, cond, not, Option, Some, None, IfSome, option_map, List, [], ◌∷◌, ◌++◌, length, bytes_eq, refl, sym, subst, ◌∙◌, arith, lit≤}
use Rattle.std.specs.Prelude.{sum_by}
use Rattle.std.specs.List.{AllByRecursion, find}
use Rattle.std.proofs.lemmas.List.Elements.{All-from_recursion, All-filter}
use Rattle.x_base.specs.Names.{IsIdent, IsLabel}
use Rattle.x_base.specs.Count.{IsCount}
use Rattle.x_base.specs.KeyName.{IsKeyName}
use Rattle.x_base.specs.declared.key_name.FullName.{FullName}
use Rattle.x_base.specs.declared.verdict.Verdict.{Verdict}
use Rattle.x_base.specs.declared.verdict.Verdict.TheVariants as verdict
use Rattle.x_base.specs.declared.verdict.Verdict.TheVariants.{WrongClass}
use Rattle.x_base.specs.declared.key_name.KeyName.{KeyName}
use Rattle.x_base.specs.declared.party.Side.{Side}
use Rattle.x_des.proofs.Inverse.{enciphered-lt}
use Rattle.x_gen.specs.declared.generator.Gen.{Gen}
use Rattle.x_gen.specs.Parity.{odd_parity_of, is_weak_key}
use Rattle.x_gen.specs.Gen.{drawn, gen_after, draws, good_draw}
use Rattle.x_gen.specs.Laws.{DrawsOdd, OddStays}
use Rattle.x_mac.specs.declared.pair.Pair.{Pair}
use Rattle.x_seal.specs.Wrapped.{wrap_of}
use Rattle.csm_grammar.specs.declared.message.Message.{Message}
use Rattle.csm_grammar.specs.declared.tag.Tag.{Tag}
use Rattle.csm_grammar.specs.declared.tag.Tag.TheVariants.{Ctp, Cta, Ctb, Ctr}
use Rattle.csm_grammar.specs.Values.{ANumber, kind_of}
use Rattle.csm_grammar.specs.Messages.{Valued, valued, if_any, fields_of}
use Rattle.csm_write.specs.declared.closing.Closing.TheVariants as closing
use Rattle.csm_write.specs.Shortness.{CanonShort, free_bytes, free_length}
use Rattle.csm_write.specs.Writable.{IsTypedField}
use Rattle.party_tables.specs.declared.link.LinkRec.{LinkRec}
use Rattle.party_tables.specs.declared.key.KeyRec.{KeyRec}
use Rattle.party_tables.specs.declared.key.KeyStatus.{KeyStatus}
use Rattle.party_tables.specs.declared.key.KeyStatus.TheVariants.{Ended}
use Rattle.party_tables.specs.declared.exchange.Via.{Via}
use Rattle.party_state.specs.declared.command.Command.{Command}
use Rattle.party_state.specs.declared.command.Command.TheVariants as command
use Rattle.party_tables.specs.Keys.{record_key}
use Rattle.party_tables.specs.Ranges.{IsWord, IsNextCount, IsLink, IsRecord, longest_text}
use Rattle.party_state.specs.declared.edit.Edit.{Edit}
use Rattle.party_state.specs.Ranges.{InRange, AreInRange, IsParty}
use Rattle.party_state.specs.State.{Party, centre_label}
use Rattle.party_state.specs.Verdicts.{Test, is_accept}
use Rattle.party_state.specs.Rows.{Row, Reply, Coded, Plain, Again, refused}
use Rattle.role_base.specs.Conditions.{has_key_room}
use Rattle.role_base.specs.Differing.{differs, differing}
use Rattle.role_base.specs.Deciding.{change_of, decision_of}
use Rattle.role_base.specs.declared.errors.ErrorCounts.{ErrorCounts}
use Rattle.role_base.specs.Errors.{TellsCount, error_message, error_letter, expected_count, error_for, coded_under}
use Rattle.role_base.specs.Exchanges.{record_of, new_link, dropped, ended}
use Rattle.role_base.specs.Load.{load}
use Rattle.role_base.specs.Centres.{centre_command}
use Rattle.role_base.specs.Ranged.{IsCommand, IsRanged}
use Rattle.role_base.specs.Sending.{next_name, data_key_message, data_key_reply, sending_drawn}
use Rattle.role_base.specs.Standing.{LinkStands, KeyStands}
use Rattle.role_base.specs.Storable.{IsStorable}
use Rattle.role_base.specs.Texts.{text_of}
use Rattle.role_base.proofs.Counted.{next_on}
use Rattle.role_base.proofs.Found.{new_link_stands}
use Rattle.role_base.proofs.Loaded.{loaded_keepable, load_room}
use Rattle.role_base.proofs.Keeping.{sent_keepable}
use Rattle.role_base.proofs.Kept.{row_kept}
use Rattle.role_base.proofs.PartyLaws.{HeldIfAccepted, LinksFound, LinksInRange, KeysInRange}

abbrev pub AllInRange : List Edit → Type 0
AllInRange es = AllByRecursion InRange es

abbrev pub IsShort : Option Reply → Type 0
IsShort o = IfSome o (λ (r : Reply). length (text_of r) ≤ longest_text)

-- the edits and the reply of a row where it is accepted, and its answer
pub record AreRanged (r : Row) : Type 0 where
  pub edits : is_accept r.verdict ≡ true → AllInRange r.edits
  pub reply : is_accept r.verdict ≡ true → IsShort r.reply
  pub answer : IsShort r.answer

differing_in_range : (p : Party) (es : List Edit) → AllInRange es → AreInRange (differing p es)
unfolding differing
differing_in_range p es h = All-filter (differs p) InRange es (All-from_recursion InRange es h)

short_of : (o : Option Reply) → IsShort o → IfSome (option_map text_of o) (λ (text : List ℕ). length text ≤ longest_text)
short_of None h = tt
short_of (Some r) h = h

pub row_ranged : (p : Party) (r : Row) → IsStorable p (change_of p r) → AreRanged r → IsRanged p (decision_of p r)
row_ranged p r kept ranged = record { kept = kept; in_range = changed (is_accept r.verdict) refl; short = short_of (cond (is_accept r.verdict) r.reply r.answer) (replied (is_accept r.verdict) refl) }
  where
    changed : (b : Bool) → is_accept r.verdict ≡ b → AreInRange (cond b (differing p r.edits) [])
    changed true e = differing_in_range p r.edits (ranged.edits e)
    changed false e = All-from_recursion InRange [] tt

    replied : (b : Bool) → is_accept r.verdict ≡ b → IsShort (cond b r.reply r.answer)
    replied true e = ranged.reply e
    replied false e = ranged.answer

-- a refusal that isn't answered
pub nothing_ranged : (v : Verdict) → AreRanged (refused v)
nothing_ranged v = record { edits = λ _. tt; reply = λ _. tt; answer = tt }

pub refused_kept : (p : Party) (v : Verdict) → IsStorable p (change_of p (refused v))
refused_kept p v = row_kept p (refused v) (λ _. record { each = tt; order = refl }) (lit≤ tt)

-- a text that is made of few free bytes is short
pub coded_short : CanonShort → (m : Message) (under : FullName) (value : ℕ) → AllByRecursion IsTypedField (fields_of m) → free_length m ≤ 64 → length (text_of (Coded m under value)) ≤ longest_text
unfolding text_of
coded_short short m under value typed few = short m (closing.Mac value) (record { fields = All-from_recursion IsTypedField (fields_of m) typed; closing = tt }) few

-- rows that stand are in range, also with another status, count or readiness

pub key_in_range : KeysInRange → (p : Party) (k : KeyRec) → IsParty p → KeyStands p k → IsRecord k
key_in_range in_range p k w st = in_range (record_key k) k p w st

pub with_status : (k : KeyRec) (s : KeyStatus) → IsRecord k → IsRecord (record k { status = s })
with_status k s r = record { peer = r.peer; name = r.name; value = r.value }

pub with_next : (l : LinkRec) (n : ℕ) → IsLink l → IsNextCount n → IsLink (record l { next = n })
with_next l n r i = record { peer = r.peer; label = r.label; pair = r.pair; next = i }

pub with_ready : (l : LinkRec) (b : Bool) → IsLink l → IsLink (record l { ready = b })
with_ready l b r = record { peer = r.peer; label = r.label; pair = r.pair; next = r.next }

-- the generator's state after a draw
seed_in : (n : ℕ) (g : Gen) (moment : ℕ) (d : ℕ × Gen) → find (λ (x : ℕ × Gen). not (is_weak_key x.0)) (draws n g moment) ≡ Some d → IsWord d.1.v
unfolding draws
seed_in zero g moment d h = absurd (cc)
seed_in (suc n) g moment d h = go (not (is_weak_key (odd_parity_of (drawn g moment)))) h (seed_in n (gen_after g moment) moment d)
  where
    go : (b : Bool) → cond b (Some (odd_parity_of (drawn g moment), gen_after g moment)) (find (λ (x : ℕ × Gen). not (is_weak_key x.0)) (draws n (gen_after g moment) moment)) ≡ Some d
        → (find (λ (x : ℕ × Gen). not (is_weak_key x.0)) (draws n (gen_after g moment) moment) ≡ Some d → IsWord d.1.v) → IsWord d.1.v
    go true h ih = (let is : (odd_parity_of (drawn g moment), gen_after g moment) ≡ d = cc in subst (λ (x : ℕ × Gen). IsWord x.1.v) is (enciphered-lt _ _))
    go false h ih = ih h

pub seed_below : (g : Gen) (moment : ℕ) (d : ℕ × Gen) → good_draw g moment ≡ Some d → IsWord d.1.v
seed_below g moment d h = seed_in 16 g moment d h

-- a data key that is sent

pub named_next : (p : Party) (l : LinkRec) → IsIdent p.own → IsLabel l.label → IsCount l.next → IsKeyName (next_name p l)
named_next p l own label count = record { issuer = own; originator = own; label = label; count = count }

abbrev pub WrapsBelow : Type 0
WrapsBelow = (kk : Pair) (count key : ℕ) → wrap_of kk count key < 2 ^ 64

pub data_key_short : CanonShort → WrapsBelow → (p : Party) (l : LinkRec) (key : ℕ) → IsIdent p.own → IsLink l → IsCount l.next → length (text_of (data_key_reply p l key)) ≤ longest_text
data_key_short short below p l key own r count =
    coded_short short (data_key_message p l key) (record { name = next_name p l; recipient = l.peer }) key (r.peer, (own, (r.label, (below l.pair l.next key, (count, tt))))) (lit≤ tt)

pub sending_ranged : CanonShort → WrapsBelow → DrawsOdd → HeldIfAccepted → (p : Party) (front : List Test) (l : LinkRec) (moment : ℕ) → IsParty p → LinkStands p l → ((d : ℕ × Gen) → good_draw p.generator moment ≡ Some d → is_accept (sending_drawn p front l (Some d)).verdict ≡ true → IsCount l.next)
    → AreRanged (sending_drawn p front l (good_draw p.generator moment))
sending_ranged short below odd held p front l moment w st counted = by_draw (good_draw p.generator moment) refl
  where
    by_draw : (o : Option (ℕ × Gen)) → good_draw p.generator moment ≡ o → AreRanged (sending_drawn p front l o)
    by_draw None e = nothing_ranged _
    by_draw (Some d) e = record {
      edits = λ h. let count : IsCount l.next = counted d e h in (
        seed_below p.generator moment d e,
        (
          with_next l (l.next + 1) st.range (next_on l.next (l.next + 1) count refl),
          (
            record { peer = st.range.peer; name = named_next p l w.own st.range.label count; value = (odd p.generator moment d e).below },
            (record { peer = st.range.peer; kind = (named_next p l w.own st.range.label count, (st.range.label, tt)); text = data_key_short short below p l d.0 w.own st.range count }, tt),
          ),
        ),
      );
      reply = λ h. data_key_short short below p l d.0 w.own st.range (counted d e h);
      answer = tt;
    }

pub sending_kept : CanonShort → WrapsBelow → (p : Party) (front : List Test) (l : LinkRec) (o : Option (ℕ × Gen)) → IsParty p → LinkStands p l
    → ((d : ℕ × Gen) → o ≡ Some d → is_accept (sending_drawn p front l (Some d)).verdict ≡ true → IsCount l.next × (has_key_room p (record { peer = l.peer; name = next_name p l }) ≡ true)) → IsStorable p (change_of p (sending_drawn p front l o))
sending_kept short below p front l None w st facts = refused_kept p _
sending_kept short below p front l (Some d) w st facts = row_kept p (sending_drawn p front l (Some d)) (λ h. (
    let f = facts d refl h in
    sent_keepable p l _ _ d.1.v l.next st f.0 refl f.1 (record { kind = tt; text = data_key_short short below p l d.0 w.own st.range f.0 }))) (lit≤ tt)

-- error messages

pub record AreCounts (c : ErrorCounts) : Type 0 where
  pub ctp : IfSome c.ctp IsCount
  pub cta : IfSome c.cta IsCount
  pub ctb : IfSome c.ctb IsCount

any_typed : (t : Tag) (o : Option ℕ) (rest : List Valued) → ((n : ℕ) → IsCount n → IsTypedField (valued t (ANumber n))) → IfSome o IsCount → AllByRecursion IsTypedField rest → AllByRecursion IsTypedField (if_any t ANumber o ++ rest)
any_typed t None rest k c h = h
any_typed t (Some n) rest k c h = (k n c, h)

abbrev free_in : List Valued → ℕ
free_in vs = sum_by (λ v. free_bytes (kind_of v.tag) v.value) vs

free_ctp : (o : Option ℕ) (rest : List Valued) → free_in (if_any Ctp ANumber o ++ rest) ≡ free_in rest
free_ctp None rest = refl
free_ctp (Some n) rest = refl

free_cta : (o : Option ℕ) (rest : List Valued) → free_in (if_any Cta ANumber o ++ rest) ≡ free_in rest
free_cta None rest = refl
free_cta (Some n) rest = refl

free_ctb : (o : Option ℕ) (rest : List Valued) → free_in (if_any Ctb ANumber o ++ rest) ≡ free_in rest
free_ctb None rest = refl
free_ctb (Some n) rest = refl

free_ctr : (o : Option ℕ) (rest : List Valued) → free_in (if_any Ctr ANumber o ++ rest) ≡ free_in rest
free_ctr None rest = refl
free_ctr (Some n) rest = refl

error_few : (p : Party) (originator : List ℕ) (c : ErrorCounts) (erf : List ℕ) (ctr : Option ℕ) → length erf ≤ 16 → free_length (error_message p originator c erf ctr) ≤ 64
error_few p originator c erf ctr h =
    let all : free_length (error_message p originator c erf ctr) ≡ 0 + length erf = free_ctp c.ctp _ ∙ (free_cta c.cta _ ∙ (free_ctb c.ctb _ ∙ free_ctr ctr _)) in
    subst (λ (n : ℕ). n ≤ 64) (sym all) (few (length erf) h)
  where
    few : (n : ℕ) → n ≤ 16 → 0 + n ≤ 64
    few n h = omega arith

error_typed : (p : Party) (originator : List ℕ) (c : ErrorCounts) (erf : List ℕ) (ctr : Option ℕ) → IsIdent p.own → IsIdent originator → AreCounts c → IfSome ctr IsCount → AllByRecursion IsTypedField (fields_of (error_message p originator c erf ctr))
error_typed p originator c erf ctr own i cs e =
    (i, (own, any_typed Ctp c.ctp _ (λ n k. k) cs.ctp (any_typed Cta c.cta _ (λ n k. k) cs.cta (any_typed Ctb c.ctb _ (λ n k. k) cs.ctb (any_typed Ctr ctr _ (λ n k. k) e (tt, tt))))))

letter_short : (v : Verdict) → IfSome (error_letter v) (λ (erf : List ℕ). length erf ≤ 16)
letter_short (verdict.CountLow expected) = lit≤ tt
letter_short verdict.CountSpent = lit≤ tt
letter_short verdict.LabelTaken = lit≤ tt
letter_short verdict.SameKey = lit≤ tt
letter_short verdict.LinksFull = lit≤ tt
letter_short verdict.KeysFull = lit≤ tt
letter_short _ = tt

told_expected : (v : Verdict) → TellsCount v → IfSome (expected_count v) IsCount
told_expected (verdict.CountLow expected) h = h
told_expected _ h = tt

-- the answer to a refusal is short
pub error_short : CanonShort → (p : Party) (originator : List ℕ) (c : ErrorCounts) (v : Verdict) (under : FullName) (value : ℕ) → IsIdent p.own → IsIdent originator → AreCounts c → TellsCount v → IsShort (coded_under under value (error_for p originator c v))
error_short short p originator c v under value own i cs tells = go (error_letter v) (letter_short v)
  where
    go : (o : Option (List ℕ)) → IfSome o (λ (erf : List ℕ). length erf ≤ 16) → IsShort (coded_under under value (option_map (λ erf. error_message p originator c erf (expected_count v)) o))
    go None h = tt
    go (Some erf) h = coded_short short (error_message p originator c erf (expected_count v)) under value (error_typed p originator c erf (expected_count v) own i cs (told_expected v tells)) (error_few p originator c erf (expected_count v) h)

-- a link that goes

pub dropped_in_range : LinksFound → LinksInRange → (p : Party) (peer : List ℕ) (via : Via) → IsParty p → AllInRange (dropped (new_link p peer via))
dropped_in_range links in_range p peer via w = go (new_link p peer via) refl
  where
    go : (o : Option LinkRec) → new_link p peer via ≡ o → AllInRange (dropped o)
    go None e = tt
    go (Some l) e = let r : IsLink l = (new_link_stands links in_range p peer via l w e).range in ((r.peer, r.label), tt)

pub append_in_range : (es fs : List Edit) → AllInRange es → AllInRange fs → AllInRange (es ++ fs)
append_in_range [] fs a b = b
append_in_range (e ∷ es) fs a b = (a.0, append_in_range es fs a.1 b)

-- a key that ends, where its record stands
pub ended_in_range : KeysInRange → (p : Party) (peer : List ℕ) (name : KeyName) → IsParty p → AllInRange (ended (record_of p peer name))
ended_in_range keys_in_range p peer name w = go (record_of p peer name) refl
  where
    go : (o : Option KeyRec) → record_of p peer name ≡ o → AllInRange (ended o)
    go None e = tt
    go (Some x) e = (with_status x Ended (keys_in_range (record { peer = peer; name = name }) x p w e), tt)

-- a request that is closed by an error detection code, and a text that is kept

pub plain_short : CanonShort → (m : Message) → AllByRecursion IsTypedField (fields_of m) → free_length m ≤ 64 → length (text_of (Plain m)) ≤ longest_text
unfolding text_of
plain_short short m typed few = short m closing.Edc (record { fields = All-from_recursion IsTypedField (fields_of m) typed; closing = tt }) few

pub again_short : (text : List ℕ) → length text ≤ longest_text → length (text_of (Again text)) ≤ longest_text
unfolding text_of
again_short text h = h

-- a key-encrypting key that is loaded

pub load_ranged : OddStays → HeldIfAccepted → (p : Party) (peer label : List ℕ) (side : Side) (pair : Pair) → IsIdent peer → IsLabel label → IsRanged p (decision_of p (load p peer label side pair))
load_ranged odd held p peer label side pair i j = row_ranged p (load p peer label side pair)
    (row_kept p (load p peer label side pair) (λ h. loaded_keepable p _ refl (load_room held p (record { peer = peer; label = label; side = side }) pair _ refl h)) (lit≤ tt))
    (record { edits = λ _. (record { peer = i; label = j; pair = record { left = (odd pair.left).below; right = (odd pair.right).below }; next = record { low = omega arith; high = omega arith } }, tt); reply = λ _. tt; answer = tt })

pub order_ranged : OddStays → HeldIfAccepted → (p : Party) (c : Command) → IsCommand c → IsRanged p (decision_of p (centre_command p c))
order_ranged odd held p (command.Load peer label side pair) k = by_label (bytes_eq label centre_label)
  where
    by_label : (b : Bool) → IsRanged p (decision_of p (cond b (load p peer label side pair) (refused WrongClass)))
    by_label true = load_ranged odd held p peer label side pair k.0 k.1
    by_label false = row_ranged p (refused WrongClass) (refused_kept p WrongClass) (nothing_ranged WrongClass)
order_ranged odd held p _ k = row_ranged p (refused WrongClass) (refused_kept p WrongClass) (nothing_ranged WrongClass)
