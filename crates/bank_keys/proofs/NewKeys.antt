-- The tests for a new key-encrypting key, among the others.
use Rattle.std.proofs.Common.{◌≡◌, ℕ, true, Bool, Option, Some, None, List, [], ◌∷◌, ◌++◌, refl}
use Rattle.x_base.specs.declared.verdict.Verdict.TheVariants.{BadMac, KeysFull}
use Rattle.csm_grammar.specs.declared.message.Ksm.{Ksm}
use Rattle.csm_grammar.specs.declared.message.KsmBody.{KsmBody}
use Rattle.csm_grammar.specs.declared.message.NewKk.{NewKk}
use Rattle.csm_grammar.specs.declared.arrival.Arrival.{Arrival}
use Rattle.party_tables.specs.declared.link.LinkRec.{LinkRec}
use Rattle.party_state.specs.State.{Party}
use Rattle.party_state.specs.Verdicts.{TestsHold, all_refuse}
use Rattle.role_base.specs.Conditions.{count_tests}
use Rattle.role_base.proofs.Early.{none_early}
use Rattle.party_tables.specs.Keys.{record_key}
use Rattle.bank_keys.specs.Ksm.{body_count, body_new, body_record, body_second, have_room, body_tests, new_tests}

refuses : (p : Party) (originator : List ℕ) (l : LinkRec) (count : ℕ) (n : Option (List ℕ × NewKk)) (room : Bool) → all_refuse (new_tests p originator l count n ++ (room, KeysFull) ∷ []) ≡ true
refuses p originator l count None room = refl
refuses p originator l count (Some n) room = refl

-- none of the tests behind those in front is early
pub behind_late : (p : Party) (originator : List ℕ) (l : LinkRec) (count : ℕ) (n : Option (List ℕ × NewKk)) (code room : Bool) → none_early ((code, BadMac) ∷ (count_tests l count ++ (new_tests p originator l count n ++ (room, KeysFull) ∷ []))) ≡ true
behind_late p originator l count None code room = refl
behind_late p originator l count (Some n) code room = refl

-- all tests refuse

abbrev pub has_room : Party → Ksm → KsmBody → LinkRec → Bool
has_room p m b l = have_room p (record_key (body_record p m b l)) (body_second p m b l)

pub all_refusing : (p : Party) (a : Arrival) (m : Ksm) (b : KsmBody) (l : LinkRec) → all_refuse (body_tests p a m b l) ≡ true
all_refusing p a m b l = refuses p m.originator l (body_count b) (body_new b) (has_room p m b l)

-- the tests for a new key-encrypting key, and for the room behind them
apart_held : (p : Party) (originator : List ℕ) (l : LinkRec) (count : ℕ) (n : Option (List ℕ × NewKk)) (room : Bool) → TestsHold (new_tests p originator l count n ++ (room, KeysFull) ∷ []) → TestsHold (new_tests p originator l count n) × (room ≡ true)
apart_held p originator l count None room h = (tt, h.0)
apart_held p originator l count (Some n) room h = ((h.0, (h.1.0, (h.1.1.0, tt))), h.1.1.1.0)

pub both_held : (p : Party) (originator : List ℕ) (l : LinkRec) (count : ℕ) (n : Option (List ℕ × NewKk)) (room : Bool) → TestsHold (new_tests p originator l count n) → room ≡ true → TestsHold (new_tests p originator l count n ++ (room, KeysFull) ∷ [])
both_held p originator l count None room h r = (r, tt)
both_held p originator l count (Some n) room h r = (h.0, (h.1.0, (h.1.1.0, (r, tt))))

-- where all held, those for a new key-encrypting key did, and the key has room
pub new_held : (p : Party) (a : Arrival) (m : Ksm) (b : KsmBody) (l : LinkRec) → TestsHold (body_tests p a m b l) → TestsHold (new_tests p m.originator l (body_count b) (body_new b)) × (has_room p m b l ≡ true)
new_held p a m b l h = apart_held p m.originator l (body_count b) (body_new b) (has_room p m b l) h.1.1.1.1.1.1
