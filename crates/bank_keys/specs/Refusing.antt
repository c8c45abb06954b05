-- How a refused key service message is answered (ANSI X9.17, error service message; the letters are this project's
-- profile).
use Rattle.std.specs.Prelude.{ℕ, ◌≡◌, ◌≢◌, ◌+◌, ◌≤◌, bit_xor, List, Option, Some, None, codes}
use Rattle.x_base.specs.Count.{count_limit}
use Rattle.x_base.specs.declared.key_name.KeyName.{KeyName}
use Rattle.x_base.specs.declared.party.Side.TheVariants.{Takes}
use Rattle.x_base.specs.declared.verdict.Verdict.{Verdict}
use Rattle.x_base.specs.declared.verdict.Verdict.TheVariants.{CountLow, CountSpent, LabelTaken, SameKey, LinksFull, KeysFull}
use Rattle.x_mac.specs.declared.pair.Pair.{Pair}
use Rattle.x_gen.specs.Parity.{odd_parity_of}
use Rattle.x_seal.specs.Wrapped.{unwrap_of, unseal_of}
use Rattle.csm_grammar.specs.declared.message.Message.TheVariants as message
use Rattle.csm_grammar.specs.declared.message.KsmBody.{KsmBody}
use Rattle.csm_grammar.specs.declared.message.KsmBody.TheVariants as body
use Rattle.csm_grammar.specs.declared.message.Ksm.{Ksm}
use Rattle.csm_grammar.specs.declared.message.NewKk.{NewKk}
use Rattle.csm_grammar.specs.declared.message.NewKk.TheVariants as new_kk
use Rattle.csm_grammar.specs.declared.arrival.Arrival.{Arrival}
use Rattle.party_tables.specs.declared.link.LinkRec.{LinkRec}
use Rattle.party_tables.specs.Keys.{takes}
use Rattle.party_state.specs.State.{Party, centre_label, link_with, first_link}
use Rattle.party_state.specs.Rows.{Row, Coded}
use Rattle.bank_keys.specs.Ksm.{key_arrives}

-- the link under which a partner's key comes: that of IDK2, which isn't a centre's label, or the first where IDK2 is absent
abbrev pub InUse : Party → List ℕ → Option (List ℕ) → LinkRec → Type 0
InUse p originator None l = first_link originator Takes p ≡ Some l
InUse p originator (Some label) l = (label ≢ centre_label) × (link_with (takes originator label) p ≡ Some l)

-- the new key-encrypting key that came, with odd parity; a single key is both halves
abbrev pub new_pair : Pair → ℕ → NewKk → Pair
new_pair pair ctp (new_kk.Double left right) = record { left = odd_parity_of (unwrap_of pair ctp left); right = odd_parity_of (unwrap_of pair ctp right) }
new_pair pair ctp (new_kk.Single key) = record { left = odd_parity_of (unwrap_of pair ctp key); right = odd_parity_of (unwrap_of pair ctp key) }

-- a key that a message carries, or the exclusive-or of two, with the name of the key, of two that of the first, and the count
-- that came with it: CTP, or CTB from a centre
pub record Carried : Type 0 where
  pub name : KeyName
  pub value : ℕ
  pub ctp : Option ℕ
  pub ctb : Option ℕ

abbrev pub from_partner : List ℕ → LinkRec → ℕ → ℕ → Carried
from_partner originator l ctp value = record { name = record { issuer = originator; originator = originator; label = l.label; count = ctp }; value = value; ctp = Some ctp; ctb = None }

abbrev pub from_centre : Party → List ℕ → List ℕ → LinkRec → ℕ → ℕ → Carried
from_centre p originator centre l kdu ctb = record { name = record { issuer = centre; originator = originator; label = centre_label; count = ctb }; value = unseal_of l.pair originator p.own ctb kdu; ctp = None; ctb = Some ctb }

-- a message with this body carries this key: under the link in use, under the new key-encrypting key at its first count,
-- or under the link with the centre; two keys come under the link in use, at the count and at the one behind it
abbrev pub Carries : Party → List ℕ → KsmBody → Carried → Type 0
Carries p originator (body.Direct idk2 None kd ctp) c = (l : LinkRec) × (InUse p originator idk2 l × (c ≡ from_partner originator l ctp (unwrap_of l.pair ctp kd)))
Carries p originator (body.Direct idk2 (Some new) kd ctp) c = (l : LinkRec) × (InUse p originator idk2 l × (c ≡ from_partner originator l ctp (unwrap_of (new_pair l.pair ctp new.1) 1 kd)))
Carries p originator (body.Centre centre kdu ctb) c = (l : LinkRec) × ((link_with (takes centre centre_label) p ≡ Some l) × (c ≡ from_centre p originator centre l kdu ctb))
Carries p originator (body.Twin idk2 first second ctp) c =
    (l : LinkRec) × (InUse p originator idk2 l × ((ctp + 1 ≤ count_limit) × (c ≡ from_partner originator l ctp (bit_xor (unwrap_of l.pair ctp first) (unwrap_of l.pair (ctp + 1) second)))))

-- the refusals that are answered: the letter, and the expected count, which one of them tells
abbrev pub told_by : Verdict → Option (List ℕ × Option ℕ)
told_by (CountLow expected) = Some (codes "C", Some expected)
told_by CountSpent = Some (codes "S", None)
told_by LabelTaken = Some (codes "L", None)
told_by SameKey = Some (codes "K", None)
told_by LinksFull = Some (codes "N", None)
told_by KeysFull = Some (codes "F", None)
told_by v = None

-- the error message goes to the originator with the count that came, closed under the key that came, or
-- under the exclusive-or of two
pub record AnswersRefusal (p : Party) (m : Ksm) (b : KsmBody) (r : Row) (erf : List ℕ) (ctr : Option ℕ) : Type 0 where
  pub came : Carried
  pub carries : Carries p m.originator b came
  pub answer : r.answer ≡ Some (Coded
      (message.Esm (record { receiver = m.originator; originator = p.own; erf = erf; ctp = came.ctp; cta = None; ctb = came.ctb; ctr = ctr }))
      (record { name = came.name; recipient = p.own })
      came.value)

abbrev pub AnswersRefused : Type 0
AnswersRefused = (p : Party) (a : Arrival) (m : Ksm) (e : List ℕ × Option ℕ) → told_by (key_arrives p a m).verdict ≡ Some e → AnswersRefusal p m m.body (key_arrives p a m) e.0 e.1

-- no other refusal is answered
abbrev pub AnswersNoOther : Type 0
AnswersNoOther = (p : Party) (a : Arrival) (m : Ksm) → told_by (key_arrives p a m).verdict ≡ None → (key_arrives p a m).answer ≡ None
