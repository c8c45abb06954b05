-- A new key-encrypting key that came with an accepted message is ready for taking.
use Rattle.std.proofs.Common.{◌≡◌, ℕ, false, Option, Some, None, List, ◌∷◌, ◌++◌, refl, subst}
use Rattle.std.proofs.lemmas.Bool.{both_ways}
use Rattle.x_base.specs.declared.verdict.Verdict.TheVariants.{Accept}
use Rattle.csm_grammar.specs.declared.message.Ksm.{Ksm}
use Rattle.csm_grammar.specs.declared.message.NewKk.{NewKk}
use Rattle.csm_grammar.specs.declared.arrival.Arrival.{Arrival}
use Rattle.party_tables.specs.declared.link.LinkRec.{LinkRec}
use Rattle.party_tables.specs.declared.key.KeyRec.{KeyRec}
use Rattle.party_state.specs.declared.edit.Edit.TheVariants.{PutLink, PutKey}
use Rattle.party_tables.specs.Keys.{takes}
use Rattle.party_state.specs.State.{Party, link_with, apply, apply_edit}
use Rattle.party_state.specs.Verdicts.{TestsHold}
use Rattle.role_base.proofs.PartyLaws.{HeldAtAccept, LinkLaws, put_same}
use Rattle.bank_keys.specs.Ksm.{body_link, body_count, body_next, body_new, body_record, second_edits, body_second, body_front, taken_link, taken_edits, key_row, key_arrives}
use Rattle.bank_keys.specs.Taking.{TakesNew}

taken_at : LinkLaws → (p : Party) (originator : List ℕ) (l : LinkRec) (count up : ℕ) (n : Option (List ℕ × NewKk)) (k : KeyRec) (o : Option KeyRec) (kk : List ℕ × NewKk) → n ≡ Some kk → link_with (takes originator kk.0) (apply (PutLink (record l { next = up }) ∷ (taken_edits originator l count n ++ PutKey k ∷ second_edits o)) p) ≡ Some (taken_link originator l count kk)
taken_at links p originator l count up None k o kk e = absurd (cc)
taken_at links p originator l count up (Some n) k o kk e = let is : n ≡ kk = cc in subst (λ (z : List ℕ × NewKk). link_with (takes originator z.0) (apply (PutLink (record l { next = up }) ∷ (PutLink (taken_link originator l count n) ∷ PutKey k ∷ second_edits o)) p) ≡ Some (taken_link originator l count z)) is (behind o)
  where
    behind : (o : Option KeyRec) → link_with (takes originator n.0) (apply (PutLink (record l { next = up }) ∷ (PutLink (taken_link originator l count n) ∷ PutKey k ∷ second_edits o)) p) ≡ Some (taken_link originator l count n)
    behind None = put_same links (taken_link originator l count n) (apply_edit (PutLink (record l { next = up })) p)
    behind (Some j) = put_same links (taken_link originator l count n) (apply_edit (PutLink (record l { next = up })) p)

pub takes_new : HeldAtAccept → LinkLaws → (p : Party) (a : Arrival) (m : Ksm) (new : List ℕ × NewKk) → body_new m.body ≡ Some new → (key_arrives p a m).verdict ≡ Accept → TakesNew p (apply (key_arrives p a m).edits p) m new
takes_new held links p a m new e v = by_link (body_link p m.originator m.body) refl v
  where
    by_link : (o : Option LinkRec) → body_link p m.originator m.body ≡ o → (key_row p a m m.body o).verdict ≡ Accept → TakesNew p (apply (key_row p a m m.body o).edits p) m new
    by_link None f v = let h : TestsHold (body_front p m m.body None) = held (body_front p m m.body None) refl v in absurd (both_ways false refl h.1.1.0)
    by_link (Some l) f v = record { link = l; in_use = f; taken = taken_at links p m.originator l (body_count m.body) (body_next m.body) (body_new m.body) (body_record p m m.body l) (body_second p m m.body l) new e }
