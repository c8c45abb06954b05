-- The changes of a translation centre can be kept.
use Rattle.std.proofs.Common.{◌≡◌, Some, Result, IfOk, refl, lit≤}
use Rattle.x_base.specs.Count.{IsCount}
use Rattle.x_base.specs.declared.text.NoMemory.{NoMemory}
use Rattle.csm_grammar.specs.declared.arrival.Arrival.{Arrival}
use Rattle.csm_grammar.specs.declared.message.Rfs.{Rfs}
use Rattle.party_state.specs.declared.decision.Decision.{Decision}
use Rattle.party_tables.specs.declared.link.LinkRec.{LinkRec}
use Rattle.party_state.specs.State.{Party}
use Rattle.party_state.specs.Verdicts.{TestsHold}
use Rattle.role_base.specs.Deciding.{decision_of, Decides}
use Rattle.role_base.specs.Standing.{LinkStands}
use Rattle.role_base.proofs.Counted.{left_is_count, next_on}
use Rattle.role_base.proofs.Keeping.{link_room}
use Rattle.role_base.proofs.Kept.{row_kept, made_kept}
use Rattle.role_base.proofs.PartyLaws.{HeldIfAccepted}
use Rattle.translation_role.specs.Service.{rfs_tests, rfs_between}

pub rfs_kept : HeldIfAccepted → (p : Party) (a : Arrival) (m : Rfs) (l b : LinkRec) (made : Result Decision NoMemory) → LinkStands p l → LinkStands p b → IsCount m.cta → IfOk made (λ d. d ≡ decision_of p (rfs_between p a m (Some l) (Some b))) → Decides p (rfs_between p a m (Some l) (Some b)) made
rfs_kept held p a m l b made s t i e =
    let there = s.found in
    made_kept p (rfs_between p a m (Some l) (Some b)) made (row_kept p (rfs_between p a m (Some l) (Some b))
    (λ v. let h : TestsHold (rfs_tests p a m l b) = held (rfs_tests p a m l b) refl v in
    record {
      each = ((next_on m.cta _ i refl, link_room p l s), ((next_on b.next _ (left_is_count b t.range.next h.1.1.1.1.1.1.1.0) refl, link_room p b t), tt));
      order = rw there refl;
    })
    (lit≤ tt)) e
