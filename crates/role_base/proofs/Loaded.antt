-- A link that is loaded has room and can be kept.
use Rattle.std.proofs.Common.{◌≡◌, true, [], ◌∷◌, refl, arith}
use Rattle.x_base.specs.declared.verdict.Verdict.{Verdict}
use Rattle.x_mac.specs.declared.pair.Pair.{Pair}
use Rattle.party_tables.specs.declared.link.LinkKey.{LinkKey}
use Rattle.party_tables.specs.declared.link.LinkRec.{LinkRec}
use Rattle.party_state.specs.declared.edit.Edit.TheVariants.{PutLink}
use Rattle.party_tables.specs.Keys.{link_key}
use Rattle.party_state.specs.State.{Party}
use Rattle.party_state.specs.Verdicts.{verdict_of, is_accept, TestsHold}
use Rattle.role_base.specs.Conditions.{has_link_room}
use Rattle.role_base.specs.Load.{load_tests}
use Rattle.role_base.specs.Storable.{AreKeepable}
use Rattle.role_base.proofs.PartyLaws.{HeldIfAccepted}
use Rattle.role_base.proofs.Storable.{link_fits}

pub loaded_keepable : (p : Party) (l : LinkRec) → l.next ≡ 1 → has_link_room p (link_key l) ≡ true → AreKeepable p (PutLink l ∷ [])
loaded_keepable p l n room = record {
  each = ((record { low = omega (arith, n); high = omega (arith, n) }, link_fits p (link_key l) room), tt);
  order = refl;
}

pub load_room : HeldIfAccepted → (p : Party) (key : LinkKey) (pair : Pair) (v : Verdict) → v ≡ verdict_of (load_tests p key pair) → is_accept v ≡ true → has_link_room p key ≡ true
load_room held p key pair v e t = let h : TestsHold (load_tests p key pair) = held (load_tests p key pair) refl (rw (← e) t) in h.1.1.1.0
