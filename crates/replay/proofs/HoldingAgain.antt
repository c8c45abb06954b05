-- What a crash leaves of a party's disk until something is held of the party again.
use Rattle.std.proofs.Common.{◌≡◌, inl, inr, ℕ, true, List, Some, None, subst}
use Rattle.x_disk.specs.Disk.{View, Tells, IsSound, LeavesOnly}
use Rattle.x_disk.proofs.Runs.{weaker}
use Rattle.party_state.specs.declared.command.Input.{Input}
use Rattle.change_code.specs.Cost.{is_change}
use Rattle.key_store.specs.Store.{Stored, IsStore}
use Rattle.member.specs.Member.{after, plan_at}
use Rattle.node_core.specs.Planned.{PlannedNode}
use Rattle.node_core.specs.Turns.{IsImageOf, member_of}
use Rattle.course.specs.Stops.{KeepsChange, member_next}
use Rattle.open_parties.specs.Crash.{held_view, IsEither, IsHeldAgain, HoldsAgain}
use Rattle.open_parties.specs.OpenParties.{Fills}
use Rattle.open_parties.specs.declared.open_party.OpenParty.{OpenParty}
use Rattle.open_parties.specs.declared.open_party.PartyDisk.TheVariants.{Open}
use Rattle.open_parties.proofs.Images.{image_of}
use Rattle.open_parties.proofs.Stopping.{only_now}
use Rattle.open_parties.proofs.HoldingAgain.{holds_again_on}

module _ {D : Type 0} (told : D → View) (shelved : View) (old new : List (OpenParty D)) (place : ℕ) where
  -- the same open disk is held again
  pub holds_again_same : (node again : Stored D) (i : Input) (moment : ℕ) → again ≡ node → Fills old new place (Open again) → HoldsAgain told shelved node (member_of node) (member_next (member_of node) (Some i) moment) (KeepsChange (member_of node) (Some i) moment) old new place
  holds_again_same node again i moment same fills = λ tells. inl (subst (λ (k : Stored D). Fills old new place (Open k)) same fills)

  -- an input is begun, and the party is opened again
  pub holds_again_stopped : (p : PlannedNode D) (node : Stored D) (i : Input) (moment : ℕ) (k : D) → p ≡ record { node = node; plan = plan_at (member_of node) i moment } → IsSound (told k)
      → (Tells (told p.node.disk) → LeavesOnly (told p.node.disk) (told k) (IsEither (member_of p.node) (after (member_of p.node) p.plan.edits) (is_change p.plan.edits ≡ true)))
      → IsHeldAgain told shelved (told k) (told k).may_leave old new place
      → HoldsAgain told shelved node (member_of node) (member_next (member_of node) (Some i) moment) (KeepsChange (member_of node) (Some i) moment) old new place
  holds_again_stopped p node i moment k is sound run r = λ tells.
      inr (holds_again_on told shelved old new place (told node.disk) k (IsEither (member_of node) (member_next (member_of node) (Some i) moment) (KeepsChange (member_of node) (Some i) moment)) sound
      (subst (λ (q : PlannedNode D). Tells (told q.node.disk) → LeavesOnly (told q.node.disk) (told k) (IsEither (member_of q.node) (after (member_of q.node) q.plan.edits) (is_change q.plan.edits ≡ true))) is run tells) r)

  -- nothing is heard, and the party is opened again
  pub holds_again_idle : (node : Stored D) (k : D) (moment : ℕ) → k ≡ node.disk → IsStore (told node.disk) node.gate node.end node.format node.party → IsHeldAgain told shelved (told k) (told k).may_leave old new place
      → HoldsAgain told shelved node (member_of node) (member_next (member_of node) None moment) (KeepsChange (member_of node) None moment) old new place
  holds_again_idle node k moment is store r = λ tells.
      let leaves = subst (λ (j : D). LeavesOnly (told j) (held_view told shelved r.held) (told j).may_leave) is r.leaves in
      inr (record {
        held = r.held;
        fills = r.fills;
        leaves = weaker (told node.disk) (held_view told shelved r.held) (told node.disk).may_leave (IsEither (member_of node) (member_next (member_of node) None moment) (KeepsChange (member_of node) None moment)) leaves
            (λ image left. inl (only_now (told node.disk) (IsImageOf (member_of node)) tells store.durable (image_of (told node.disk) node.gate node.end node.format node.party store) image left));
      })
