-- An event at a member leaves the others, and cut off it writes nothing.
use Rattle.std.proofs.Common.{◌≡◌, ◌≢◌, ℕ, Bool, true, false, cond, Option, Some, None, List, refl, sym, ◌∙◌, ap, subst, bytes_eq, append-nil}
use Rattle.party_tables.specs.Tables.{put_row}
use Rattle.party_tables.proofs.Keys.{test_idents}
use Rattle.party_tables.proofs.Tables.{find_put}
use Rattle.party_state.specs.declared.command.Input.TheVariants as input
use Rattle.member.specs.Member.{Member, plan_at}
use Rattle.member.specs.Acts.{Act, taking, compacting, migrating, member_after}
use Rattle.world_laws.specs.World.{World, own_of, member_at}
use Rattle.world_laws.specs.Events.{Action, Orders, Hears, Compacts, Migrates, Completion, Whole, CutOld, CutNew, IsCutOff}
use Rattle.world_laws.specs.Steps.{world_after_action, world_after_compaction, world_after_migration, step, step_at}
use Rattle.world_laws.specs.Nodes.{IsEventOf, changes, input_event}
use Rattle.call_laws.specs.Calls.{event_at}
use Rattle.world_laws.proofs.Nodes.Binding.{input_is}
use Rattle.world_laws.proofs.Nodes.Compactions.{compaction_is, migration_is}

put_others : (q : List ℕ) (y : Member) (ms : List Member) → q ≢ y.party.own → member_at q (put_row own_of bytes_eq y ms) ≡ member_at q ms
put_others q y ms ne = find_put own_of bytes_eq test_idents q y ms ∙ go (bytes_eq q y.party.own) refl
  where
    go : (b : Bool) → bytes_eq q y.party.own ≡ b → cond b (Some y) (member_at q ms) ≡ member_at q ms
    go true e = absurd (ne ((test_idents.decides q y.party.own).0 e))
    go false e = refl

-- the network after an event at a member, beside it
pub record Beside (x : Member) (w after : World) (c : Completion) : Type 0 where
  pub others : (q : List ℕ) → q ≢ x.party.own → member_at q after.members ≡ member_at q w.members
  pub texts : IsCutOff c → after.texts ≡ w.texts

module _ (x : Member) (act : Act) (event : ℕ → World → Completion → World) (is : IsEventOf x act event) (n : ℕ) (w : World) (at : member_at x.party.own w.members ≡ Some x) where
  put_beside : (after : World) → after.members ≡ put_row own_of bytes_eq (member_after x act.work) w.members → (q : List ℕ) → q ≢ x.party.own → member_at q after.members ≡ member_at q w.members
  put_beside after e q ne = ap (member_at q) e ∙ put_others q (member_after x act.work) w.members (λ same. ne (same ∙ is.own))

  event_beside : (c : Completion) → Beside x w (event n w c) c
  event_beside Whole = record { others = put_beside (event n w Whole) (is.whole n w at).members; texts = λ cut. absurd cut }
  event_beside CutOld = record { others = λ q ne. ap (λ (v : World). member_at q v.members) (is.old n w); texts = λ cut. ap (λ (v : World). v.texts) (is.old n w) }
  event_beside CutNew = go (changes act.work) refl
    where
      go : (b : Bool) → changes act.work ≡ b → Beside x w (event n w CutNew) CutNew
      go true e = record { others = put_beside (event n w CutNew) (is.new n w at e).members; texts = λ cut. (is.new n w at e).texts ∙ append-nil w.texts }
      go false e = record { others = λ q ne. ap (λ (v : World). member_at q v.members) (is.none n w e); texts = λ cut. ap (λ (v : World). v.texts) (is.none n w e) }

action_beside : (x : Member) (moment : ℕ) (n : ℕ) (w : World) (c : Completion) (action : Action) → member_at x.party.own w.members ≡ Some x → Beside x w (world_after_action n w x moment c action) c
action_beside x moment n w c (Orders k) at = event_beside x (taking (plan_at x (input.Ordered k) moment)) (input_event x (input.Ordered k) moment) (input_is x (input.Ordered k) moment) n w at c
action_beside x moment n w c (Hears bytes (Some a)) at = event_beside x (taking (plan_at x (input.Arrived a) moment)) (input_event x (input.Arrived a) moment) (input_is x (input.Arrived a) moment) n w at c
action_beside x moment n w c (Hears bytes None) at = record { others = λ q ne. refl; texts = λ cut. refl }
action_beside x moment n w c Compacts at = event_beside x (compacting x) (λ m v d. world_after_compaction v x d) (compaction_is x) n w at c
action_beside x moment n w c Migrates at = event_beside x (migrating x) (λ m v d. world_after_migration v x d) (migration_is x) n w at c

pub step_beside : (x : Member) (moment : ℕ) (n : ℕ) (w : World) (c : Completion) (action : Action) → member_at x.party.own w.members ≡ Some x → Beside x w (step n w (event_at x moment action c)) c
step_beside x moment n w c action at = subst (λ (o : Option Member). Beside x w (step_at n w (event_at x moment action c) o) c) (sym at) (action_beside x moment n w c action at)
