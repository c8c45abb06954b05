-- What an event leaves of its party.
use Rattle.std.proofs.Common.{◌≡◌, ◌⊎◌, inl, inr, ℕ, ◌<◌, Bool, true, false, cond, not, nat_eq, List, ◌++◌, Option, Some, None, Result, Ok, Err, IfOk, IfErr, refl, sym, ◌∙◌, ap, subst}
use Rattle.std.specs.Prelude.{option_to_list}
use Rattle.x_base.specs.Edge.{Rose}
use Rattle.x_base.specs.declared.verdict.Verdict.{Verdict}
use Rattle.x_base.specs.declared.key_name.FullName.{FullName}
use Rattle.x_disk.specs.Disk.{View, Tells, IsDurable, IsSound}
use Rattle.x_disk.specs.Shelf.{IsAlike}
use Rattle.key_journal.specs.States.{Failed}
use Rattle.party_state.specs.declared.command.Input.{Input}
use Rattle.key_store.specs.Store.{Stored, IsStore, space}
use Rattle.change_code.specs.Cost.{is_change}
use Rattle.member.specs.Member.{Member, plan_at, after}
use Rattle.member.specs.Acts.{taking}
use Rattle.node_core.specs.Planned.{PlannedNode}
use Rattle.node_core.specs.Turns.{IsTurn, member_of}
use Rattle.node_core.specs.declared.node.Turn.TheVariants as turn
use Rattle.world_laws.specs.Noted.{noted}
use Rattle.course.specs.Stops.{KeepsChange, member_next}
use Rattle.course.specs.declared.progress.Stop.{Stop}
use Rattle.replay.specs.Events.{IsWhole, IsLeft, Begins, IsStoppedIn, IsStopLeft}
use Rattle.open_parties.specs.Failing.{IsFailing, ReadsEither, IsFailedPartyDisk}
use Rattle.open_parties.specs.OpenParties.{Fills}
use Rattle.open_parties.specs.Stops.{IsDiskAtStop, IsRestarted}
use Rattle.open_parties.specs.Expecting.{AreExpected}
use Rattle.open_parties.specs.declared.expecting.Expected.{Expected}
use Rattle.open_parties.specs.declared.failure.Failure.{Failure}
use Rattle.open_parties.specs.declared.failure.Failure.TheVariants as failure
use Rattle.replay.specs.declared.play_state.PlayState.{PlayState}
use Rattle.open_parties.specs.declared.open_party.OpenParty.{OpenParty}
use Rattle.open_parties.specs.declared.open_party.PartyDisk.TheVariants.{Open, Closed, Away}
use Rattle.open_parties.specs.declared.stopped.FailedPartyDisk.{FailedPartyDisk}
use Rattle.open_parties.proofs.Carrying.{done_or_not, broken_reads}
use Rattle.open_parties.proofs.Images.{image_of}
use Rattle.open_parties.proofs.Losing.{shelf_reads, failed_reads}
use Rattle.replay.proofs.Planning.{takes_room, keeps_or_not, same_next}
use Rattle.open_parties.proofs.Stopping.{at_stop_idle}
use Rattle.replay.proofs.Stopping.{expected_found, stops}

-- what is planned was carried out
module _ {D : Type 0} (told : D → View) (p : PlannedNode D) (place : ℕ) where
  module _ (node : Stored D) (verdict : Verdict) (reply : Option (List ℕ)) (under : Option FullName) (t : IsTurn told p.node (taking p.plan) (turn.Done node verdict reply under)) where
    pub whole_by : (old new : PlayState D) → Fills old.parties new.parties place (Open node) → new.facts ≡ old.facts ++ noted under reply → new.texts ≡ old.texts ++ option_to_list reply → IsWhole told p old new place verdict
    whole_by old new fills facts_are texts_are = record {
      node = node;
      fills = fills;
      next = t.answer.next;
      own = t.answer.own;
      tells = t.tells;
      verdict_is = t.answer.verdict;
      texts_are = texts_are ∙ ap (λ (r : Option (List ℕ)). old.texts ++ option_to_list r) t.answer.reply;
      facts_are = facts_are ∙ (ap (λ (u : Option FullName). old.facts ++ noted u reply) t.answer.under ∙ ap (λ (r : Option (List ℕ)). old.facts ++ noted p.plan.under r) t.answer.reply);
    }

    pub left_done : (old new : List (OpenParty D)) → Fills old new place (Open node) → IsLeft told p old new place failure.NoMemory
    left_done old new fills = record { held = Open node; fills = fills; fails = λ tells. (tt, (t.tells ∙ tells, done_or_not told p.node p.plan node verdict reply under t)) }

  pub left_memory : (node : Stored D) → IsTurn told p.node (taking p.plan) (turn.NoMemory node) → (old new : List (OpenParty D)) → Fills old new place (Open node) → IsLeft told p old new place failure.NoMemory
  left_memory node t old new fills = record { held = Open node; fills = fills; fails = λ tells. (tt, (t.tells ∙ tells, inl (ap member_of t.answer.0))) }

  pub left_broken : (b : Failed D) (k : D) (why : Failure) → IsFailing why → IsSound (told b.disk) → IsTurn told p.node (taking p.plan) (turn.Broken b) → k ≡ b.disk → (old new : List (OpenParty D)) → Fills old new place (Closed k) → IsLeft told p old new place why
  left_broken b k why failing sound t is old new fills = record {
    held = Closed b.disk;
    fills = subst (λ (j : D). Fills old new place (Closed j)) is fills;
    fails = λ tells. (failing, broken_reads told p.node p.plan b sound t tells);
  }

-- the event was begun, and the power went
module _ {D : Type 0} (told : D → View) (old new : List (OpenParty D)) (place : ℕ) (stop : Stop) (e : Expected) (begun : Result D (FailedPartyDisk D)) (node : Stored D) (i : Option Input) (moment : ℕ) (b : Begins told node i moment stop.n e begun) where
  module _ (k : D) (is : begun ≡ Ok k) where
    at_stop : IsDiskAtStop (told node.disk) (told k) (member_of node) (member_next (member_of node) i moment) (KeepsChange (member_of node) i moment) stop.n
    at_stop = subst (λ (r : Result D (FailedPartyDisk D)). IfOk r (λ (d : D). IsDiskAtStop (told node.disk) (told d) (member_of node) (member_next (member_of node) i moment) (KeepsChange (member_of node) i moment) stop.n)) is b.at_stop

    module _ (again : D) (opened : Stored D) (before after : ℕ) (next : Bool) (alike : IsAlike (told k) (told again)) (restarted : IsRestarted (told again) (told opened.disk) stop.choice opened.gate opened.end opened.format opened.party)
        (seen : 0 < (told k).faults → Rose before after) (next_is : next ≡ not (nat_eq (space opened).room e.before.space.room)) where
      found : next ≡ not (nat_eq (space opened).room (member_of node).space.room)
      found = next_is ∙ ap (λ (m : Member). not (nat_eq (space opened).room m.space.room)) b.expected.before

      same_two : cond next e.after e.before ≡ cond next (member_next (member_of node) i moment) (member_of node)
      same_two = λ j. cond next (b.expected.after j) (b.expected.before j)

      pub reopened : Fills old new place (Open opened) → member_of opened ≡ cond next e.after e.before → IsStoppedIn told old new place node i moment stop before after next
      reopened fills is = record {
        opened = opened;
        fills = fills;
        stops = λ tell tells. stops told node opened (told k) (told again) (member_of node) (member_next (member_of node) i moment) (KeepsChange (member_of node) i moment) stop at_stop alike restarted before after seen
            (takes_room (member_of node) i moment) next found (keeps_or_not (member_of node) i moment) (same_next (member_of node) i moment) (is ∙ same_two) tell tells;
      }

      -- another one was found, over a disk that tells nothing
      pub left_other : (shelved : View) (why : Failure) → Fills old new place (Open opened) → (member_of opened ≡ cond next e.after e.before → ⊥) → IsStopLeft told shelved old new place node i moment why
      left_other shelved why fills other = record {
        held = Open opened;
        fills = fills;
        fails = λ tells. absurd (other (expected_found told node opened (told k) (told again) (member_of node) (member_next (member_of node) i moment) (KeepsChange (member_of node) i moment) stop at_stop alike restarted before after seen
            (takes_room (member_of node) i moment) next found tells ∙ sym same_two));
      }

    pub left_out : (shelved : View) (why : Failure) → IsFailing why → IsSound (told k) → IsAlike (told k) shelved → new ≡ old → IsStopLeft told shelved old new place node i moment why
    left_out shelved why failing sound alike same = record {
      held = Away;
      fills = λ front own back was size. same ∙ was;
      fails = λ tells. (failing, shelf_reads (told node.disk) (told k) (member_of node) (member_next (member_of node) i moment) (KeepsChange (member_of node) i moment) stop.n at_stop shelved sound alike tells);
    }

    pub left_failed : (shelved : View) (again disk : D) (why : Failure) → Fills old new place (Closed disk) → IsAlike (told k) (told again) → IsFailedPartyDisk (told again) (told disk) why → IsStopLeft told shelved old new place node i moment why
    left_failed shelved again disk why fills alike failed_disk = record {
      held = Closed disk;
      fills = fills;
      fails = failed_reads (told node.disk) (told k) (member_of node) (member_next (member_of node) i moment) (KeepsChange (member_of node) i moment) stop.n at_stop (told again) (told disk) why alike failed_disk;
    }

  pub left_begun : (failed_disk : FailedPartyDisk D) → begun ≡ Err failed_disk → (shelved : View) → Fills old new place (Closed failed_disk.disk) → IsStopLeft told shelved old new place node i moment failed_disk.why
  left_begun failed_disk is shelved fills = record {
    held = Closed failed_disk.disk;
    fills = fills;
    fails = λ tells. (
      subst (λ (r : Result D (FailedPartyDisk D)). IfErr r (λ (u : FailedPartyDisk D). IsFailing u.why)) is b.failing,
      subst (λ (r : Result D (FailedPartyDisk D)). IfErr r (λ (u : FailedPartyDisk D). Tells (told node.disk) → ReadsEither (told u.disk) (member_of node) (member_next (member_of node) i moment) (KeepsChange (member_of node) i moment))) is b.reads tells,
    );
  }

-- the party was put back as it was
pub left_same : {D : Type 0} (told : D → View) (shelved : View) (old new : List (OpenParty D)) (place : ℕ) (node again : Stored D) (i : Option Input) (moment : ℕ) → again ≡ node → Fills old new place (Open again) → IsStopLeft told shelved old new place node i moment failure.NoMemory
left_same told shelved old new place node again i moment same fills = record {
  held = Open again;
  fills = fills;
  fails = λ tells. (tt, (subst (λ (n : Stored _). Tells (told n.disk)) (sym same) tells, inl (ap member_of same)));
}

-- memory was wanted behind a stop
pub left_stopped : {D : Type 0} (told : D → View) (shelved : View) (old new : List (OpenParty D)) (place : ℕ) (node : Stored D) (i : Option Input) (moment : ℕ) (stop : Stop) (before after : ℕ) (next : Bool) → IsStoppedIn told old new place node i moment stop before after next
    → IsStopLeft told shelved old new place node i moment failure.NoMemory
left_stopped told shelved old new place node i moment stop before after next s = record {
  held = Open s.opened;
  fills = s.fills;
  fails = λ tells. (let t = s.stops true (λ same. tells) in (tt, (t.tells refl, go t.fixed.kept t.cut)));
}
  where
    go : (next ≡ true → KeepsChange (member_of node) i moment) → ((next ≡ false) × (member_of s.opened ≡ member_of node)) ⊎ ((next ≡ true) × (member_of s.opened ≡ member_next (member_of node) i moment))
        → (member_of s.opened ≡ member_of node) ⊎ (KeepsChange (member_of node) i moment × (member_of s.opened ≡ member_next (member_of node) i moment))
    go kept (inl one) = inl one.1
    go kept (inr two) = inr (kept two.0, two.1)

-- what is planned was begun
module _ {D : Type 0} (told : D → View) (p : PlannedNode D) (node : Stored D) (i : Input) (moment n : ℕ) (e : Expected) (begun : Result D (FailedPartyDisk D)) (is : p ≡ record { node = node; plan = plan_at (member_of node) i moment }) where
  pub begins_of : AreExpected e (member_of node) (member_next (member_of node) (Some i) moment) → IfOk begun (λ disk. IsDiskAtStop (told p.node.disk) (told disk) (member_of p.node) (after (member_of p.node) p.plan.edits) (is_change p.plan.edits ≡ true) n) → IfErr begun (λ failed_disk. IsFailing failed_disk.why)
      → IfErr begun (λ failed_disk. Tells (told p.node.disk) → ReadsEither (told failed_disk.disk) (member_of p.node) (after (member_of p.node) p.plan.edits) (is_change p.plan.edits ≡ true)) → Begins told node (Some i) moment n e begun
  begins_of expected at_stop failing reads = record {
    expected = expected;
    at_stop = subst (λ (q : PlannedNode D). IfOk begun (λ disk. IsDiskAtStop (told q.node.disk) (told disk) (member_of q.node) (after (member_of q.node) q.plan.edits) (is_change q.plan.edits ≡ true) n)) is at_stop;
    failing = failing;
    reads = subst (λ (q : PlannedNode D). IfErr begun (λ failed_disk. Tells (told q.node.disk) → ReadsEither (told failed_disk.disk) (member_of q.node) (after (member_of q.node) q.plan.edits) (is_change q.plan.edits ≡ true))) is reads;
  }

-- nothing is begun of an event of which nothing is heard
pub begins_idle : {D : Type 0} (told : D → View) (node : Stored D) (k : D) (moment n : ℕ) (e : Expected) → AreExpected e (member_of node) (member_next (member_of node) None moment) → k ≡ node.disk → IsDurable (told k) → IsStore (told node.disk) node.gate node.end node.format node.party → Begins told node None moment n e (Ok k)
begins_idle {D = D} told node k moment n e expected is durable stands = record {
  expected = expected;
  at_stop = subst (λ (j : D). IsDiskAtStop (told node.disk) (told j) (member_of node) (member_of node) ⊥ n) (sym is) (at_stop_idle (told node.disk) (member_of node) n (subst (λ (j : D). IsDurable (told j)) is durable) (image_of (told node.disk) node.gate node.end node.format node.party stands));
  failing = tt;
  reads = tt;
}
