-- What was planned is carried out.
use Rattle.std.proofs.Common.{ℕ, List, Option, Ok, Err}
use Rattle.x_base.specs.declared.key_name.FullName.{FullName}
use Rattle.x_base.specs.declared.verdict.Verdict.{Verdict}
use Rattle.x_disk.specs.Disk.{View, IsSound}
use Rattle.key_journal.specs.States.{Failed}
use Rattle.key_store.specs.Store.{Stored}
use Rattle.member.specs.Acts.{taking}
use Rattle.member.specs.Member.{after}
use Rattle.node_core.specs.Planned.{PlannedNode}
use Rattle.node_core.specs.Turns.{IsTurn, IsOldOrNext, member_of}
use Rattle.node_core.specs.declared.node.Turn.TheVariants as turn
use Rattle.csm_spool.specs.Stepping.{IsCarried}
use Rattle.csm_spool.proofs.Images.{left_now}

module _ {D : Type 0} (told : D → View) (planned : PlannedNode D) where
  pub done : (node : Stored D) (verdict : Verdict) (reply : Option (List ℕ)) (under : Option FullName) → IsTurn told planned.node (taking planned.plan) (turn.Done node verdict reply under) → IsCarried told planned (Ok node)
  done node verdict reply under t = record { behind = t.answer.next; cut = tt; faults = t.faults; tells = t.tells }

  pub broken : (b : Failed D) → IsSound (told b.disk) → IsTurn told planned.node (taking planned.plan) (turn.Broken b) → IsCarried told planned (Err b)
  broken b sound t = record {
    behind = tt;
    cut = record {
      cause = t.answer.cause;
      leaves = λ tells c left. left_now (told planned.node.disk) (told b.disk) (IsOldOrNext (member_of planned.node) (after (member_of planned.node) planned.plan.edits)) sound (t.any_moment tells) c left;
    };
    faults = t.faults;
    tells = t.tells;
  }
