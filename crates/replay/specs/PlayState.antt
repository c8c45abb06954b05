-- The state of a play, and the network that it shows.
use Rattle.std.specs.Prelude.{◌≡◌, ℕ, Bool, List, map, Option, Some}
use Rattle.x_base.specs.declared.verdict.Verdict.{Verdict}
use Rattle.x_disk.specs.Disk.{View}
use Rattle.party_state.specs.declared.command.Input.{Input}
use Rattle.member.specs.Member.{Member, plan_at}
use Rattle.world_laws.specs.World.{World, member_at}
use Rattle.world_laws.specs.Events.{Whole}
use Rattle.world_laws.specs.Steps.{world_after_input}
use Rattle.world_laws.specs.Honest.{named_text}
use Rattle.course.specs.Outcomes.{world_after_given, completion_of}
use Rattle.course.specs.Stops.{KeepsChange, IsFixed}
use Rattle.course.specs.declared.progress.Stop.{Stop}
use Rattle.open_parties.specs.OpenParties.{members, AreIn, IsPlace}
use Rattle.replay.specs.declared.play_state.PlayState.{PlayState}

-- the open disks stand for the members of the network, and the texts and the named facts are its. Whether the disks tell
-- their bytes comes first
pub record Shows {D : Type 0} (tell : Bool) (told : D → View) (w : World) (s : PlayState D) : Type 0 where
  pub all_open : AreIn tell told s.parties
  pub members_are : members s.parties ≡ w.members
  pub texts_are : s.texts ≡ w.texts
  pub facts_are : s.facts ≡ map named_text w.facts

-- whichever network the old state shows, the new one shows what a whole event makes of it
abbrev pub IsStep : {D : Type 0} → (D → View) → PlayState D → PlayState D → ℕ → Input → ℕ → Verdict → Type 0
IsStep told old new place i moment verdict = (tell : Bool) (w : World) (n : ℕ) (own : List ℕ) → IsPlace old.parties own place → Shows tell told w old
    → (x : Member) × (member_at own w.members ≡ Some x) × Shows tell told (world_after_input n w x i moment Whole) new × (verdict ≡ (plan_at x i moment).verdict)

-- whichever network the old state shows, the new one shows what the cut event makes of it
abbrev pub IsCutStep : {D : Type 0} → (D → View) → PlayState D → PlayState D → ℕ → Option Input → ℕ → Stop → ℕ → ℕ → Bool → Type 0
IsCutStep told old new place i moment stop before after next = (tell : Bool) (w : World) (n : ℕ) (own : List ℕ) → IsPlace old.parties own place → Shows tell told w old
    → (x : Member) × (member_at own w.members ≡ Some x) × Shows tell told (world_after_given n w x i moment (completion_of next)) new × IsFixed tell (KeepsChange x i moment) stop before after next
