-- A stopped event: whether the party before it stands, or the one after it (this project's profile).
use Rattle.std.specs.Prelude.{◌≡◌, ◌≤◌, ℕ, Bool, true, false, Option, Some, None}
use Rattle.x_base.specs.Edge.{Rose}
use Rattle.party_state.specs.declared.command.Input.{Input}
use Rattle.change_code.specs.Cost.{is_change}
use Rattle.member.specs.Member.{Member, plan_at, after}
use Rattle.course.specs.declared.progress.Stop.{Stop}

-- a member keeps a change of an input; where nothing is heard there is none
abbrev pub KeepsChange : Member → Option Input → ℕ → Type 0
KeepsChange x None moment = ⊥
KeepsChange x (Some i) moment = is_change (plan_at x i moment).edits ≡ true

abbrev pub member_next : Member → Option Input → ℕ → Member
member_next x None moment = x
member_next x (Some i) moment = after x (plan_at x i moment).edits

-- which of the two stands, as far as the call and the choice fix it, between these counts of the shelf's faults. They fix it
-- where the disks tell their bytes; where they don't, it is either
pub record IsFixed (tell : Bool) (keep : Type 0) (stop : Stop) (before after : ℕ) (next : Bool) : Type 0 where
  -- the new one only where a change is kept
  pub kept : next ≡ true → keep
  -- with the first or the second call nothing is kept
  pub early : tell ≡ true → keep → stop.n ≤ 2 → next ≡ false
  -- nor with the third or the fourth, where the image of the last sync is left
  pub stable : tell ≡ true → keep → stop.n ≤ 4 → stop.choice ≡ 0 → next ≡ false
  -- the fourth call is the sync behind the gate, and what a read gives is left
  pub pending : tell ≡ true → keep → stop.n ≡ 4 → stop.choice ≡ 1 → (Rose before after → ⊥) → next ≡ true
  -- all four calls are made
  pub whole : tell ≡ true → keep → 5 ≤ stop.n → next ≡ true
