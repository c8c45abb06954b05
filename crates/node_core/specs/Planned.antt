-- A node, and what it will do with an input (this project's profile).
use Rattle.member.specs.Answers.{PlannedMember}
use Rattle.member.specs.Member.{Plan}
use Rattle.key_store.specs.Store.{Stored}
use Rattle.node_core.specs.Turns.{member_of}

pub record PlannedNode (D : Type 0) : Type 0 where
  pub node : Stored D
  pub plan : Plan

-- the node's member, and what it will do
abbrev pub planned_member_of : {D : Type 0} → PlannedNode D → PlannedMember
planned_member_of p = record { member = member_of p.node; plan = p.plan }
