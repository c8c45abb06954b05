-- What a member does: with an input, at a compaction or a migration, and where its file is wiped (this project's profile).
use Rattle.std.specs.Prelude.{ℕ, cond, Option, Some, None, List, []}
use Rattle.x_base.specs.declared.key_name.FullName.{FullName}
use Rattle.x_base.specs.declared.verdict.Verdict.{Verdict}
use Rattle.x_base.specs.declared.verdict.Verdict.TheVariants.{Accept, JournalFull}
use Rattle.party_state.specs.declared.edit.Edit.{Edit}
use Rattle.party_state.specs.State.{Party}
use Rattle.change_code.specs.Cost.{can_compact, space_of_whole}
use Rattle.change_code.specs.declared.format.Format.{Format}
use Rattle.change_code.specs.declared.format.Format.TheVariants.{One, Two}
use Rattle.member.specs.Member.{Member, Plan, after}

-- what is written: these edits, where there are any; the whole party, alone in an area, in this format; or zeros over what
-- doesn't count
pub data Work : Type 0 where
  Keeps : List Edit → Work
  WritesWhole : Format → Work
  ClearsRest : Work

-- the member where that is done. Where it is cut off, it is this one or the one before
abbrev pub member_after : Member → Work → Member
member_after x (Keeps es) = after x es
member_after x (WritesWhole f) = record { party = x.party; space = space_of_whole f x.party }
member_after x ClearsRest = x

-- what is written, and what is answered
pub record Act : Type 0 where
  pub work : Work
  pub verdict : Verdict
  pub reply : Option (List ℕ)
  pub under : Option FullName

-- an input
abbrev pub taking : Plan → Act
taking plan = record { work = Keeps plan.edits; verdict = plan.verdict; reply = plan.reply; under = plan.under }

-- with nothing answered beside the verdict
abbrev pub verdict_alone : Work → Verdict → Act
verdict_alone work verdict = record { work = work; verdict = verdict; reply = None; under = None }

-- the whole party is written in this format; one that is too large for one change is refused
abbrev pub whole_act : Format → Party → Act
whole_act f p = cond (can_compact f p) (verdict_alone (WritesWhole f) Accept) (verdict_alone (Keeps []) JournalFull)

-- the same, where there is a format in which it is to be written
abbrev pub rewriting : Option Format → Party → Act
rewriting None p = verdict_alone (Keeps []) Accept
rewriting (Some f) p = whole_act f p

-- the format in which a compaction writes a party that is kept in this one
abbrev pub compacted_in : Format → Option Format
compacted_in f = Some f

-- the format in which a migration writes it: none where it is in format 2
abbrev pub migrated_in : Format → Option Format
migrated_in One = Some Two
migrated_in Two = None

-- a compaction, in the party's format
abbrev pub compacting : Member → Act
compacting x = rewriting (compacted_in x.space.format) x.party

-- a migration, to format 2
abbrev pub migrating : Member → Act
migrating x = rewriting (migrated_in x.space.format) x.party

-- a file is wiped
abbrev pub wiping : Act
wiping = verdict_alone ClearsRest Accept
