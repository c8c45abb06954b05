-- What happens at a party (this project's profile). A loss is a text that never arrives; repeats and reorderings are
-- arrivals.
use Rattle.std.specs.Prelude.{ℕ, List, [], ◌∷◌, Option}
use Rattle.x_base.specs.Names.{IsIdent, IsLabel}
use Rattle.csm_grammar.specs.declared.arrival.Arrival.{Arrival}
use Rattle.party_state.specs.declared.command.Command.{Command}
use Rattle.party_state.specs.declared.command.Command.TheVariants as command
use Rattle.world_laws.specs.Hearing.{IsHeard}

-- an operator's command; bytes that arrive, with what is heard of them; a compaction of the disk; or its migration to
-- format 2
pub data Action : Type 0 where
  Orders : Command → Action
  Hears : List ℕ → Option Arrival → Action
  Compacts : Action
  Migrates : Action

-- done as a whole; or cut off by a crash, after which the old state stands, or the new one
pub data Completion : Type 0 where
  Whole CutOld CutNew : Completion

abbrev pub IsCutOff : Completion → Type 0
IsCutOff Whole = ⊥
IsCutOff CutOld = Unit {0}
IsCutOff CutNew = Unit {0}

-- what happens, at which party and moment
pub record Event : Type 0 where
  pub party : List ℕ
  pub moment : ℕ
  pub action : Action
  pub completion : Completion

-- loading belongs to the start; a label and an identity are well formed
abbrev pub IsCommand : Command → Type 0
IsCommand (command.Load peer label side pair) = ⊥
IsCommand (command.StartKk peer label new single) = IsLabel new
IsCommand (command.Translate centre ultimate) = IsIdent ultimate
IsCommand c = Unit {0}

abbrev pub IsAction : Action → Type 0
IsAction (Orders c) = IsCommand c
IsAction (Hears bytes heard) = IsHeard bytes heard
IsAction Compacts = Unit {0}
IsAction Migrates = Unit {0}

-- commands, arriving bytes, compactions, migrations and crashes, in any order
abbrev pub AreEvents : List Event → Type 0
AreEvents [] = Unit {0}
AreEvents (e ∷ es) = IsAction e.action × AreEvents es
