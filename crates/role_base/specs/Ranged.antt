-- Inputs whose parts are in their ranges, and a decision whose change can be kept, each part of it in its range, and whose
-- reply is short (this project's profile).
use Rattle.std.specs.Prelude.{ℕ, ◌≤◌, List, length, IfSome}
use Rattle.x_base.specs.Names.{IsIdent, IsLabel}
use Rattle.x_base.specs.KeyName.{IsKeyName}
use Rattle.party_tables.specs.Ranges.{IsPair, longest_text}
use Rattle.party_state.specs.declared.command.Command.{Command}
use Rattle.party_state.specs.declared.command.Command.TheVariants as command
use Rattle.party_state.specs.declared.command.Input.{Input}
use Rattle.party_state.specs.declared.command.Input.TheVariants as input
use Rattle.party_state.specs.declared.decision.Decision.{Decision}
use Rattle.party_state.specs.Ranges.{AreInRange}
use Rattle.party_state.specs.State.{Party}
use Rattle.role_base.specs.Storable.{IsStorable}

-- the parts of a command are in their ranges
abbrev pub IsCommand : Command → Type 0
IsCommand (command.Load peer label side pair) = IsIdent peer × IsLabel label × IsPair pair
IsCommand (command.Start peer label) = IsIdent peer × IfSome label IsLabel
IsCommand (command.StartKk peer label new single) = IsIdent peer × IfSome label IsLabel × IsLabel new
IsCommand (command.Ask peer ultimate) = IsIdent peer × IfSome ultimate IsIdent
IsCommand (command.Translate centre ultimate) = IsIdent centre × IsIdent ultimate
IsCommand (command.Resend peer) = IsIdent peer
IsCommand (command.End peer name) = IsIdent peer × IsKeyName name
IsCommand (command.Drop peer) = IsIdent peer
IsCommand command.Purge = Unit {0}

-- those of an arrival are, since it was read
abbrev pub IsInput : Input → Type 0
IsInput (input.Ordered c) = IsCommand c
IsInput (input.Arrived a) = Unit {0}

pub record IsRanged (p : Party) (d : Decision) : Type 0 where
  pub kept : IsStorable p d.change
  pub in_range : AreInRange d.change
  pub short : IfSome d.reply (λ (text : List ℕ). length text ≤ longest_text)
