-- The command that an order gives to a party (this project's profile).
use Rattle.std.specs.Prelude.{Option, Some, None}
use Rattle.party_state.specs.declared.command.Command.TheVariants as command
use Rattle.x_line.specs.declared.order.Order.{Order}
use Rattle.x_line.specs.declared.order.Order.TheVariants as order
use Rattle.call_ends.specs.declared.party_command.PartyCommand.{PartyCommand}

-- the command that an order gives to a party
abbrev pub command_of : Order → Option PartyCommand
command_of (order.Load party peer label side pair) = Some (record { party = party; command = command.Load peer label side pair })
command_of (order.Start party peer label) = Some (record { party = party; command = command.Start peer label })
command_of (order.StartKk party peer new label single) = Some (record { party = party; command = command.StartKk peer label new single })
command_of (order.Ask party peer ultimate) = Some (record { party = party; command = command.Ask peer ultimate })
command_of (order.Translate party peer ultimate) = Some (record { party = party; command = command.Translate peer ultimate })
command_of (order.Resend party peer) = Some (record { party = party; command = command.Resend peer })
command_of (order.End party peer name) = Some (record { party = party; command = command.End peer name })
command_of (order.Drop party peer) = Some (record { party = party; command = command.Drop peer })
command_of (order.Purge party) = Some (record { party = party; command = command.Purge })
command_of o = None
