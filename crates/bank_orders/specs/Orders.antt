-- The row of each command at a bank.
use Rattle.std.specs.Prelude.{ℕ}
use Rattle.party_state.specs.declared.command.Command.{Command}
use Rattle.party_state.specs.declared.command.Command.TheVariants as command
use Rattle.party_state.specs.State.{Party}
use Rattle.party_state.specs.Rows.{Row}
use Rattle.role_base.specs.Load.{load}
use Rattle.bank_orders.specs.Start.{start}
use Rattle.bank_orders.specs.StartKk.{start_kk}
use Rattle.bank_orders.specs.Ask.{ask_of}
use Rattle.bank_orders.specs.Translate.{translate}
use Rattle.bank_orders.specs.Resend.{resend}
use Rattle.bank_orders.specs.GivingUp.{drop}
use Rattle.bank_orders.specs.Ending.{end, purge}

abbrev pub command_row : Party → Command → ℕ → Row
command_row p (command.Load peer label side pair) moment = load p peer label side pair
command_row p (command.Start peer label) moment = start p peer label moment
command_row p (command.StartKk peer label new single) moment = start_kk p peer label new single moment
command_row p (command.Ask peer ultimate) moment = ask_of p peer ultimate
command_row p (command.Translate centre ultimate) moment = translate p centre ultimate moment
command_row p (command.Resend peer) moment = resend p peer
command_row p (command.End peer name) moment = end p peer name
command_row p (command.Drop peer) moment = drop p peer
command_row p command.Purge moment = purge
