-- The edits of a command's row are apart, and begin nothing: no row has two.
use Rattle.std.proofs.Common.{Bool, true, false, cond, bytes_eq}
use Rattle.x_base.specs.declared.verdict.Verdict.TheVariants.{WrongClass}
use Rattle.party_state.specs.declared.command.Command.{Command}
use Rattle.party_state.specs.declared.command.Command.TheVariants as command
use Rattle.party_state.specs.State.{Party, centre_label}
use Rattle.party_state.specs.Rows.{refused}
use Rattle.role_base.specs.Beginning.{AllBeginFree}
use Rattle.role_base.specs.Apart.{AreApart}
use Rattle.role_base.specs.Load.{load}
use Rattle.role_base.specs.Centres.{centre_command}

pub order_apart : (p : Party) (c : Command) → AreApart (centre_command p c).edits
order_apart p (command.Load peer label side pair) = by_label (bytes_eq label centre_label)
  where
    by_label : (b : Bool) → AreApart (cond b (load p peer label side pair) (refused WrongClass)).edits
    by_label true = (tt, tt)
    by_label false = tt
order_apart p _ = tt

pub order_begins : (p : Party) (c : Command) → AllBeginFree p (centre_command p c).edits
order_begins p (command.Load peer label side pair) = by_label (bytes_eq label centre_label)
  where
    by_label : (b : Bool) → AllBeginFree p (cond b (load p peer label side pair) (refused WrongClass)).edits
    by_label true = (tt, tt)
    by_label false = tt
order_begins p _ = tt
